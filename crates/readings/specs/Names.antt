-- The names and the numbers that stand for directions and widths.
use Rattle.std.specs.Prelude.{◌≡◌, ℕ, ◌≤◌, ◌≢◌, List, Ok, Err, Result, codes}
use Rattle.readings.specs.declared.forms.Direction.{Direction}
use Rattle.readings.specs.declared.forms.Direction.TheVariants.{Nearest, TowardZero, Up, Down}
use Rattle.readings.specs.declared.forms.Width.{Width}
use Rattle.readings.specs.declared.forms.Width.TheVariants.{Long, Short}
use Rattle.readings.specs.declared.names.UnknownForm.{UnknownForm}
use Rattle.readings.specs.declared.names.UnknownForm.TheVariants.{NoDirection, NoWidth}

-- names

abbrev pub direction_name : Direction → List ℕ
direction_name Nearest = codes "nearest"
direction_name TowardZero = codes "zero"
direction_name Up = codes "up"
direction_name Down = codes "down"

abbrev pub width_name : Width → List ℕ
width_name Long = codes "long"
width_name Short = codes "short"

-- the direction, or the width, with the name; an error where none has it
abbrev pub DirectionNamed : List ℕ → Result Direction UnknownForm → Type 0
DirectionNamed name (Ok d) = direction_name d ≡ name
DirectionNamed name (Err e) = (e ≡ NoDirection) × ((d : Direction) → direction_name d ≢ name)

abbrev pub WidthNamed : List ℕ → Result Width UnknownForm → Type 0
WidthNamed name (Ok w) = width_name w ≡ name
WidthNamed name (Err e) = (e ≡ NoWidth) × ((w : Width) → width_name w ≢ name)

-- numbers

abbrev pub direction_number : Direction → ℕ
direction_number Nearest = 0
direction_number TowardZero = 1
direction_number Up = 2
direction_number Down = 3

abbrev pub width_number : Width → ℕ
width_number Long = 0
width_number Short = 1

-- the direction, or the width, with the number; there is none for a direction of 4 or more, or a width of 2 or more
abbrev pub DirectionNumbered : ℕ → Result Direction UnknownForm → Type 0
DirectionNumbered n (Ok d) = direction_number d ≡ n
DirectionNumbered n (Err e) = (e ≡ NoDirection) × (4 ≤ n)

abbrev pub WidthNumbered : ℕ → Result Width UnknownForm → Type 0
WidthNumbered n (Ok w) = width_number w ≡ n
WidthNumbered n (Err e) = (e ≡ NoWidth) × (2 ≤ n)

-- what a name or a number that stands for nothing is said to be
abbrev pub unknown_text : UnknownForm → List ℕ
unknown_text NoDirection = codes "no direction"
unknown_text NoWidth = codes "no width"
