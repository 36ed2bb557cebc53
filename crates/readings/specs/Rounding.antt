-- What it is to round a total to a format, in IEEE 754's own words: a relation between the total and a pattern.
use Rattle.std.specs.Prelude.{◌≡◌, ℕ, ◌≤◌, Bool, true, false, ℤ, pos, negsuc, ◌-ℤ◌, ◌≤ℤ◌, nat_le, unsigned_abs}
use Rattle.std.specs.Float.{Format}
use Rattle.std.specs.Float.Ieee.{top}
use Rattle.readings.specs.declared.forms.Direction.{Direction}
use Rattle.readings.specs.declared.forms.Direction.TheVariants.{Nearest, TowardZero, Up, Down}
use Rattle.readings.specs.Formats.{Encodes}

-- v is not below the total x, and no number of the format that is not below x lies lower
abbrev pub LeastAbove : Format → ℤ → ℤ → Type 0
LeastAbove f x v = (x ≤ℤ v) × ((c : ℕ) (w : ℤ) → Encodes f c w → x ≤ℤ w → v ≤ℤ w)

-- v is not above x, and no number of the format that is not above x lies higher
abbrev pub GreatestBelow : Format → ℤ → ℤ → Type 0
GreatestBelow f x v = (v ≤ℤ x) × ((c : ℕ) (w : ℤ) → Encodes f c w → w ≤ℤ x → w ≤ℤ v)

abbrev pub distance : ℤ → ℤ → ℕ
distance x v = unsigned_abs (x -ℤ v)

-- no number of the format is nearer to x than v is
abbrev pub NoneNearer : Format → ℤ → ℤ → Type 0
NoneNearer f x v = (c : ℕ) (w : ℤ) → Encodes f c w → distance x v ≤ distance x w

-- the tie rule: the pattern b, of value v, is taken and not c, of value w, where both are equally near. Away from zero: v is the larger in size
pub record Preferred (b : ℕ) (v : ℤ) (c : ℕ) (w : ℤ) : Type 0 where
  pub away : unsigned_abs w ≤ unsigned_abs v

-- of the numbers that are as near as v, the tie rule takes v
abbrev pub TieTaken : Format → ℤ → ℕ → ℤ → Type 0
TieTaken f x b v = (c : ℕ) (w : ℤ) → Encodes f c w → distance x v ≡ distance x w → Preferred b v c w

-- the pattern b, of value v, is what the direction makes of x
abbrev pub Directed : Format → Direction → ℤ → ℕ → ℤ → Type 0
Directed f Nearest x b v = NoneNearer f x v × TieTaken f x b v
Directed f TowardZero x b v = (pos 0 ≤ℤ x → GreatestBelow f x v) × (x ≤ℤ pos 0 → LeastAbove f x v)
Directed f Up x b v = LeastAbove f x v
Directed f Down x b v = GreatestBelow f x v

abbrev pub negative : ℤ → Bool
negative (pos n) = false
negative (negsuc n) = true

-- the pattern b is x rounded to the format in the direction. Its sign is the total's, also where its value is zero; a total of zero has a plus
pub record Rounds (f : Format) (d : Direction) (x : ℤ) (b : ℕ) : Type 0 where
  pub number : ℤ
  pub encodes : Encodes f b number
  pub sign : nat_le (top f) b ≡ negative x
  pub rounds : Directed f d x b number
