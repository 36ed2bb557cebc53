-- What a reading of a total answers, in each form.
use Rattle.std.specs.Prelude.{ℕ, ◌-◌, ◌*◌, ◌^◌, ◌<◌, ◌≤◌, ℤ, pos, Ok, Err, Result, unsigned_abs}
use Rattle.std.specs.Float.{binary32, binary64}
use Rattle.numbers.specs.declared.refusal.Refusal.{Refusal}
use Rattle.numbers.specs.Refusals.{Refused}
use Rattle.numbers.specs.Units.{rank}
use Rattle.readings.specs.declared.forms.Direction.{Direction}
use Rattle.readings.specs.declared.forms.Width.{Width}
use Rattle.readings.specs.declared.forms.Width.TheVariants.{Long, Short}
use Rattle.readings.specs.declared.forms.Form.{Form}
use Rattle.readings.specs.Formats.{Encodes}
use Rattle.readings.specs.Rounding.{Rounds}

-- the largest size of a long reading that a short form takes: (2 ^ 24 - 1) * 2 ^ 104, in units
unfoldable pub short_limit : ℕ
short_limit = (2 ^ 24 - 1) * 2 ^ rank (pos 104)

-- the long reading of x has the pattern c and the value v
pub record LongReading (d : Direction) (x : ℤ) (c : ℕ) (v : ℤ) : Type 0 where
  pub rounds : Rounds binary64 d x c
  pub encodes : Encodes binary64 c v

-- b is the short reading of x: its long reading, rounded once more in the same direction
pub record ShortReading (d : Direction) (x : ℤ) (b : ℕ) : Type 0 where
  pub pattern : ℕ
  pub number : ℤ
  pub long : LongReading d x pattern number
  pub small : unsigned_abs number ≤ short_limit
  pub rounds : Rounds binary32 d number b

-- x has no short reading: its long reading is too large
pub record TooLarge (d : Direction) (x : ℤ) : Type 0 where
  pub pattern : ℕ
  pub number : ℤ
  pub long : LongReading d x pattern number
  pub large : short_limit < unsigned_abs number

-- the answer to a reading of x. A short one is refused, with code 8, place 0 and side 0, exactly where the long reading is too large
abbrev pub ReadsIn : Width → Direction → ℤ → Result ℕ Refusal → Type 0
ReadsIn Long d x (Ok b) = Rounds binary64 d x b
ReadsIn Long d x (Err e) = ⊥
ReadsIn Short d x (Ok b) = ShortReading d x b
ReadsIn Short d x (Err e) = TooLarge d x × Refused e 8 0 0

abbrev pub Reads : Form → ℤ → Result ℕ Refusal → Type 0
Reads form x r = ReadsIn form.width form.direction x r
