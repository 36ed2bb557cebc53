-- The laws of rounding: what holds of every total, in every direction, in both formats.
use Rattle.std.specs.Prelude.{◌≡◌, ℕ, suc, ◌+◌, ◌*◌, ◌^◌, ◌<◌, ◌≤◌, Bool, cond, ◌⊎◌, ℤ, pos, ◌≤ℤ◌, ◌<ℤ◌, Some, Ok, Err, Result, unsigned_abs}
use Rattle.std.specs.Float.{Format}
use Rattle.std.specs.Float.Ieee.{hid, ones, top}
use Rattle.numbers.specs.declared.refusal.Refusal.{Refusal}
use Rattle.numbers.specs.Refusals.{code_of, side_of}
use Rattle.readings.specs.declared.forms.Form.{Form}
use Rattle.numbers.specs.Units.{signed}
use Rattle.readings.specs.declared.forms.Direction.{Direction}
use Rattle.readings.specs.declared.forms.Direction.TheVariants.{Nearest, TowardZero, Up, Down}
use Rattle.readings.specs.Formats.{Encodes, encoded_value, lowest, largest}
use Rattle.readings.specs.Rounding.{distance, Preferred, Rounds}
use Rattle.readings.specs.Readings.{Reads}
use Rattle.readings.specs.Rounded.{rounded}

-- the value of a pattern by its three fields: a field of 0 has no leading digit and counts as a field of 1
abbrev pub SubnormalValue : Type 0
SubnormalValue = (f : Format) (s : Bool) (t : ℕ) → t < hid f → encoded_value f (cond s (top f) 0 + t) ≡ Some (signed s (t * 2 ^ lowest f))

abbrev pub NormalValue : Type 0
NormalValue = (f : Format) (s : Bool) (e t : ℕ) → suc e < ones f → t < hid f → encoded_value f (cond s (top f) 0 + (suc e * hid f + t)) ≡ Some (signed s ((hid f + t) * 2 ^ e * 2 ^ lowest f))

-- there is a rounding wherever the total is not above the largest number in size
abbrev pub Exists : Type 0
Exists = (f : Format) (d : Direction) (x : ℤ) → unsigned_abs x ≤ largest f → Rounds f d x (rounded f d x)

-- a total has at most one rounding
abbrev pub AtMostOne : Type 0
AtMostOne = (f : Format) (d : Direction) (x : ℤ) (b c : ℕ) → Rounds f d x b → Rounds f d x c → b ≡ c

-- rounding keeps the order
abbrev pub KeepsOrder : Type 0
KeepsOrder = (f : Format) (d : Direction) (x y : ℤ) (b c : ℕ) (v w : ℤ) → x ≤ℤ y → Rounds f d x b → Rounds f d y c → Encodes f b v → Encodes f c w → v ≤ℤ w

-- a total that is a number of the format rounds to itself
abbrev pub Exact : Type 0
Exact = (f : Format) (d : Direction) (x : ℤ) (b c : ℕ) → Encodes f c x → Rounds f d x b → Encodes f b x

-- what is rounded up is not below the total, and no number of the format lies between
abbrev pub UpLaw : Type 0
UpLaw = (f : Format) (x : ℤ) (b : ℕ) (v : ℤ) → Rounds f Up x b → Encodes f b v → (x ≤ℤ v) × ((c : ℕ) (w : ℤ) → Encodes f c w → x ≤ℤ w → w <ℤ v → ⊥)

abbrev pub DownLaw : Type 0
DownLaw = (f : Format) (x : ℤ) (b : ℕ) (v : ℤ) → Rounds f Down x b → Encodes f b v → (v ≤ℤ x) × ((c : ℕ) (w : ℤ) → Encodes f c w → w ≤ℤ x → v <ℤ w → ⊥)

-- toward zero is the one of the two that is not larger in size
abbrev pub TowardZeroLaw : Type 0
TowardZeroLaw = (f : Format) (x : ℤ) (a b c : ℕ) (u v w : ℤ) → Rounds f Down x a → Rounds f TowardZero x b → Rounds f Up x c
    → Encodes f a u → Encodes f b v → Encodes f c w → ((b ≡ a) ⊎ (b ≡ c)) × (unsigned_abs v ≤ unsigned_abs u) × (unsigned_abs v ≤ unsigned_abs w)

-- no number of the format is nearer to the total than the nearest, and over one that is as near the tie rule prefers it
abbrev pub NearestLaw : Type 0
NearestLaw =
    (f : Format) (x : ℤ) (b c : ℕ) (v w : ℤ) → Rounds f Nearest x b → Encodes f b v → Encodes f c w → (distance x v ≤ distance x w) × (distance x v ≡ distance x w → Preferred b v c w)

-- the tie rule prefers the number that is larger in size
abbrev pub TieLaw : Type 0
TieLaw = (b c : ℕ) (v w : ℤ) → Preferred b v c w → unsigned_abs w ≤ unsigned_abs v

-- a total of zero rounds to the pattern 0
abbrev pub ZeroLaw : Type 0
ZeroLaw = (f : Format) (d : Direction) (b : ℕ) → Rounds f d (pos 0) b → b ≡ 0

-- all of them, under their names
pub record RoundingLaws : Type 0 where
  pub subnormal_value : SubnormalValue
  pub normal_value : NormalValue
  pub exists : Exists
  pub at_most_one : AtMostOne
  pub keeps_order : KeepsOrder
  pub exact : Exact
  pub up : UpLaw
  pub down : DownLaw
  pub toward_zero : TowardZeroLaw
  pub nearest : NearestLaw
  pub tie : TieLaw
  pub zero : ZeroLaw

-- ---- readings

-- two answers are the same pattern, or refusals by the same numbers
abbrev pub SameAnswer : Result ℕ Refusal → Result ℕ Refusal → Type 0
SameAnswer (Ok a) (Ok b) = a ≡ b
SameAnswer (Ok a) (Err e) = ⊥
SameAnswer (Err e) (Ok b) = ⊥
SameAnswer (Err e) (Err g) = (code_of e.reason ≡ code_of g.reason) × (e.place ≡ g.place) × (side_of e.side ≡ side_of g.side)

-- a total has one answer in each form, so that a short reading is refused exactly where the long one is too large
abbrev pub OneAnswer : Type 0
OneAnswer = (form : Form) (x : ℤ) (r s : Result ℕ Refusal) → Reads form x r → Reads form x s → SameAnswer r s
