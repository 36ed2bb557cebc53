-- The binary64 encoding of IEEE 754: the parts of a pattern, its value, and the factor that it gives.
use Rattle.std.specs.Prelude.{◌≡◌, ℕ, zero, suc, ◌+◌, ◌*◌, ◌/◌, ◌%◌, ◌^◌, ◌<◌, ◌≤◌, Bool, false, cond, ◌⊎◌, ℤ, pos, ◌-ℤ◌, Some, None, Ok, Err, Option, Result, ◌==◌, nat_le}
use Rattle.numbers.specs.declared.factor.Factor.{Factor}
use Rattle.numbers.specs.declared.refusal.Reason.{Reason}
use Rattle.numbers.specs.Refusals.{code_of}
use Rattle.numbers.specs.Units.{signed}

-- the sign, the exponent field and the fraction of a pattern
abbrev pub sign_of : ℕ → Bool
sign_of b = nat_le (2 ^ 63) b

abbrev pub field_of : ℕ → ℕ
field_of b = b / 2 ^ 52 % 2 ^ 11

abbrev pub fraction_of : ℕ → ℕ
fraction_of b = b % 2 ^ 52

-- the size in units that a field below 2047 and a fraction stand for; field 0 has no leading bit and weighs as much as field 1
abbrev pub pattern_size : ℕ → ℕ → ℕ
pattern_size zero t = t
pattern_size (suc x) t = (2 ^ 52 + t) * 2 ^ x

-- a pattern's value in units; field 2047 is for infinities and NaNs
abbrev pub pattern_value : ℕ → Option ℤ
pattern_value b = cond (field_of b == 2047) None (Some (signed (sign_of b) (pattern_size (field_of b) (fraction_of b))))

-- the patterns of +0 and -0
abbrev pub zero_pattern : ℕ → Bool
zero_pattern b = pattern_size (field_of b) (fraction_of b) == 0

-- The factor of an accepted pattern: M = 2^25 + fraction / 2^27 and E = field - 1048. Both zeros give the factor zero.
pub record PatternFactor (b : ℕ) (f : Factor) : Type 0 where
  pub sign_is : f.negative ≡ cond (zero_pattern b) false (sign_of b)
  pub significand_is : f.significand ≡ cond (zero_pattern b) 0 (2 ^ 25 + fraction_of b / 2 ^ 27)
  pub exponent_is : f.exponent ≡ cond (zero_pattern b) (pos 0) (pos (field_of b) -ℤ pos 1048)

abbrev pub PatternMade : ℕ → Result Factor Reason → Type 0
PatternMade b (Ok f) = PatternFactor b f
PatternMade b (Err _) = Unit {0}

-- the exponent of the factor of a pattern in the window, by its field; outside the window the pattern is refused
abbrev pub ExponentOf : ℕ → Result ℤ Reason → Type 0
ExponentOf field (Ok e) = (512 ≤ field) × (field ≤ 1506) × (e ≡ pos field -ℤ pos 1048)
ExponentOf field (Err reason) = ((field < 512) ⊎ (1506 < field)) × (code_of reason ≡ cond (field == 2047) 1 2)

-- the significand of the factor of a pattern, by its fraction; a fraction with bits below it is refused
abbrev pub SignificandOf : ℕ → Result ℕ Reason → Type 0
SignificandOf t (Ok m) = (t % 2 ^ 27 ≡ 0) × (m ≡ 2 ^ 25 + t / 2 ^ 27)
SignificandOf t (Err reason) = (t % 2 ^ 27 ≡ 0 → ⊥) × (code_of reason ≡ 2)
