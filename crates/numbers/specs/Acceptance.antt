-- Which values an element may have to be accepted, and what a kind of number answers.
use Rattle.std.specs.Prelude.{◌≡◌, ℕ, ◌-◌, ◌%◌, ◌^◌, ◌<◌, ◌≤◌, Bool, cond, ◌&&◌, ◌||◌, ◌⊎◌, ℤ, pos, negsuc, ◌≤ℤ◌, Some, None, Ok, Err, Decides, Option, Result, ◌==◌, nat_le, nat_lt, unsigned_abs}
use Rattle.std.specs.Float.Ieee.{size}
use Rattle.numbers.specs.declared.factor.Factor.{Factor}
use Rattle.numbers.specs.declared.refusal.Reason.{Reason}
use Rattle.numbers.specs.Products.{factor_units}
use Rattle.numbers.specs.Refusals.{code_of}
use Rattle.numbers.specs.Units.{rank, units}

-- v is a factor's value
pub record FactorValue (v : ℤ) : Type 0 where
  pub sign : Bool
  pub significand : ℕ
  pub exponent : ℤ
  pub short : significand < 2 ^ 26
  pub low : negsuc 535 ≤ℤ exponent
  pub high : exponent ≤ℤ pos 458
  pub value_is : v ≡ units sign significand exponent

-- v is zero or at least 2^-511 in size
abbrev pub InWindow : ℤ → Type 0
InWindow v = (v ≡ pos 0) ⊎ (2 ^ rank (negsuc 510) ≤ unsigned_abs v)

abbrev pub Acceptable : ℤ → Type 0
Acceptable v = FactorValue v × InWindow v

-- The same as a test: zero, or a size from 2^-511 up and below 2^484 with no set bit below its leading 26.
unfoldable pub acceptable : ℤ → Bool
acceptable v = unsigned_abs v == 0 || (nat_le (2 ^ rank (negsuc 510)) (unsigned_abs v) && (nat_lt (unsigned_abs v) (2 ^ rank (pos 484)) && unsigned_abs v % 2 ^ (size (unsigned_abs v) - 26) == 0))

abbrev pub AcceptanceTested : Type 0
AcceptanceTested = (v : ℤ) → Decides (acceptable v) (Acceptable v)

-- the code that an element gets by its value, 0 where it is accepted
abbrev pub element_code : Option ℤ → ℕ
element_code None = 1
element_code (Some v) = cond (acceptable v) 0 2

-- The answer to an element by its value, none where it has no finite one. An acceptable value is accepted and the factor has it;
-- code 1 says that there is no finite value, code 2 that the value is not acceptable.
abbrev pub Answers : Option ℤ → Result Factor Reason → Type 0
Answers None (Ok f) = ⊥
Answers None (Err reason) = code_of reason ≡ 1
Answers (Some v) (Ok f) = Acceptable v × (factor_units f ≡ v)
Answers (Some v) (Err reason) = (Acceptable v → ⊥) × (code_of reason ≡ 2)

-- the code of an answer, 0 where it is a factor
abbrev pub answer_code : Result Factor Reason → ℕ
answer_code (Ok f) = 0
answer_code (Err reason) = code_of reason
