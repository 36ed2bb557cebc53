-- Counts: signed whole numbers with their own value, and the factor that a count gives.
use Rattle.std.specs.Prelude.{◌≡◌, ℕ, ◌*◌, ◌^◌, ◌≤◌, Bool, true, false, ◌⊎◌, ℤ, pos, negsuc, ◌*ℤ◌, Some, Ok, Err, Option, Result, unsigned_abs}
use Rattle.numbers.specs.declared.factor.Factor.{Factor}
use Rattle.numbers.specs.declared.refusal.Reason.{Reason}
use Rattle.numbers.specs.Products.{one_units}

abbrev pub count_value : ℤ → Option ℤ
count_value z = Some (z *ℤ one_units)

abbrev pub is_negative : ℤ → Bool
is_negative (pos n) = false
is_negative (negsuc n) = true

-- The factor of an accepted count: its size is halved, exactly, until it is below 2^26, and E counts the halvings.
pub record CountFactor (z : ℤ) (f : Factor) : Type 0 where
  pub halvings : ℕ
  pub exponent_is : f.exponent ≡ pos halvings
  pub size_is : unsigned_abs z ≡ f.significand * 2 ^ halvings
  pub needed : (halvings ≡ 0) ⊎ (2 ^ 25 ≤ f.significand)
  pub sign_is : f.negative ≡ is_negative z

abbrev pub CountMade : ℤ → Result Factor Reason → Type 0
CountMade z (Ok f) = CountFactor z f
CountMade z (Err _) = Unit {0}
