-- The sum of two numbers of one place is exact. Assumes nothing.
use Rattle.std.specs.Prelude.{◌≡◌, ℕ, zero, suc, ◌+◌, ◌-◌, ◌*◌, ◌%◌, ◌^◌, ◌<◌, T, ◌+ℤ◌, Some, to_bits, Float}
use Rattle.std.proofs.Common.{sym, ap, ◌∙◌, subst, subst₂, ap₂, mod-lt, arith, lit<}
use Rattle.std.specs.Float.{binary64}
use Rattle.std.specs.Float.Ieee.{fits, add}
use Rattle.std.specs.Float.Ieee.Exact.{HasValue}
use Rattle.std.specs.Float.Ieee.Fits.{add-fits}
use Rattle.numbers.proofs.Floats.{float_value_lem as finite_value}
use Rattle.numbers.specs.Units.{signed, float_value}
use Rattle.numbers.specs.Patterns.{sign_of, field_of}
use Rattle.condensers.specs.Fields.{leading, significand_of, height_of}
use Rattle.condensers.specs.Pairing.{float_units, size, place_of, range_limit}
use Rattle.condensers.specs.Laws.ExactSums.{add_exact}
use Rattle.condensers.specs.Laws.Patterns.{float_value_lem, number_fields, size_fields}

pub significand_lt : (b : ℕ) → significand_of b < 2 ^ 53
significand_lt b = go (field_of b) (mod-lt b (lit< tt))
  where
    go : (x : ℕ) → b % 2 ^ 52 < 2 ^ 52 → leading x + b % 2 ^ 52 < 2 ^ 53
    go zero h = omega arith
    go (suc x) h = omega arith

-- the parity of a significand is the lowest fraction bit
significand_genus : (b : ℕ) → significand_of b % 2 ≡ b % 2
significand_genus b = go (field_of b)
  where
    go : (x : ℕ) → (leading x + b % 2 ^ 52) % 2 ≡ b % 2
    go zero = omega arith
    go (suc x) = omega arith

same_field : (a b : ℕ) → 2 * field_of a + a % 2 ≡ 2 * field_of b + b % 2 → field_of a ≡ field_of b
same_field a b h = omega arith

same_genus : (a b : ℕ) → 2 * field_of a + a % 2 ≡ 2 * field_of b + b % 2 → a % 2 ≡ b % 2
same_genus a b h = omega arith

-- The sum of two numbers of one place is exact where it is in range.
pub pair_exact : (x y : Float) → T (fits binary64 x) → T (fits binary64 y) → field_of (to_bits binary64 x) < 2047 → place_of x ≡ place_of y → size x + size y < range_limit
    → float_value (add binary64 x y) ≡ Some (float_units x +ℤ float_units y)
unfolding range_limit
pair_exact x y fx fy h same fine =
    let a = to_bits binary64 x in
    let b = to_bits binary64 y in
    let ef : field_of a ≡ field_of b = same_field a b same in
    let k : field_of b < 2047 = subst (λ (z : ℕ). z < 2047) ef h in
    let eh : height_of b ≡ height_of a = ap (λ (z : ℕ). z - 1) (sym ef) in
    let sy : size y ≡ significand_of b * 2 ^ height_of a = size_fields y fy k ∙ ap (λ (z : ℕ). significand_of b * 2 ^ z) eh in
    let hy : HasValue y (sign_of b) (significand_of b * 2 ^ height_of a) (2 ^ 1074) = subst (λ (z : ℕ). HasValue y (sign_of b) (significand_of b * 2 ^ z) (2 ^ 1074)) eh (float_value_lem y fy k) in
    let parity : significand_of a % 2 ≡ significand_of b % 2 = significand_genus a ∙ same_genus a b same ∙ sym (significand_genus b) in
    let within : significand_of a * 2 ^ height_of a + significand_of b * 2 ^ height_of a < 2 ^ 2098 = subst₂ (λ (u v : ℕ). u + v < 2 ^ 2098) (size_fields x fx h) sy fine in
    let r = add_exact binary64 x y (sign_of a) (sign_of b) (significand_of a) (significand_of b) (height_of a) (float_value_lem x fx h) hy (significand_lt a) (significand_lt b) parity within in
    finite_value (add binary64 x y) r.0 r.1 (add-fits binary64 x y) r.2
    ∙ ap Some (r.3 ∙ sym (ap₂ ◌+ℤ◌ (number_fields x fx h) (number_fields y fy k ∙ ap (λ (z : ℕ). signed (sign_of b) (significand_of b * 2 ^ z)) eh)))
