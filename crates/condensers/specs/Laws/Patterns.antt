-- A binary64 pattern and the number that its fields stand for. Assumes nothing.
use Rattle.std.specs.Prelude.{◌≡◌, ℕ, zero, suc, ◌+◌, ◌-◌, ◌*◌, ◌%◌, ◌^◌, ◌<◌, ◌≤◌, Bool, true, false, cond, not, T, ℤ, Some, None, ◌==◌, ◌≢◌, nat_lt, to_bits, unsigned_abs, Float}
use Rattle.std.proofs.Common.{sym, ap, ◌∙◌, subst, lt_irrefl, zero-add, arith, eqb→eq, ltb→lt, nltb→le}
use Rattle.std.proofs.Math.Dec.{not_T}
use Rattle.std.proofs.Math.Pow as Pow
use Rattle.std.specs.Float.{nan, inf, fin, binary64}
use Rattle.std.specs.Float.Ieee.{odd, fits, is_nan, nan_bits, of_fields, of_bits}
use Rattle.std.specs.Float.Ieee.Exact.{HasValue, odd_sign}
use Rattle.std.specs.Float.Ieee.Bits.{cond_no, of_bits-to_bits, of_bits-fits, to_bits-of_bits, nan_bits_is}
use Rattle.numbers.proofs.Floats.{float_value_lem as finite_value}
use Rattle.numbers.proofs.Window.{size-signed}
use Rattle.numbers.specs.Units.{signed, float_value}
use Rattle.numbers.specs.Patterns.{sign_of, field_of}
use Rattle.condensers.specs.Fields.{leading, significand_of, height_of}
use Rattle.condensers.specs.Pairing.{float_units, size}

-- ---- the fields of a pattern

fields_value : (s : Bool) (x t : ℕ) → x < 2047 → HasValue (of_fields binary64 s x t) s ((leading x + t) * 2 ^ (x - 1)) (2 ^ 1074)
unfolding of_fields
fields_value s zero t h = subst (λ (A : ℕ). HasValue (odd 53 s t 0 1074) s A (2 ^ 1074)) (ap (λ (k : ℕ). k * 1) (sym (zero-add t))) (odd_sign 53 s t 0 1074)
fields_value s (suc x) t h =
    let e : suc x - 1 ≡ x = omega arith in
    subst (λ (v : Float). HasValue v s ((2 ^ 52 + t) * 2 ^ (suc x - 1)) (2 ^ 1074)) (sym (cond_no (suc x == 2047) (cond (t == 0) (inf s) nan) (odd 53 s (2 ^ 52 + t) x 1074) (not_T (suc x == 2047) (λ k. lt_irrefl 2047 (subst (λ (y : ℕ). y < 2047) (eqb→eq (suc x) 2047 k) h)))))
    (subst (λ (k : ℕ). HasValue (odd 53 s (2 ^ 52 + t) x 1074) s ((2 ^ 52 + t) * 2 ^ k) (2 ^ 1074)) (sym e) (odd_sign 53 s (2 ^ 52 + t) x 1074))

-- A pattern whose field is below 2047 is read as the number that its fields stand for.
pub pattern-value : (b : ℕ) → field_of b < 2047 → HasValue (of_bits binary64 b) (sign_of b) (significand_of b * 2 ^ height_of b) (2 ^ 1074)
unfolding of_bits
pattern-value b h =
    subst (λ (x : ℕ). HasValue (of_fields binary64 (sign_of b) x (b % 2 ^ 52)) (sign_of b) (significand_of b * 2 ^ height_of b) (2 ^ 1074)) (sym (Pow.field b 11 52))
    (fields_value (sign_of b) (field_of b) (b % 2 ^ 52) h)

-- A float that fits is the number that the fields of its pattern stand for.
pub float_value_lem : (x : Float) → T (fits binary64 x) → field_of (to_bits binary64 x) < 2047
    → HasValue x (sign_of (to_bits binary64 x)) (significand_of (to_bits binary64 x) * 2 ^ height_of (to_bits binary64 x)) (2 ^ 1074)
float_value_lem x f h =
    let b = to_bits binary64 x in
    subst (λ (y : Float). HasValue y (sign_of b) (significand_of b * 2 ^ height_of b) (2 ^ 1074)) (of_bits-to_bits binary64 x f) (pattern-value b h)

has_not_nan : (x : Float) (s : Bool) (a c : ℕ) → HasValue x s a c → T (not (is_nan x))
unfolding is_nan
has_not_nan nan s a c v = v
has_not_nan (inf t) s a c v = absurd v
has_not_nan (fin t m e) s a c v = tt

pub not_nan : (x : Float) → T (fits binary64 x) → field_of (to_bits binary64 x) < 2047 → T (not (is_nan x))
not_nan x f h = let b = to_bits binary64 x in has_not_nan x (sign_of b) (significand_of b * 2 ^ height_of b) (2 ^ 1074) (float_value_lem x f h)

-- ---- values

pub number_is : (x : Float) (v : ℤ) → float_value x ≡ Some v → float_units x ≡ v
unfolding float_value float_units
number_is nan v e = cc
number_is (inf t) v e = cc
number_is (fin t m k) v e = cc

-- a finite number that fits, by its pattern
pub number_fields : (x : Float) → T (fits binary64 x) → field_of (to_bits binary64 x) < 2047
    → float_units x ≡ signed (sign_of (to_bits binary64 x)) (significand_of (to_bits binary64 x) * 2 ^ height_of (to_bits binary64 x))
number_fields x f h = let b = to_bits binary64 x in number_is x _ (finite_value x (sign_of b) (significand_of b * 2 ^ height_of b) f (float_value_lem x f h))

pub size_fields : (x : Float) → T (fits binary64 x) → field_of (to_bits binary64 x) < 2047 → size x ≡ significand_of (to_bits binary64 x) * 2 ^ height_of (to_bits binary64 x)
size_fields x f h = ap unsigned_abs (number_fields x f h) ∙ size-signed _ _

-- ---- reading a pattern

pub pattern_no_nan : (b : ℕ) → field_of b < 2047 → T (not (nan_bits binary64 b))
pattern_no_nan b h = subst (λ (t : Bool). T (not t)) (sym (nan_bits_is binary64 b)) (has_not_nan (of_bits binary64 b) (sign_of b) (significand_of b * 2 ^ height_of b) (2 ^ 1074) (pattern-value b h))

pub pattern_number : (b : ℕ) → field_of b < 2047 → float_value (of_bits binary64 b) ≡ Some (signed (sign_of b) (significand_of b * 2 ^ height_of b))
pattern_number b h = finite_value (of_bits binary64 b) (sign_of b) (significand_of b * 2 ^ height_of b) (of_bits-fits binary64 b) (pattern-value b h)

pub pattern_again : (b : ℕ) → b < 2 ^ 64 → field_of b < 2047 → to_bits binary64 (of_bits binary64 b) ≡ b
pattern_again b l h = to_bits-of_bits binary64 b l (has_not_nan (of_bits binary64 b) (sign_of b) (significand_of b * 2 ^ height_of b) (2 ^ 1074) (pattern-value b h))

-- ---- a float with a finite value has a field below 2047

not_some : (v : ℤ) → None ≢ Some v
not_some v e = let z : ◌≡◌ {A = ℕ} 0 1 = cc in omega arith

no_value : (s : Bool) (t : ℕ) (v : ℤ) → float_value (of_fields binary64 s 2047 t) ≢ Some v
unfolding of_fields float_value
no_value s t v e = go (t == 0) e
  where
    go : (b : Bool) → float_value (cond b (inf s) nan) ≢ Some v
    go true e = not_some v e
    go false e = not_some v e

read_field : (b : ℕ) → field_of b ≡ 2047 → of_bits binary64 b ≡ of_fields binary64 (sign_of b) 2047 (b % 2 ^ 52)
unfolding of_bits
read_field b h = ap (λ (x : ℕ). of_fields binary64 (sign_of b) x (b % 2 ^ 52)) (Pow.field b 11 52 ∙ h)

pub finite_field : (x : Float) (v : ℤ) → T (fits binary64 x) → float_value x ≡ Some v → field_of (to_bits binary64 x) < 2047
finite_field x v f e = go (nat_lt (field_of b) 2047) (ltb→lt (field_of b) 2047) (nltb→le (field_of b) 2047)
  where
    b : ℕ
    b = to_bits binary64 x

    go : (c : Bool) → (T c → field_of b < 2047) → (T (not c) → 2047 ≤ field_of b) → field_of b < 2047
    go true l g = l tt
    go false l g =
        let h : field_of b ≡ 2047 = omega (arith, g tt) in
        absurd (no_value (sign_of b) (b % 2 ^ 52) v (ap float_value (sym (read_field b h) ∙ of_bits-to_bits binary64 x f) ∙ e))
