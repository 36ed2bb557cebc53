-- The value in units of one of the toolchain's IEEE 754 numbers, and of the number that a pattern encodes. Assumes nothing.
use Rattle.std.proofs.Common.{◌≡◌, ℕ, zero, suc, ◌+◌, ◌-◌, ◌*◌, ◌/◌, ◌%◌, ◌^◌, ◌<◌, ◌≤◌, Bool, true, false, cond, ◌&&◌, T, eqb, ltb, leb, ◌⊎◌, ℤ, pos, negsuc, Some, None, sym, refl, ap, ◌∙◌, subst, ap₂, inl, inr, lt_of_lt_of_le, lt_irrefl, one-mul, mul-one, arith, eqb→eq, leb→le, pow_pos}
use native.Mathlib.Nat.{eq_of_mul-eq-mul_right}
use lib.Ieee.{Float, nan, inf, fin, binary64, up, down, odd, of_fields, of_bits, fits}
use lib.Ieee.Bits.{of_bits-fits}
use lib.Ieee.Exact.{HasValue, odd_sign}
use lib.Ieee.Fits.{and_l, and_r}
use lib.Pow.{pow-lt}
use Rattle.std.proofs.lemmas.Nat.{field_of as field_of_lem, pow_below}
use Rattle.std.proofs.lemmas.Bool.{cases_lt}
use Rattle.numbers.specs.Patterns.{sign_of, field_of, fraction_of, pattern_size, pattern_value}
use Rattle.numbers.specs.Units.{rank, signed, units, float_value}
use Rattle.numbers.proofs.Window.{pow_shift}

pow_le : (i j : ℕ) → 2 ^ i ≤ 2 ^ j → i ≤ j
pow_le i j h = go (cases_lt j i)
  where
    go : (j < i) ⊎ (i ≤ j) → i ≤ j
    go (inl k) = absurd (lt_irrefl (2 ^ j) (lt_of_lt_of_le (pow-lt k) h))
    go (inr k) = k

-- m / 2^k is m × 2^(l - k) of the units 1 / 2^l
lowered : (m a k l : ℕ) → k ≤ l → m * 1 * 2 ^ l ≡ a * 2 ^ k → m * 2 ^ (l - k) ≡ a
lowered m a k l h e =
    eq_of_mul-eq-mul_right (2 ^ k) (pow_pos k) (m * 2 ^ (l - k)) a
    (sym (pow_shift m (l - k) k) ∙ ap (λ (x : ℕ). m * 2 ^ x) back ∙ ap (λ (x : ℕ). x * 2 ^ l) (sym (mul-one m)) ∙ e)
  where
    back : l - k + k ≡ l
    back = omega arith

-- the exponent of a number of the format is -1074 or more
exponent-low : (s : Bool) (m k : ℕ) → T (fits binary64 (fin s m (negsuc k))) → suc k ≤ 1074
unfolding fits
exponent-low s zero k h =
    let up-two : 2 ^ 0 < 2 ^ suc k = pow_below 0 (suc k) (omega arith) in
    absurd (omega (arith, one-mul (2 ^ suc k), eqb→eq (1 * 2 ^ suc k) 1 h))
exponent-low s (suc m) k h =
    let a : Bool = eqb (suc m % 2) 1 && ltb (suc m) (2 ^ 53) in
    let b : Bool = leb (2 ^ suc k) (2 ^ 1074) in
    let d : Bool = ltb (suc m * 1) (2 ^ 1024 * 2 ^ suc k) in
    pow_le (suc k) 1074 (leb→le (2 ^ suc k) (2 ^ 1074) (and_r a b (and_l (a && b) d h)))

size_is : (s : Bool) (m a : ℕ) (e : ℤ) → T (fits binary64 (fin s m e)) → m * up e * 2 ^ 1074 ≡ a * down e → m * 2 ^ rank e ≡ a
unfolding rank
size_is s m a (pos k) h e = pow_shift m k 1074 ∙ e ∙ mul-one a
size_is s m a (negsuc k) h e = ap (λ (x : ℕ). m * 2 ^ x) turned ∙ lowered m a (suc k) 1074 (exponent-low s m k h) e
  where
    turned : 1073 - k ≡ 1074 - suc k
    turned = omega arith

-- a number of the format that is ±a / 2^1074 is ±a units
pub float_value_lem : (x : Float) (s : Bool) (a : ℕ) → T (fits binary64 x) → HasValue x s a (2 ^ 1074) → float_value x ≡ Some (signed s a)
unfolding float_value units
float_value_lem nan s a h v = absurd v
float_value_lem (inf t) s a h v = absurd v
float_value_lem (fin t m e) s a h v = ap Some (ap₂ signed v.0 (size_is t m a e h v.1))

fields_value : (s : Bool) (x t : ℕ) → T (fits binary64 (of_fields binary64 s x t))
    → cond (eqb x 2047) None (Some (signed s (pattern_size x t))) ≡ float_value (of_fields binary64 s x t)
unfolding of_fields float_value
fields_value s zero t h = sym (float_value_lem (odd 53 s t 0 1074) s (t * 2 ^ 0) h (odd_sign 53 s t 0 1074) ∙ ap (λ (n : ℕ). Some (signed s n)) (mul-one t))
fields_value s (suc x) t h = go (eqb (suc x) 2047) h
  where
    inner : (b : Bool) → None ≡ float_value (cond b (inf s) nan)
    inner true = refl
    inner false = refl

    go : (b : Bool) → T (fits binary64 (cond b (cond (eqb t 0) (inf s) nan) (odd 53 s (2 ^ 52 + t) x 1074)))
        → cond b None (Some (signed s ((2 ^ 52 + t) * 2 ^ x))) ≡ float_value (cond b (cond (eqb t 0) (inf s) nan) (odd 53 s (2 ^ 52 + t) x 1074))
    go true k = inner (eqb t 0)
    go false k = sym (float_value_lem (odd 53 s (2 ^ 52 + t) x 1074) s ((2 ^ 52 + t) * 2 ^ x) k (odd_sign 53 s (2 ^ 52 + t) x 1074))

-- a pattern's value is the value of the number that it encodes
pub pattern-value : (b : ℕ) → pattern_value b ≡ float_value (of_bits binary64 b)
unfolding of_bits
pattern-value b =
    let field : b % 2 ^ 63 / 2 ^ 52 ≡ field_of b = field_of_lem b 11 52 in
    let Is : ℕ → Type 0 = λ x. cond (eqb x 2047) None (Some (signed (sign_of b) (pattern_size x (fraction_of b)))) ≡ float_value (of_bits binary64 b) in
    subst Is field (fields_value (sign_of b) (b % 2 ^ 63 / 2 ^ 52) (fraction_of b) (of_bits-fits binary64 b))
