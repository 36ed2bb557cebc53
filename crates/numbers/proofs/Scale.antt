-- Values in units: signs, products, and the power of two of an exponent. Assumes nothing.
use Rattle.std.proofs.Common.{◌≡◌, ℕ, zero, suc, ◌+◌, ◌*◌, ◌^◌, Bool, true, false, not, ℤ, pos, negsuc, ◌+ℤ◌, ◌*ℤ◌, neg_ℤ, ◌≤ℤ◌, sym, refl, ap, ◌∙◌, mul_assoc, one-mul, mul-zero, zero-mul, arith, pow-add}
use native.Mathlib.Nat.{mul-mul-mul_comm}
use lib.IntN.{neg_ℤ-neg_ℤ}
use lib.Ieee.{unlike}
use borrow.Author.Differences.{ints}
use Rattle.numbers.specs.Units.{rank, signed, units}

-- signs

pub signed-zero : (s : Bool) → signed s 0 ≡ pos 0
signed-zero false = refl
signed-zero true = refl

pub signed_not : (s : Bool) (m : ℕ) → signed (not s) m ≡ neg_ℤ (signed s m)
signed_not false m = refl
signed_not true m = sym (neg_ℤ-neg_ℤ (pos m))

pub signed_mul : (s t : Bool) (a b : ℕ) → signed s a *ℤ signed t b ≡ signed (unlike s t) (a * b)
signed_mul false false a b = refl
signed_mul false true a zero = simp mul-zero
signed_mul false true a (suc b) = refl
signed_mul true false zero b = simp zero-mul
signed_mul true false (suc a) b = refl
signed_mul true true zero zero = refl
signed_mul true true zero (suc b) = simp zero-mul
signed_mul true true (suc a) zero = simp mul-zero
signed_mul true true (suc a) (suc b) = refl

pub plus_right : (s : Bool) → unlike s false ≡ s
plus_right false = refl
plus_right true = refl

four : (m n a b c d : ℕ) → a * b ≡ c * d → m * n * a * (1 * b) ≡ m * c * (n * d)
four m n a b c d h =
    ap (λ (x : ℕ). m * n * a * x) (one-mul b)
    ∙ mul_assoc (m * n) a b
    ∙ ap (λ (x : ℕ). m * n * x) h
    ∙ mul-mul-mul_comm m n c d

-- the power of two of an exponent

pub rank_is : (e : ℤ) → negsuc 1073 ≤ℤ e → pos (rank e) ≡ e +ℤ pos 1074
unfolding rank
rank_is (pos n) h = refl
rank_is (negsuc n) h = omega (arith, ints)

pub rank_add : (d e : ℤ) → negsuc 1073 ≤ℤ d → negsuc 1073 ≤ℤ e → negsuc 1073 ≤ℤ (d +ℤ e) → rank d + rank e ≡ rank (d +ℤ e) + rank (pos 0)
unfolding rank
rank_add d e hd he hde = omega (arith, ints, rank_is d hd, rank_is e he, rank_is (d +ℤ e) hde)

-- values

pub units-zero : (s : Bool) (e : ℤ) → units s 0 e ≡ pos 0
unfolding units
units-zero s e = ap (signed s) (zero-mul (2 ^ rank e)) ∙ signed-zero s

pub units_not : (s : Bool) (m : ℕ) (e : ℤ) → units (not s) m e ≡ neg_ℤ (units s m e)
unfolding units
units_not s m e = signed_not s (m * 2 ^ rank e)

-- ±m × 2^d times ±n × 2^e is ±mn × 2^(d + e)
pub units_mul : (s t : Bool) (m n : ℕ) (d e : ℤ) → negsuc 1073 ≤ℤ d → negsuc 1073 ≤ℤ e → negsuc 1073 ≤ℤ (d +ℤ e)
    → units (unlike s t) (m * n) (d +ℤ e) *ℤ units false 1 (pos 0) ≡ units s m d *ℤ units t n e
unfolding units
units_mul s t m n d e hd he hde =
    signed_mul (unlike s t) false (m * n * 2 ^ rank (d +ℤ e)) (1 * 2 ^ rank (pos 0))
    ∙ ap (λ (b : Bool). signed b (m * n * 2 ^ rank (d +ℤ e) * (1 * 2 ^ rank (pos 0)))) (plus_right (unlike s t))
    ∙ ap (signed (unlike s t)) sizes
    ∙ sym (signed_mul s t (m * 2 ^ rank d) (n * 2 ^ rank e))
  where
    powers : 2 ^ rank (d +ℤ e) * 2 ^ rank (pos 0) ≡ 2 ^ rank d * 2 ^ rank e
    powers = sym (pow-add 2 (rank (d +ℤ e)) (rank (pos 0))) ∙ ap (λ (k : ℕ). 2 ^ k) (sym (rank_add d e hd he hde)) ∙ pow-add 2 (rank d) (rank e)

    sizes : m * n * 2 ^ rank (d +ℤ e) * (1 * 2 ^ rank (pos 0)) ≡ m * 2 ^ rank d * (n * 2 ^ rank e)
    sizes = four m n (2 ^ rank (d +ℤ e)) (2 ^ rank (pos 0)) (2 ^ rank d) (2 ^ rank e) powers
