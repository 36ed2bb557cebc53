-- Which sizes are a factor's: how many bits a factor's value can have, and where the window ends. Assumes nothing.
use Rattle.std.proofs.Common.{◌≡◌, ℕ, zero, suc, ◌+◌, ◌-◌, ◌*◌, ◌%◌, ◌^◌, ◌<◌, ◌≤◌, Bool, true, false, ◌⊎◌, ℤ, pos, negsuc, nat_abs, ◌≤ℤ◌, sym, refl, ap, ◌∙◌, subst, inl, inr, le_trans, lt_of_lt_of_le, lt_irrefl, mul-le-mul_right, mul_assoc, arith, pow_pos, pow_mono, pow-add, shl_lt}
use native.Mathlib.Nat.{mul-mod_left, eq_of_mul-eq-mul_right}
use borrow.Author.Differences.{ints}
use Rattle.std.proofs.lemmas.Bool.{cases_lt}
use Rattle.numbers.specs.Acceptance.{FactorValue, InWindow}
use Rattle.numbers.specs.Products.{factor_units}
use Rattle.numbers.specs.declared.factor.Factor.{Factor}
use Rattle.numbers.specs.Units.{rank, signed, units}
use Rattle.numbers.proofs.Scale.{rank_is}

-- sizes

pub size-signed : (s : Bool) (n : ℕ) → nat_abs (signed s n) ≡ n
size-signed false n = refl
size-signed true zero = refl
size-signed true (suc n) = refl

pub size-units : (s : Bool) (m : ℕ) (e : ℤ) → nat_abs (units s m e) ≡ m * 2 ^ rank e
unfolding units
size-units s m e = size-signed s (m * 2 ^ rank e)

-- powers

pub pow-order : (a b n : ℕ) → 2 ^ a ≤ n → n < 2 ^ b → a < b
pow-order a b n low high = go (cases_lt a b)
  where
    go : (a < b) ⊎ (b ≤ a) → a < b
    go (inl h) = h
    go (inr h) = absurd (lt_irrefl n (lt_of_lt_of_le high (le_trans (pow_mono h) low)))

pub pow_shift : (n j k : ℕ) → n * 2 ^ (j + k) ≡ n * 2 ^ j * 2 ^ k
pow_shift n j k = ap (λ (x : ℕ). n * x) (pow-add 2 j k) ∙ sym (mul_assoc n (2 ^ j) (2 ^ k))

-- a number of at most 26 bits times a power of two has no set bits below its leading 26
pub trailing : (m a q b j : ℕ) → m < 2 ^ 26 → 2 ^ (25 + j) ≤ q → m * 2 ^ a ≡ q * 2 ^ b → q % 2 ^ j ≡ 0
trailing m a q b j small large h = go (cases_lt a (b + j))
  where
    go : (a < b + j) ⊎ (b + j ≤ a) → q % 2 ^ j ≡ 0
    go (inl k) =
        let lo : 2 ^ (25 + j + b) ≤ m * 2 ^ a = subst (λ (x : ℕ). 2 ^ (25 + j + b) ≤ x) (sym h) (subst (λ (x : ℕ). x ≤ q * 2 ^ b) (sym (pow-add 2 (25 + j) b)) (mul-le-mul_right (2 ^ b) large)) in
        let o = pow-order (25 + j + b) (26 + a) (m * 2 ^ a) lo (shl_lt 26 a small) in
        absurd (omega arith)
    go (inr k) =
        let split : a ≡ (a - (b + j)) + j + b = omega arith in
        let e : m * 2 ^ a ≡ m * 2 ^ (a - (b + j)) * 2 ^ j * 2 ^ b = ap (λ (x : ℕ). m * 2 ^ x) split ∙ pow_shift m ((a - (b + j)) + j) b ∙ ap (λ (x : ℕ). x * 2 ^ b) (pow_shift m (a - (b + j)) j) in
        let q-is : q ≡ m * 2 ^ (a - (b + j)) * 2 ^ j = eq_of_mul-eq-mul_right (2 ^ b) (pow_pos b) q (m * 2 ^ (a - (b + j)) * 2 ^ j) (sym h ∙ e) in
        ap (λ (x : ℕ). x % 2 ^ j) q-is ∙ mul-mod_left (m * 2 ^ (a - (b + j))) (2 ^ j)

-- the highest exponent of a factor, and of a leading bit
pub not_above : (m a q x : ℕ) → m < 2 ^ 26 → a ≤ 1532 → 2 ^ 52 ≤ q → m * 2 ^ a ≡ q * 2 ^ x → x ≤ 1505
not_above m a q x small high large h =
    let lo : 2 ^ (52 + x) ≤ m * 2 ^ a = subst (λ (y : ℕ). 2 ^ (52 + x) ≤ y) (sym h) (subst (λ (y : ℕ). y ≤ q * 2 ^ x) (sym (pow-add 2 52 x)) (mul-le-mul_right (2 ^ x) large)) in
    let o = pow-order (52 + x) (26 + a) (m * 2 ^ a) lo (shl_lt 26 a small) in
    omega arith

-- a factor has an acceptable exponent
pub rank-high : (e : ℤ) → negsuc 535 ≤ℤ e → e ≤ℤ pos 458 → rank e ≤ 1532
rank-high e low high = omega (arith, ints, rank_is e (omega (arith, ints)))

pub own_value : (f : Factor) → FactorValue (factor_units f)
own_value f =
    record {
      sign = f.negative;
      significand = f.significand;
      exponent = f.exponent;
      short = f.short;
      low = f.low;
      high = f.high;
      value_is = refl;
    }

-- the size of a factor's value
pub factor-size : {v : ℤ} (w : FactorValue v) → nat_abs v ≡ w.significand * 2 ^ rank w.exponent
factor-size w = ap nat_abs w.value_is ∙ size-units w.sign w.significand w.exponent

-- the window's lower end
pub least : rank (negsuc 510) ≡ 563
unfolding rank
least = refl

pub in_window : (v : ℤ) (n : ℕ) → nat_abs v ≡ n → 0 < n → InWindow v → 2 ^ 563 ≤ n
in_window v n e p (inl z) = absurd (omega (arith, ap nat_abs z, e))
in_window v n e p (inr w) = subst (λ (k : ℕ). 2 ^ k ≤ n) least (subst (λ (k : ℕ). 2 ^ rank (negsuc 510) ≤ k) e w)

pub to_window : (v : ℤ) (n : ℕ) → nat_abs v ≡ n → 2 ^ 563 ≤ n → InWindow v
to_window v n e h = inr (subst (λ (k : ℕ). 2 ^ rank (negsuc 510) ≤ k) (sym e) (subst (λ (k : ℕ). 2 ^ k ≤ n) (sym least) h))
