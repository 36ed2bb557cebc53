-- Counts: their values in units, and what halving a size keeps. Assumes nothing.
use Rattle.std.proofs.Common.{◌≡◌, ℕ, zero, suc, ◌+◌, ◌*◌, ◌%◌, ◌^◌, ◌<◌, ◌≤◌, Bool, false, ◌⊎◌, ℤ, pos, negsuc, ◌*ℤ◌, nat_abs, sym, refl, ap, ◌∙◌, subst, ap₂, inl, inr, le_trans, mul-le-mul_right, mul_comm, one-mul, arith, pow_mono, pow-add}
use lib.IntN.{zero-*ℤ}
use borrow.Author.Differences.{ints}
use Rattle.numbers.specs.Acceptance.{InWindow, Acceptable}
use Rattle.numbers.specs.Counts.{is_negative}
use Rattle.numbers.specs.Products.{one_units}
use Rattle.numbers.specs.Units.{rank, signed, units}
use Rattle.numbers.proofs.Scale.{signed_mul, plus_right}
use Rattle.numbers.proofs.Window.{size-units, pow-order, pow_shift, trailing, factor-size, to_window}

-- halvings

pub few_halvings : (n m h : ℕ) → n ≡ m * 2 ^ h → n ≤ 2 ^ 31 → (h ≡ 0) ⊎ (2 ^ 25 ≤ m) → h ≤ 6
few_halvings n m h e small (inl z) = omega arith
few_halvings n m h e small (inr l) =
    let low : 2 ^ (25 + h) ≤ n = subst (λ (x : ℕ). 2 ^ (25 + h) ≤ x) (sym e) (subst (λ (x : ℕ). x ≤ m * 2 ^ h) (sym (pow-add 2 25 h)) (mul-le-mul_right (2 ^ h) l)) in
    let high : n < 2 ^ 32 = omega arith in
    let o = pow-order (25 + h) 32 n low high in
    omega arith

pub halved : (n m k h i : ℕ) → n ≡ m * 2 ^ h → m ≡ 2 * k → i ≡ h + 1 → n ≡ k * 2 ^ i
halved n m k h i size half more = size ∙ ap (λ (x : ℕ). x * 2 ^ h) (half ∙ mul_comm 2 k) ∙ sym (pow_shift k 1 h) ∙ ap (λ (x : ℕ). k * 2 ^ x) turned
  where
    turned : 1 + h ≡ i
    turned = omega arith

-- values

pub signed_parts : (z : ℤ) → signed (is_negative z) (nat_abs z) ≡ z
signed_parts (pos n) = refl
signed_parts (negsuc n) = refl

pub count-units : (z : ℤ) → z *ℤ one_units ≡ units (is_negative z) (nat_abs z) (pos 0)
unfolding units
count-units z =
    ap (λ (x : ℤ). x *ℤ signed false (1 * 2 ^ rank (pos 0))) (sym (signed_parts z))
    ∙ signed_mul (is_negative z) false (nat_abs z) (1 * 2 ^ rank (pos 0))
    ∙ ap₂ signed (plus_right (is_negative z)) (ap (λ (x : ℕ). nat_abs z * x) (one-mul (2 ^ rank (pos 0))))

pub count-size : (z : ℤ) → nat_abs (z *ℤ one_units) ≡ nat_abs z * 2 ^ rank (pos 0)
count-size z = ap nat_abs (count-units z) ∙ size-units (is_negative z) (nat_abs z) (pos 0)

raised : (h : ℕ) → rank (pos h) ≡ h + rank (pos 0)
unfolding rank
raised h = refl

pub shifted_units : (s : Bool) (m h : ℕ) → units s m (pos h) ≡ units s (m * 2 ^ h) (pos 0)
unfolding units
shifted_units s m h = ap (signed s) (ap (λ (x : ℕ). m * 2 ^ x) (raised h) ∙ pow_shift m h (rank (pos 0)))

-- a count's value lies in the window
reached : 563 ≤ rank (pos 0)
unfolding rank
reached = omega arith

window_of_size : (z : ℤ) (n : ℕ) → nat_abs z ≡ suc n → InWindow (z *ℤ one_units)
window_of_size z n h =
    to_window (z *ℤ one_units) (suc n * 2 ^ rank (pos 0)) (count-size z ∙ ap (λ (x : ℕ). x * 2 ^ rank (pos 0)) h)
    (le_trans (pow_mono reached) (subst (λ (x : ℕ). x ≤ suc n * 2 ^ rank (pos 0)) (one-mul (2 ^ rank (pos 0))) (mul-le-mul_right (2 ^ rank (pos 0)) one_up)))
  where
    one_up : 1 ≤ suc n
    one_up = omega arith

pub count_window : (z : ℤ) → InWindow (z *ℤ one_units)
count_window (pos zero) = inl (zero-*ℤ one_units)
count_window (pos (suc n)) = window_of_size (pos (suc n)) n refl
count_window (negsuc n) = window_of_size (negsuc n) n refl

-- an accepted count
pub count-accepted : (z : ℤ) (s : Bool) (m h : ℕ) (e : ℤ) → m < 2 ^ 26 → h ≤ 6 → nat_abs z ≡ m * 2 ^ h → e ≡ pos h → s ≡ is_negative z
    → Acceptable (z *ℤ one_units) × (units s m e ≡ z *ℤ one_units)
count-accepted z s m h e short few size e-is s-is =
    let is : units s m e ≡ z *ℤ one_units = ap₂ (λ (p : Bool) (q : ℤ). units p m q) s-is e-is ∙ shifted_units (is_negative z) m h ∙ ap (λ (x : ℕ). units (is_negative z) x (pos 0)) (sym size) ∙ sym (count-units z) in (
      (
        record { sign = s; significand = m; exponent = e; short = short; low = omega (arith, ints); high = omega (arith, ints); value_is = sym is },
        count_window z,
      ),
      is,
    )

-- a size of 27 bits or more that is odd after exact halvings is no factor's
pub count-refused : (z : ℤ) (m h : ℕ) → nat_abs z ≡ m * 2 ^ h → 2 ^ 26 ≤ m → (m % 2 ≡ 0 → ⊥) → Acceptable (z *ℤ one_units) → ⊥
count-refused z m h size large odd (w, win) =
    odd (trailing w.significand (rank w.exponent) m (h + rank (pos 0)) 1 w.short large
    (sym (factor-size w) ∙ count-size z ∙ ap (λ (x : ℕ). x * 2 ^ rank (pos 0)) size ∙ sym (pow_shift m h (rank (pos 0)))))
