-- The grid of a format: the sizes of its patterns, in units, grow with the pattern. Assumes nothing.
use Rattle.std.proofs.Common.{◌≡◌, ℕ, zero, suc, ◌+◌, ◌-◌, ◌*◌, ◌/◌, ◌%◌, ◌^◌, ◌<◌, ◌≤◌, ◌⊎◌, sym, refl, ap, ◌∙◌, subst, inl, inr, le_trans, le_of_eq, lt_of_lt_of_le, lt_of_le_of_lt, add-zero, le_of_lt, add_assoc, lt_irrefl, add-suc, mod-lt, mul_assoc, lt-suc_self, suc-mul, add-sub_of_le, eq-or-lt_of_le, mul-lt-mul_of_pos_right, div-add-mod', zero-add, zero-mul, mul-one, mul_left_comm, arith, pow_pos}
use native.Mathlib.Nat.{pow-succ', le-suc}
use lib.Arith.{digits_div, digits_mod}
use Rattle.readings.proofs.Cases.{lt_or_ge}

-- The number that a pattern p without its sign stands for, counted in the format's smallest value, where h is the weight of the exponent's field.
-- A field of 0 has no leading digit, and counts as a field of 1
unfoldable pub magnitude_of : ℕ → ℕ → ℕ → ℕ
magnitude_of h zero t = t
magnitude_of h (suc x) t = (h + t) * 2 ^ x

unfoldable pub magnitude : ℕ → ℕ → ℕ
unfolding magnitude_of
magnitude h p = magnitude_of h (p / h) (p % h)

-- p is k dropped digits and a number q that is kept: below 2 * h, and with all its digits unless k is 0
pub record Parts (h p : ℕ) : Type 0 where
  pub k : ℕ
  pub q : ℕ
  pub is : p ≡ k * h + q
  pub full : (k ≡ 0) ⊎ (h ≤ q)
  pub few : q < 2 * h

pub parts : (h p : ℕ) → 0 < h → Parts h p
parts h p H = go (p / h) (p % h) (sym (div-add-mod' p h)) (mod-lt p H)
  where
    go : (x t : ℕ) → p ≡ x * h + t → t < h → Parts h p
    go zero t e T = record { k = 0; q = t; is = e; full = inl refl; few = omega arith }
    go (suc x) t e T = record { k = x; q = h + t; is = e ∙ ap (λ (a : ℕ). a + t) (suc-mul x h) ∙ add_assoc (x * h) h t; full = inr (omega arith); few = omega arith }

-- ---- the size of a pattern by its parts

of_fields : (h x t : ℕ) → t < h → magnitude h (x * h + t) ≡ magnitude_of h x t
unfolding magnitude
of_fields h x t T = ap (λ (a : ℕ). magnitude_of h a ((x * h + t) % h)) (digits_div x T) ∙ ap (λ (a : ℕ). magnitude_of h x a) (digits_mod x T)

pub magnitude_low : (h t : ℕ) → t < h → magnitude h t ≡ t
unfolding magnitude_of
magnitude_low h t T = ap (λ (a : ℕ). magnitude h a) (sym (zero-add t) ∙ ap (λ (a : ℕ). a + t) (sym (zero-mul h))) ∙ of_fields h 0 t T

pub magnitude_field : (h x t : ℕ) → t < h → magnitude h (suc x * h + t) ≡ (h + t) * 2 ^ x
unfolding magnitude_of
magnitude_field h x t T = of_fields h (suc x) t T

regroup : (h k r : ℕ) → k * h + (h + r) ≡ suc k * h + r
regroup h k r = sym (add_assoc (k * h) h r) ∙ ap (λ (a : ℕ). a + r) (sym (suc-mul k h))

pub magnitude_at : (h k q : ℕ) → 0 < h → (k ≡ 0) ⊎ (h ≤ q) → q ≤ 2 * h → magnitude h (k * h + q) ≡ q * 2 ^ k
magnitude_at h k q H full few = go (lt_or_ge q h) (eq-or-lt_of_le few)
  where
    small : q < h → k ≡ 0 → magnitude h (k * h + q) ≡ q * 2 ^ k
    small l z =
        ap (λ (a : ℕ). magnitude h (a * h + q)) z
        ∙ ap (λ (a : ℕ). magnitude h a) (ap (λ (a : ℕ). a + q) (zero-mul h) ∙ zero-add q)
        ∙ magnitude_low h q l
        ∙ sym (mul-one q)
        ∙ ap (λ (a : ℕ). q * 2 ^ a) (sym z)

    doubled : magnitude h (k * h + (h + h)) ≡ (h + h) * 2 ^ k
    doubled =
        ap (λ (a : ℕ). magnitude h a) (regroup h k h ∙ ap (λ (a : ℕ). suc k * h + a) (sym (add-zero h)) ∙ regroup h (suc k) 0)
        ∙ magnitude_field h (suc k) 0 H
        ∙ ap (λ (a : ℕ). (h + 0) * a) (pow-succ' 2 k)
        ∙ mul_left_comm (h + 0) 2 (2 ^ k) ∙ sym (mul_assoc 2 (h + 0) (2 ^ k)) ∙ ap (λ (a : ℕ). a * 2 ^ k) (omega arith)

    go : (q < h) ⊎ (h ≤ q) → (q ≡ 2 * h) ⊎ (q < 2 * h) → magnitude h (k * h + q) ≡ q * 2 ^ k
    go (inl l) o = elim full [ inl z ↦ small l z | inr g ↦ absurd (lt_irrefl h (lt_of_le_of_lt g l)) ]
    go (inr g) (inl e) = let e2 : q ≡ h + h = omega arith in rw e2 doubled
    go (inr g) (inr l) =
        let r = q - h in
        let e : h + r ≡ q = add-sub_of_le g in
        let R : r < h = omega arith in
        ap (λ (a : ℕ). magnitude h (k * h + a)) (sym e) ∙ ap (λ (a : ℕ). magnitude h a) (regroup h k r) ∙ magnitude_field h k r R ∙ ap (λ (a : ℕ). a * 2 ^ k) e

-- ---- a pattern and the next one

-- the size of p is q * 2 ^ k, and that of the next pattern (q + 1) * 2 ^ k
pub at : (h p : ℕ) (H : 0 < h) → magnitude h p ≡ (parts h p H).q * 2 ^ (parts h p H).k
at h p H = let c = parts h p H in ap (λ (a : ℕ). magnitude h a) c.is ∙ magnitude_at h c.k c.q H c.full (le_of_lt c.few)

pub at_next : (h p : ℕ) (H : 0 < h) → magnitude h (suc p) ≡ suc (parts h p H).q * 2 ^ (parts h p H).k
at_next h p H =
    let c = parts h p H in
    ap (λ (a : ℕ). magnitude h a) (ap suc c.is ∙ sym (add-suc (c.k * h) c.q))
    ∙ magnitude_at h c.k (suc c.q) H (elim c.full [ inl z ↦ inl z | inr g ↦ inr (le_trans g (le-suc c.q)) ]) c.few

pub grows : (h p : ℕ) → 0 < h → magnitude h p < magnitude h (suc p)
grows h p H =
    let c = parts h p H in
    subst (λ (a : ℕ). a < magnitude h (suc p)) (sym (at h p H))
    (subst (λ (a : ℕ). c.q * 2 ^ c.k < a) (sym (at_next h p H)) (mul-lt-mul_of_pos_right (lt-suc_self c.q) (pow_pos c.k)))

pub magnitude_mono : (h p d : ℕ) → 0 < h → magnitude h p ≤ magnitude h (p + d)
magnitude_mono h p zero H = le_of_eq (ap (λ (a : ℕ). magnitude h a) (sym (add-zero p)))
magnitude_mono h p (suc d) H =
    le_trans (magnitude_mono h p d H) (le_trans (le_of_lt (grows h (p + d) H)) (le_of_eq (ap (λ (a : ℕ). magnitude h a) (sym (add-suc p d)))))

pub magnitude_le : (h p c : ℕ) → 0 < h → p ≤ c → magnitude h p ≤ magnitude h c
magnitude_le h p c H l = subst (λ (a : ℕ). magnitude h p ≤ magnitude h a) (add-sub_of_le l) (magnitude_mono h p (c - p) H)

pub magnitude_lt : (h p c : ℕ) → 0 < h → p < c → magnitude h p < magnitude h c
magnitude_lt h p c H l = lt_of_lt_of_le (grows h p H) (magnitude_le h (suc p) c H l)
