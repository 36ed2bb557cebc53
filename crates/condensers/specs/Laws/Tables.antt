-- Lists of numbers by place: what stands at each, their sums, and what one changed place changes. Assumes nothing.
use Rattle.std.specs.Prelude.{◌≡◌, ℕ, zero, suc, ◌+◌, ◌*◌, ◌^◌, ◌<◌, ◌≤◌, Bool, false, cond, T, List, [], ◌∷◌, map, length, replicate, ℤ, pos, ◌+ℤ◌, slice_index_or, slice_set, to_bits, unsigned_abs, refl, Float}
use Rattle.std.proofs.Common.{sym, ap, ap₂, ◌∙◌, subst, add-zero, add-suc, suc-add, not-suc-le-zero, le_of_suc-le-suc, le_trans, le_of_eq, zero-mul, arith, lit≤}
use Rattle.std.specs.Float.{nan, binary64}
use Rattle.std.specs.Float.Ieee.{eq, of_bits}
use Rattle.std.specs.Float.Ieee.Fits.{and_i, and_l, and_r}
use Rattle.std.proofs.lemmas.Int.{ints}
use Rattle.numbers.specs.Products.{summand_units}
use Rattle.condensers.specs.Meaning.{sum_units}
use Rattle.numbers.specs.Patterns.{sign_of}
use Rattle.condensers.specs.Fields.{significand_of, height_of}
use Rattle.condensers.specs.Handed.{limited}
use Rattle.condensers.specs.Pairing.{float_units, size, empty, stands, stand_from, total_of, sum_of, piece_limit, summand_of}
use Rattle.condensers.specs.Laws.Handed.{summand_at-units, limited_in}
use Rattle.condensers.specs.Laws.Patterns.{number_fields, size_fields}
use Rattle.condensers.specs.Laws.Pairs.{significand_lt}
use Rattle.condensers.specs.Laws.Standing.{standing_fits, standing_field, empty_stands, empty-value}

-- ---- what stands at each place

pub stands_at : (n : ℕ) (t : List Float) (k : ℕ) → T (stand_from n t) → k < length t → T (stands (n + k) (slice_index_or t k nan))
unfolding stand_from
stands_at n [] k h l = absurd (not-suc-le-zero l)
stands_at n (x ∷ t) zero h l = subst (λ (m : ℕ). T (stands m x)) (sym (add-zero n)) (and_l (stands n x) (stand_from (suc n) t) h)
stands_at n (x ∷ t) (suc k) h l =
    subst (λ (m : ℕ). T (stands m (slice_index_or t k nan))) (suc-add n k ∙ sym (add-suc n k)) (stands_at (suc n) t k (and_r (stands n x) (stand_from (suc n) t) h) (le_of_suc-le-suc l))

pub stands_set : (n : ℕ) (t : List Float) (k : ℕ) (y : Float) → T (stand_from n t) → T (stands (n + k) y) → T (stand_from n (slice_set t k y))
unfolding stand_from
stands_set n [] k y h s = tt
stands_set n (x ∷ t) zero y h s =
    and_i (stands n y) (stand_from (suc n) t) (subst (λ (m : ℕ). T (stands m y)) (add-zero n) s) (and_r (stands n x) (stand_from (suc n) t) h)
stands_set n (x ∷ t) (suc k) y h s =
    and_i (stands n x) (stand_from (suc n) (slice_set t k y)) (and_l (stands n x) (stand_from (suc n) t) h)
    (stands_set (suc n) t k y (and_r (stands n x) (stand_from (suc n) t) h) (subst (λ (m : ℕ). T (stands m y)) (add-suc n k ∙ sym (suc-add n k)) s))

-- ---- sums

swap : (a b c d e : ℤ) → a +ℤ b ≡ c +ℤ d → (e +ℤ a) +ℤ b ≡ (e +ℤ c) +ℤ d
swap a b c d e h = omega (arith, ints)

pub total_set : (t : List Float) (k : ℕ) (y : Float) → k < length t → total_of (slice_set t k y) +ℤ float_units (slice_index_or t k nan) ≡ total_of t +ℤ float_units y
unfolding total_of
total_set [] k y l = absurd (not-suc-le-zero l)
total_set (x ∷ t) zero y l = turned (float_units y) (total_of t) (float_units x)
  where
    turned : (a b c : ℤ) → (a +ℤ b) +ℤ c ≡ (c +ℤ b) +ℤ a
    turned a b c = omega (arith, ints)
total_set (x ∷ t) (suc k) y l = swap (total_of (slice_set t k y)) (float_units (slice_index_or t k nan)) (total_of t) (float_units y) (float_units x) (total_set t k y (le_of_suc-le-suc l))

pub sum-set : (f : Float → ℕ) (t : List Float) (k : ℕ) (y : Float) → k < length t → sum_of f (slice_set t k y) + f (slice_index_or t k nan) ≡ sum_of f t + f y
unfolding sum_of
sum-set f [] k y l = absurd (not-suc-le-zero l)
sum-set f (x ∷ t) zero y l = omega arith
sum-set f (x ∷ t) (suc k) y l = omega (arith, sum-set f t k y (le_of_suc-le-suc l))

pub sum-at : (f : Float → ℕ) (t : List Float) (k : ℕ) → k < length t → f (slice_index_or t k nan) ≤ sum_of f t
unfolding sum_of
sum-at f [] k l = absurd (not-suc-le-zero l)
sum-at f (x ∷ t) zero l = omega arith
sum-at f (x ∷ t) (suc k) l = omega (arith, sum-at f t k (le_of_suc-le-suc l))

-- ---- an empty table

pub stands-none : (n m : ℕ) → T (stand_from n (replicate m (of_bits binary64 0)))
unfolding stand_from empty
stands-none n zero = tt
stands-none n (suc m) = and_i (stands n (of_bits binary64 0)) (stand_from (suc n) (replicate m (of_bits binary64 0))) (empty_stands n) (stands-none (suc n) m)

pub total_none : (m : ℕ) → total_of (replicate m (of_bits binary64 0)) ≡ pos 0
unfolding total_of empty
total_none zero = refl
total_none (suc m) = ap₂ ◌+ℤ◌ empty-value (total_none m)

pub sum-none : (f : Float → ℕ) (m : ℕ) → f (of_bits binary64 0) ≡ 0 → sum_of f (replicate m (of_bits binary64 0)) ≡ 0
unfolding sum_of
sum-none f zero e = refl
sum-none f (suc m) e = ap₂ ◌+◌ e (sum-none f m e)

pub size_none : size (of_bits binary64 0) ≡ 0
unfolding empty
size_none = ap unsigned_abs empty-value

pub none_bounded : (m : ℕ) → sum_of size (replicate m (of_bits binary64 0)) ≤ 0 * piece_limit
none_bounded m = le_of_eq (sum-none size m size_none ∙ sym (zero-mul piece_limit))

-- ---- the summands handed out

-- what a table of full capacity can hold, as a summand
full : 67108864 * piece_limit ≤ 2 ^ 2080
unfolding piece_limit
full = lit≤ tt

pub standing_limited : (k : ℕ) (x : Float) → T (stands k x) → size x ≤ 67108864 * piece_limit → T (limited (significand_of (to_bits binary64 x)) (height_of (to_bits binary64 x)))
standing_limited k x t l =
    let b = to_bits binary64 x in
    let f = standing_field k x t in
    limited_in (significand_of b) (height_of b) (significand_lt b) (omega arith) (subst (λ (n : ℕ). n ≤ 2 ^ 2080) (size_fields x (standing_fits k x t) f) (le_trans l full))

summand_of-units : (k : ℕ) (x : Float) → T (stands k x) → size x ≤ 67108864 * piece_limit → summand_units (summand_of x) ≡ float_units x
unfolding summand_of
summand_of-units k x t l =
    let b = to_bits binary64 x in
    summand_at-units (sign_of b) (significand_of b) (height_of b) (standing_limited k x t l) ∙ sym (number_fields x (standing_fits k x t) (standing_field k x t))

pub summands_add_up : (n : ℕ) (t : List Float) → T (stand_from n t) → sum_of size t ≤ 67108864 * piece_limit → sum_units (map summand_of t) ≡ total_of t
unfolding stand_from sum_of total_of
summands_add_up n [] h l = refl
summands_add_up n (x ∷ t) h l =
    ap₂ ◌+ℤ◌ (summand_of-units n x (and_l (stands n x) (stand_from (suc n) t) h) (first (size x) (sum_of size t) _ l))
    (summands_add_up (suc n) t (and_r (stands n x) (stand_from (suc n) t) h) (second (size x) (sum_of size t) _ l))
  where
    first : (a b c : ℕ) → a + b ≤ c → a ≤ c
    first a b c h = omega arith

    second : (a b c : ℕ) → a + b ≤ c → b ≤ c
    second a b c h = omega arith

-- ---- how many places are occupied

unfoldable pub taken : Float → ℕ
taken x = cond (eq x (of_bits binary64 0)) 0 1

pub taken_none : taken (of_bits binary64 0) ≡ 0
unfolding taken eq of_bits
taken_none = refl

pub taken-one : (x : Float) → eq x (of_bits binary64 0) ≡ false → taken x ≡ 1
unfolding taken
taken-one x h = ap (λ (b : Bool). cond b 0 1) h
