-- What columns hand out: two summands for each, within a summand's limits, that add up to the columns. Assumes nothing.
use Rattle.std.specs.Prelude.{◌≡◌, ℕ, zero, suc, ◌+◌, ◌*◌, ◌/◌, ◌%◌, ◌^◌, ◌<◌, ◌≤◌, Bool, T, List, [], ◌∷◌, length, get_or, ℤ, pos, negsuc, ◌+ℤ◌, ◌*ℤ◌, int_lt, slice_index_or, unsigned_abs, refl}
use Rattle.std.proofs.Common.{sym, ap, ap₂, ◌∙◌, subst, not-suc-le-zero, le_of_suc-le-suc, add-zero, add-suc, suc-add, mul-le-mul, le_trans, le_of_lt, arith, lit≤, pow-add, pow_mono, le-ltb}
use Rattle.std.proofs.Math.IntN.{+ℤ_assoc}
use Rattle.numbers.specs.declared.piece.Summand.{Summand}
use Rattle.numbers.specs.Units.{signed}
use Rattle.numbers.specs.Products.{summand_units}
use Rattle.condensers.specs.Meaning.{sum_units}
use Rattle.condensers.specs.Handed.{limited}
use Rattle.condensers.specs.Columns.{columns_from, summands_from, low_summand, high_summand}
use Rattle.condensers.specs.Laws.Handed.{summand_at-units, limited_in}
use Rattle.condensers.specs.Laws.Columns.{signed_times, signed_plus}

-- ---- two summands for each column

pub summands_length : (j : ℕ) (cs : List ℤ) → length (summands_from j cs) ≡ 2 * length cs
unfolding summands_from
summands_length j [] = refl
summands_length j (c ∷ cs) = let e = summands_length (suc j) cs in omega arith

pub low-at : (j : ℕ) (cs : List ℤ) (i : ℕ) (d : Summand) → i < length cs → slice_index_or (summands_from j cs) (2 * i) d ≡ low_summand (j + i) (slice_index_or cs i (pos 0))
unfolding summands_from
low-at j [] i d h = absurd (not-suc-le-zero h)
low-at j (c ∷ cs) zero d h = ap (λ (x : ℕ). low_summand x c) (sym (add-zero j))
low-at j (c ∷ cs) (suc i) d h =
    ap (λ (x : ℕ). get_or (low_summand j c ∷ (high_summand j c ∷ summands_from (suc j) cs)) x d) {x = 2 * suc i} {y = suc (suc (2 * i))} (omega arith)
    ∙ low-at (suc j) cs i d (le_of_suc-le-suc h)
    ∙ ap (λ (x : ℕ). low_summand x (slice_index_or cs i (pos 0))) (suc-add j i ∙ sym (add-suc j i))

pub high-at : (j : ℕ) (cs : List ℤ) (i : ℕ) (d : Summand) → i < length cs → slice_index_or (summands_from j cs) (2 * i + 1) d ≡ high_summand (j + i) (slice_index_or cs i (pos 0))
unfolding summands_from
high-at j [] i d h = absurd (not-suc-le-zero h)
high-at j (c ∷ cs) zero d h = ap (λ (x : ℕ). high_summand x c) (sym (add-zero j))
high-at j (c ∷ cs) (suc i) d h =
    ap (λ (x : ℕ). get_or (low_summand j c ∷ (high_summand j c ∷ summands_from (suc j) cs)) x d) {x = 2 * suc i + 1} {y = suc (suc (2 * i + 1))} (omega arith)
    ∙ high-at (suc j) cs i d (le_of_suc-le-suc h)
    ∙ ap (λ (x : ℕ). high_summand x (slice_index_or cs i (pos 0))) (suc-add j i ∙ sym (add-suc j i))

-- ---- the limits

within_limits : (m h a b : ℕ) → m < 2 ^ a → h ≤ b → a ≤ 53 → b ≤ 2080 → a + b ≤ 2080 → T (limited m h)
within_limits m h a b hm hh ha hb hab =
    limited_in m h (omega (arith, pow_mono ha)) (omega arith)
    (le_trans (mul-le-mul (le_of_lt hm) (pow_mono hh)) (subst (λ (x : ℕ). x ≤ 2 ^ 2080) (pow-add 2 a b) (pow_mono hab)))

pub low-limited : (n j : ℕ) → j < 64 → T (limited (n % 2 ^ 32) (32 * j))
low-limited n j h = within_limits (n % 2 ^ 32) (32 * j) 32 2016 (omega arith) (omega arith) (lit≤ tt) (lit≤ tt) (lit≤ tt)

pub high-limited : (n j : ℕ) → n ≤ 67108864 * 4294967295 → j < 64 → T (limited (n / 2 ^ 32) (32 * j + 32))
high-limited n j l h = within_limits (n / 2 ^ 32) (32 * j + 32) 26 2048 (omega arith) (omega arith) (lit≤ tt) (lit≤ tt) (lit≤ tt)

-- ---- the sum

signed-size : (c : ℤ) → signed (int_lt c (pos 0)) (unsigned_abs c) ≡ c
signed-size (pos n) = ap (λ (b : Bool). signed b n) (le-ltb n 0 (omega arith))
signed-size (negsuc n) = refl

column_value : (c : ℤ) (j : ℕ) → unsigned_abs c ≤ 67108864 * 4294967295 → j < 64 → summand_units (low_summand j c) +ℤ summand_units (high_summand j c) ≡ c *ℤ pos (2 ^ (32 * j))
unfolding low_summand high_summand
column_value c j l h =
    let s = int_lt c (pos 0) in
    let n = unsigned_abs c in
    ap₂ ◌+ℤ◌ (summand_at-units s (n % 2 ^ 32) (32 * j) (low-limited n j h)) (summand_at-units s (n / 2 ^ 32) (32 * j + 32) (high-limited n j l h))
    ∙ signed_plus s (n % 2 ^ 32 * 2 ^ (32 * j)) (n / 2 ^ 32 * 2 ^ (32 * j + 32))
    ∙ ap (signed s) (ap (λ (x : ℕ). n % 2 ^ 32 * 2 ^ (32 * j) + n / 2 ^ 32 * x) (pow-add 2 (32 * j) 32) ∙ whole n (2 ^ (32 * j)))
    ∙ sym (signed_times s n (2 ^ (32 * j)))
    ∙ ap (λ (x : ℤ). x *ℤ pos (2 ^ (32 * j))) (signed-size c)
  where
    whole : (n w : ℕ) → n % 2 ^ 32 * w + n / 2 ^ 32 * (w * 2 ^ 32) ≡ n * w
    whole n w = let e : n % 2 ^ 32 + n / 2 ^ 32 * 2 ^ 32 ≡ n = omega arith in spread (n % 2 ^ 32) (n / 2 ^ 32) w ∙ ap (λ (x : ℕ). x * w) e
      where
        spread : (a b w : ℕ) → a * w + b * (w * 2 ^ 32) ≡ (a + b * 2 ^ 32) * w
        spread a b w = omega arith

pub summands_add_up : (j : ℕ) (cs : List ℤ) → ((i : ℕ) → unsigned_abs (slice_index_or cs i (pos 0)) ≤ 67108864 * 4294967295) → j + length cs ≤ 64 → sum_units (summands_from j cs) ≡ columns_from j cs
unfolding summands_from columns_from
summands_add_up j [] b l = refl
summands_add_up j (c ∷ cs) b l =
    sym (+ℤ_assoc (summand_units (low_summand j c)) (summand_units (high_summand j c)) (sum_units (summands_from (suc j) cs)))
    ∙ ap₂ ◌+ℤ◌ (column_value c j (b 0) (omega arith)) (summands_add_up (suc j) cs (λ i. b (suc i)) (omega arith))
