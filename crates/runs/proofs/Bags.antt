-- Bags: the exact sum is the sum of the entries, so it follows the net counts alone, and it keeps their order. Assumes nothing.
use Rattle.std.proofs.Common.{◌≡◌, ℕ, zero, suc, ◌*◌, ◌≤◌, Bool, true, false, cond, ◌||◌, List, [], ◌∷◌, ◌++◌, map, ℤ, pos, negsuc, ◌+ℤ◌, ◌-ℤ◌, ◌*ℤ◌, neg_ℤ, ◌≤ℤ◌, ◌<ℤ◌, sym, refl, ap, ◌∙◌, subst, ap₂, append-nil, mul-le-mul_left, arith}
use lib.IntN.{suc_ℤ, pred_ℤ, suc_ℤ-*ℤ, pred_ℤ-*ℤ, *ℤ_comm, +ℤ_one, -ℤ_one, +ℤ_assoc, +ℤ_comm, *ℤ-zero, zero-*ℤ}
use lib.Signed.{≤ℤ_refl}
use borrow.Author.Differences.{ints}
use Rattle.std.proofs.lemmas.Bool.{eqb-true, eq-eqb, false≢true, cond-true, or_left, or_right}
use Rattle.runs.specs.Bags.{Entry, same_ℤ, change, net_count, occurs, distinct, weighted, exact_sum, entry_units, entry_sum}

-- equality of integers as a test

pub same_true : (a b : ℤ) → same_ℤ a b ≡ true → a ≡ b
same_true (pos a) (pos b) h = ap pos (eqb-true a b h)
same_true (pos a) (negsuc b) h = absurd (false≢true h)
same_true (negsuc a) (pos b) h = absurd (false≢true h)
same_true (negsuc a) (negsuc b) h = ap negsuc (eqb-true a b h)

pub same_refl : (a : ℤ) → same_ℤ a a ≡ true
same_refl (pos a) = eq-eqb a a refl
same_refl (negsuc a) = eq-eqb a a refl

-- what an entry adds to a total

pub times_one_more : (v n : ℤ) → v *ℤ (n +ℤ pos 1) ≡ v *ℤ n +ℤ v
times_one_more v n = ap (λ (x : ℤ). v *ℤ x) (+ℤ_one n) ∙ *ℤ_comm v (suc_ℤ n) ∙ suc_ℤ-*ℤ n v ∙ ap (λ (x : ℤ). x +ℤ v) (*ℤ_comm n v)

pub times_one_less : (v n : ℤ) → v *ℤ (n +ℤ negsuc 0) ≡ v *ℤ n -ℤ v
times_one_less v n = ap (λ (x : ℤ). v *ℤ x) (-ℤ_one n) ∙ *ℤ_comm v (pred_ℤ n) ∙ pred_ℤ-*ℤ n v ∙ ap (λ (x : ℤ). x -ℤ v) (*ℤ_comm n v)

counted_once : (v n : ℤ) (w : Bool) → v *ℤ (n +ℤ change w) ≡ v *ℤ n +ℤ cond w (neg_ℤ v) v
counted_once v n false = times_one_more v n
counted_once v n true = times_one_less v n

-- how often a number stands in a list
tally : ℤ → List ℤ → ℕ
tally w [] = 0
tally w (v ∷ vs) = cond (same_ℤ w v) (suc (tally w vs)) (tally w vs)

swap_right : (a b c : ℤ) → (a +ℤ b) +ℤ c ≡ (a +ℤ c) +ℤ b
swap_right a b c = +ℤ_assoc a b c ∙ ap (λ (x : ℤ). a +ℤ x) (+ℤ_comm b c) ∙ sym (+ℤ_assoc a c b)

module _ (e : Entry) (bag : List Entry) where
  weighted_without : (vs : List ℤ) → tally e.value vs ≡ 0 → weighted (e ∷ bag) vs ≡ weighted bag vs
  unfolding weighted net_count tally
  weighted_without [] h = refl
  weighted_without (v ∷ vs) h = go (same_ℤ e.value v) h (weighted_without vs)
    where
      go : (b : Bool) → cond b (suc (tally e.value vs)) (tally e.value vs) ≡ 0 → (tally e.value vs ≡ 0 → weighted (e ∷ bag) vs ≡ weighted bag vs)
          → v *ℤ cond b (net_count bag v +ℤ change e.withdrawn) (net_count bag v) +ℤ weighted (e ∷ bag) vs ≡ v *ℤ net_count bag v +ℤ weighted bag vs
      go true k rest = absurd (omega arith)
      go false k rest = ap (λ (x : ℤ). v *ℤ net_count bag v +ℤ x) (rest k)

  -- where the entry's value stands once, the weighted sum grows by the entry
  weighted_once : (vs : List ℤ) → tally e.value vs ≡ 1 → weighted (e ∷ bag) vs ≡ weighted bag vs +ℤ entry_units e
  unfolding weighted net_count tally
  weighted_once [] h = absurd (omega arith)
  weighted_once (v ∷ vs) h = go (same_ℤ e.value v) refl h (weighted_once vs)
    where
      go : (b : Bool) → same_ℤ e.value v ≡ b → cond b (suc (tally e.value vs)) (tally e.value vs) ≡ 1 → (tally e.value vs ≡ 1 → weighted (e ∷ bag) vs ≡ weighted bag vs +ℤ entry_units e)
          → v *ℤ cond b (net_count bag v +ℤ change e.withdrawn) (net_count bag v) +ℤ weighted (e ∷ bag) vs ≡ (v *ℤ net_count bag v +ℤ weighted bag vs) +ℤ entry_units e
      go true s k rest =
          let same : v ≡ e.value = sym (same_true e.value v s) in
          ap₂ ◌+ℤ◌ (counted_once v (net_count bag v) e.withdrawn) (weighted_without vs (omega arith))
          ∙ swap_right (v *ℤ net_count bag v) (cond e.withdrawn (neg_ℤ v) v) (weighted bag vs)
          ∙ ap (λ (x : ℤ). (v *ℤ net_count bag v +ℤ weighted bag vs) +ℤ cond e.withdrawn (neg_ℤ x) x) same
      go false s k rest = ap (λ (x : ℤ). v *ℤ net_count bag v +ℤ x) (rest k) ∙ sym (+ℤ_assoc (v *ℤ net_count bag v) (weighted bag vs) (entry_units e))

-- every value of the bag stands once in the list
Covers : List ℤ → List Entry → Type 0
Covers vs [] = Unit {0}
Covers vs (e ∷ bag) = (tally e.value vs ≡ 1) × Covers vs bag

weighted-none : (vs : List ℤ) → weighted [] vs ≡ pos 0
unfolding weighted net_count
weighted-none [] = refl
weighted-none (v ∷ vs) = ap₂ ◌+ℤ◌ (*ℤ-zero v) (weighted-none vs)

-- the sum of the entries is the sum of each value times its net count, over any list in which each value stands once
weighted_is : (vs : List ℤ) (bag : List Entry) → Covers vs bag → weighted bag vs ≡ entry_sum bag
unfolding Covers entry_sum
weighted_is vs [] c = weighted-none vs
weighted_is vs (e ∷ bag) c = weighted_once e bag vs c.0 ∙ +ℤ_comm (weighted bag vs) (entry_units e) ∙ ap (λ (x : ℤ). entry_units e +ℤ x) (weighted_is vs bag c.1)

-- `distinct` has each value of a list once
tally_distinct : (w : ℤ) (vs : List ℤ) → tally w (distinct vs) ≡ cond (occurs w vs) 1 0
unfolding tally distinct occurs
tally_distinct w [] = refl
tally_distinct w (v ∷ vs) = go (occurs v vs) refl (same_ℤ w v) refl (tally_distinct w vs)
  where
    go : (b : Bool) → occurs v vs ≡ b → (s : Bool) → same_ℤ w v ≡ s → tally w (distinct vs) ≡ cond (occurs w vs) 1 0
        → tally w (cond b (distinct vs) (v ∷ distinct vs)) ≡ cond (s || occurs w vs) 1 0
    go true o true s ih = ih ∙ ap (λ (x : Bool). cond x 1 0) (ap (λ (x : ℤ). occurs x vs) (same_true w v s) ∙ o)
    go true o false s ih = ih
    go false o true s ih = ap (λ (x : Bool). cond x (suc (tally w (distinct vs))) (tally w (distinct vs))) s ∙ ap suc (ih ∙ ap (λ (x : Bool). cond x 1 0) (ap (λ (x : ℤ). occurs x vs) (same_true w v s) ∙ o))
    go false o false s ih = ap (λ (x : Bool). cond x (suc (tally w (distinct vs))) (tally w (distinct vs))) s ∙ ih

values : List Entry → List ℤ
values bag = map (λ e. e.value) bag

-- all values of a bag occur in a list
Within : List Entry → List ℤ → Type 0
Within [] vs = Unit {0}
Within (e ∷ bag) vs = (occurs e.value vs ≡ true) × Within bag vs

covers_distinct : (bag : List Entry) (vs : List ℤ) → Within bag vs → Covers (distinct vs) bag
unfolding Covers Within
covers_distinct [] vs h = tt
covers_distinct (e ∷ bag) vs h = (tally_distinct e.value vs ∙ cond-true _ _ _ h.0, covers_distinct bag vs h.1)

within_more : (bag : List Entry) (v : ℤ) (vs : List ℤ) → Within bag vs → Within bag (v ∷ vs)
unfolding Within occurs
within_more [] v vs h = tt
within_more (e ∷ bag) v vs h = (or_right (same_ℤ e.value v) (occurs e.value vs) h.0, within_more bag v vs h.1)

within_left : (bag : List Entry) (vs : List ℤ) → Within bag (values bag ++ vs)
unfolding Within occurs values
within_left [] vs = tt
within_left (e ∷ bag) vs = (or_left (same_ℤ e.value e.value) _ (same_refl e.value), within_more bag e.value (values bag ++ vs) (within_left bag vs))

within_right : (bag : List Entry) (us vs : List ℤ) → Within bag vs → Within bag (us ++ vs)
within_right bag [] vs h = h
within_right bag (u ∷ us) vs h = within_more bag u (us ++ vs) (within_right bag us vs h)

within_own : (bag : List Entry) → Within bag (values bag)
within_own bag = subst (Within bag) (append-nil (values bag)) (within_left bag [])

-- a list of distinct values that covers two bags
both : List Entry → List Entry → List ℤ
both a b = distinct (values a ++ values b)

covers_first : (a b : List Entry) → Covers (both a b) a
unfolding both
covers_first a b = covers_distinct a (values a ++ values b) (within_left a (values b))

covers_second : (a b : List Entry) → Covers (both a b) b
unfolding both
covers_second a b = covers_distinct b (values a ++ values b) (within_right b (values a) (values b) (within_own b))

-- the exact sum of a bag is the sum of its entries
pub sum_of_entries : (bag : List Entry) → exact_sum bag ≡ entry_sum bag
unfolding values
sum_of_entries bag = weighted_is (distinct (values bag)) bag (covers_distinct bag (values bag) (within_own bag))

-- equal net counts give equal sums
weighted-same : (a b : List Entry) → ((v : ℤ) → net_count a v ≡ net_count b v) → (vs : List ℤ) → weighted a vs ≡ weighted b vs
unfolding weighted
weighted-same a b h [] = refl
weighted-same a b h (v ∷ vs) = ap₂ ◌+ℤ◌ (ap (λ (x : ℤ). v *ℤ x) (h v)) (weighted-same a b h vs)

pub same_sums : (a b : List Entry) → ((v : ℤ) → net_count a v ≡ net_count b v) → entry_sum a ≡ entry_sum b
same_sums a b h = sym (weighted_is (both a b) a (covers_first a b)) ∙ weighted-same a b h (both a b) ∙ weighted_is (both a b) b (covers_second a b)

-- more of what is above zero, and the same of what is below, gives no lower sum
scaled : (k a b : ℕ) → a ≤ b → (pos (k * a) ≤ℤ pos (k * b)) × (neg_ℤ (pos (k * b)) ≤ℤ neg_ℤ (pos (k * a)))
scaled k a b h = let m : k * a ≤ k * b = mul-le-mul_left k h in (omega (arith, ints), omega (arith, ints))

times_above : (n : ℕ) (x y : ℤ) → x ≤ℤ y → (pos (suc n) *ℤ x) ≤ℤ (pos (suc n) *ℤ y)
times_above n (pos a) (pos b) h = (scaled (suc n) a b (omega (arith, ints))).0
times_above n (pos a) (negsuc b) h = absurd (omega (arith, ints))
times_above n (negsuc a) (pos b) h = omega (arith, ints)
times_above n (negsuc a) (negsuc b) h = (scaled (suc n) (suc b) (suc a) (omega (arith, ints))).1

term_order : (v x y : ℤ) → (pos 0 <ℤ v → x ≤ℤ y) → (v <ℤ pos 0 → x ≡ y) → (v *ℤ x) ≤ℤ (v *ℤ y)
term_order (pos zero) x y h k = subst (λ (z : ℤ). z ≤ℤ (pos 0 *ℤ y)) (sym (zero-*ℤ x)) (subst (λ (z : ℤ). pos 0 ≤ℤ z) (sym (zero-*ℤ y)) (≤ℤ_refl (pos 0)))
term_order (pos (suc n)) x y h k = times_above n x y (h (omega (arith, ints)))
term_order (negsuc n) x y h k = subst (λ (z : ℤ). (negsuc n *ℤ x) ≤ℤ (negsuc n *ℤ z)) (k (omega (arith, ints))) (≤ℤ_refl (negsuc n *ℤ x))

weighted-order : (a b : List Entry) → ((v : ℤ) → pos 0 <ℤ v → net_count a v ≤ℤ net_count b v) → ((v : ℤ) → v <ℤ pos 0 → net_count a v ≡ net_count b v)
    → (vs : List ℤ) → weighted a vs ≤ℤ weighted b vs
unfolding weighted
weighted-order a b h k [] = ≤ℤ_refl (pos 0)
weighted-order a b h k (v ∷ vs) =
    let p = term_order v (net_count a v) (net_count b v) (h v) (k v) in
    let q = weighted-order a b h k vs in
    omega (arith, ints)

pub ordered_sums : (a b : List Entry) → ((v : ℤ) → pos 0 <ℤ v → net_count a v ≤ℤ net_count b v) → ((v : ℤ) → v <ℤ pos 0 → net_count a v ≡ net_count b v)
    → entry_sum a ≤ℤ entry_sum b
ordered_sums a b h k =
    subst (λ (x : ℤ). x ≤ℤ entry_sum b) (weighted_is (both a b) a (covers_first a b))
    (subst (λ (x : ℤ). weighted a (both a b) ≤ℤ x) (weighted_is (both a b) b (covers_second a b)) (weighted-order a b h k (both a b)))
