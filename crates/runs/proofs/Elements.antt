-- Elements: how the answer of a kind settles the outcome of an element, and of the elements of two slices. Assumes nothing.
use Rattle.std.proofs.Common.{◌≡◌, ℕ, zero, suc, ◌+◌, ◌-◌, ◌*◌, ◌/◌, ◌^◌, ◌<◌, ◌≤◌, Bool, false, cond, eqb, ltb, ◌⊎◌, List, [], ◌∷◌, map, length, get_or, drop, ℤ, pos, negsuc, ◌+ℤ◌, ◌*ℤ◌, neg_ℤ, Some, None, Ok, Err, Option, Result, sym, refl, ap, ◌∙◌, subst, ap₂, inl, inr, mul-pos, mul-div_cancel, add-one, arith, drop_of_length-le, drop-cons, pow_pos}
use Rattle.std.specs.Prelude.{MatchResult}
use native.Mathlib.Nat.{zero-div}
use lib.IntN.{+ℤ_assoc}
use lib.ListN.{length-map}
use lib.Signed.{quot_z}
use Rattle.std.proofs.lemmas.Bool.{eq-eqb, ne_eqb, lt-ltb, le-ltb, cond-true, cond-false, cases_lt, cases_order}
use Rattle.condensers.specs.declared.condenser.Condenser.{Ghosts as Condenser}
use Rattle.numbers.specs.declared.factor.Factor.{Factor}
use Rattle.numbers.specs.declared.piece.Piece.{Piece}
use Rattle.numbers.specs.declared.refusal.Reason.{Reason}
use Rattle.numbers.specs.declared.refusal.Refusal.{Refusal}
use Rattle.numbers.specs.declared.refusal.Side.{Side}
use Rattle.numbers.specs.Acceptance.{Answers, element_code}
use Rattle.numbers.specs.Products.{factor_units, piece_units, one_units}
use Rattle.numbers.specs.Refusals.{side_of}
use Rattle.numbers.specs.Units.{rank, units}
use Rattle.numbers.proofs.Tested.{answer-code, code-above}
use Rattle.runs.specs.Calls.{Outcome, accepted, refused, Says, ◌and_then◌, lengths_outcome, room_outcome, element_outcome, pair_outcome, elements_outcome, product_value, product_entries, slices_outcome, FactorAt, PieceOf, After}
use Rattle.runs.specs.Bags.{Entry, entry_sum}

-- one element

pub factor-accepted : (x : Option ℤ) (f : Factor) (place side : ℕ) → Answers x (Ok f) → FactorAt x place side (Ok f)
factor-accepted x f place side h = (cond-true _ _ _ (eq-eqb (element_code x) 0 (sym (answer-code x (Ok f) h))), value_is x h)
  where
    value_is : (y : Option ℤ) → Answers y (Ok f) → y ≡ Some (factor_units f)
    value_is None k = absurd k
    value_is (Some v) k = ap Some (sym k.1)

pub factor-refused : (x : Option ℤ) (e : Refusal) (side : ℕ) → Answers x (Err e.reason) → side_of e.side ≡ side → FactorAt x e.place side (Err e)
factor-refused x e side h s =
    let p = code-above e.reason in
    let code = answer-code x (Err e.reason) h in
    let no : eqb (element_code x) 0 ≡ false = ne_eqb (element_code x) 0 (λ z. omega arith) in
    subst (λ (b : Bool). Says (cond b accepted (refused (element_code x) e.place side)) (Err e)) (sym no) (code, refl, s)

-- a kind's answer with its reason made a refusal
pub factor_told : {Made : Factor → Type 0} {Missed : Reason → Type 0} (x : Option ℤ) (place : ℕ) (side : Side) (r : Result Factor Reason) (s : Result Factor Refusal) → Answers x r
    → MatchResult r Made Missed → ((f : Factor) → Made f → s ≡ Ok f) → ((e : Reason) → Missed e → s ≡ Err (record { reason = e; place = place; side = side })) → FactorAt x place (side_of side) s
factor_told x place side (Ok f) s h by ok err = subst (λ (t : Result Factor Refusal). FactorAt x place (side_of side) t) (sym (ok f by)) (factor-accepted x f place (side_of side) h)
factor_told x place side (Err e) s h by ok err =
    subst (λ (t : Result Factor Refusal). FactorAt x place (side_of side) t) (sym (err e by)) (factor-refused x (record { reason = e; place = place; side = side }) (side_of side) h refl)

-- tests in order

pub says_ok : (a : Outcome) (u : Unit {0}) → Says a (Ok u) → a ≡ accepted
says_ok accepted u h = refl
says_ok (refused code place side) u h = absurd h

pub passed : (a b : Outcome) → a ≡ accepted → (a and_then b) ≡ b
passed a b h = ap (λ (x : Outcome). x and_then b) h

pub says_first : (a b : Outcome) (e : Refusal) → Says a (Err e) → Says (a and_then b) (Err e)
says_first accepted b e h = absurd h
says_first (refused code place side) b e h = h

pub says_second : (a b : Outcome) (r : Result (Unit {0}) Refusal) → a ≡ accepted → Says b r → Says (a and_then b) r
says_second a b r h s = subst (λ (x : Outcome). Says x r) (sym (passed a b h)) s

-- products

one_is : one_units ≡ pos (1 * 2 ^ rank (pos 0))
unfolding units
one_is = refl

negative-quotient : (k n : ℕ) → quot_z (neg_ℤ (pos k)) (pos n) ≡ neg_ℤ (pos (k / n))
negative-quotient zero n = simp zero-div
negative-quotient (suc k) n = refl

quotient : (v : ℤ) (n : ℕ) → 0 < n → quot_z (v *ℤ pos n) (pos n) ≡ v
quotient (pos a) n h = ap pos (mul-div_cancel a h)
quotient (negsuc a) n h = negative-quotient (suc a * n) n ∙ ap (λ (k : ℕ). neg_ℤ (pos k)) (mul-div_cancel (suc a) h)

pub product_is : (x y v : ℤ) → v *ℤ one_units ≡ x *ℤ y → quot_z (x *ℤ y) one_units ≡ v
product_is x y v h = ap (λ (z : ℤ). quot_z z one_units) (sym h) ∙ ap (λ (o : ℤ). quot_z (v *ℤ o) o) one_is ∙ quotient v (1 * 2 ^ rank (pos 0)) (mul-pos (omega arith) (pow_pos (rank (pos 0))))

pub piece_accepted : (x y : Option ℤ) (p q : ℕ) (a b : Factor) (r : Piece) → FactorAt x p 1 (Ok a) → FactorAt y q 2 (Ok b)
    → piece_units r *ℤ one_units ≡ factor_units a *ℤ factor_units b → PieceOf x p y q (Ok r)
unfolding product_value
piece_accepted x y p q a b r ha hb h = (passed (element_outcome x p 1) (element_outcome y q 2) ha.0 ∙ hb.0, value_is)
  where
    value_is : piece_units r ≡ product_value x y
    value_is = sym (product_is (factor_units a) (factor_units b) (piece_units r) h) ∙ ap₂ product_value (sym ha.1) (sym hb.1)

-- the elements of one more index

pub head_is : {X : Type 0} (xs : List X) (i : ℕ) (x : X) → i < length xs → x ≡ get_or xs i x → drop i xs ≡ x ∷ drop (i + 1) xs
head_is xs i x h e = drop-cons xs i x h ∙ ap₂ ◌∷◌ (sym e) (ap (λ (k : ℕ). drop k xs) (sym (add-one i)))

module _ {X Y : Type 0} (value : X → Option ℤ) (valued : Y → Option ℤ) (xs : List X) (ys : List Y) (i : ℕ) (x : X) (y : Y) where
  pub elements_step : i < length xs → i < length ys → x ≡ get_or xs i x → y ≡ get_or ys i y
      → elements_outcome i (map value (drop i xs)) (map valued (drop i ys))
      ≡ (pair_outcome (value x) i (valued y) i and_then elements_outcome (i + 1) (map value (drop (i + 1) xs)) (map valued (drop (i + 1) ys)))
  unfolding elements_outcome
  elements_step hx hy ex ey =
      ap₂ (λ (us : List X) (vs : List Y). elements_outcome i (map value us) (map valued vs)) (head_is xs i x hx ex) (head_is ys i y hy ey)
      ∙ ap (λ (k : ℕ). pair_outcome (value x) i (valued y) i and_then elements_outcome k (map value (drop (i + 1) xs)) (map valued (drop (i + 1) ys))) (sym (add-one i))

pub elements_end : {X : Type 0} (value : X → Option ℤ) (xs : List X) (i : ℕ) (ys : List (Option ℤ)) → length xs ≤ i → elements_outcome i (map value (drop i xs)) ys ≡ accepted
unfolding elements_outcome
elements_end value xs i ys h = ap (λ us. elements_outcome i (map value us) ys) (drop_of_length-le xs h)

abbrev IsRefusal : Outcome → Type 0
IsRefusal accepted = ⊥
IsRefusal (refused c p s) = Unit {0}

refusal_differs : (c p s : ℕ) → refused c p s ≡ accepted → ⊥
refusal_differs c p s e = subst IsRefusal e tt

pub both-accepted : (a b : Outcome) → (a and_then b) ≡ accepted → (a ≡ accepted) × (b ≡ accepted)
both-accepted accepted b h = (refl, h)
both-accepted (refused code place side) b h = absurd (refusal_differs code place side h)

-- where the elements from i on are accepted, so are the two at i and those behind them
module _ {X Y : Type 0} (value : X → Option ℤ) (valued : Y → Option ℤ) (xs : List X) (ys : List Y) (i : ℕ) (x : X) (y : Y) where
  pub elements_turn : i < length xs → i < length ys → x ≡ get_or xs i x → y ≡ get_or ys i y
      → elements_outcome i (map value (drop i xs)) (map valued (drop i ys)) ≡ accepted
      → (pair_outcome (value x) i (valued y) i ≡ accepted) × (elements_outcome (i + 1) (map value (drop (i + 1) xs)) (map valued (drop (i + 1) ys)) ≡ accepted)
  elements_turn hx hy ex ey h = both-accepted _ _ (sym (elements_step value valued xs ys i x y hx hy ex ey) ∙ h)

pub not_both : (a : Outcome) (e : Refusal) → a ≡ accepted → Says a (Err e) → ⊥
not_both a e h s = subst (λ (o : Outcome). Says o (Err e)) h s

-- the products of two slices

entries_length : (w : Bool) (xs ys : List (Option ℤ)) → length xs ≡ length ys → length (product_entries w xs ys) ≡ length xs
unfolding product_entries
entries_length w [] ys h = refl
entries_length w (x ∷ xs) [] h = absurd (omega arith)
entries_length w (x ∷ xs) (y ∷ ys) h = ap suc (entries_length w xs ys (omega arith))

module _ {X Y : Type 0} (value : X → Option ℤ) (valued : Y → Option ℤ) (w : Bool) (xs : List X) (ys : List Y) where
  pub entries_count : length xs ≡ length ys → length (product_entries w (map value xs) (map valued ys)) ≡ length xs
  entries_count h = entries_length w (map value xs) (map valued ys) (length-map xs value ∙ h ∙ sym (length-map ys valued)) ∙ length-map xs value

  pub entries_step : (i : ℕ) (x : X) (y : Y) → i < length xs → i < length ys → x ≡ get_or xs i x → y ≡ get_or ys i y
      → entry_sum (product_entries w (map value (drop i xs)) (map valued (drop i ys)))
      ≡ cond w (neg_ℤ (product_value (value x) (valued y))) (product_value (value x) (valued y)) +ℤ entry_sum (product_entries w (map value (drop (i + 1) xs)) (map valued (drop (i + 1) ys)))
  unfolding product_entries entry_sum
  entries_step i x y hx hy ex ey = ap₂ (λ (us : List X) (vs : List Y). entry_sum (product_entries w (map value us) (map valued vs))) (head_is xs i x hx ex) (head_is ys i y hy ey)

  pub entries_end : (i : ℕ) → length xs ≤ i → entry_sum (product_entries w (map value (drop i xs)) (map valued (drop i ys))) ≡ pos 0
  unfolding product_entries entry_sum
  entries_end i h = ap (λ (us : List X). entry_sum (product_entries w (map value us) (map valued (drop i ys)))) (drop_of_length-le xs h)

-- one piece more, of the whole that is to be put
pub put_turn : (before after piece v rest whole : ℤ) → after ≡ before +ℤ piece → piece ≡ v → before +ℤ (v +ℤ rest) ≡ whole → after +ℤ rest ≡ whole
put_turn before after piece v rest whole a p h = ap (λ (x : ℤ). x +ℤ rest) (a ∙ ap (λ (x : ℤ). before +ℤ x) p) ∙ +ℤ_assoc before v rest ∙ h

-- two slices as a whole

pub same_length : (m n : ℕ) → lengths_outcome m n ≡ accepted → m ≡ n
same_length m n h = go (cases_order m n)
  where
    go : (m ≡ n) ⊎ ((m < n) ⊎ (n < m)) → m ≡ n
    go (inl e) = e
    go (inr (inl l)) = absurd (refusal_differs _ _ _ (sym (cond-true (ltb m n) _ _ (lt-ltb m n l)) ∙ h))
    go (inr (inr l)) = absurd (refusal_differs _ _ _ (sym (cond-false (ltb m n) _ _ (le-ltb m n (omega arith)) ∙ cond-true (ltb n m) _ _ (lt-ltb n m l)) ∙ h))

pub room_left : (capacity count n : ℕ) → count ≤ capacity → room_outcome capacity count n ≡ accepted → count + n ≤ capacity
room_left capacity count n within h = go (cases_lt (capacity - count) n)
  where
    go : (capacity - count < n) ⊎ (n ≤ capacity - count) → count + n ≤ capacity
    go (inl l) = absurd (refusal_differs _ _ _ (sym (cond-true (ltb (capacity - count) n) _ _ (lt-ltb (capacity - count) n l)) ∙ h))
    go (inr l) = omega arith

module _ {X Y : Type 0} (value : X → Option ℤ) (valued : Y → Option ℤ) (capacity count : ℕ) (xs : List X) (ys : List Y) where
  -- the tests by the slices' own lengths
  pub slices_is : slices_outcome capacity count (map value xs) (map valued ys)
      ≡ (lengths_outcome (length xs) (length ys) and_then room_outcome capacity count (length xs) and_then elements_outcome 0 (map value xs) (map valued ys))
  slices_is = ap₂ (λ (m n : ℕ). lengths_outcome m n and_then room_outcome capacity count m and_then elements_outcome 0 (map value xs) (map valued ys)) (length-map xs value) (length-map ys valued)

  pub slices-accepted : count ≤ capacity → slices_outcome capacity count (map value xs) (map valued ys) ≡ accepted
      → (length xs ≡ length ys) × (count + length xs ≤ capacity) × (elements_outcome 0 (map value xs) (map valued ys) ≡ accepted)
  slices-accepted within h =
      let p = both-accepted (lengths_outcome (length xs) (length ys)) _ (sym slices_is ∙ h) in
      let q = both-accepted (room_outcome capacity count (length xs)) _ p.1 in
      (same_length (length xs) (length ys) p.0, room_left capacity count (length xs) within q.0, q.1)

-- what a call leaves, by its outcome

module _ {C : Type 0} (m : Condenser C) (before : C) (o : Outcome) (es : List Entry) where
  pub refused_after : (e : Refusal) → Says o (Err e) → After m before before o es
  refused_after e s = go o s
    where
      go : (p : Outcome) → Says p (Err e) → After m before before p es
      go accepted k = absurd k
      go (refused code place side) k = refl

  pub accepted_after : (after : C) → o ≡ accepted → After m before after accepted es → After m before after o es
  accepted_after after h a = subst (λ (p : Outcome). After m before after p es) (sym h) a
