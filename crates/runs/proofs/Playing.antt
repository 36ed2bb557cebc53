-- Playing calls: a condenser goes on holding the bag of the calls that were made, and the buffer the answers. Assumes nothing.
use Rattle.std.proofs.Common.{◌≡◌, ℕ, zero, suc, ◌+◌, ◌<◌, ◌≤◌, cond, ltb, ◌⊎◌, List, [], ◌∷◌, ◌++◌, map, length, get_or, drop, set, ℤ, pos, ◌+ℤ◌, Result, sym, refl, ap, ◌∙◌, subst, inl, inr, add-one, arith, length-append, length-set, drop_of_length-le, drop-cons}
use lib.IntN.{+ℤ_assoc, +ℤ_idl, +ℤ_comm}
use Rattle.std.proofs.lemmas.Bool.{cases_lt, lt-ltb, le-ltb, cond-true, cond-false}
use Rattle.condensers.specs.declared.condenser.Condenser.{Ghosts as Condenser}
use Rattle.numbers.specs.declared.refusal.Refusal.{Refusal}
use Rattle.runs.specs.declared.queue.Answer.{Answer}
use Rattle.runs.specs.declared.queue.Leg.{Leg}
use Rattle.runs.specs.Bags.{Entry, entry_units, entry_sum, exact_sum}
use Rattle.runs.specs.Calls.{Outcome, accepted, refused, Says, ValueCall, call_outcome, offered, After, Made}
use Rattle.runs.specs.Queues.{entered, bag_after, bag_from, bag_of, answer_of, answers_from, answers_of, written, value_call, calls_of, Holds, Resumes}
use Rattle.runs.proofs.Bags.{sum_of_entries}

-- the buffer of answers

pub set_past : {A : Type 0} (l : List A) (i : ℕ) (a : A) → length l ≤ i → set l i a ≡ l
set_past [] i a h = refl
set_past (x ∷ xs) zero a h = absurd (omega arith)
set_past (x ∷ xs) (suc i) a h = ap (λ l. x ∷ l) (set_past xs i a (omega arith))

written_past : (buffer : List Answer) (k : ℕ) (more : List Answer) → length buffer ≤ k → written buffer k more ≡ buffer
unfolding written
written_past buffer k [] h = refl
written_past buffer k (a ∷ more) h =
    let stays = set_past buffer k a h in
    let further : length (set buffer k a) ≤ k + 1 = omega (arith, length-set buffer k a) in
    written_past (set buffer k a) (k + 1) more further ∙ stays

-- the place behind a note: the next one, or where it was past the end of the buffer
pub note_next : (buffer : List Answer) (k r : ℕ) (a : Answer) (more : List Answer) → r ≡ cond (ltb k (length buffer)) (k + 1) k
    → written buffer k (a ∷ more) ≡ written (set buffer k a) r more
unfolding written
note_next buffer k r a more h = go (cases_lt k (length buffer))
  where
    go : (k < length buffer) ⊎ (length buffer ≤ k) → written (set buffer k a) (k + 1) more ≡ written (set buffer k a) r more
    go (inl l) = ap (λ (x : ℕ). written (set buffer k a) x more) (sym (h ∙ cond-true _ _ _ (lt-ltb k (length buffer) l)))
    go (inr l) =
        let is : r ≡ k = h ∙ cond-false _ _ _ (le-ltb k (length buffer) l) in
        let past : length (set buffer k a) ≤ k = omega (arith, length-set buffer k a) in
        let further : length (set buffer k a) ≤ k + 1 = omega arith in
        written_past (set buffer k a) (k + 1) more further ∙ sym (ap (λ (x : ℕ). written (set buffer k a) x more) is ∙ written_past (set buffer k a) k more past)

-- bags

pub sum-append : (a b : List Entry) → entry_sum (a ++ b) ≡ entry_sum a +ℤ entry_sum b
unfolding entry_sum
sum-append [] b = sym (+ℤ_idl (entry_sum b))
sum-append (e ∷ a) b = ap (λ (x : ℤ). entry_units e +ℤ x) (sum-append a b) ∙ sym (+ℤ_assoc (entry_units e) (entry_sum a) (entry_sum b))

module _ {C : Type 0} (m : Condenser C) where
  -- a call takes a condenser that holds a bag to one that holds the bag after the call
  pub made_holds : (before after : C) (call : ValueCall) (r : Result (Unit {0}) Refusal) (bag : List Entry)
      → Made m before after call r → Holds m before bag → Holds m after (bag_after m.capacity bag call)
  made_holds before after call r bag made h =
      subst (λ (n : ℕ). Holds m after (entered (call_outcome m.capacity n call) (offered call) ++ bag)) h.count_is
      (go (call_outcome m.capacity (m.count before) call) made.after_is)
    where
      go : (o : Outcome) → After m before after o (offered call) → Holds m after (entered o (offered call) ++ bag)
      go accepted a =
          record {
            total_is = a.0 ∙ +ℤ_comm (m.total before) (entry_sum (offered call)) ∙ ap (λ (x : ℤ). entry_sum (offered call) +ℤ x) h.total_is ∙ sym (sum-append (offered call) bag);
            count_is = omega (arith, a.1, h.count_is, length-append (offered call) bag);
          }
      go (refused code place side) a = subst (λ (c : C). Holds m c bag) (sym a) h

  -- one call more
  pub resumes_step : (whole : List ValueCall) (bag : List Entry) (buffer : List Answer) (place : ℕ) (call : ValueCall) (left : List ValueCall)
      (before after : C) (noted : List Answer) (next next' : ℕ) (r : Result (Unit {0}) Refusal) (a : Answer)
      → Resumes m whole bag buffer place (call ∷ left) before noted next
      → Made m before after call r
      → ((o : Outcome) → Says o r → a ≡ answer_of o)
      → next' ≡ cond (ltb next (length noted)) (next + 1) next
      → Resumes m whole bag buffer place left after (set noted next a) next'
  unfolding bag_from answers_from
  resumes_step whole bag buffer place call left before after noted next next' r a s made says n =
      record {
        now_in = bag_after m.capacity s.now_in call;
        holds = made_holds before after call r s.now_in made s.holds;
        same_bag = s.same_bag;
        same_answers = s.same_answers ∙ ap (λ (x : Answer). written noted next (x ∷ answers_from m.capacity (bag_after m.capacity s.now_in call) left)) (sym answer_is) ∙ note_next noted next next' a _ n;
      }
    where
      answer_is : a ≡ answer_of (call_outcome m.capacity (length s.now_in) call)
      answer_is = says _ made.answer ∙ ap (λ (k : ℕ). answer_of (call_outcome m.capacity k call)) s.holds.count_is

-- the next of the calls that are left, and the end of them
pub next_left : {A : Type 0} (f : A → ValueCall) (xs : List A) (i : ℕ) (d : A) (rest : List ValueCall) → i < length xs
    → (map f (drop i xs) ++ rest) ≡ f (get_or xs i d) ∷ (map f (drop (i + 1) xs) ++ rest)
next_left f xs i d rest h = ap (λ ys. map f ys ++ rest) (drop-cons xs i d h ∙ ap (λ (k : ℕ). get_or xs i d ∷ drop k xs) (sym (add-one i)))

pub none_left : {A : Type 0} (f : A → ValueCall) (xs : List A) (i : ℕ) (rest : List ValueCall) → length xs ≤ i → (map f (drop i xs) ++ rest) ≡ rest
none_left f xs i rest h = ap (λ ys. map f ys ++ rest) (drop_of_length-le xs h)

-- one part of a queue after another
module _ {C : Type 0} (m : Condenser C) where
  pub resumes_on : (whole : List ValueCall) (bag : List Entry) (buffer : List Answer) (place : ℕ) (middle left : List ValueCall) (c c' : C) (noted noted' : List Answer) (next next' : ℕ)
      (s : Resumes m whole bag buffer place middle c noted next) → Resumes m middle s.now_in noted next left c' noted' next'
      → Resumes m whole bag buffer place left c' noted' next'
  resumes_on whole bag buffer place middle left c c' noted noted' next next' s t =
      record { now_in = t.now_in; holds = t.holds; same_bag = s.same_bag ∙ t.same_bag; same_answers = s.same_answers ∙ t.same_answers }

  -- a queue is begun with an empty bag
  pub resumes_none : (whole : List ValueCall) (buffer : List Answer) (c : C) → m.total c ≡ pos 0 → m.count c ≡ 0 → Resumes m whole [] buffer 0 whole c buffer 0
  unfolding entry_sum
  resumes_none whole buffer c t n = record { now_in = []; holds = record { total_is = t; count_is = n }; same_bag = refl; same_answers = refl }

  -- and ends with nothing left
  pub resumes_all : (whole : List ValueCall) (buffer : List Answer) (c : C) (noted : List Answer) (next : ℕ) → Resumes m whole [] buffer 0 [] c noted next
      → (m.total c ≡ exact_sum (bag_of m.capacity whole)) × (m.count c ≡ length (bag_of m.capacity whole)) × (noted ≡ written buffer 0 (answers_of m.capacity whole))
  unfolding bag_from answers_from written
  resumes_all whole buffer c noted next s = (
    s.holds.total_is ∙ ap entry_sum (sym s.same_bag) ∙ sym (sum_of_entries (bag_of m.capacity whole)),
    s.holds.count_is ∙ ap length (sym s.same_bag),
    sym s.same_answers,
  )

pub next_leg : (queue : List Leg) (i : ℕ) (d : Leg) → i < length queue → calls_of (drop i queue) ≡ map value_call (get_or queue i d).calls.now ++ calls_of (drop (i + 1) queue)
unfolding calls_of
next_leg queue i d h = ap calls_of (drop-cons queue i d h ∙ ap (λ (k : ℕ). get_or queue i d ∷ drop k queue) (sym (add-one i)))

pub no_leg : (queue : List Leg) (i : ℕ) → length queue ≤ i → calls_of (drop i queue) ≡ []
unfolding calls_of
no_leg queue i h = ap calls_of (drop_of_length-le queue h)
