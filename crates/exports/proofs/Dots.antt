-- A run that takes two slices and is read gives the answer of a dot product. Assumes nothing.
use Rattle.std.proofs.Common.{◌≡◌, ℕ, false, List, ℤ, pos, ◌+ℤ◌, Ok, Err, Option, Result, sym, ap, ◌∙◌, subst}
use lib.IntN.{+ℤ_idl}
use Rattle.condensers.specs.declared.condenser.Condenser.{Ghosts as Condenser}
use Rattle.numbers.specs.declared.refusal.Refusal.{Refusal}
use Rattle.readings.specs.declared.forms.Form.{Form}
use Rattle.readings.specs.Readings.{Reads}
use Rattle.runs.specs.Bags.{entry_sum}
use Rattle.runs.specs.Calls.{Outcome, accepted, refused, Says, After, Made, slices, slices_outcome, product_entries}
use Rattle.runs.proofs.Bags.{sum_of_entries}
use Rattle.exports.specs.Answers.{ReadsProducts, DotInForm}

module _ {C : Type 0} (m : Condenser C) (room : m.capacity ≡ 67108864) (before after : C) (form : Form) (xs ys : List (Option ℤ)) (none : m.count before ≡ 0) where
  -- by the rules for a run that has no products yet
  at_none : (r : Result ℕ Refusal) → ReadsProducts form (slices_outcome m.capacity (m.count before) xs ys) xs ys r → DotInForm form xs ys r
  at_none r h = subst (λ (n : ℕ). ReadsProducts form (slices_outcome 67108864 n xs ys) xs ys r) none (subst (λ (c : ℕ). ReadsProducts form (slices_outcome c (m.count before) xs ys) xs ys r) room h)

  pub dot_refused : (e : Refusal) → Made m before after (slices false xs ys) (Err e) → DotInForm form xs ys (Err e)
  dot_refused e made = at_none (Err e) (go (slices_outcome m.capacity (m.count before) xs ys) made.answer)
    where
      go : (o : Outcome) → Says o (Err e) → ReadsProducts form o xs ys (Err e)
      go accepted s = absurd s
      go (refused code place side) s = s

  pub dot_read : (r : Result ℕ Refusal) (sealed : C) → sealed ≡ after → m.total before ≡ pos 0 → Made m before after (slices false xs ys) (Ok tt) → Reads form (m.total sealed) r
      → DotInForm form xs ys r
  dot_read r sealed same zero made reads = at_none r (go (slices_outcome m.capacity (m.count before) xs ys) made.answer made.after_is)
    where
      go : (o : Outcome) → Says o (Ok tt) → After m before after o (product_entries false xs ys) → ReadsProducts form o xs ys r
      go accepted s a =
          subst (λ (x : ℤ). Reads form x r) (ap m.total same ∙ a.0 ∙ ap (λ (x : ℤ). x +ℤ entry_sum (product_entries false xs ys)) zero ∙ +ℤ_idl (entry_sum (product_entries false xs ys)) ∙ sym (sum_of_entries (product_entries false xs ys))) reads
      go (refused code place side) s a = absurd s
