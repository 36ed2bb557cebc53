-- Bags settle readings: equal bags the same bits, and more positive products none lower. Assumes nothing.
use Rattle.std.proofs.Common.{◌≡◌, ℕ, List, ℤ, ◌≤ℤ◌, sym, ◌∙◌, subst}
use lib.Ieee.{binary64}
use Rattle.readings.specs.declared.forms.Direction.{Direction}
use Rattle.readings.specs.Rounding.{Rounds}
use Rattle.readings.proofs.Rules.{rounding_laws_lem}
use Rattle.runs.specs.Bags.{Entry, entry_sum, exact_sum}
use Rattle.runs.specs.Agreement.{SameBag, AtLeast, Agree, AgreementByValues}
use Rattle.runs.proofs.Bags.{sum_of_entries, same_sums, ordered_sums}

exact_same : (a b : List Entry) → SameBag a b → exact_sum a ≡ exact_sum b
exact_same a b h = sum_of_entries a ∙ same_sums a b h ∙ sym (sum_of_entries b)

exact-order : (a b : List Entry) → AtLeast a b → exact_sum b ≤ℤ exact_sum a
exact-order a b h =
    subst (λ (x : ℤ). x ≤ℤ exact_sum a) (sym (sum_of_entries b)) (subst (λ (x : ℤ). entry_sum b ≤ℤ x) (sym (sum_of_entries a)) (ordered_sums b a h.0 h.1))

pub agree : (d : Direction) (a b : List Entry) (p q : ℕ) → Rounds binary64 d (exact_sum a) p → Rounds binary64 d (exact_sum b) q → Agree d a b p q
agree d a b p q rp rq =
    record {
      first = rp;
      second = rq;
      same = λ h. rounding_laws_lem.at_most_one binary64 d (exact_sum b) p q (subst (λ (x : ℤ). Rounds binary64 d x p) (exact_same a b h) rp) rq;
      order = λ h u v eu ev. rounding_laws_lem.keeps_order binary64 d (exact_sum b) (exact_sum a) q p v u (exact-order a b h) rq rp ev eu;
    }

pub agreement_by_values_lem : AgreementByValues
agreement_by_values_lem d capacity capacity' calls calls' p q rp rq = agree d _ _ p q rp rq
