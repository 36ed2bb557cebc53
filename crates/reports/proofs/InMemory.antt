-- Reports that are put one behind the other into a slice. Assumes nothing.
use Rattle.std.proofs.Common.{◌≡◌, ℕ, suc, ◌+◌, ◌-◌, ◌^◌, ◌<◌, ◌≤◌, min, Bool, true, false, cond, eqb, leb, List, [], ◌∷◌, ◌++◌, length, take, drop, sym, refl, ap, ◌∙◌, subst, ap₂, append_assoc, append-nil, arith, length-append, length-drop, length-take, leb-false, leb-true}
use lib.Seq.{take-append_seam, drop-append_seam}
use lib.Ieee.{binary64}
use borrow.Rule.Slice.PartMut.{put_mid}
use Rattle.std.proofs.lemmas.List.{drop-drop, drop_all}
use Rattle.readings.specs.declared.forms.Direction.TheVariants.{Nearest}
use Rattle.readings.proofs.Rules.{at_most_one}
use Rattle.sheets.specs.Outputs.{handed}
use Rattle.sheets.specs.Reports.{refused_report, sum_report}
use Rattle.sheets.specs.Splitting.{ended, longer, sheet_lines}
use Rattle.sheets.proofs.Outputs.{handed_fits, handed-short}
use Rattle.reports.specs.declared.sheet.RefusedLine.{RefusedLine}
use Rattle.runs.specs.Bags.{exact_sum}
use Rattle.reports.specs.InMemory.{refused_reports, SheetReport, Filled, Appends}
use Rattle.reports.specs.Sheets.{refusals, lines_bag}
use Rattle.reports.proofs.Standing.{left_is}

-- a slice keeps its length when a text is handed to it
length-handed : (text before : List ℕ) → length (handed text before) ≡ length before
length-handed text before = go (leb (length text) (length before)) refl
  where
    go : (b : Bool) → leb (length text) (length before) ≡ b → length (handed text before) ≡ length before
    go true e =
        let fits : length text ≤ length before = omega (arith, leb-true _ _ e) in
        ap length (handed_fits text before fits) ∙ omega (arith, length-append text (drop (length text) before), length-drop (length text) before)
    go false e = ap length (handed-short text before (omega (arith, leb-false _ _ e)))

-- a text that is handed to what is left of a slice behind its end
module _ (more out : List ℕ) (end : ℕ) (short : length out < 2 ^ 64) (from n r : ℕ) (part : List ℕ) (from_is : from ≡ min end (length out))
    (part-is : part ≡ handed more (take (length out - from) (drop from out))) (n-is : n ≡ length more) (r-is : r ≡ min (end + n) (2 ^ 64 - 1)) where
  part_length : length part ≡ length out - from
  part_length = ap length part-is ∙ length-handed more (take (length out - from) (drop from out)) ∙ ap length (left_is out from) ∙ length-drop from out

  put-length : length (put_mid from (length out - from) out part) ≡ length out
  put-length =
      omega (
        arith,
        length-append (take from out) (part ++ drop (length out - from) (drop from out)),
        length-append part (drop (length out - from) (drop from out)),
        length-take from out,
        length-drop from out,
        length-drop (length out - from) (drop from out),
        part_length,
      )

  put-text : (text before : List ℕ) → from ≡ length text → out ≡ text ++ drop (length text) before → length (text ++ more) ≤ length before
      → put_mid from (length out - from) out part ≡ (text ++ more) ++ drop (length (text ++ more)) before
  put-text text before at was fits =
      ap₂ (λ (a b : List ℕ). a ++ b) front (ap₂ (λ (a b : List ℕ). a ++ b) middle none ∙ append-nil (more ++ drop (length more) rest))
      ∙ sym (append_assoc text more (drop (length more) rest))
      ∙ ap (λ (k : List ℕ). (text ++ more) ++ k) (drop-drop (length more) (length text) before ∙ ap (λ (k : ℕ). drop k before) (sym (length-append text more)))
    where
      rest : List ℕ
      rest = drop (length text) before

      front : take from out ≡ text
      front = ap₂ (λ (k : ℕ) (l : List ℕ). take k l) at was ∙ take-append_seam text rest

      behind : drop from out ≡ rest
      behind = ap₂ (λ (k : ℕ) (l : List ℕ). drop k l) at was ∙ drop-append_seam text rest

      room : length more ≤ length rest
      room = omega (arith, length-append text more, length-drop (length text) before, fits)

      middle : part ≡ more ++ drop (length more) rest
      middle = part-is ∙ ap (handed more) (left_is out from ∙ behind) ∙ handed_fits more rest room

      none : drop (length out - from) (drop from out) ≡ []
      none = drop_all (length out - from) (drop from out) (omega (arith, length-drop from out))

  pub appended : Appends more out end (put_mid from (length out - from) out part) r
  appended text before f =
      record {
        end_is = omega (arith, f.end_is, length-append text more);
        same = put-length ∙ f.same;
        bytes = λ fits. put-text text before (omega (arith, f.end_is, f.same, fits, length-append text more)) (f.bytes (omega (arith, fits, length-append text more))) fits;
      }

-- nothing more
pub appended_none : (out : List ℕ) (end : ℕ) → Appends [] out end out end
appended_none out end text before f = subst (λ (t : List ℕ). Filled t before out end) (sym (append-nil text)) f

-- a slice before anything was put into it
pub filled_none : (out : List ℕ) → Filled [] out out 0
filled_none out = record { end_is = refl; same = refl; bytes = λ _. refl }

-- the reports of lines that follow each other
pub reports_join : (ls ms : List RefusedLine) → refused_reports (ls ++ ms) ≡ refused_reports ls ++ refused_reports ms
unfolding refused_reports
reports_join [] ms = refl
reports_join (l ∷ ls) ms =
    ap (λ (t : List ℕ). refused_report l.line l.code l.place ++ t) (reports_join ls ms) ∙ sym (append_assoc (refused_report l.line l.code l.place) (refused_reports ls) (refused_reports ms))

pub filled_more : (ls ms : List RefusedLine) (out before out' : List ℕ) (end end' : ℕ) → Filled (refused_reports ls) before out end → Appends (refused_reports ms) out end out' end'
    → (all : List RefusedLine) → all ≡ ls ++ ms → Filled (refused_reports all) before out' end'
filled_more ls ms out before out' end end' f a all e =
    subst (λ (t : List ℕ). Filled t before out' end') (sym (ap refused_reports e ∙ reports_join ls ms)) (a (refused_reports ls) before f)

-- no more lines are ended than there are bytes
pub ended_few : (line bytes : List ℕ) → length (ended line bytes) ≤ length bytes
ended_few line [] = omega arith
ended_few line (b ∷ bs) = go (eqb b 10) (ended_few [] bs) (ended_few (longer line b) bs)
  where
    go : (t : Bool) → length (ended [] bs) ≤ length bs → length (ended (longer line b) bs) ≤ length bs → length (cond t (line ∷ ended [] bs) (ended (longer line b) bs)) ≤ suc (length bs)
    go true h i = omega arith
    go false h i = omega arith

-- a sheet has one report
pub one-report : (capacity : ℕ) (sheet a b : List ℕ) → SheetReport capacity sheet a → SheetReport capacity sheet b → a ≡ b
one-report capacity sheet a b p q =
    let bag = lines_bag capacity (sheet_lines sheet) in
    let same = at_most_one binary64 Nearest (exact_sum bag) p.pattern q.pattern p.rounds q.rounds in
    p.text_is ∙ ap (λ (x : ℕ). refused_reports (refusals capacity (sheet_lines sheet)) ++ sum_report x (length bag)) same ∙ sym q.text_is
