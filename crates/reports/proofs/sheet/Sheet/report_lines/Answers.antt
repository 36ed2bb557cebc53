-- A part that was fed joins those before it. Assumes nothing.
use Rattle.std.proofs.Common.{ℕ, List, [], ◌++◌, take, sym, refl, ap, ◌∙◌, subst, append_assoc, append-nil}
use Rattle.reports.specs.Sheets.{Stands}
use Rattle.reports.proofs.Standing.{left_is, next_part, none_left, fewer_left}
use Rattle.reports.proofs.sheet.Sheet.report_lines.Goals as goal

pub loop-rest-init : goal.loop-rest-init
loop-rest-init g c = ([], refl, λ past st. subst (λ (bs : List ℕ). Stands g.C.Condenser bs c.args.self.now) (sym (append-nil past)) st)

pub loop-rest-preserved : goal.loop-rest-preserved
loop-rest-preserved g c =
    let l = c.loop-rest in
    let rest = l.rest.now in
    let n = c.feed-taken.result.taken in (
      l.invariant.0 ++ take n rest,
      ap (λ (bs : List ℕ). (l.invariant.0 ++ take n rest) ++ bs) (left_is rest n) ∙ next_part l.invariant.0 rest c.args.bytes.now n l.invariant.1,
      λ past st.
          subst (λ (bs : List ℕ). Stands g.C.Condenser bs c.feed-taken.new.self) (append_assoc past l.invariant.0 (take n rest))
          (c.feed-taken.ensures.law _ (l.invariant.2 past st)),
    )

pub loop-rest-smaller : goal.loop-rest-smaller
loop-rest-smaller g c = fewer_left c.loop-rest.rest.now c.feed-taken.result.taken c.loop-rest-test.ensures c.feed-taken.ensures.limits.1

pub returns : goal.returns
returns g c =
    let l = c.loop-rest in
    record {
      after = λ _ past st.
          subst (λ (bs : List ℕ). Stands g.C.Condenser (past ++ bs) l.self)
          (none_left l.invariant.0 l.rest.now c.args.bytes.now l.invariant.1 c.loop-rest-test.ensures) (l.invariant.2 past st);
    }
