-- The report goes behind the text. Assumes nothing.
use Rattle.std.proofs.Common.{◌≡◌, ℕ, ◌-◌, List, length, Option, sym, ap, ◌∙◌, subst, append-nil, arith}
use borrow.Rule.Slice.PartMut.{put_mid}
use Rattle.sheets.specs.Reports.{refused_report}
use Rattle.reports.specs.declared.sheet.RefusedLine.{RefusedLine}
use Rattle.reports.specs.InMemory.{refused_reports, Appends}
use Rattle.reports.specs.Sheets.{listed}
use Rattle.reports.proofs.InMemory.{appended, appended_none}
use Rattle.reports.proofs.in_memory.append_refused.Goals as goal

pub returns-in_default : goal.returns-in_default
unfolding refused_reports
returns-in_default c =
    record {
      after = subst (λ (o : Option RefusedLine). Appends (refused_reports (listed o)) c.args.out.now c.args.end c.args.out.now c.args.end) (sym c.in_default.is) (appended_none c.args.out.now c.args.end);
    }

pub returns : goal.returns
unfolding refused_reports
returns c =
    let l = c.in-Some.line in
    let text = refused_report l.line l.code l.place in
    let all : refused_reports (listed c.args.refused) ≡ text = ap (λ (o : Option RefusedLine). refused_reports (listed o)) c.in-Some.is ∙ append-nil text in
    record {
      after = subst (λ (t : List ℕ). Appends t c.args.out.now c.args.end (put_mid c.min-from.result (length c.args.out.now - c.min-from.result) c.args.out.now c.write.new.out) c.saturating_add.result) (sym all)
          (appended text c.args.out.now c.args.end (omega arith) c.min-from.result c.length_of.result c.saturating_add.result c.write.new.out c.min-from.ensures c.write.ensures.bytes
          (c.length_of.ensures.answer text _ c.write.ensures.answer) c.saturating_add.ensures);
    }
