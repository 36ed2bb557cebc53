-- The reports are counted first: a slice that is too short stays as it was. Assumes nothing.
use Rattle.std.proofs.Common.{◌<◌, ◌≤◌, length, sym, ap, ◌∙◌, arith}
use Rattle.numbers.specs.declared.refusal.Refusal.{Refusal}
use Rattle.numbers.specs.Refusals.{code_of, side_of}
use Rattle.sheets.proofs.Outputs.{handed_fits, handed-short}
use Rattle.reports.proofs.InMemory.{one-report}
use Rattle.reports.proofs.in_memory.write_reports.Goals as goal

pub returns-then-needed-out : goal.returns-then-needed-out
returns-then-needed-out c =
    let n = c.append_all-needed.ensures.after in
    let longer : length c.args.out.now < length n.text = omega (arith, n.filled.end_is, c.if-needed-out.true) in
    record { answer = record { text = n.text; report = n.report; answer = (longer, (ap (λ (r : Refusal). code_of r.reason) c.at.ensures.answer, ap (λ (r : Refusal). r.place) c.at.ensures.answer ∙ n.filled.end_is, ap (λ (r : Refusal). side_of r.side) c.at.ensures.answer)); bytes = sym (handed-short n.text c.args.out.now longer) } }

pub returns : goal.returns
returns c =
    let n = c.append_all-needed.ensures.after in
    let m = c.append_all.ensures.after in
    let same = ap length (one-report 67108864 c.args.sheet.now n.text m.text n.report m.report) in
    let fits : length m.text ≤ length c.args.out.now = omega (arith, n.filled.end_is, same, c.if-needed-out.false) in
    record {
      answer = record {
        text = m.text;
        report = m.report;
        answer = (fits, omega (arith, m.filled.end_is, fits));
        bytes = m.filled.bytes fits ∙ sym (handed_fits m.text c.args.out.now fits);
      };
    }
