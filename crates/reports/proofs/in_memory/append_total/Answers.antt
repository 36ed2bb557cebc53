-- The report of the sum goes behind the text. Assumes nothing.
use Rattle.std.proofs.Common.{arith}
use Rattle.sheets.specs.Reports.{sum_report}
use Rattle.reports.proofs.InMemory.{appended}
use Rattle.reports.proofs.in_memory.append_total.Goals as goal

pub returns : goal.returns
returns g c =
    let w = c.write_total.ensures.answer in
    let text = sum_report w.pattern (g.C.Condenser.count c.args.run.now.condenser) in
    record {
      after = record {
        pattern = w.pattern;
        rounds = w.rounds;
        appends = appended text c.args.out.now c.args.end (omega arith) c.min-from.result c.length_of.result c.saturating_add.result c.write_total.new.out c.min-from.ensures w.bytes
            (c.length_of.ensures.answer text _ w.answer) c.saturating_add.ensures;
      };
    }
