-- The pattern is the run's reading, and the number its count. Assumes nothing.
use Rattle.std.proofs.Common.{◌≡◌, ℕ, length, subst}
use Rattle.sheets.specs.Outputs.{Fits, handed}
use Rattle.sheets.specs.Reports.{sum_report}
use Rattle.reports.proofs.ending.write_run.Goals as goal

pub returns : goal.returns
returns g c =
    let count = c.report_of-reading.ensures.count in
    record {
      answer = record {
        pattern = c.report_of-reading.result.reading;
        rounds = c.report_of-reading.ensures.value;
        answer = subst (λ (n : ℕ). Fits (sum_report c.report_of-reading.result.reading n) (length c.args.out.now) c.write_sum.result) count c.write_sum.ensures.answer;
        bytes = subst (λ (n : ℕ). c.write_sum.new.out ≡ handed (sum_report c.report_of-reading.result.reading n) c.args.out.now) count c.write_sum.ensures.bytes;
      };
    }
