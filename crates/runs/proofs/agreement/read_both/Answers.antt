-- Each reading is the rounding of its bag's exact sum, and the bags settle the rest. Assumes nothing.
use Rattle.std.proofs.Common.{ℤ, ◌∙◌, subst}
use lib.Ieee.{binary64}
use Rattle.readings.specs.Rounding.{Rounds}
use Rattle.runs.proofs.Agreements.{agree}
use Rattle.runs.proofs.agreement.read_both.Goals as goal

pub returns : goal.returns
returns g c =
    let d = c.args.direction in
    record {
      law = agree d _ _ c.report.result.reading c.report-2.result.reading
          (subst (λ (x : ℤ). Rounds binary64 d x c.report.result.reading) c.play-one.ensures.total c.report.ensures.value)
          (subst (λ (x : ℤ). Rounds binary64 d x c.report-2.result.reading) c.play-other.ensures.total c.report-2.ensures.value);
      count = (c.report.ensures.count ∙ c.play-one.ensures.count, c.report-2.ensures.count ∙ c.play-other.ensures.count);
      answer = (c.play-one.ensures.answer, c.play-other.ensures.answer);
    }
