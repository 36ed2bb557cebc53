-- The kind's answer settles the outcome. Assumes nothing.
use Rattle.std.proofs.Common.{rules}
use borrow.Author.Tests.{tests}
use Rattle.runs.proofs.Elements.{factor_told}
use Rattle.runs.proofs.element.factor_at.Goals as goal

pub returns : goal.returns
returns g c =
    record {
      answer = factor_told (g.K.Kind.value c.args.element) c.args.place c.args.side c.factor.result c.map_err.result c.factor.ensures.answer c.map_err.ensures.cases (λ f h. search (rules, tests)) (λ e h. search (rules, tests));
    }
