-- The product of two factors has the product of their values. Assumes nothing.
use Rattle.std.proofs.Common.{Result, subst}
use Rattle.numbers.specs.declared.factor.Factor.{Factor}
use Rattle.numbers.specs.declared.refusal.Refusal.{Refusal}
use Rattle.runs.specs.Calls.{FactorAt}
use Rattle.runs.proofs.Elements.{piece_accepted}
use Rattle.runs.proofs.element.product_of.Goals as goal

pub returns : goal.returns
returns c =
    record {
      answer = λ x p y q hx hy.
          piece_accepted x y p q c.in_ok-first.field-0 c.in_ok-second.field-0 c.times.result
          (subst (λ (r : Result Factor Refusal). FactorAt x p 1 r) c.in_ok-first.was hx)
          (subst (λ (r : Result Factor Refusal). FactorAt y q 2 r) c.in_ok-second.was hy)
          c.times.ensures.value;
    }
