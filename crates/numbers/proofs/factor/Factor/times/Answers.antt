-- The value of a product follows from its parts. Assumes nothing.
use Rattle.numbers.proofs.Values.{product_value_lem}
use Rattle.numbers.proofs.factor.Factor.times.Goals as goal

pub returns : goal.returns
returns c =
    let p = c.product.ensures.answer in
    record { answer = p; value = product_value_lem c.args.self c.args.other c.product.result p }
