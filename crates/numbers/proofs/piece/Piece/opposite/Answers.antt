-- The value of an opposite follows from its parts. Assumes nothing.
use Rattle.numbers.proofs.Values.{opposite_value}
use Rattle.numbers.proofs.piece.Piece.opposite.Goals as goal

pub returns : goal.returns
returns c =
    let p = c.turned.ensures.answer in
    record { answer = p; value = opposite_value c.args.self c.turned.result p }
