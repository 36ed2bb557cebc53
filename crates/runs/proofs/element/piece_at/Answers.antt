-- The product of two factors has the product of their values. Assumes nothing.
use Rattle.runs.proofs.Elements.{piece_accepted}
use Rattle.runs.proofs.element.piece_at.Goals as goal

pub returns : goal.returns
returns g c =
    record {
      answer = piece_accepted (g.K.Kind.value c.args.first) (g.L.Kind.value c.args.second) c.args.index c.args.index c.in_ok-first.first c.in_ok-second.second c.times.result
          c.in_ok-first.ensures.answer
          c.in_ok-second.ensures.answer
          c.times.ensures.value;
    }
