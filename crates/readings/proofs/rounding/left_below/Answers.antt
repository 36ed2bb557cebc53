-- The bit under the cut is one half of the weight above it; what lies below that bit decides the rest.
use Rattle.std.proofs.Common.{true, false}
use Rattle.readings.specs.Limbs.{natural}
use Rattle.readings.proofs.Remainders.{left_is}
use Rattle.readings.proofs.rounding.left_below.Goals as goal

pub returns-in-true-true : goal.returns-in-true-true
returns-in-true-true c = record { answer = left_is (natural c.args.size.now.limbs) c.args.cut c.bits_from.result true true c.if-cut-eq0.false c.bits_from.ensures.answer c.in-true-true.is-0 c.in-true-true.ensures.answer }

pub returns-in-true-false : goal.returns-in-true-false
returns-in-true-false c = record { answer = left_is (natural c.args.size.now.limbs) c.args.cut c.bits_from.result true false c.if-cut-eq0.false c.bits_from.ensures.answer c.in-true-false.is-0 c.in-true-false.ensures.answer }

pub returns-in-false-true : goal.returns-in-false-true
returns-in-false-true c = record { answer = left_is (natural c.args.size.now.limbs) c.args.cut c.bits_from.result false true c.if-cut-eq0.false c.bits_from.ensures.answer c.in-false-true.is-0 c.in-false-true.ensures.answer }

pub returns-in-false-false : goal.returns-in-false-false
returns-in-false-false c = record { answer = left_is (natural c.args.size.now.limbs) c.args.cut c.bits_from.result false false c.if-cut-eq0.false c.bits_from.ensures.answer c.in-false-false.is-0 c.in-false-false.ensures.answer }
