-- What is left is in limbs.
use Rattle.std.proofs.Common.{arith}
use Rattle.readings.proofs.limbs.Natural.checked_sub.Goals as goal

pub invariant_of-result : goal.invariant_of-result
invariant_of-result c = record { fit = (omega arith, c.subtract.ensures.limbs.1) }
