-- The tie rule's carry is one.
use Rattle.std.proofs.Common.{refl, le_refl}
use Rattle.readings.specs.Rounded.{tie_carry}
use Rattle.readings.proofs.rounding.tie_carry.Goals as goal

pub returns : goal.returns
unfolding tie_carry
returns c = record { answer = refl; limits = le_refl 1 }
