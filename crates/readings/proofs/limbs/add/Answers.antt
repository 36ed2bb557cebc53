-- One turn writes the lower 64 bits of the limb and the carry, and carries the rest.
use Rattle.std.proofs.Common.{◌+◌, ◌%◌, ◌^◌, get_or, arith}
use Rattle.readings.proofs.Naturals.{add_turn, limbs-set}
use Rattle.readings.specs.Limbs.{natural}
use Rattle.readings.proofs.limbs.add.Goals as goal

pub loop-limb-preserved : goal.loop-limb-preserved
loop-limb-preserved c =
    let l = c.loop-limb in
    let i = l.limb-index in (
      add_turn l.limbs i l.carry (natural c.args.limbs.now + c.args.part) (omega arith) l.invariant.0,
      omega arith,
      limbs-set l.limbs i ((get_or l.limbs i 0 + l.carry) % 2 ^ 64) l.invariant.2 (omega arith),
    )
