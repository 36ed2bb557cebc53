-- What is written, and the carry at its place, make up the sum.
use Rattle.std.proofs.Common.{◌≡◌, ◌+◌, ◌*◌, ◌^◌, ◌<◌}
use Rattle.readings.specs.Limbs.{natural}
use Rattle.readings.proofs.Naturals.{Limbs}
use Rattle.readings.proofs.limbs.add.Given as goal

abbrev pub invariant-loop-limb : goal.invariant-loop-limb
invariant-loop-limb l = (natural l.limbs + l.carry * 2 ^ (64 * l.limb-index) ≡ natural l.initial.limbs + l.part) × (l.carry < 2 ^ 127) × Limbs l.limbs
