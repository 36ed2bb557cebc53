-- What is written, and the part of the other number that is taken, make up what was there and the borrow at its place.
use Rattle.std.proofs.Common.{◌≡◌, ◌+◌, ◌*◌, ◌^◌, take}
use Rattle.std.specs.Int.{from_bool}
use Rattle.readings.specs.Limbs.{natural}
use Rattle.readings.proofs.Naturals.{Limbs}
use Rattle.readings.proofs.limbs.subtract.Given as goal

abbrev pub invariant-loop-i : goal.invariant-loop-i
invariant-loop-i l = (natural l.limbs + natural (take l.i l.other) ≡ natural l.initial.limbs + from_bool l.borrow * 2 ^ (64 * l.i)) × Limbs l.limbs
