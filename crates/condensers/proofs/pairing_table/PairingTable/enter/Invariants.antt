-- What lasts while a number is on its way: the sizes stay within the count, and whatever comes of it comes of the number that entered.
use Rattle.condensers.specs.Laws.Tables.{taken}
use Rattle.condensers.specs.Pairing.{sum_of}
use Rattle.condensers.proofs.Entering.{OnWay}
use Rattle.condensers.proofs.pairing_table.PairingTable.enter.Given as goal

abbrev pub invariant-loop-moving : goal.invariant-loop-moving
invariant-loop-moving l = OnWay l.initial.self.entries l.initial.self.count l.fn.number.number l.self.entries l.self.count l.moving.number

abbrev pub decreases-loop-moving : goal.decreases-loop-moving
decreases-loop-moving l = sum_of taken l.self.entries
