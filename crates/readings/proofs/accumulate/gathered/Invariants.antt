-- What was added and what is still to come make up the total.
use Rattle.std.proofs.Common.{◌≡◌, ◌≤◌, drop, ◌+ℤ◌}
use Rattle.condensers.specs.Meaning.{sum_units}
use Rattle.readings.specs.Sums.{accumulated}
use Rattle.readings.proofs.accumulate.gathered.Given as goal

abbrev pub invariant-loop-k : goal.invariant-loop-k
invariant-loop-k g l = (accumulated l.sum +ℤ sum_units (drop l.k (g.C.Condenser.summands l.condenser)) ≡ g.C.Condenser.total l.condenser) × (l.sum.taken ≤ l.k)
