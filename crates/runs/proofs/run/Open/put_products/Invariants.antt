-- What is left to put is accepted, and brings the total to that of the whole; as many pieces were put as turns were made.
use Rattle.std.proofs.Common.{◌≡◌, ◌+◌, map, drop, ◌+ℤ◌}
use Rattle.runs.specs.Bags.{entry_sum}
use Rattle.runs.specs.Calls.{accepted, elements_outcome, product_entries}
use Rattle.runs.specs.Entering.{is_withdrawn}
use Rattle.runs.proofs.run.Open.put_products.Given as goal

abbrev pub invariant-loop-i : goal.invariant-loop-i
invariant-loop-i g l =
    (elements_outcome l.i (map g.K.Kind.value (drop l.i l.firsts)) (map g.L.Kind.value (drop l.i l.seconds)) ≡ accepted)
    × (g.C.Condenser.total l.self.condenser +ℤ entry_sum (product_entries (is_withdrawn l.entering) (map g.K.Kind.value (drop l.i l.firsts)) (map g.L.Kind.value (drop l.i l.seconds)))
    ≡ g.C.Condenser.total l.initial.self.condenser +ℤ entry_sum (product_entries (is_withdrawn l.entering) (map g.K.Kind.value l.firsts) (map g.L.Kind.value l.seconds)))
    × (g.C.Condenser.count l.self.condenser ≡ g.C.Condenser.count l.initial.self.condenser + l.i)
