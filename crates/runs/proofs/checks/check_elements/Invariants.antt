-- What is left of the slices has the outcome of the whole.
use Rattle.std.proofs.Common.{◌≡◌, map, drop}
use Rattle.runs.specs.Calls.{elements_outcome}
use Rattle.runs.proofs.checks.check_elements.Given as goal

abbrev pub invariant-loop-i : goal.invariant-loop-i
invariant-loop-i g l =
    elements_outcome 0 (map g.K.Kind.value l.firsts) (map g.L.Kind.value l.seconds)
    ≡ elements_outcome l.i (map g.K.Kind.value (drop l.i l.firsts)) (map g.L.Kind.value (drop l.i l.seconds))
