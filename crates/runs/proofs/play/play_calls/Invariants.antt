-- From each turn on, what is left gives what the whole gives.
use Rattle.std.proofs.Common.{List, ◌++◌, map, drop}
use Rattle.runs.specs.Bags.{Entry}
use Rattle.runs.specs.Calls.{ValueCall}
use Rattle.runs.specs.Queues.{value_call, Holds, Resumes}
use Rattle.runs.proofs.play.play_calls.Given as goal

abbrev pub invariant-loop-call : goal.invariant-loop-call
invariant-loop-call g l =
    (bag : List Entry) (rest : List ValueCall) → Holds g.C.Condenser l.initial.run.condenser bag
    → Resumes g.C.Condenser (map value_call l.calls ++ rest) bag l.initial.answers l.next
    (map value_call (drop l.call-index l.calls) ++ rest) l.run.condenser l.answers l.place
