-- From each leg on, what is left gives what the whole queue gives.
use Rattle.std.proofs.Common.{[], drop}
use Rattle.runs.specs.Queues.{calls_of, Resumes}
use Rattle.runs.proofs.play.play_legs.Given as goal

abbrev pub invariant-loop-leg : goal.invariant-loop-leg
invariant-loop-leg g l =
    Resumes g.C.Condenser (calls_of l.queue) [] l.initial.answers 0
    (calls_of (drop l.leg-index l.queue)) l.run.condenser l.answers l.next
