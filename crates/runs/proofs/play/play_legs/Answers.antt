-- Sealing, reading and resuming leave the condenser as it is. Assumes nothing.
use Rattle.std.proofs.Common.{◌+◌, List, [], drop, sym, ap, ◌∙◌, subst, arith}
use Rattle.runs.specs.declared.queue.Leg.{Leg}
use Rattle.runs.specs.Calls.{ValueCall}
use Rattle.runs.specs.Queues.{calls_of, Resumes}
use Rattle.runs.proofs.Playing.{resumes_on, resumes_none, resumes_all, next_leg, no_leg}
use Rattle.runs.proofs.play.play_legs.Goals as goal

-- what stands past the end of a queue
abbrev nothing : Leg
nothing = record { calls = record { ref_ptr = (0, 0); now = [] }; readings = record { ref_ptr = (0, 0); now = [] } }

pub loop-leg-init : goal.loop-leg-init
loop-leg-init g c =
    resumes_none g.C.Condenser _ c.args.answers.now c.new-run.result.condenser c.new-run.ensures.total c.new-run.ensures.count

pub loop-leg-preserved : goal.loop-leg-preserved
loop-leg-preserved g c =
    let l = c.loop-leg in
    let queue = c.args.queue.now in
    let rest = calls_of (drop (l.leg-index + 1) queue) in
    let m = g.C.Condenser in
    let split = next_leg queue l.leg-index nothing (omega arith) in
    let before = subst (λ (left : List ValueCall). Resumes m (calls_of queue) [] c.args.answers.now 0 left l.run.condenser l.answers l.next) split l.invariant in
    let after = resumes_on m (calls_of queue) [] c.args.answers.now 0 _ rest l.run.condenser c.play_calls-next.new.run.condenser l.answers c.play_calls-next.new.answers l.next c.play_calls-next.result
    before (c.play_calls-next.ensures.after before.now_in rest before.holds) in
    subst (λ x. Resumes m (calls_of queue) [] c.args.answers.now 0 rest x c.play_calls-next.new.answers c.play_calls-next.result)
    (sym (c.resume-run.ensures.unchanged ∙ c.seal-sealed.ensures.unchanged)) after

pub returns : goal.returns
returns g c =
    let l = c.loop-leg in
    let queue = c.args.queue.now in
    let m = g.C.Condenser in
    let end = subst (λ (left : List ValueCall). Resumes m (calls_of queue) [] c.args.answers.now 0 left l.run.condenser l.answers l.next) (no_leg queue l.leg-index c.loop-leg-test.false) l.invariant in
    let all = resumes_all m (calls_of queue) c.args.answers.now l.run.condenser l.answers l.next end in
    let same = c.seal.ensures.unchanged in
    record { total = ap m.total same ∙ all.0; count = ap m.count same ∙ all.1; answer = all.2 }
