-- One call more, and none left at the end. Assumes nothing.
use Rattle.std.proofs.Common.{◌+◌, List, [], ◌++◌, map, drop, sym, refl, subst, arith}
use Rattle.runs.specs.declared.queue.Answer.{Answer}
use Rattle.runs.specs.declared.queue.Call.{Call}
use Rattle.runs.specs.declared.queue.Call.TheVariants.{Take}
use Rattle.runs.specs.declared.queue.Elements.TheVariants.{Patterns}
use Rattle.runs.specs.Calls.{ValueCall}
use Rattle.runs.specs.Queues.{value_call, Resumes}
use Rattle.runs.proofs.Playing.{resumes_step, next_left, none_left}
use Rattle.runs.proofs.play.play_calls.Goals as goal

-- what stands past the end of a list of calls
abbrev nothing : Call
nothing = Take (Patterns (record { ref_ptr = (0, 0); now = [] })) (Patterns (record { ref_ptr = (0, 0); now = [] }))

pub loop-call-init : goal.loop-call-init
loop-call-init g c bag rest h = record { now_in = bag; holds = h; same_bag = refl; same_answers = refl }

pub loop-call-preserved : goal.loop-call-preserved
loop-call-preserved g c bag rest h =
    let l = c.loop-call in
    let calls = c.args.calls.now in
    let whole = map value_call calls ++ rest in
    let before = subst (λ (left : List ValueCall). Resumes g.C.Condenser whole bag c.args.answers.now c.args.next left l.run.condenser l.answers l.place)
    (next_left value_call calls l.call-index nothing rest (omega arith)) (l.invariant bag rest h) in
    let after = resumes_step g.C.Condenser whole bag c.args.answers.now c.args.next _ _ l.run.condenser c.call.new.self.condenser l.answers l.place c.note-place.result c.call.result c.of-answer.result
    before c.call.ensures.call c.of-answer.ensures.answer c.note-place.ensures.answer in
    subst (λ (noted : List Answer). Resumes g.C.Condenser whole bag c.args.answers.now c.args.next (map value_call (drop (l.call-index + 1) calls) ++ rest) c.call.new.self.condenser noted c.note-place.result)
    (sym c.note-place.ensures.after) after

pub returns : goal.returns
returns g c =
    record {
      after = λ bag rest h.
          subst (λ (left : List ValueCall). Resumes g.C.Condenser (map value_call c.args.calls.now ++ rest) bag c.args.answers.now c.args.next left c.loop-call.run.condenser c.loop-call.answers c.loop-call.place)
          (none_left value_call c.args.calls.now c.loop-call.call-index rest c.loop-call-test.false) (c.loop-call.invariant bag rest h);
    }
