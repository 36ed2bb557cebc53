-- The outcome of the whole is that of what is left, and each turn settles one index. Assumes nothing.
use Rattle.std.proofs.Common.{◌<◌, length, Ok, Err, sym, ◌∙◌, subst, arith}
use Rattle.std.proofs.lemmas.Result.{err_from_is_err_and}
use Rattle.runs.specs.Calls.{Outcome, Says}
use Rattle.runs.proofs.Elements.{passed, says_first, elements_step, elements_end}
use Rattle.runs.proofs.checks.check_elements.Goals as goal

pub returns-in_err-piece_at : goal.returns-in_err-piece_at
returns-in_err-piece_at g c =
    let p = err_from_is_err_and c.from_residual.result c.from_residual.ensures.1 in
    let i = c.loop-i.i in
    let hx : i < length c.args.firsts.now = omega arith in
    let hy : i < length c.args.seconds.now = omega arith in
    let step = c.loop-i.invariant ∙ elements_step g.K.Kind.value g.L.Kind.value c.args.firsts.now c.args.seconds.now i c.index-firsts-i.result c.index-seconds-i.result hx hy c.index-firsts-i.is c.index-seconds-i.is in
    rw (p.1, p.2) (record { answer = subst (λ (o : Outcome). Says o (Err c.in_err-piece_at.field-0.0)) (sym step) (says_first _ _ _ c.in_err-piece_at.ensures.answer) })

pub loop-i-preserved : goal.loop-i-preserved
loop-i-preserved g c =
    let i = c.loop-i.i in
    let hx : i < length c.args.firsts.now = omega arith in
    let hy : i < length c.args.seconds.now = omega arith in
    c.loop-i.invariant
    ∙ elements_step g.K.Kind.value g.L.Kind.value c.args.firsts.now c.args.seconds.now i c.index-firsts-i.result c.index-seconds-i.result hx hy c.index-firsts-i.is c.index-seconds-i.is
    ∙ passed _ _ c.in_ok-piece_at.ensures.answer.0

pub returns : goal.returns
returns g c = record { answer = subst (λ (o : Outcome). Says o (Ok tt)) (sym (c.loop-i.invariant ∙ elements_end g.K.Kind.value c.args.firsts.now c.loop-i.i _ (omega arith))) tt }
