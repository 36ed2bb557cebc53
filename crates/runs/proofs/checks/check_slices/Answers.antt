-- The first refusal is the answer. Assumes nothing.
use Rattle.std.proofs.Common.{Err, sym, subst}
use Rattle.std.proofs.lemmas.Result.{err_from_is_err_and}
use Rattle.runs.specs.Calls.{Outcome, Says}
use Rattle.runs.proofs.Elements.{says_ok, says_first, says_second, same_length, slices_is}
use Rattle.runs.proofs.checks.check_slices.Goals as goal

pub returns-in_err-check_lengths : goal.returns-in_err-check_lengths
returns-in_err-check_lengths g c =
    let p = err_from_is_err_and c.from_residual.result c.from_residual.ensures.1 in
    let e = c.in_err-check_lengths.field-0.0 in
    let is = slices_is g.K.Kind.value g.L.Kind.value g.C.Condenser.capacity (g.C.Condenser.count c.args.condenser.now) c.args.firsts.now c.args.seconds.now in
    rw (p.1, p.2) (record { answer = subst (λ (o : Outcome). Says o (Err e)) (sym is) (says_first _ _ e c.in_err-check_lengths.ensures.answer) })

pub returns-in_err-check_room : goal.returns-in_err-check_room
returns-in_err-check_room g c =
    let p = err_from_is_err_and c.from_residual-in_err-check_room.result c.from_residual-in_err-check_room.ensures.1 in
    let e = c.in_err-check_room.field-0.0 in
    let is = slices_is g.K.Kind.value g.L.Kind.value g.C.Condenser.capacity (g.C.Condenser.count c.args.condenser.now) c.args.firsts.now c.args.seconds.now in
    let same = says_ok _ tt c.in_ok-check_lengths.ensures.answer in
    rw (p.1, p.2)
    (record { answer = subst (λ (o : Outcome). Says o (Err e)) (sym is) (says_second _ _ (Err e) same (says_first _ _ e c.in_err-check_room.ensures.answer)) })

pub check_elements-requires : goal.check_elements-requires
check_elements-requires g c = same_length _ _ (says_ok _ tt c.in_ok-check_lengths.ensures.answer)

pub returns : goal.returns
returns g c =
    let is = slices_is g.K.Kind.value g.L.Kind.value g.C.Condenser.capacity (g.C.Condenser.count c.args.condenser.now) c.args.firsts.now c.args.seconds.now in
    let same = says_ok _ tt c.in_ok-check_lengths.ensures.answer in
    let room = says_ok _ tt c.in_ok-check_room.ensures.answer in
    record {
      answer = subst (λ (o : Outcome). Says o c.check_elements.result) (sym is) (says_second _ _ c.check_elements.result same (says_second _ _ c.check_elements.result room c.check_elements.ensures.answer));
    }
