-- A line's text, the room and its elements are tested before the product is put. Assumes nothing.
use Rattle.std.proofs.Common.{Bool, cond, ℤ, neg_ℤ, ◌∙◌, ap₂}
use Rattle.std.proofs.lemmas.Result.{err_from_is_err_and}
use Rattle.runs.specs.Lines.{line_reading}
use Rattle.runs.proofs.Elements.{says_ok}
use Rattle.runs.proofs.EnteredLines.{made-misread, made-full, made_unfit, made-entered}
use Rattle.runs.proofs.LineTexts.{line_refused, line-accepted}
use Rattle.runs.proofs.run.Open.enter_text.Goals as goal

pub returns-in_err-word : goal.returns-in_err-word
returns-in_err-word g c =
    let p = err_from_is_err_and c.from_residual.result c.from_residual.ensures.1 in
    let e = c.in_err-word.field-0.0 in
    let m = line_refused c.args.line.now e c.in_err-word.ensures.answer in
    rw (p.1, p.2)
    (record {
      call = made-misread g.C.Condenser c.args.self.now.condenser (line_reading c.args.line.now) e m.code m.place m.side m.reading m.refused_so;
    })

pub returns-in_err-check_room : goal.returns-in_err-check_room
returns-in_err-check_room g c =
    let p = err_from_is_err_and c.from_residual-in_err-check_room.result c.from_residual-in_err-check_room.ensures.1 in
    let e = c.in_err-check_room.field-0.0 in
    let reading = line-accepted c.args.line.now c.in_ok-word.field-0 c.in_ok-word.ensures.answer in
    let said = c.in_err-check_room.ensures.answer in
    rw (p.1, p.2)
    (record { call = made-full g.C.Condenser c.args.self.now.condenser (line_reading c.args.line.now) _ _ _ _ _ reading e said })

pub returns-in_err-product : goal.returns-in_err-product
returns-in_err-product g c =
    let p = err_from_is_err_and c.from_residual-in_err-product.result c.from_residual-in_err-product.ensures.1 in
    let e = c.in_err-product.field-0.0 in
    let l = c.in_ok-word.ensures.answer in
    let reading = line-accepted c.args.line.now c.in_ok-word.field-0 l in
    let room = says_ok _ tt c.in_ok-check_room.ensures.answer in
    rw (p.1, p.2)
    (record {
      call = made_unfit g.C.Condenser c.args.self.now.condenser (line_reading c.args.line.now) _ _ _ _ _ reading e room
          (c.in_err-product.ensures.answer _ _ _ _ (c.factor_of.ensures.answer l.first_is.writes) (c.factor_of-2.ensures.answer l.second_is.writes));
    })

pub returns : goal.returns
returns g c =
    let l = c.in_ok-word.ensures.answer in
    let reading = line-accepted c.args.line.now c.in_ok-word.field-0 l in
    let room = says_ok _ tt c.in_ok-check_room.ensures.answer in
    let made = c.in_ok-product.ensures.answer _ _ _ _ (c.factor_of.ensures.answer l.first_is.writes) (c.factor_of-2.ensures.answer l.second_is.writes) in
    let value = c.piece.ensures.value ∙ ap₂ (λ (w : Bool) (v : ℤ). cond w (neg_ℤ v) v) c.from.ensures made.1 in
    record {
      call = made-entered g.C.Condenser c.args.self.now.condenser (line_reading c.args.line.now) _ _ _ _ _ reading
          c.put.new.self c.piece.result c.put.result (g.met.C.Condenser.count_within c.args.self.now.condenser) room made.0 value c.put.ensures.answer c.put.ensures.after;
    }
