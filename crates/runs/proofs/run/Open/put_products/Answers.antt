-- Each turn puts one product. Assumes nothing.
use Rattle.std.proofs.Common.{◌<◌, cond, length, ℤ, ◌+ℤ◌, neg_ℤ, sym, ap, ◌∙◌, arith}
use lib.IntN.{+ℤ_idr}
use Rattle.runs.specs.Entering.{is_withdrawn}
use Rattle.runs.proofs.Elements.{not_both, elements_turn, entries_step, entries_end, entries_count, put_turn}
use Rattle.runs.proofs.run.Open.put_products.Goals as goal

pub returns-in_err-product : goal.returns-in_err-product
returns-in_err-product g c =
    let i = c.loop-i.i in
    let hx : i < length c.args.firsts.now = omega arith in
    let hy : i < length c.args.seconds.now = omega arith in
    let turn = elements_turn g.K.Kind.value g.L.Kind.value c.args.firsts.now c.args.seconds.now i c.index-firsts-i.result c.index-seconds-i.result hx hy c.index-firsts-i.is c.index-seconds-i.is c.loop-i.invariant.0 in
    absurd (not_both _ c.in_err-product.field-0.0 turn.0 c.in_err-product.ensures.answer)

pub returns-in_err-put : goal.returns-in_err-put
returns-in_err-put g c =
    let full = c.in_err-put.ensures.answer.0 in
    absurd (omega (arith, full, c.loop-i.invariant.2, c.requires.room))

pub loop-i-preserved : goal.loop-i-preserved
loop-i-preserved g c =
    let i = c.loop-i.i in
    let w = (is_withdrawn c.args.entering) in
    let hx : i < length c.args.firsts.now = omega arith in
    let hy : i < length c.args.seconds.now = omega arith in
    let turn = elements_turn g.K.Kind.value g.L.Kind.value c.args.firsts.now c.args.seconds.now i c.index-firsts-i.result c.index-seconds-i.result hx hy c.index-firsts-i.is c.index-seconds-i.is c.loop-i.invariant.0 in
    let step = entries_step g.K.Kind.value g.L.Kind.value w c.args.firsts.now c.args.seconds.now i c.index-firsts-i.result c.index-seconds-i.result hx hy c.index-firsts-i.is c.index-seconds-i.is in
    let put = c.in_ok-put.ensures.after in
    let value = c.piece.ensures.value ∙ ap (λ (v : ℤ). cond w (neg_ℤ v) v) c.in_ok-product.ensures.answer.1 in (
      turn.1,
      put_turn (g.C.Condenser.total c.loop-i.self.condenser) _ _ _ _ _ put.0 value (ap (λ (x : ℤ). g.C.Condenser.total c.loop-i.self.condenser +ℤ x) (sym step) ∙ c.loop-i.invariant.1),
      omega (arith, put.1, c.loop-i.invariant.2),
    )

pub returns : goal.returns
returns g c =
    let i = c.loop-i.i in
    let end = entries_end g.K.Kind.value g.L.Kind.value (is_withdrawn c.args.entering) c.args.firsts.now c.args.seconds.now i (omega arith) in
    let count = entries_count g.K.Kind.value g.L.Kind.value (is_withdrawn c.args.entering) c.args.firsts.now c.args.seconds.now c.requires.same in
    record {
      answer = tt;
      after = (
        sym (+ℤ_idr (g.C.Condenser.total c.loop-i.self.condenser)) ∙ ap (λ (x : ℤ). g.C.Condenser.total c.loop-i.self.condenser +ℤ x) (sym end) ∙ c.loop-i.invariant.1,
        omega (arith, count, c.loop-i.invariant.2),
      );
    }
