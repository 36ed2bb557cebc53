-- A refusal changes nothing; where every test passes, every product is put. Assumes nothing.
use Rattle.std.proofs.Common.{map, sym, subst}
use Rattle.std.proofs.lemmas.Result.{err_from_is_err_and}
use Rattle.runs.specs.Calls.{Outcome, Says, product_entries}
use Rattle.runs.specs.Entering.{is_withdrawn}
use Rattle.runs.proofs.Elements.{says_ok, slices-accepted, refused_after, accepted_after}
use Rattle.runs.proofs.run.Open.enter_products.Goals as goal

pub returns-in_err-check_slices : goal.returns-in_err-check_slices
returns-in_err-check_slices g c =
    let p = err_from_is_err_and c.from_residual.result c.from_residual.ensures.1 in
    let e = c.in_err-check_slices.field-0.0 in
    let xs = map g.K.Kind.value c.args.firsts.now in
    let ys = map g.L.Kind.value c.args.seconds.now in
    let said = c.in_err-check_slices.ensures.answer in
    rw (p.1, p.2)
    (record {
      call = record {
        answer = said;
        after_is = refused_after g.C.Condenser c.args.self.now.condenser _ (product_entries (is_withdrawn c.args.entering) xs ys) e said;
      };
    })

pub put_products-requires : goal.put_products-requires
put_products-requires g c =
    let xs = map g.K.Kind.value c.args.firsts.now in
    let ys = map g.L.Kind.value c.args.seconds.now in
    let said = c.in_ok-check_slices.ensures.answer in
    let all = slices-accepted g.K.Kind.value g.L.Kind.value g.C.Condenser.capacity (g.C.Condenser.count c.args.self.now.condenser) c.args.firsts.now c.args.seconds.now (g.met.C.Condenser.count_within c.args.self.now.condenser) (says_ok _ tt said) in
    record { same = all.0; room = all.1; sound = all.2 }

pub returns : goal.returns
returns g c =
    let xs = map g.K.Kind.value c.args.firsts.now in
    let ys = map g.L.Kind.value c.args.seconds.now in
    let said = says_ok _ tt (c.in_ok-check_slices.ensures.answer) in
    record {
      call = record {
        answer = subst (λ (o : Outcome). Says o c.put_products.result) (sym said) c.put_products.ensures.answer;
        after_is = accepted_after g.C.Condenser c.args.self.now.condenser _ (product_entries (is_withdrawn c.args.entering) xs ys) _ said c.put_products.ensures.after;
      };
    }
