-- Each count is answered by its value. Assumes nothing.
use Rattle.std.proofs.Common.{◌≡◌, ℕ, ◌^◌, ◌≤◌, ℤ, pos, nat_abs, sym, ap, ◌∙◌, inr, arith, w32, SFits, to_z, of_z}
use Rattle.std.proofs.lemmas.Int.{to_z-of_z, to_z_pos}
use Rattle.std.proofs.lemmas.Bool.{ltb-false}
use Rattle.std.proofs.lemmas.Result.{err_from_is_err_and}
use Rattle.numbers.specs.Counts.{is_negative}
use Rattle.numbers.proofs.Halving.{few_halvings, halved, count-accepted, count-refused}
use Rattle.numbers.proofs.counts.CountsKind.factor.Goals as goal

stored : (z : ℤ) (n : ℕ) → SFits w32 z → nat_abs (to_z w32 (of_z w32 z)) ≡ n → nat_abs z ≡ n
stored z n f h = ap nat_abs (sym (to_z-of_z w32 z f)) ∙ h

pub returns-in_err-halved : goal.returns-in_err-halved
returns-in_err-halved c =
    let r = err_from_is_err_and c.from_residual.result c.from_residual.ensures.1 in
    let h = c.loop-halved.halved in
    let size = stored c.args.element _ c.ranges.element c.loop-halved.invariant.0 in
    let long : 2 ^ 26 ≤ h.size = ltb-false h.size (2 ^ 26) (sym c.loop-halved-test.ensures.answer) in
    let odd = c.in_err-halved.ensures.answer in
    rw (r.1, r.2) (record { answer = (count-refused c.args.element h.size h.halvings size long (λ even. omega arith), odd.1); made = tt })

pub loop-halved-preserved : goal.loop-halved-preserved
loop-halved-preserved c =
    let h = c.loop-halved.halved in
    let k = c.in_ok-halved.halved in
    let o = c.from-halved.ensures in
    let once = c.in_ok-halved.ensures.answer in
    let long : 2 ^ 26 ≤ h.size = ltb-false h.size (2 ^ 26) (sym c.loop-halved-test.ensures.answer) in
    let large : 2 ^ 25 ≤ k.size = omega arith in
    let size = halved _ h.size k.size h.halvings k.halvings c.loop-halved.invariant.0 once.1 once.2 in
    let few = few_halvings c.from-halved.result.size k.size k.halvings (o.1 ∙ size) o.3 (inr large) in
    (size, inr large, few, once.0 ∙ c.loop-halved.invariant.3)

pub returns : goal.returns
returns c =
    let h = c.loop-halved.halved in
    let size = stored c.args.element _ c.ranges.element c.loop-halved.invariant.0 in
    let sign = c.loop-halved.invariant.3 ∙ ap is_negative (to_z-of_z w32 c.args.element c.ranges.element) in
    let e : to_z w32 h.halvings ≡ pos h.halvings = to_z_pos w32 h.halvings (omega arith) in
    record {
      answer = count-accepted c.args.element _ h.size h.halvings _ (omega arith) c.loop-halved.invariant.2 size e sign;
      made = record { halvings = h.halvings; exponent_is = e; size_is = size; needed = c.loop-halved.invariant.1; sign_is = sign };
    }
