-- One turn takes a limb and the borrow from a limb, and borrows for what is lacking.
use Rattle.std.proofs.Common.{◌≡◌, ℕ, ◌+◌, ◌*◌, ◌^◌, ◌<◌, List, length, sym, refl, ap, ◌∙◌, subst, le_antisymm, arith}
use Rattle.std.proofs.lemmas.List.{take_all}
use Rattle.std.specs.Int.{from_bool}
use Rattle.readings.specs.Limbs.{natural}
use Rattle.readings.proofs.Naturals.{subtract_turn, limbs-set, natural_lt}
use Rattle.readings.proofs.limbs.subtract.Goals as goal

pub loop-i-init : goal.loop-i-init
unfolding natural
loop-i-init c = (refl, λ i. (c.type_inv.limbs i).fits)

pub loop-i-preserved : goal.loop-i-preserved
loop-i-preserved c =
    let l = c.loop-i in
    let r = c.borrowing_sub.result in
    let h : l.i < length l.limbs = omega arith in
    let k : l.i < length c.args.other.now = omega arith in (
      subtract_turn l.limbs c.args.other.now l.i r.0 (from_bool l.borrow) (from_bool r.1) (natural c.args.limbs.now) h k c.borrowing_sub.ensures l.invariant.0,
      limbs-set l.limbs l.i r.0 l.invariant.1 (omega arith),
    )

pub returns : goal.returns
returns c =
    let l = c.loop-i in
    let e : l.i ≡ length c.args.limbs.now = le_antisymm l.auto.i-end c.loop-i-test.false ∙ sym c.requires in
    let same : length l.limbs ≡ length c.args.limbs.now = omega arith in
    record {
      value =
          ap (λ (a : List ℕ). natural l.limbs + natural a) (sym (take_all l.i c.args.other.now (omega arith)))
          ∙ l.invariant.0
          ∙ ap (λ (a : ℕ). natural c.args.limbs.now + from_bool l.borrow * 2 ^ (64 * a)) e;
      limbs = (same, l.invariant.1);
      limits = subst (λ (a : ℕ). natural l.limbs < 2 ^ (64 * a)) same (natural_lt l.limbs l.invariant.1);
    }
