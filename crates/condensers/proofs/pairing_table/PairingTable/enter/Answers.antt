-- Each turn stores the number or pairs it; the steps are those of `Entering`. Assumes nothing.
use Rattle.std.proofs.Common.{◌≡◌, ℕ, ◌<◌, true, List, set, ◌+ℤ◌, sym, ap, ◌∙◌, arith, rules}
use lib.IntN.{+ℤ_idr}
use lib.Ieee.{Float, binary64, ne, of_bits}
use Rattle.condensers.specs.declared.finite.Finite.{Finite}
use Rattle.condensers.specs.declared.pairing_table.PairingTable.{PairingTable}
use Rattle.condensers.specs.Pairing.{total_of, place_of, vanished}
use Rattle.condensers.proofs.Entering as E
use Rattle.condensers.proofs.Entering.{Turn, OnWay}
use Rattle.condensers.proofs.pairing_table.PairingTable.enter.Goals as goal

turn : {t₀ : List Float} {n₀ : ℕ} {x₀ : Float} (s : PairingTable) (x : Finite) {k : ℕ} → OnWay t₀ n₀ x₀ s.entries s.count x.number → k ≡ place_of x.number → ne x.number (of_bits binary64 0) ≡ true
    → Turn s.entries s.count x.number k
turn s x i at m = record { long = s.long; standing = s.standing; few = s.few; fitting = i.fitting; finite = x.finite; within = i.within; moves = m; there = at }

-- the number's place lies in the table
inside : (x : Finite) {k : ℕ} → k ≡ place_of x.number → k < 4096
inside x e = omega (arith, e)

-- what is written at a place that is k is written at k
written : (t : List Float) (y : Float) {i k : ℕ} → i ≡ k → set t i y ≡ set t k y
written t y e = ap (λ (j : ℕ). set t j y) e

pub invariant_of-self : goal.invariant_of-self
invariant_of-self c =
    let w = turn c.loop-moving.self c.loop-moving.moving c.loop-moving.invariant c.place_of-place.ensures.answer c.loop-moving-test.true in
    let l = inside c.loop-moving.moving c.place_of-place.ensures.answer in
    record { long = E.stored-long w _ (written _ _ (omega (arith, l))); standing = E.stored_standing w _ (written _ _ (omega (arith, l))); bounded = E.stored_bounded w _ (written _ _ (omega (arith, l))); few = c.loop-moving.self.few }

pub returns-then-held : goal.returns-then-held
returns-then-held c =
    let i = c.loop-moving.invariant in
    let w = turn c.loop-moving.self c.loop-moving.moving i c.place_of-place.ensures.answer c.loop-moving-test.true in
    let l = inside c.loop-moving.moving c.place_of-place.ensures.answer in
    record { total = E.stored_total w _ (written _ _ (omega (arith, l))) c.if-held.true ∙ i.total; count = i.counted; kept = i.enters _ (E.stored-enters w _ (written _ _ (omega (arith, l))) c.if-held.true) }

pub invariant_of-self-in-loop-moving : goal.invariant_of-self-in-loop-moving
invariant_of-self-in-loop-moving c =
    let w = turn c.loop-moving.self c.loop-moving.moving c.loop-moving.invariant c.place_of-place.ensures.answer c.loop-moving-test.true in
    let l = inside c.loop-moving.moving c.place_of-place.ensures.answer in
    record { long = E.paired_long w _ (written _ _ (omega (arith, l))); standing = E.paired_standing w _ (written _ _ (omega (arith, l))); bounded = E.paired_bounded w _ (written _ _ (omega (arith, l))); few = c.loop-moving.self.few }

pub invariant_of-sum_of_pair : goal.invariant_of-sum_of_pair
invariant_of-sum_of_pair c = record { finite = E.held-finite (turn c.loop-moving.self c.loop-moving.moving c.loop-moving.invariant c.place_of-place.ensures.answer c.loop-moving-test.true) }

pub sum_of_pair-moving-requires : goal.sum_of_pair-moving-requires
sum_of_pair-moving-requires c =
    let w = turn c.loop-moving.self c.loop-moving.moving c.loop-moving.invariant c.place_of-place.ensures.answer c.loop-moving-test.true in
    record { paired = E.one_place w c.if-held.false; within = E.sum_fine w c.if-held.false }

pub loop-moving-smaller : goal.loop-moving-smaller
loop-moving-smaller c =
    let w = turn c.loop-moving.self c.loop-moving.moving c.loop-moving.invariant c.place_of-place.ensures.answer c.loop-moving-test.true in
    let l = inside c.loop-moving.moving c.place_of-place.ensures.answer in
    E.fewer w _ (written _ _ (omega (arith, l))) c.if-held.false

pub loop-moving-preserved : goal.loop-moving-preserved
loop-moving-preserved c =
    let i = c.loop-moving.invariant in
    let w = turn c.loop-moving.self c.loop-moving.moving i c.place_of-place.ensures.answer c.loop-moving-test.true in
    let l = inside c.loop-moving.moving c.place_of-place.ensures.answer in
    let s = c.sum_of_pair-moving in
    let r = s.ensures in
    record {
      fitting = search rules;
      within = E.sum_bounded w _ (written _ _ (omega (arith, l))) c.if-held.false s.result.number r.answer r.value;
      counted = i.counted;
      total = E.sum_total w _ (written _ _ (omega (arith, l))) c.if-held.false s.result.number r.answer r.value ∙ i.total;
      enters = λ u q. i.enters u (E.sum-enters w _ (written _ _ (omega (arith, l))) c.if-held.false s.result.number r.answer r.value u q);
    }

pub returns : goal.returns
returns c =
    let t = c.loop-moving.self.entries in
    let i = c.loop-moving.invariant in
    let z = E.ended-value c.loop-moving.moving.number c.loop-moving-test.false in
    record { total = sym (+ℤ_idr (total_of t)) ∙ ap (λ v. total_of t +ℤ v) (sym z) ∙ i.total; count = i.counted; kept = i.enters t (vanished z) }
