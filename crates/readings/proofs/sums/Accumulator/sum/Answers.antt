-- A difference is not above what it is taken from, and is zero only where both are alike.
use Rattle.std.proofs.Common.{◌≡◌, ℕ, ◌+◌, ◌*◌, ◌<◌, ◌≤◌, MatchOption, Option, Bool, false, refl, sym, subst, le_trans, arith}
use lib.Ieee.{binary64}
use Rattle.readings.specs.Formats.{largest}
use Rattle.readings.specs.Limbs.{natural, summand_limit}
use Rattle.readings.specs.declared.limbs.Natural.{Natural}
use Rattle.readings.proofs.Bounds.{in_sum}
use Rattle.readings.proofs.Widths.{sum-long}
use Rattle.readings.proofs.sums.Accumulator.sum.Goals as goal
use Rattle.readings.proofs.sums.Accumulator.sum.Goals.{in-Some, in-None}

within : (n t e b : ℕ) → t ≤ 65536 → n ≤ t * summand_limit → e + b ≡ n → e ≤ largest binary64
within n t e b T h s = le_trans (omega arith) (le_trans (in_sum n t T h) sum-long)

-- a sign and a size that make up a sum
abbrev Whole : Bool × (Natural × Unit {0}) → Type 0
Whole s = (natural s.1.0.limbs ≤ largest binary64) × (natural s.1.0.limbs ≡ 0 → s.0 ≡ false)

pub invariant_of-result : goal.invariant_of-result
invariant_of-result c =
    let a = c.args.self.now in
    let whole : Whole c.match-checked_sub.result = elim c.match-checked_sub.branch [
      | in-Some w ↦ subst Whole (sym w.result-is) (within (natural a.above.limbs) a.taken (natural w.in-Some.size.limbs) (natural a.below.limbs) a.few a.above_bounded w.in-Some.ensures.value, λ z. refl)
      | in-None w ↦
          let e = subst (λ (o : Option Natural). MatchOption o (natural a.below.limbs < natural a.above.limbs) (λ rest. natural rest.limbs + natural a.above.limbs ≡ natural a.below.limbs)) w.unwrap.ensures w.checked_sub-in-None.ensures.value in
          let l = w.in-None.ensures.value in
          subst Whole (sym w.result-is) (within (natural a.below.limbs) a.taken (natural w.unwrap.result.limbs) (natural a.above.limbs) a.few a.below_bounded e, λ z. absurd (omega arith))
    ] in
    record { bounded = whole.0; plus = whole.1 }
