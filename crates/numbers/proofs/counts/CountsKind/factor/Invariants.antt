-- Halving keeps the size: what is left times the power of two of the halvings. A halving was needed only from 2^26 on, and six are the most.
use Rattle.std.proofs.Common.{◌≡◌, ◌*◌, ◌^◌, ◌≤◌, ◌⊎◌, nat_abs}
use Rattle.numbers.specs.Counts.{is_negative}
use Rattle.numbers.proofs.counts.CountsKind.factor.Given as goal

abbrev pub invariant-loop-halved : goal.invariant-loop-halved
invariant-loop-halved l = (nat_abs l.element ≡ l.halved.size * 2 ^ l.halved.halvings) × ((l.halved.halvings ≡ 0) ⊎ (2 ^ 25 ≤ l.halved.size)) × (l.halved.halvings ≤ 6) × (l.halved.negative ≡ is_negative l.element)

abbrev pub decreases-loop-halved : goal.decreases-loop-halved
decreases-loop-halved l = l.halved.size
