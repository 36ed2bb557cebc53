-- Zeros make zero.
use Rattle.std.proofs.Common.{ℕ, zero, suc, ◌<◌, ◌^◌, get_or, replicate, refl, lit<}
use Rattle.readings.specs.Limbs.{natural}
use Rattle.readings.proofs.limbs.Natural.zero.Goals as goal

small : (k i : ℕ) → get_or (replicate k 0) i 0 < 2 ^ 64
small zero i = lit< tt
small (suc k) zero = lit< tt
small (suc k) (suc i) = small k i

pub invariant_of-result : goal.invariant_of-result
invariant_of-result c = record { fit = (refl, λ i. small 33 i) }

pub returns : goal.returns
unfolding natural
returns c = record { value = refl }
