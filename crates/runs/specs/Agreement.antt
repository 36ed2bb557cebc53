-- The agreement of two receivers: what their bags say of their long readings.
use Rattle.std.specs.Prelude.{◌≡◌, ℕ, List, ℤ, pos, ◌≤ℤ◌, ◌<ℤ◌}
use Rattle.std.specs.Float.{binary64}
use Rattle.readings.specs.declared.forms.Direction.{Direction}
use Rattle.readings.specs.Formats.{Encodes}
use Rattle.readings.specs.Rounding.{Rounds}
use Rattle.runs.specs.Bags.{Entry, net_count, exact_sum}
use Rattle.runs.specs.Calls.{ValueCall}
use Rattle.runs.specs.Queues.{bag_of}

-- every number has the same net count in both bags
abbrev pub SameBag : List Entry → List Entry → Type 0
SameBag a b = (v : ℤ) → net_count a v ≡ net_count b v

-- the first bag has at least as many of every number above zero, and as many of every number below zero
abbrev pub AtLeast : List Entry → List Entry → Type 0
AtLeast a b = ((v : ℤ) → pos 0 <ℤ v → net_count b v ≤ℤ net_count a v) × ((v : ℤ) → v <ℤ pos 0 → net_count b v ≡ net_count a v)

-- the first pattern is not below the second, by the numbers that they encode
abbrev pub NotBelow : ℕ → ℕ → Type 0
NotBelow p q = (u v : ℤ) → Encodes binary64 p u → Encodes binary64 q v → v ≤ℤ u

-- the readings p and q of two runs with the bags a and b
pub record Agree (d : Direction) (a b : List Entry) (p q : ℕ) : Type 0 where
  -- each is the rounding of its bag's exact sum
  pub first : Rounds binary64 d (exact_sum a) p
  pub second : Rounds binary64 d (exact_sum b) q
  -- equal bags read equal bits
  pub same : SameBag a b → p ≡ q
  -- more positive products never read lower
  pub order : AtLeast a b → NotBelow p q

-- The law over the values of elements, whatever kinds they are of: any two queues, any two capacities, any direction.
abbrev pub AgreementByValues : Type 0
AgreementByValues = (d : Direction) (capacity capacity' : ℕ) (calls calls' : List ValueCall) (p q : ℕ)
    → Rounds binary64 d (exact_sum (bag_of capacity calls)) p → Rounds binary64 d (exact_sum (bag_of capacity' calls')) q
    → Agree d (bag_of capacity calls) (bag_of capacity' calls') p q
