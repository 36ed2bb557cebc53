-- What an exact sum stands for, and what adding a summand to it does.
use Rattle.std.specs.Prelude.{◌≡◌, ◌+◌, ◌<◌, ◌≤◌, ℤ, pos, ◌+ℤ◌, ◌-ℤ◌, Ok, Err, Result, ⊤}
use Rattle.numbers.specs.declared.refusal.Refusal.{Refusal}
use Rattle.numbers.specs.Refusals.{Refused}
use Rattle.numbers.specs.declared.piece.Summand.{Summand}
use Rattle.numbers.specs.Products.{summand_units}
use Rattle.numbers.specs.Units.{signed}
use Rattle.readings.specs.declared.sums.Accumulator.{Accumulator}
use Rattle.readings.specs.declared.sums.ExactSum.{ExactSum}
use Rattle.readings.specs.Limbs.{natural}

-- the sum on its way, in units
abbrev pub accumulated : Accumulator → ℤ
accumulated a = pos (natural a.above.limbs) -ℤ pos (natural a.below.limbs)

-- the whole sum, in units
abbrev pub sum_value : ExactSum → ℤ
sum_value s = signed s.negative (natural s.size.limbs)

-- a summand is added, and counted, exactly where fewer than 65,536 were taken; otherwise it is refused, with code 4, place 0 and side 0, and nothing changes
abbrev pub Adds : Accumulator → Summand → Accumulator → Result ⊤ Refusal → Type 0
Adds before s after (Ok done) = (before.taken < 65536) × (after.taken ≡ before.taken + 1) × (accumulated after ≡ accumulated before +ℤ summand_units s)
Adds before s after (Err e) = (65536 ≤ before.taken) × (after ≡ before) × Refused e 4 0 0
