-- A binary64 number by its pattern: the significand, how far the significand's lowest bit lies above the unit of 2^-1074, and the number's place in a pairing table.
use Rattle.std.specs.Prelude.{ℕ, zero, suc, ◌+◌, ◌-◌, ◌*◌, ◌%◌, ◌^◌}
use Rattle.numbers.specs.Patterns.{field_of, fraction_of}

-- the bit in front of the fraction
abbrev pub leading : ℕ → ℕ
leading zero = 0
leading (suc x) = 2 ^ 52

abbrev pub significand_of : ℕ → ℕ
significand_of b = leading (field_of b) + fraction_of b

-- fields 0 and 1 weigh the same
abbrev pub height_of : ℕ → ℕ
height_of b = field_of b - 1

-- the genus of a number: its lowest fraction bit
abbrev pub genus_of : ℕ → ℕ
genus_of b = b % 2

-- two places for every exponent field, one for each genus
abbrev pub place : ℕ → ℕ
place b = 2 * field_of b + genus_of b
