-- What a column table holds: signed columns, column j weighing 2^(32 j) units, and what each hands out.
use Rattle.std.specs.Prelude.{◌≡◌, ℕ, suc, ◌+◌, ◌*◌, ◌/◌, ◌%◌, ◌^◌, ◌<◌, Bool, List, [], ◌∷◌, replicate, ℤ, pos, ◌+ℤ◌, ◌*ℤ◌, Ok, Err, Result, int_lt, slice_index_or, unsigned_abs}
use Rattle.numbers.specs.declared.refusal.Refusal.{Refusal}
use Rattle.numbers.specs.declared.piece.Piece.{Piece}
use Rattle.numbers.specs.declared.piece.Summand.{Summand}
use Rattle.numbers.specs.Units.{rank, signed}
use Rattle.condensers.specs.Handed.{summand_at}

-- the columns of the list, the first of them column j, add up to this many units
unfoldable pub columns_from : ℕ → List ℤ → ℤ
columns_from j [] = pos 0
columns_from j (c ∷ cs) = c *ℤ pos (2 ^ (32 * j)) +ℤ columns_from (suc j) cs

abbrev pub column_total : List ℤ → ℤ
column_total cs = columns_from 0 cs

-- part j of n: its 32 bits from bit 32 j on
abbrev pub part_of : ℕ → ℕ → ℕ
part_of n j = n / 2 ^ (32 * j) % 2 ^ 32

-- n units go in as parts with a sign: column j gains part j.
abbrev pub Gains : Bool → ℕ → List ℤ → List ℤ → Type 0
Gains s n before after = (j : ℕ) → j < 64 → slice_index_or after j (pos 0) ≡ slice_index_or before j (pos 0) +ℤ signed s (part_of n j)

-- What a put leaves in the columns: an accepted piece's parts, or all as it was.
abbrev pub PutGains : Piece → List ℤ → List ℤ → Result (Unit {0}) Refusal → Type 0
PutGains p before after (Ok _) = Gains p.negative (p.significand * 2 ^ rank p.exponent) before after
PutGains p before after (Err _) = after ≡ before

-- 64 columns at zero
abbrev pub empty_columns : List ℤ
empty_columns = replicate 64 (pos 0)

-- Column j hands out the low 32 bits of its size, then the rest at 2^32 times the weight, both with its sign.
unfoldable pub low_summand : ℕ → ℤ → Summand
low_summand j c = summand_at (int_lt c (pos 0)) (unsigned_abs c % 2 ^ 32) (32 * j)

unfoldable pub high_summand : ℕ → ℤ → Summand
high_summand j c = summand_at (int_lt c (pos 0)) (unsigned_abs c / 2 ^ 32) (32 * j + 32)

-- what the columns of the list hand out, the first of them column j
unfoldable pub summands_from : ℕ → List ℤ → List Summand
summands_from j [] = []
summands_from j (c ∷ cs) = low_summand j c ∷ (high_summand j c ∷ summands_from (suc j) cs)
