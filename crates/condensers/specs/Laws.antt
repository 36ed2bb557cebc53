-- The laws of a condenser, for lists of numbers by place and for columns; what they rest on stands in `Laws`. Assumes nothing.
pub mod Handed
pub mod Columns
pub mod ColumnSummands
pub mod Patterns
pub mod Pairs
pub mod ExactSums
pub mod Standing
pub mod Tables
use Rattle.std.specs.Prelude.{◌≡◌, ℕ, ◌*◌, ◌≤◌, T, List, map, length, ℤ, pos, slice_index_or, unsigned_abs, Float}
use Rattle.std.proofs.Common.{◌∙◌, le_of_eq, le_trans, mul-le-mul_right, arith}
use Rattle.std.proofs.lemmas.List.{length-map}
use Rattle.condensers.specs.Meaning.{sum_units}
use Rattle.condensers.specs.Pairing.{size, sum_of, total_of, stand_from, summand_of, piece_limit}
use Rattle.condensers.specs.Columns.{column_total, summands_from}
use Rattle.condensers.specs.Laws.Tables as Table
use Rattle.condensers.specs.Laws.ColumnSummands as Column

-- ---- a pairing table

pub entries_few : (t : List Float) → length t ≡ 4096 → length (map summand_of t) ≤ 4096
entries_few t long = le_of_eq (length-map t summand_of ∙ long)

pub entries_exact : (t : List Float) (n : ℕ) → T (stand_from 0 t) → sum_of size t ≤ n * piece_limit → n ≤ 67108864 → sum_units (map summand_of t) ≡ total_of t
entries_exact t n standing bounded few = Table.summands_add_up 0 t standing (le_trans bounded (mul-le-mul_right piece_limit few))

-- ---- a column table

pub columns_few : (cs : List ℤ) → length cs ≡ 64 → length (summands_from 0 cs) ≤ 4096
columns_few cs long = omega (arith, Column.summands_length 0 cs)

pub columns_exact : (cs : List ℤ) (n : ℕ) → length cs ≡ 64 → ((i : ℕ) → unsigned_abs (slice_index_or cs i (pos 0)) ≤ n * 4294967295) → n ≤ 67108864
    → sum_units (summands_from 0 cs) ≡ column_total cs
columns_exact cs n long bounded few = Column.summands_add_up 0 cs (λ i. le_trans (bounded i) (mul-le-mul_right 4294967295 few)) (omega arith)
