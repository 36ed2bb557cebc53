-- The low half of a column's size is within a summand's limits. Assumes nothing.
use Rattle.std.proofs.Common.{ℕ, ◌*◌, ◌%◌, ◌^◌, ℤ, pos, nat_abs, ap, ap₂, ◌∙◌}
use lib.Signed.{lt_z}
use Rattle.condensers.specs.Handed.{summand_at}
use Rattle.condensers.specs.Columns.{low_summand}
use Rattle.condensers.specs.Laws.ColumnSummands.{low-limited}
use Rattle.condensers.proofs.ColumnReads.{read}
use Rattle.condensers.proofs.column_table.low_summand.Goals as goal

pub summand_at-requires : goal.summand_at-requires
summand_at-requires c = low-limited c.unsigned_abs.result c.args.place c.requires

pub returns : goal.returns
unfolding low_summand
returns c = record { answer = c.summand_at.ensures.answer ∙ ap₂ (λ (z : ℤ) (n : ℕ). summand_at (lt_z z (pos 0)) (n % 2 ^ 32) (32 * c.args.place)) (read c.args.column c.ranges.column) (c.unsigned_abs.ensures.value ∙ ap nat_abs (read c.args.column c.ranges.column)) }
