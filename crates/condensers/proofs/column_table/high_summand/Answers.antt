-- The high half of a column's size is within a summand's limits. Assumes nothing.
use Rattle.std.proofs.Common.{ℕ, ◌+◌, ◌*◌, ◌/◌, ◌^◌, ◌≤◌, ℤ, pos, nat_abs, sym, ap, ap₂, ◌∙◌, subst}
use lib.Signed.{lt_z}
use Rattle.condensers.specs.Handed.{summand_at}
use Rattle.condensers.specs.Columns.{high_summand}
use Rattle.condensers.specs.Laws.ColumnSummands.{high-limited}
use Rattle.condensers.proofs.ColumnReads.{read}
use Rattle.condensers.proofs.column_table.high_summand.Goals as goal

pub summand_at-requires : goal.summand_at-requires
summand_at-requires c =
    let e = c.unsigned_abs.ensures.value ∙ ap nat_abs (read c.args.column c.ranges.column) in
    high-limited c.unsigned_abs.result c.args.place (subst (λ (n : ℕ). n ≤ 67108864 * 4294967295) (sym e) c.requires.within) c.requires.inside

pub returns : goal.returns
unfolding high_summand
returns c =
    let z = read c.args.column c.ranges.column in
    record { answer = c.summand_at.ensures.answer ∙ ap₂ (λ (z : ℤ) (n : ℕ). summand_at (lt_z z (pos 0)) (n / 2 ^ 32) (32 * c.args.place + 32)) z (c.unsigned_abs.ensures.value ∙ ap nat_abs z) }
