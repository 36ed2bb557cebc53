-- Zero in every column. Assumes nothing.
use Rattle.std.proofs.Common.{refl}
use Rattle.condensers.specs.Laws.Columns.{none_total, none_bounded}
use Rattle.condensers.proofs.column_table.no_columns.Goals as goal

pub returns : goal.returns
returns c = record { total = none_total 0 64; after = refl; limits = (refl, none_bounded 64) }
