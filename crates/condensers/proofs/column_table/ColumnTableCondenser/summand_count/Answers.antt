-- Two summands for each column. Assumes nothing.
use Rattle.std.proofs.Common.{sym}
use Rattle.condensers.proofs.ColumnReads.{as_many}
use Rattle.condensers.proofs.column_table.ColumnTableCondenser.summand_count.Goals as goal

pub returns : goal.returns
returns c = record { answer = sym (as_many c.args.self.now) }
