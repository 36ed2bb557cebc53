-- +0 at every place. Assumes nothing.
use Rattle.std.proofs.Common.{refl, le_of_eq}
use Rattle.condensers.specs.Pairing.{empty, empty_table, size}
use Rattle.condensers.specs.Laws.Tables.{stands-none, total_none, sum-none, size_none}
use Rattle.condensers.proofs.pairing_table.no_entries.Goals as goal

pub returns : goal.returns
unfolding empty_table empty
returns c = record { total = total_none 4096; after = refl; limits = (refl, (stands-none 0 4096, le_of_eq (sum-none size 4096 size_none))) }
