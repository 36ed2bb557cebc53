-- The sheet stands behind the bytes that were fed, and the slice has the reports of the lines that they ended.
use Rattle.std.proofs.Common.{◌≡◌, ℕ, List, [], ◌++◌, length}
use Rattle.sheets.specs.Splitting.{ended}
use Rattle.reports.specs.InMemory.{refused_reports, Filled}
use Rattle.reports.specs.Sheets.{refusals, Stands}
use Rattle.reports.proofs.in_memory.append_all.Given as goal

abbrev pub invariant-loop-rest : goal.invariant-loop-rest
invariant-loop-rest g l =
    (fed : List ℕ) × ((fed ++ l.rest) ≡ l.sheet)
    × (Stands g.C.Condenser fed l.fed)
    × Filled (refused_reports (refusals g.C.Condenser.capacity (ended [] fed))) l.initial.out l.out l.end

abbrev pub decreases-loop-rest : goal.decreases-loop-rest
decreases-loop-rest g l = length l.rest
