-- The sheet stands behind the bytes that were fed; each turn takes some of what is left.
use Rattle.std.proofs.Common.{◌≡◌, ℕ, List, ◌++◌, length}
use Rattle.reports.specs.Sheets.{Stands}
use Rattle.reports.proofs.sheet.Sheet.report_lines.Given as goal

abbrev pub invariant-loop-rest : goal.invariant-loop-rest
invariant-loop-rest g l =
    (fed : List ℕ) × ((fed ++ l.rest) ≡ l.bytes)
    × ((past : List ℕ) → Stands g.C.Condenser past l.initial.self → Stands g.C.Condenser (past ++ fed) l.self)

abbrev pub decreases-loop-rest : goal.decreases-loop-rest
decreases-loop-rest g l = length l.rest
