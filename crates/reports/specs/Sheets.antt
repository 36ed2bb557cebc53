-- A whole sheet: which of its lines are refused, and the bag that the others leave, from the capacity and the sheet's bytes alone.
use Rattle.std.specs.Prelude.{◌≡◌, ℕ, ◌+◌, List, [], ◌∷◌, ◌++◌, map, length, ℤ, Some, None, Option, Result}
use Rattle.std.specs.Float.{binary64}
use Rattle.condensers.specs.declared.condenser.Condenser.{Ghosts as Condenser}
use Rattle.numbers.specs.declared.refusal.Refusal.{Refusal}
use Rattle.readings.specs.declared.forms.Direction.TheVariants.{Nearest}
use Rattle.readings.specs.Rounding.{Rounds}
use Rattle.sheets.specs.Outputs.{Fits, handed}
use Rattle.sheets.specs.Reports.{sum_report}
use Rattle.sheets.specs.Splitting.{ended, After}
use Rattle.runs.specs.Bags.{Entry}
use Rattle.runs.specs.Calls.{Outcome, accepted, refused, ValueCall, sheet_line, call_outcome}
use Rattle.runs.specs.Lines.{line_reading}
use Rattle.runs.specs.Queues.{bag_after, bag_of, Holds}
use Rattle.reports.specs.declared.sheet.RefusedLine.{RefusedLine}
use Rattle.reports.specs.declared.sheet.Sheet.{Sheet}

abbrev pub line_call : List ℕ → ValueCall
line_call line = sheet_line (line_reading line)

-- the line with the number n, where it is refused
abbrev pub refused_as : ℕ → Outcome → List RefusedLine
refused_as n accepted = []
refused_as n (refused code place side) = record { line = n; code = code; place = place; side = side } ∷ []

-- the refused lines among some lines, of which the first has the number n, where the bag of those before them is given
unfoldable pub refusals_from : ℕ → List Entry → ℕ → List (List ℕ) → List RefusedLine
refusals_from capacity bag n [] = []
refusals_from capacity bag n (l ∷ ls) = refused_as n (call_outcome capacity (length bag) (line_call l)) ++ refusals_from capacity (bag_after capacity bag (line_call l)) (n + 1) ls

-- the refused lines, and the bag, of a list of lines
abbrev pub refusals : ℕ → List (List ℕ) → List RefusedLine
refusals capacity lines = refusals_from capacity [] 1 lines

abbrev pub lines_bag : ℕ → List (List ℕ) → List Entry
lines_bag capacity lines = bag_of capacity (map line_call lines)

-- the lines that a call found refused: none or one
abbrev pub listed : Option RefusedLine → List RefusedLine
listed None = []
listed (Some l) = l ∷ []

-- The sheet after the bytes of its beginning, however they were cut: its lines up to there, and a run that holds the bag of those that were ended.
pub record Stands {C : Type 0} (m : Condenser C) (past : List ℕ) (s : Sheet C) : Type 0 where
  pub lines_are : After past s.lines
  pub holds : Holds m s.run.condenser (lines_bag m.capacity (ended [] past))

-- A line entered into a run that held a bag: the bag after it, and the line, under its number, where it was refused.
pub record Enters {C : Type 0} (m : Condenser C) (bag : List Entry) (line : List ℕ) (number : ℕ) (after : C) (r : Option RefusedLine) : Type 0 where
  pub holds : Holds m after (bag_after m.capacity bag (line_call line))
  pub refused_is : listed r ≡ refused_as number (call_outcome m.capacity (length bag) (line_call line))

-- The sum report of a run with that total and count: its pattern is the long reading, to the nearest number, and its products are the count.
pub record SumWritten (total : ℤ) (count : ℕ) (before after : List ℕ) (r : Result ℕ Refusal) : Type 0 where
  pub pattern : ℕ
  pub rounds : Rounds binary64 Nearest total pattern
  pub answer : Fits (sum_report pattern count) (length before) r
  pub bytes : after ≡ handed (sum_report pattern count) before
