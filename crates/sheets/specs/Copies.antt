-- A line that is read and written again.
use Rattle.std.specs.Prelude.{ℕ, ◌⊎◌, List, Ok, Err, Result}
use Rattle.numbers.specs.declared.refusal.Refusal.{Refusal}
use Rattle.sheets.specs.declared.line.Line.{Line}
use Rattle.sheets.specs.Lines.{IsLine, ReadsLine}
use Rattle.sheets.specs.Outputs.{Fits, handed}

-- a line that can be read is answered as a writer of its bytes would, and any other as by the reader
abbrev pub Copies : List ℕ → ℕ → Result ℕ Refusal → Type 0
Copies line room (Ok n) = ((l : Line) × IsLine line l) × Fits line room (Ok n)
Copies line room (Err e) = ReadsLine line (Err e) ⊎ (((l : Line) × IsLine line l) × Fits line room (Err e))

-- what the slice then holds
abbrev pub copied : List ℕ → List ℕ → Result ℕ Refusal → List ℕ
copied line before (Ok n) = handed line before
copied line before (Err e) = before
