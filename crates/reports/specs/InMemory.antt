-- The whole report of a sheet that stands in memory, and a slice into which it is put, part by part.
use Rattle.std.specs.Prelude.{◌≡◌, ℕ, ◌-◌, ◌^◌, ◌<◌, ◌≤◌, min, List, [], ◌∷◌, ◌++◌, length, drop, ℤ, Ok, Err, Result}
use Rattle.std.specs.Float.{binary64}
use Rattle.numbers.specs.declared.refusal.Refusal.{Refusal}
use Rattle.numbers.specs.Refusals.{Refused}
use Rattle.readings.specs.declared.forms.Direction.TheVariants.{Nearest}
use Rattle.readings.specs.Rounding.{Rounds}
use Rattle.sheets.specs.Outputs.{handed}
use Rattle.sheets.specs.Reports.{refused_report, sum_report}
use Rattle.sheets.specs.Splitting.{sheet_lines}
use Rattle.runs.specs.Bags.{exact_sum}
use Rattle.reports.specs.declared.sheet.RefusedLine.{RefusedLine}
use Rattle.reports.specs.Sheets.{refusals, lines_bag}

-- the reports of refused lines, one behind the other
unfoldable pub refused_reports : List RefusedLine → List ℕ
refused_reports [] = []
refused_reports (l ∷ ls) = refused_report l.line l.code l.place ++ refused_reports ls

-- The text is the report of a sheet: the refused lines in their order, and then the sum, which is the long reading, to the nearest number, of the exact sum of the
-- sheet's bag, with the number of its products.
pub record SheetReport (capacity : ℕ) (sheet text : List ℕ) : Type 0 where
  pub pattern : ℕ
  pub rounds : Rounds binary64 Nearest (exact_sum (lines_bag capacity (sheet_lines sheet))) pattern
  pub text_is : text ≡ refused_reports (refusals capacity (sheet_lines sheet)) ++ sum_report pattern (length (lines_bag capacity (sheet_lines sheet)))

-- the length of a text as a number of 64 bits, which a longer one leaves at the largest
abbrev pub told : List ℕ → ℕ
told text = min (length text) (2 ^ 64 - 1)

-- the answer of a writer of any text, by the text and the length of the slice: the bytes written, or code 7 with the bytes needed
abbrev pub FitsWhole : List ℕ → ℕ → Result ℕ Refusal → Type 0
FitsWhole text room (Ok n) = (length text ≤ room) × (n ≡ length text)
FitsWhole text room (Err e) = (room < length text) × Refused e 7 (told text) 0

-- the report of a sheet handed to a slice
pub record SheetWritten (capacity : ℕ) (sheet before after : List ℕ) (r : Result ℕ Refusal) : Type 0 where
  pub text : List ℕ
  pub report : SheetReport capacity sheet text
  pub answer : FitsWhole text (length before) r
  pub bytes : after ≡ handed text before

-- A slice with a text under way, which ends at `end`. Where the slice has room for the text, the text stands at its front, and what stood behind it stays.
pub record Filled (text before after : List ℕ) (end : ℕ) : Type 0 where
  pub end_is : end ≡ told text
  pub same : length after ≡ length before
  pub bytes : length text ≤ length before → after ≡ text ++ drop (length text) before

-- one part more
abbrev pub Appends : List ℕ → List ℕ → ℕ → List ℕ → ℕ → Type 0
Appends more out end out' end' = (text before : List ℕ) → Filled text before out end → Filled (text ++ more) before out' end'

-- the report of the sum is put behind the text, for a run with that total and count
pub record Totalled (total : ℤ) (count : ℕ) (out : List ℕ) (end : ℕ) (out' : List ℕ) (end' : ℕ) : Type 0 where
  pub pattern : ℕ
  pub rounds : Rounds binary64 Nearest total pattern
  pub appends : Appends (sum_report pattern count) out end out' end'

-- the report of a sheet as the text that a slice holds
pub record Reported (capacity : ℕ) (sheet before after : List ℕ) (end : ℕ) : Type 0 where
  pub text : List ℕ
  pub report : SheetReport capacity sheet text
  pub filled : Filled text before after end
