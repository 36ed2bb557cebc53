-- The bytes of the two reports.
use Rattle.std.specs.Prelude.{ℕ, List, ◌++◌, codes, decimal}
use Rattle.sheets.specs.Elements.{pattern_text}

-- the report of a refused line: its number, the code and the place
unfoldable pub refused_report : ℕ → ℕ → ℕ → List ℕ
refused_report line code place = codes "no\t" ++ decimal line ++ codes "\t" ++ decimal code ++ codes "\t" ++ decimal place ++ codes "\n"

-- the report of the sum: the pattern that it reads as, and the number of products
unfoldable pub sum_report : ℕ → ℕ → List ℕ
sum_report pattern products = codes "sum\t" ++ pattern_text pattern ++ codes "\t" ++ decimal products ++ codes "\n"
