-- The lines of a sheet: its bytes, parted at line feeds, of each line the first 40 bytes.
use Rattle.std.specs.Prelude.{◌≡◌, ℕ, suc, ◌+◌, ◌-◌, ◌^◌, ◌<◌, ◌≤◌, min, false, cond, List, [], ◌∷◌, ◌++◌, length, take, ◌==◌}
use Rattle.sheets.specs.declared.splitter.Splitter.{Splitter}

-- the first 40 bytes of a line, with one byte more
abbrev pub longer : List ℕ → ℕ → List ℕ
longer line b = take 40 (line ++ (b ∷ []))

-- the lines that are ended by line feeds in some bytes, where a line has begun before them
abbrev pub ended : List ℕ → List ℕ → List (List ℕ)
ended line [] = []
ended line (b ∷ bs) = cond (b == 10) (line ∷ ended [] bs) (ended (longer line b) bs)

-- the line that has begun behind them
abbrev pub begun : List ℕ → List ℕ → List ℕ
begun line [] = line
begun line (b ∷ bs) = cond (b == 10) (begun [] bs) (begun (longer line b) bs)

-- a last line that no line feed ends counts if it has bytes
abbrev pub last : List ℕ → List (List ℕ)
last [] = []
last (b ∷ bs) = (b ∷ bs) ∷ []

abbrev pub sheet_lines : List ℕ → List (List ℕ)
sheet_lines bytes = ended [] bytes ++ last (begun [] bytes)

-- where the first line feed stands, or the length
abbrev pub feed_at : List ℕ → ℕ
feed_at [] = 0
feed_at (b ∷ bs) = cond (b == 10) 0 (suc (feed_at bs))

-- What the lines of a sheet are, line by line: none of no bytes; the first 40 bytes of a line that a line feed ends, and then those of the rest; and the first 40 bytes of
-- a last line that has some.
pub record Parting : Type 0 where
  pub none : sheet_lines [] ≡ []
  pub first : (line rest : List ℕ) → feed_at line ≡ length line → sheet_lines (line ++ (10 ∷ rest)) ≡ take 40 line ∷ sheet_lines rest
  pub rest : (line : List ℕ) → feed_at line ≡ length line → 0 < length line → sheet_lines line ≡ take 40 line ∷ []

-- the line that a splitter holds, and the one that has begun, which is empty behind a line feed
abbrev pub held : Splitter → List ℕ
held s = s.bytes.items

abbrev pub current : Splitter → List ℕ
current s = cond s.complete [] (held s)

-- the line that a splitter hands out, once it is complete
abbrev pub yielded : Splitter → List (List ℕ)
yielded s = cond s.complete (held s ∷ []) []

-- one call took r bytes of the chunk: these end the one line that the splitter then hands out, or they are the whole chunk and end none
pub record Took (before : Splitter) (chunk : List ℕ) (r : ℕ) (after : Splitter) : Type 0 where
  pub within : r ≤ length chunk
  pub lines : ended (current before) (take r chunk) ≡ yielded after
  pub line : begun (current before) (take r chunk) ≡ current after
  pub all : after.complete ≡ false → r ≡ length chunk
  pub number : after.number ≡ cond before.complete (min (before.number + 1) (2 ^ 64 - 1)) before.number

-- The splitter after the bytes of a sheet's beginning, however they were cut: the line that has begun, the last line that was ended, and the number of either.
pub record After (past : List ℕ) (s : Splitter) : Type 0 where
  pub line : current s ≡ begun [] past
  pub earlier : List (List ℕ)
  pub lines : ended [] past ≡ earlier ++ yielded s
  pub number : length earlier + 1 < 2 ^ 64 → s.number ≡ length earlier + 1
