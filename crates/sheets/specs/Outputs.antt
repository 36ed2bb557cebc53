-- Texts that are put together, and what a caller's slice holds once a text was handed to it.
use Rattle.std.specs.Prelude.{◌≡◌, ℕ, ◌+◌, ◌<◌, ◌≤◌, cond, List, ◌++◌, length, drop, Ok, Err, Result, nat_le}
use Rattle.numbers.specs.declared.refusal.Refusal.{Refusal}
use Rattle.numbers.specs.Refusals.{Refused}
use Rattle.sheets.specs.declared.text.Text.{Text}

-- the bytes put so far
abbrev pub text_of : Text → List ℕ
text_of t = t.bytes.items

-- some bytes more, if there is room for all of them
unfoldable pub put : List ℕ → List ℕ → List ℕ
put text more = cond (nat_le (length text + length more) 80) (text ++ more) text

-- a text goes to the front of a slice that is long enough, and what stood behind it stays; a shorter slice stays as it was
unfoldable pub handed : List ℕ → List ℕ → List ℕ
handed text before = cond (nat_le (length text) (length before)) (text ++ drop (length text) before) before

-- the answer of a writer, by its text and the length of the slice: the bytes written, or code 7 with the bytes needed
abbrev pub Fits : List ℕ → ℕ → Result ℕ Refusal → Type 0
Fits text room (Ok n) = (length text ≤ room) × (n ≡ length text)
Fits text room (Err e) = (room < length text) × Refused e 7 (length text) 0
