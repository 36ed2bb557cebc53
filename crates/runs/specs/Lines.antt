-- What the text of a sheet line says: which refusal it gets, or the product of which two elements it is.
use Rattle.std.specs.Prelude.{ℕ, ◌+◌, ◌^◌, Bool, true, false, cond, ◌&&◌, ◌||◌, List, [], ◌∷◌, length, drop, ℤ, pos, neg_ℤ, None, Option, ◌==◌, int_le, int_lt, nat_le}
use Rattle.numbers.specs.Counts.{count_value}
use Rattle.numbers.specs.Patterns.{pattern_value}
use Rattle.sheets.specs.declared.line.Word.{Word}
use Rattle.sheets.specs.declared.line.Word.TheVariants.{Add, Sub}
use Rattle.sheets.specs.Digits.{number_of}
use Rattle.sheets.specs.Elements.{count_of}
use Rattle.sheets.specs.Forms.{reach}
use Rattle.sheets.specs.Shapes.{line_shape}
use Rattle.runs.specs.Calls.{LineReading, misread, product}

-- the bytes before the first tab, and those behind it
abbrev pub before_tab : List ℕ → List ℕ
before_tab [] = []
before_tab (b ∷ bs) = cond (b == 9) [] (b ∷ before_tab bs)

abbrev pub behind_tab : List ℕ → List ℕ
behind_tab [] = []
behind_tab (b ∷ bs) = cond (b == 9) bs (behind_tab bs)

-- the value of the element that a field writes: `p` and a pattern in hexadecimal, or `c` and a count in decimal
abbrev pub field_value : List ℕ → Option ℤ
field_value [] = None
field_value (letter ∷ text) = cond (letter == 112) (pattern_value (number_of 16 text)) (count_value (count_of text))

-- a count outside -2^31 to 2^31 - 1
abbrev pub field_out : List ℕ → Bool
field_out [] = false
field_out (letter ∷ text) = letter == 99 && (int_lt (count_of text) (neg_ℤ (pos (2 ^ 31))) || int_le (pos (2 ^ 31)) (count_of text))

-- whether a line begins with the letter of `sub`
abbrev pub withdraws : List ℕ → Bool
withdraws [] = false
withdraws (b ∷ bs) = b == 115

-- A line of another shape gets 5 at the most leading bytes that it shares with a line of that shape; a count out of range 6 at its field's letter.
-- `add` takes the product, `sub` withdraws it.
unfoldable pub line_reading : List ℕ → LineReading
line_reading bytes =
    let first = before_tab (drop 4 bytes) in
    let second = behind_tab (drop 4 bytes) in
    cond (nat_le (reach line_shape bytes) (length bytes)) (misread 5 (reach line_shape bytes) 0)
    (cond (field_out first) (misread 6 4 1)
    (cond (field_out second) (misread 6 (5 + length first) 2)
    (product (withdraws bytes) (field_value first) 4 (field_value second) (5 + length first))))

-- whether a word withdraws
abbrev pub is_sub : Word → Bool
is_sub Add = false
is_sub Sub = true
