-- The text of an element of each kind, and what reading one from the front of some bytes tells.
use Rattle.std.specs.Prelude.{◌≡◌, ℕ, pred, ◌+◌, ◌/◌, ◌^◌, ◌≤◌, true, cond, ◌⊎◌, List, ◌∷◌, length, take, drop, ℤ, pos, neg_ℤ, ◌≤ℤ◌, ◌<ℤ◌, Some, None, Ok, Err, Option, Result, MatchOption}
use Rattle.std.specs.Fmt.{signed_decimal}
use Rattle.sheets.specs.declared.written.Read.{Read}
use Rattle.sheets.specs.Digits.{is_digit, begins, number_of, last_digits}
use Rattle.sheets.specs.Forms.{Form, end, Lang, reach}

-- a pattern in hexadecimal, a digit for every four of its bits
unfoldable pub pattern_text : ℕ → List ℕ
pattern_text pattern = last_digits 16 (64 / 4) pattern

-- a count in decimal, without leading zeros, behind `-` where it is below zero
unfoldable pub count_text : ℤ → List ℕ
count_text count = signed_decimal count

-- the number that a count's text writes
abbrev pub count_of : List ℕ → ℤ
count_of text = cond (begins 45 text) (neg_ℤ (pos (number_of 10 (drop 1 text)))) (pos (number_of 10 text))

-- a number that does not fit so many bits, one of them for the sign
abbrev pub Outside : ℕ → ℤ → Type 0
Outside width z = (z <ℤ neg_ℤ (pos (2 ^ pred width))) ⊎ (pos (2 ^ pred width) ≤ℤ z)

-- the number if it fits so many bits, and else none
abbrev pub Within : ℕ → ℤ → Option ℤ → Type 0
Within width z (Some e) = (e ≡ z) × (Outside width z → ⊥)
Within width z None = Outside width z

-- every pattern's text writes a pattern; a count's text may write a number outside the range of counts
abbrev pub NoPattern : List ℕ → Type 0
NoPattern text = ⊥

abbrev pub NoCount : List ℕ → Type 0
NoCount text = Outside 32 (count_of text)

-- no text of the form begins with a decimal digit
abbrev pub Closed : Form → Type 0
Closed form = (b : ℕ) (bs : List ℕ) → is_digit 10 b ≡ true → reach form (b ∷ bs) ≡ 0

-- The text of an element stands at the front of the bytes: it is of its kind's shape, and whatever form follows, the bytes go along with both just as
-- far as they go on along that form behind the text. The text is that of the element, unless its number lies outside the kind's range.
pub record TextAt {E : Type 0} (shape : Form → Form) (text : E → List ℕ) (outside : List ℕ → Type 0) (bytes : List ℕ) (r : Read E) : Type 0 where
  pub within : r.len ≤ length bytes
  pub is_shape : Lang (shape end) (take r.len bytes)
  pub goes_on : (rest : Form) → Closed rest → reach (shape rest) bytes ≡ r.len + reach rest (drop r.len bytes)
  pub element_is : MatchOption r.element (outside (take r.len bytes)) (λ e. (text e ≡ take r.len bytes) × (outside (take r.len bytes) → ⊥))

-- or the bytes go along with the shape no further than n bytes, whatever follows
abbrev pub ReadsText : {E : Type 0} → (Form → Form) → (E → List ℕ) → (List ℕ → Type 0) → List ℕ → Result (Read E) ℕ → Type 0
ReadsText shape text outside bytes (Ok r) = TextAt shape text outside bytes r
ReadsText shape text outside bytes (Err n) = (n ≤ length bytes) × ((rest : Form) → reach (shape rest) bytes ≡ n)
