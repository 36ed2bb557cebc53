-- A sheet line: its words, its fields, and what reading one answers.
use Rattle.std.specs.Prelude.{◌≡◌, ℕ, suc, ◌+◌, ◌^◌, ◌<◌, ◌≤◌, ◌⊎◌, List, [], ◌∷◌, ◌++◌, length, drop, ℤ, Some, None, Ok, Err, codes, Result, MatchOption}
use Rattle.std.specs.List.{between}
use Rattle.numbers.specs.declared.refusal.Refusal.{Refusal}
use Rattle.numbers.specs.Refusals.{Refused}
use Rattle.sheets.specs.declared.line.Field.{Field}
use Rattle.sheets.specs.declared.line.Field.TheVariants.{Pattern, Count}
use Rattle.sheets.specs.declared.line.Line.{Line}
use Rattle.sheets.specs.declared.line.Word.{Word}
use Rattle.sheets.specs.declared.line.Word.TheVariants.{Add, Sub}
use Rattle.sheets.specs.declared.reader.Found.{Found}
use Rattle.sheets.specs.declared.reader.Scanned.{Scanned}
use Rattle.sheets.specs.Elements.{Closed, Outside, pattern_text, count_text, NoPattern, NoCount}
use Rattle.sheets.specs.Forms.{Form, end, Lang, Astray, reach}
use Rattle.sheets.specs.Shapes.{field_shape, pair_shape, line_shape}

abbrev pub word_text : Word → List ℕ
word_text Add = codes "add"
word_text Sub = codes "sub"

-- a word, a tab, a field, a tab and a field
abbrev pub line_text : List ℕ → List ℕ → List ℕ → List ℕ
line_text word first second = word ++ (9 ∷ first) ++ (9 ∷ second)

-- the bytes of a field: the letter of its kind and the text behind it
abbrev pub field_text : Field → List ℕ
field_text (Pattern digits place element) = 112 ∷ digits.now
field_text (Count digits place element) = 99 ∷ digits.now

-- where the letter stands in the line
abbrev pub place_of : Field → ℕ
place_of (Pattern digits place element) = place
place_of (Count digits place element) = place

-- the text is that of the element
abbrev pub Writes : Field → Type 0
Writes (Pattern digits place element) = pattern_text element ≡ digits.now
Writes (Count digits place element) = count_text element ≡ digits.now

-- the element is one of its kind
abbrev pub Proper : Field → Type 0
Proper (Pattern digits place element) = element < 2 ^ 64
Proper (Count digits place element) = Outside 32 element → ⊥

-- a field of patterns with that element, and one of counts
abbrev pub HoldsPattern : Field → ℕ → Type 0
HoldsPattern (Pattern digits place element) e = element ≡ e
HoldsPattern (Count digits place element) e = ⊥

abbrev pub HoldsCount : Field → ℤ → Type 0
HoldsCount (Pattern digits place element) e = ⊥
HoldsCount (Count digits place element) e = element ≡ e

-- the bytes are a field whose number lies outside the range of its kind
abbrev pub OutOfRange : List ℕ → Type 0
OutOfRange [] = ⊥
OutOfRange (letter ∷ text) = ((letter ≡ 112) × NoPattern text) ⊎ ((letter ≡ 99) × NoCount text)

-- a field that begins with the letter goes on in the shape, and is out of range just where its text is
pub record Leads (letter : ℕ) (shape : Form → Form) (outside : List ℕ → Type 0) : Type 0 where
  pub along : (rest : Form) (bs : List ℕ) → reach (field_shape rest) (letter ∷ bs) ≡ suc (reach (shape rest) bs)
  pub is_field : (text : List ℕ) → Lang (shape end) text → Lang (field_shape end) (letter ∷ text)
  pub out : (text : List ℕ) → outside text → OutOfRange (letter ∷ text)
  pub only : (text : List ℕ) → OutOfRange (letter ∷ text) → outside text

-- the text of an element is of its kind's shape and within its range, and only fields with that element have it
pub record Stands (letter : ℕ) (shape : Form → Form) (outside : List ℕ → Type 0) (text : List ℕ) (holds : Field → Type 0) : Type 0 where
  pub leads : Leads letter shape outside
  pub is_shape : Lang (shape end) text
  pub inside : outside text → ⊥
  pub back : (f : Field) → field_text f ≡ letter ∷ text → Proper f → Writes f → holds f

-- the field with these bytes at this place, and its element
pub record IsField (text : List ℕ) (place : ℕ) (f : Field) : Type 0 where
  pub bytes_are : field_text f ≡ text
  pub place_is : place_of f ≡ place
  pub proper : Proper f
  pub writes : Writes f
  pub inside : OutOfRange text → ⊥

-- A field stands in the line from `at` up to where it ends, and whatever form follows, the line goes along with both just as far as it goes on along that form behind the field.
pub record FieldAt (line : List ℕ) (at : ℕ) (found : Found) : Type 0 where
  pub later : at < found.end
  pub within : found.end ≤ length line
  pub is_field : Lang (field_shape end) (between at found.end line)
  pub goes_on : (rest : Form) → Closed rest → at + reach (field_shape rest) (drop at line) ≡ found.end + reach rest (drop found.end line)
  pub field_is : MatchOption found.field (OutOfRange (between at found.end line)) (λ f. IsField (between at found.end line) at f)

-- or the line goes along with the shape of a field no further than the place of the refusal, whatever follows
abbrev pub ReadsField : List ℕ → ℕ → Result Found Refusal → Type 0
ReadsField line at (Ok found) = FieldAt line at found
ReadsField line at (Err e) = Refused e 5 e.place 0 × (e.place ≤ length line) × ((rest : Form) → at + reach (field_shape rest) (drop at line) ≡ e.place)

-- the line begins with a word and a tab, and what follows decides how far it goes along with the shape of a line; or it goes no further than the place of the refusal
abbrev pub ReadsWord : List ℕ → Result Word Refusal → Type 0
ReadsWord line (Ok word) = (line ≡ word_text word ++ (9 ∷ drop 4 line)) × (reach line_shape line ≡ 4 + reach pair_shape (drop 4 line))
ReadsWord line (Err e) = Refused e 5 e.place 0 × (e.place ≤ length line) × (reach line_shape line ≡ e.place)

-- the bytes are those of a line of the right shape
pub record Parts (line word first second : List ℕ) : Type 0 where
  pub whole : line ≡ line_text word first second
  pub is_word : (word ≡ codes "add") ⊎ (word ≡ codes "sub")
  pub is_first : Lang (field_shape end) first
  pub is_second : Lang (field_shape end) second

-- the line, read: its word and fields make up its bytes, each field with its place and its element
pub record IsLine (bytes : List ℕ) (line : Line) : Type 0 where
  pub parts : Parts bytes (word_text line.word) (field_text line.first) (field_text line.second)
  pub first_is : IsField (field_text line.first) 4 line.first
  pub second_is : IsField (field_text line.second) (5 + length (field_text line.first)) line.second

-- the refusal of a line of the right shape: the first field's number is out of range, or only the second's
pub record FirstOut (line : List ℕ) (e : Refusal) : Type 0 where
  pub word : List ℕ
  pub first : List ℕ
  pub second : List ℕ
  pub parts : Parts line word first second
  pub out : OutOfRange first
  pub refused : Refused e 6 4 1

pub record SecondOut (line : List ℕ) (e : Refusal) : Type 0 where
  pub word : List ℕ
  pub first : List ℕ
  pub second : List ℕ
  pub parts : Parts line word first second
  pub inside : OutOfRange first → ⊥
  pub out : OutOfRange second
  pub refused : Refused e 6 (5 + length first) 2

-- the parts of a line of the right shape: it is read with both its fields, and refused where one of them is out of range
pub record HasParts (line : List ℕ) (s : Scanned) : Type 0 where
  pub room : s.tab + 1 < 2 ^ 64
  pub both : (f g : Field) → s.first ≡ Some f → s.second ≡ Some g → IsLine line (record { word = s.word; first = f; second = g })
  pub first_out : s.first ≡ None → (e : Refusal) → Refused e 6 4 1 → FirstOut line e
  pub second_out : (f : Field) → s.first ≡ Some f → s.second ≡ None → (e : Refusal) → Refused e 6 (s.tab + 1) 2 → SecondOut line e

abbrev pub Scans : List ℕ → Result Scanned Refusal → Type 0
Scans line (Ok s) = HasParts line s
Scans line (Err e) = Astray line_shape line e.place × Refused e 5 e.place 0

-- the answer to a line: read; refused with 5 where it leaves the shape of a line; or refused with 6
abbrev pub ReadsLine : List ℕ → Result Line Refusal → Type 0
ReadsLine bytes (Ok line) = IsLine bytes line
ReadsLine bytes (Err e) = (Astray line_shape bytes e.place × Refused e 5 e.place 0) ⊎ (FirstOut bytes e ⊎ SecondOut bytes e)

-- the answer to a line that was written: its word, and fields that hold its elements
abbrev pub ReadsBack : Word → (Field → Type 0) → (Field → Type 0) → Result Line Refusal → Type 0
ReadsBack word first second (Ok line) = (line.word ≡ word) × first line.first × second line.second
ReadsBack word first second (Err e) = ⊥

-- whatever the reader may answer to these bytes, it is the line that was written
abbrev pub RoundTrip : List ℕ → Word → (Field → Type 0) → (Field → Type 0) → Type 0
RoundTrip bytes word first second = (r : Result Line Refusal) → ReadsLine bytes r → ReadsBack word first second r
