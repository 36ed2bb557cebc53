-- A word and fields behind it, and the room that they leave. Assumes nothing.
use Rattle.std.proofs.Common.{◌≡◌, ℕ, ◌≤◌, List, [], ◌∷◌, ◌++◌, length, Ok, Err, Result, refl, ap, ◌∙◌, inr, arith, length-append}
use Rattle.numbers.specs.declared.refusal.Refusal.{Refusal}
use Rattle.sheets.specs.declared.line.Word.{Word}
use Rattle.sheets.specs.declared.line.Word.TheVariants.{Add, Sub}
use Rattle.sheets.specs.declared.line.Line.{Line}
use Rattle.sheets.specs.Copies.{Copies, copied}
use Rattle.sheets.specs.Lines.{IsLine, word_text}
use Rattle.sheets.specs.Outputs.{put, Fits, handed}
use Rattle.sheets.proofs.Outputs.{put_on, handed-short}

pub word-length : (w : Word) → length (word_text w) ≡ 3
word-length Add = refl
word-length Sub = refl

-- the word goes into an empty text
pub word-put : (w : Word) (before word after : List ℕ) → before ≡ [] → word ≡ word_text w → after ≡ put before word → after ≡ word_text w
word-put w before word after none is e = put_on before after [] (word_text w) (e ∙ ap (put before) is) none (omega (arith, word-length w))

pub first-room : (w : Word) (after : List ℕ) → after ≡ word_text w → length after ≤ 60
first-room w after e = omega (arith, ap length e, word-length w)

pub second-room : (w : Word) (before after field : List ℕ) → before ≡ word_text w → after ≡ before ++ (9 ∷ field) → length field ≤ 17 → length after ≤ 60
second-room w before after field e f h = omega (arith, ap length e, word-length w, ap length f, length-append before (9 ∷ field))

-- a line that was read, handed over again
pub copies : (line before after : List ℕ) (l : Line) (r : Result ℕ Refusal) → IsLine line l → Fits line (length before) r → after ≡ handed line before → Copies line (length before) r × (after ≡ copied line before r)
copies line before after l (Ok n) is fits e = (((l, is), fits), e)
copies line before after l (Err x) is fits e = (inr ((l, is), fits), e ∙ handed-short line before fits.0)
