-- The word and the two fields of the line that was read make up its bytes again.
use Rattle.std.proofs.Common.{◌≡◌, ℕ, List, ◌∷◌, ◌++◌, length, sym, ap, ◌∙◌, subst, arith}
use Rattle.sheets.specs.Copies.{Copies, copied}
use Rattle.sheets.specs.Lines.{IsLine, field_text}
use Rattle.sheets.specs.Outputs.{text_of, Fits, handed}
use Rattle.sheets.proofs.Words.{word-length, word-put, first-room, copies}
use Rattle.sheets.proofs.writer.write_again.Goals as goal

pub put_again-requires : goal.put_again-requires
put_again-requires c =
    first-room c.args.line.word (text_of c.put_bytes.new.self) (word-put c.args.line.word (text_of c.new-text.result) c.word_bytes.result.now (text_of c.put_bytes.new.self) c.new-text.ensures.bytes c.word_bytes.ensures.bytes c.put_bytes.ensures.bytes)

pub put_again-requires-2 : goal.put_again-requires-2
put_again-requires-2 c =
    let word = word-put c.args.line.word (text_of c.new-text.result) c.word_bytes.result.now (text_of c.put_bytes.new.self) c.new-text.ensures.bytes c.word_bytes.ensures.bytes c.put_bytes.ensures.bytes in
    omega (arith, ap length word, word-length c.args.line.word, c.put_again.ensures.count)

pub returns : goal.returns
returns c = record { answer = λ bytes is. (result bytes is).0; bytes = λ bytes is. (result bytes is).1 }
  where
    result : (bytes : List ℕ) → IsLine bytes c.args.line → Copies bytes (length c.args.out.now) c.copy_to.result × (c.copy_to.new.out ≡ copied bytes c.args.out.now c.copy_to.result)
    result bytes is =
        let out = c.args.out.now in
        let l = c.args.line in
        let word = word-put l.word (text_of c.new-text.result) c.word_bytes.result.now (text_of c.put_bytes.new.self) c.new-text.ensures.bytes c.word_bytes.ensures.bytes c.put_bytes.ensures.bytes in
        let first = c.put_again.ensures.bytes is.first_is.writes ∙ ap (λ t. t ++ (9 ∷ field_text l.first)) word in
        let whole : text_of c.put_again-2.new.text ≡ bytes = c.put_again-2.ensures.bytes is.second_is.writes ∙ ap (λ t. t ++ (9 ∷ field_text l.second)) first ∙ sym is.parts.whole in
        copies bytes out c.copy_to.new.out l c.copy_to.result is (subst (λ t. Fits t (length out) c.copy_to.result) whole c.copy_to.ensures.answer) (c.copy_to.ensures.bytes ∙ ap (λ t. handed t out) whole)
