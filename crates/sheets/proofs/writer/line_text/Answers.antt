-- The word and the two fields, one behind the other.
use Rattle.std.proofs.Common.{◌≡◌, ◌∷◌, ◌++◌, ap, ◌∙◌, arith}
use Rattle.sheets.specs.Lines.{word_text, line_text}
use Rattle.sheets.specs.Outputs.{text_of}
use Rattle.sheets.proofs.Words.{word-put, first-room, second-room}
use Rattle.sheets.proofs.Trips.{trip}
use Rattle.sheets.proofs.writer.line_text.Goals as goal

pub put_field-requires : goal.put_field-requires
put_field-requires g c =
    first-room c.args.word (text_of c.put_bytes.new.self) (word-put c.args.word (text_of c.new-text.result) c.word_bytes.result.now (text_of c.put_bytes.new.self) c.new-text.ensures.bytes c.word_bytes.ensures.bytes c.put_bytes.ensures.bytes)

pub put_field-requires-2 : goal.put_field-requires-2
put_field-requires-2 g c =
    second-room c.args.word (text_of c.put_bytes.new.self) (text_of c.put_field.new.text) (g.K.Kind.LETTER ∷ g.K.Written.text c.args.first)
    (word-put c.args.word (text_of c.new-text.result) c.word_bytes.result.now (text_of c.put_bytes.new.self) c.new-text.ensures.bytes c.word_bytes.ensures.bytes c.put_bytes.ensures.bytes)
    c.put_field.ensures.bytes (let h = c.put_field.ensures.limits in omega arith)

pub returns : goal.returns
returns g c =
    let word = word-put c.args.word (text_of c.new-text.result) c.word_bytes.result.now (text_of c.put_bytes.new.self) c.new-text.ensures.bytes c.word_bytes.ensures.bytes c.put_bytes.ensures.bytes in
    let first = g.K.Kind.LETTER ∷ g.K.Written.text c.args.first in
    let second = g.L.Kind.LETTER ∷ g.L.Written.text c.args.second in
    let whole : text_of c.put_field-2.new.text ≡ line_text (word_text c.args.word) first second = c.put_field-2.ensures.bytes ∙ ap (λ t. t ++ (9 ∷ second)) (c.put_field.ensures.bytes ∙ ap (λ t. t ++ (9 ∷ first)) word) in
    record {
      bytes = whole;
      law = trip c.args.word g.K.Kind.LETTER g.L.Kind.LETTER (g.K.Written.text c.args.first) (g.L.Written.text c.args.second) (λ f. g.K.Written.holds f c.args.first) (λ f. g.L.Written.holds f c.args.second) c.put_field.ensures.law c.put_field-2.ensures.law;
    }
