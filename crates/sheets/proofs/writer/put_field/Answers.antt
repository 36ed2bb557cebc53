-- A tab, the letter and the text, each behind the other; there is room for all.
use Rattle.std.proofs.Common.{◌≡◌, [], ◌∷◌, ◌++◌, length, refl, ap, ◌∙◌, append_assoc, arith, length-append}
use Rattle.sheets.specs.Outputs.{text_of, put}
use Rattle.sheets.proofs.Outputs.{put_on}
use Rattle.sheets.proofs.writer.put_field.Goals as goal

pub returns : goal.returns
returns g c =
    let before = text_of c.args.text.now in
    let letter = g.K.Kind.LETTER in
    let text = g.K.Written.text c.args.element in
    let letter-is : c.LETTER.result ≡ letter = c.LETTER.ensures in
    let short = c.write.ensures.limits in
    let room = c.requires in
    let t1 : text_of c.put_bytes.new.self ≡ before ++ (9 ∷ []) = put_on before (text_of c.put_bytes.new.self) before (9 ∷ []) c.put_bytes.ensures.bytes refl (omega arith) in
    let t2 : text_of c.put_byte.new.self ≡ (before ++ (9 ∷ [])) ++ (letter ∷ []) = put_on (text_of c.put_bytes.new.self) (text_of c.put_byte.new.self) (before ++ (9 ∷ [])) (letter ∷ []) (c.put_byte.ensures.bytes ∙ ap (λ b. put (text_of c.put_bytes.new.self) (b ∷ [])) letter-is) t1 (simp length-append (omega arith)) in
    let t3 : text_of c.put_text.new.self ≡ ((before ++ (9 ∷ [])) ++ (letter ∷ [])) ++ text = put_on (text_of c.put_byte.new.self) (text_of c.put_text.new.self) ((before ++ (9 ∷ [])) ++ (letter ∷ [])) text (c.put_text.ensures.bytes ∙ ap (put (text_of c.put_byte.new.self)) c.write.ensures.bytes) t2 (simp length-append (omega arith)) in
    let whole : text_of c.put_text.new.self ≡ before ++ (9 ∷ (letter ∷ text)) = t3 ∙ simp append_assoc in
    record { bytes = whole; limits = short; count = omega (arith, ap length whole, length-append before (9 ∷ (letter ∷ text))); law = c.write.ensures.law }
