-- Each turn writes the lowest digit that is left before those that stand already.
use Rattle.std.proofs.Common.{◌≡◌, suc, ◌+◌, ◌-◌, ◌∷◌, drop, set, sym, refl, ap, ◌∙◌, arith, length-set}
use Rattle.std.proofs.lemmas.List.{drop-set, append-nil}
use Rattle.sheets.specs.Digits.{last_digits}
use Rattle.sheets.specs.Elements.{pattern_text}
use Rattle.sheets.specs.Outputs.{text_of, put}
use Rattle.sheets.proofs.Numerals.{last_more}
use Rattle.sheets.proofs.text.Text.put_pattern.Goals as goal

pub loop-at-init : goal.loop-at-init
loop-at-init c = (refl, sym (append-nil (last_digits 16 16 c.args.pattern)))

pub loop-at-preserved : goal.loop-at-preserved
loop-at-preserved c =
    let at = c.loop-at.at in
    let left = c.loop-at.left in
    let digits = c.loop-at.digits in
    let before : at ≡ suc (at - 1) = omega arith in
    let here : at - 1 + 1 ≡ at = omega arith in
    let stands : drop (at - 1) (set digits (at - 1) c.digit_byte.result) ≡ c.digit_byte.result ∷ drop (at - 1 + 1) digits = drop-set digits (at - 1) c.digit_byte.result (omega arith) in
    let more = last_more 16 (at - 1) left (drop at digits) in
    let is_digit = c.digit_byte.ensures.answer in
    let was = c.loop-at.invariant.1 in
    (length-set digits (at - 1) c.digit_byte.result ∙ c.loop-at.invariant.0, cc)

pub returns : goal.returns
unfolding pattern_text last_digits
returns c =
    let none : c.loop-at.at ≡ 0 = omega arith in
    let whole : last_digits 16 16 c.args.pattern ≡ c.loop-at.digits = c.loop-at.invariant.1 ∙ rw none refl in
    record { bytes = c.put_bytes.ensures.bytes ∙ ap (put (text_of c.args.self.now)) (sym whole) }
