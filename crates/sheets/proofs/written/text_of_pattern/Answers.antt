-- The 16 last digits of the pattern.
use Rattle.std.proofs.Common.{[], refl, arith, lit<, lit≤}
use Rattle.sheets.specs.Digits.{last_digits}
use Rattle.sheets.specs.Elements.{pattern_text}
use Rattle.sheets.specs.Outputs.{text_of}
use Rattle.sheets.specs.Shapes.{pattern_shape}
use Rattle.sheets.proofs.Fields.{digits_repeat}
use Rattle.sheets.proofs.Leading.{pattern-leads, pattern-back}
use Rattle.sheets.proofs.Numerals.{digits_last}
use Rattle.sheets.proofs.Outputs.{put_on, length_last}
use Rattle.sheets.proofs.written.text_of_pattern.Goals as goal

pub returns : goal.returns
unfolding pattern_text pattern_shape
returns c =
    let element = c.args.element in
    let len = length_last 16 16 element in
    record {
      bytes = put_on (text_of c.new-text.result) (text_of c.put_pattern.new.self) [] (last_digits 16 16 element) c.put_pattern.ensures.bytes c.new-text.ensures.bytes (omega arith);
      limits = omega arith;
      law = record { leads = pattern-leads; is_shape = digits_repeat 16 refl 16 (last_digits 16 16 element) (digits_last 16 16 element (lit< tt) (lit≤ tt)) len; inside = λ bad. bad; back = pattern-back element c.ranges.element.fits };
    }
