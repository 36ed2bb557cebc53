-- The number in decimal, behind its sign.
use Rattle.std.proofs.Common.{◌≡◌, [], ap, ◌∙◌, subst, arith, w32, to_z, of_z}
use Rattle.std.specs.Fmt.{signed_decimal}
use Rattle.std.proofs.lemmas.Int.{to_z-of_z}
use Rattle.sheets.specs.Elements.{Outside, count_text}
use Rattle.sheets.specs.Outputs.{text_of, put}
use Rattle.sheets.proofs.Counted.{spelled_count, inside}
use Rattle.sheets.proofs.Leading.{count-leads, count-back}
use Rattle.sheets.proofs.Outputs.{put_on}
use Rattle.sheets.proofs.written.text_of_count.Goals as goal

pub returns : goal.returns
unfolding count_text
returns c =
    let z = c.args.element in
    let s = spelled_count z c.ranges.element in
    let same : to_z w32 (of_z w32 z) ≡ z = to_z-of_z w32 z c.ranges.element in
    record {
      bytes = put_on (text_of c.new-text.result) (text_of c.put_decimal.new.self) [] (count_text z) (c.put_decimal.ensures.bytes ∙ ap (λ y. put (text_of c.new-text.result) (signed_decimal y)) same) c.new-text.ensures.bytes (omega (arith, s.short));
      limits = s.short;
      law = record { leads = count-leads; is_shape = s.is_shape; inside = λ bad. inside z c.ranges.element (subst (Outside 32) s.number_is bad); back = count-back z (inside z c.ranges.element) };
    }
