-- The text of a field is that of its element. Assumes nothing.
use Rattle.std.proofs.Common.{ℤ, Option, sym, subst, w32, w64, Fits, SFits, rules}
use Rattle.std.proofs.lemmas.Int.{to_z-of_z}
use Rattle.numbers.specs.Refusals.{side_of}
use Rattle.sheets.specs.declared.line.Field.{Field}
use Rattle.sheets.specs.Lines.{field_text, place_of, Writes}
use Rattle.runs.specs.Calls.{FactorAt}
use Rattle.runs.specs.Lines.{field_value}
use Rattle.runs.proofs.LineTexts.{pattern_field, count_field}
use Rattle.runs.proofs.line.factor_of.Goals as goal

pub returns-in-Pattern : goal.returns-in-Pattern
returns-in-Pattern c =
    let i = c.in-Pattern in
    let fits : Fits w64 i.element = search rules in
    let side = side_of c.args.side in
    record {
      answer = λ w.
          subst (λ (f : Field). FactorAt (field_value (field_text f)) (place_of f) side c.factor_at.result) (sym i.is)
          (subst (λ (x : Option ℤ). FactorAt x i.place side c.factor_at.result)
          (sym (pattern_field i.element i.digits.now fits.fits (subst Writes i.is w))) c.factor_at.ensures.answer);
    }

pub returns-in-Count : goal.returns-in-Count
returns-in-Count c =
    let i = c.in-Count in
    let fits : SFits w32 i.element = search rules in
    let side = side_of c.args.side in
    record {
      answer = λ w.
          subst (λ (f : Field). FactorAt (field_value (field_text f)) (place_of f) side c.factor_at-in-Count.result) (sym i.is)
          (subst (λ (x : Option ℤ). FactorAt x i.place side c.factor_at-in-Count.result)
          (sym (count_field i.element i.digits.now fits (subst Writes i.is w))) (simp to_z-of_z at c.factor_at-in-Count.ensures.answer));
    }
