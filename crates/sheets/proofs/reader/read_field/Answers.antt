-- The letter decides the kind; another byte, or none, is no field.
use Rattle.std.proofs.Common.{◌≡◌, ◌+◌, drop, sym, refl, ◌∙◌, arith}
use Rattle.sheets.specs.Forms.{Form, reach}
use Rattle.sheets.specs.Shapes.{field_shape}
use Rattle.sheets.proofs.Leading.{no_item, item_is, no_field_past, no_field_at}
use Rattle.sheets.proofs.reader.read_field.Goals as goal
use Rattle.sheets.proofs.reader.read_field.Goals.{in_default-via-in-Some+in_default, in_default-via-in_default}

pub returns-in_default : goal.returns-in_default
returns-in_default c =
    let line = c.args.line.now in
    let at = c.args.at in
    let is = c.misshapen.ensures.answer in
    let none : (rest : Form) → at + reach (field_shape rest) (drop at line) ≡ at = elim c.in_default.branch [
      | in_default-via-in-Some+in_default w ↦
          let same = w.in_default.is in
          let item = item_is line at c.get.result w.in_default.field-0 c.get.ensures.lookup w.in_default.is in
          no_field_at line at item.0 (λ e. w.in_default.field-0-test.0.1 cc) (λ e. w.in_default.field-0-test.1 cc)
      | in_default-via-in_default w ↦ no_field_past line at (no_item line at c.get.result c.get.ensures.lookup w.in_default.is)
    ] in
    record { answer = ((is.0, refl, is.2), omega arith, λ rest. none rest ∙ sym is.1) }
