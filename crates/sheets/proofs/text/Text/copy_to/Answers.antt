-- The text goes to the front; what stood behind stays.
use Rattle.std.proofs.Common.{sym, ap, ◌∙◌, arith}
use native.Mathlib.Nat.{sub-zero}
use Rattle.numbers.specs.Refusals.{code_of, side_of}
use Rattle.sheets.specs.Outputs.{text_of}
use Rattle.sheets.proofs.Outputs.{handed_fits, handed-short}
use Rattle.sheets.proofs.text.Text.copy_to.Goals as goal

pub returns-then-out-n : goal.returns-then-out-n
returns-then-out-n c =
    let len = c.len-n.ensures.value in
    let at-is = c.at.ensures.answer in
    record { answer = (omega arith, (ap (λ r. code_of r.reason) at-is, ap (λ r. r.place) at-is ∙ len, ap (λ r. side_of r.side) at-is)); bytes = sym (handed-short (text_of c.args.self.now) c.args.out.now (omega arith)) }

pub returns : goal.returns
returns c =
    let len = c.len-n.ensures.value in
    let copied = c.copy_from_slice.ensures.after in
    let text = c.as_slice.ensures.value in
    let whole = handed_fits (text_of c.args.self.now) c.args.out.now (omega arith) in
    let no_less = sub-zero c.len-n.result in
    record { answer = (omega arith, omega arith); bytes = cc }
