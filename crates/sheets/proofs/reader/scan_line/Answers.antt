-- Each way out of the scan, by how far the line goes along with the shape.
use Rattle.std.proofs.Common.{◌≡◌, sym, refl, ◌∙◌, arith}
use Rattle.std.proofs.lemmas.Result.{err_from_is_err_and}
use Rattle.sheets.specs.Forms.{reach}
use Rattle.sheets.specs.Shapes.{line_shape}
use Rattle.sheets.proofs.Leading.{no_item, item_is}
use Rattle.sheets.proofs.Entire.{misshapen_at, first_stop, no_tab_past, no_tab_at, second_stop, too_long, has_parts}
use Rattle.sheets.proofs.reader.scan_line.Goals as goal
use Rattle.sheets.proofs.reader.scan_line.Goals.{in_default-via-in-Some+in_default, in_default-via-in_default}

pub returns-in_err-word : goal.returns-in_err-word
returns-in_err-word c =
    let p = err_from_is_err_and c.from_residual.result c.from_residual.ensures.1 in
    let a = c.in_err-word.ensures.answer in
    record { answer = rw (p.1, p.2) (misshapen_at c.args.line.now c.in_err-word.field-0.0 a.0 a.1 a.2) }

pub returns-in_err-tab : goal.returns-in_err-tab
returns-in_err-tab c =
    let p = err_from_is_err_and c.from_residual-in_err-tab.result c.from_residual-in_err-tab.ensures.1 in
    let line = c.args.line.now in
    let word = c.in_ok-word.ensures.answer in
    let a = c.in_err-tab.ensures.answer in
    let e = c.in_err-tab.field-0.0 in
    record { answer = rw (p.1, p.2) (misshapen_at line e a.0 a.1 (first_stop line c.in_ok-word.word word.0 word.1 e.place a.2)) }

pub returns-in_default : goal.returns-in_default
returns-in_default c =
    let line = c.args.line.now in
    let word = c.in_ok-word.ensures.answer in
    let first = c.in_ok-tab.ensures.answer in
    let is = c.misshapen.ensures.answer in
    let along : reach line_shape line ≡ c.in_ok-tab.field-0.end = elim c.in_default.branch [
      | in_default-via-in-Some+in_default w ↦
          let same = w.in_default.is in
          let item = item_is line c.in_ok-tab.field-0.end c.get.result w.in_default.field-0 c.get.ensures.lookup w.in_default.is in
          no_tab_at line c.in_ok-word.word word.0 word.1 c.in_ok-tab.field-0 first item.0 (λ e. w.in_default.field-0-test.1 cc)
      | in_default-via-in_default w ↦ no_tab_past line c.in_ok-word.word word.0 word.1 c.in_ok-tab.field-0 first (no_item line c.in_ok-tab.field-0.end c.get.result c.get.ensures.lookup w.in_default.is)
    ] in
    record { answer = misshapen_at line c.misshapen.result (is.0, refl, is.2) (omega (arith, is.1, first.within)) (along ∙ sym is.1) }

pub returns-in_err-end : goal.returns-in_err-end
returns-in_err-end c =
    let p = err_from_is_err_and c.from_residual-in_err-end.result c.from_residual-in_err-end.ensures.1 in
    let line = c.args.line.now in
    let word = c.in_ok-word.ensures.answer in
    let first = c.in_ok-tab.ensures.answer in
    let a = c.in_err-end.ensures.answer in
    let e = c.in_err-end.field-0.0 in
    record { answer = rw (p.1, p.2) (misshapen_at line e a.0 a.1 (second_stop line c.in_ok-word.word word.0 word.1 c.in_ok-tab.field-0 first c.in-Some-eq9.ensures.lookup.3.0 (sym (c.in-Some-eq9.ensures.lookup.3.1 0) ∙ c.in-Some-eq9.field-0-test) e.place a.2)) }

pub returns-then-end-line : goal.returns-then-end-line
returns-then-end-line c =
    let line = c.args.line.now in
    let word = c.in_ok-word.ensures.answer in
    let first = c.in_ok-tab.ensures.answer in
    let second = c.in_ok-end.ensures.answer in
    let is = c.misshapen-then-end-line.ensures.answer in
    let along = too_long line c.in_ok-word.word word.0 word.1 c.in_ok-tab.field-0 first c.in-Some-eq9.ensures.lookup.3.0 (sym (c.in-Some-eq9.ensures.lookup.3.1 0) ∙ c.in-Some-eq9.field-0-test) c.in_ok-end.field-0 second c.if-end-line.true in
    record { answer = misshapen_at line c.misshapen-then-end-line.result (is.0, refl, is.2) (omega (arith, is.1, second.within)) (along ∙ sym is.1) }

pub returns : goal.returns
returns c =
    let line = c.args.line.now in
    let word = c.in_ok-word.ensures.answer in
    let first = c.in_ok-tab.ensures.answer in
    let second = c.in_ok-end.ensures.answer in
    record { answer = has_parts line c.in_ok-word.word word.0 word.1 c.in_ok-tab.field-0 first c.in-Some-eq9.ensures.lookup.3.0 (sym (c.in-Some-eq9.ensures.lookup.3.1 0) ∙ c.in-Some-eq9.field-0-test) c.in_ok-end.field-0 second c.if-end-line.false (omega arith) }
