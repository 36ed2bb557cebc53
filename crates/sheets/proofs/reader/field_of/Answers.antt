-- The text of an element stands behind the letter, or the line goes no further along.
use Rattle.std.proofs.Common.{◌+◌, drop, subst, rules}
use borrow.Author.Tests.{tests}
use Rattle.std.proofs.lemmas.List.{take_rest}
use Rattle.std.proofs.lemmas.Result.{err_from_is_err_and}
use Rattle.sheets.specs.Elements.{TextAt, ReadsText}
use Rattle.sheets.proofs.Leading.{field_made, field_missed, ok_is}
use Rattle.sheets.proofs.reader.field_of.Goals as goal

pub returns-in_err-len : goal.returns-in_err-len
returns-in_err-len g c =
    let p = err_from_is_err_and c.from_residual.result c.from_residual.ensures.1 in
    let line = c.args.line.now in
    let at = c.args.at in
    let read = subst (λ b. ReadsText g.K.Written.shape g.K.Written.text g.K.Written.outside b c.read.result) (take_rest line (at + 1)) c.read.ensures.answer in
    record { answer = rw (p.1, p.2) (field_missed line at g.K.Kind.LETTER c.requires.1 c.requires.0 g.K.Written.shape g.K.Written.text g.K.Written.outside c.read.ensures.law c.read.result read c.in_err-len.ensures.cases (λ x h. search (rules, tests)) c.in_err-len.field-0.0 (λ n h. search (rules, tests))) }

pub returns : goal.returns
returns g c =
    let line = c.args.line.now in
    let at = c.args.at in
    let r = c.in_ok-len.field-0 in
    let is = ok_is _ c.read.result r c.in_ok-len.ensures.cases in
    let text_at : TextAt g.K.Written.shape g.K.Written.text g.K.Written.outside (drop (at + 1) line) r = subst (ReadsText g.K.Written.shape g.K.Written.text g.K.Written.outside (drop (at + 1) line)) is (subst (λ b. ReadsText g.K.Written.shape g.K.Written.text g.K.Written.outside b c.read.result) (take_rest line (at + 1)) c.read.ensures.answer) in
    record { answer = field_made line at g.K.Kind.LETTER c.requires.1 c.requires.0 c.read.ensures.law r text_at c.map-field.result c.map-field.ensures.cases (λ e f h. (search (rules, tests), search (rules, tests), search (rules, tests), λ w. search (rules, tests))) }
