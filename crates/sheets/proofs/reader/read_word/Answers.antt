-- The line begins with one of the words, or shares some bytes with each.
use Rattle.std.proofs.Common.{codes, sym, refl, ◌∙◌, arith}
use Rattle.sheets.proofs.Literals.{word_add, word_sub, no_word, shared-within}
use Rattle.sheets.proofs.reader.read_word.Goals as goal

pub returns-then-add-eq-FIRST : goal.returns-then-add-eq-FIRST
returns-then-add-eq-FIRST c = record { answer = word_add c.args.line.now (sym c.shared_front-add.ensures.answer ∙ c.if-add-eq-FIRST.true) }

pub returns-then-sub-eq-FIRST : goal.returns-then-sub-eq-FIRST
returns-then-sub-eq-FIRST c = record { answer = word_sub c.args.line.now (sym c.shared_front-sub.ensures.answer ∙ c.if-sub-eq-FIRST.true) }

pub returns : goal.returns
returns c =
    let line = c.args.line.now in
    let add_is = c.shared_front-add.ensures.answer in
    let sub_is = c.shared_front-sub.ensures.answer in
    let along = no_word line (λ e. c.if-add-eq-FIRST.false (add_is ∙ e)) (λ e. c.if-sub-eq-FIRST.false (sub_is ∙ e)) in
    let a = shared-within line (codes "add\t") in
    let b = shared-within line (codes "sub\t") in
    let is = c.misshapen.ensures.answer in
    let most = c.max.ensures in
    record { answer = ((is.0, refl, is.2), omega arith, omega arith) }
