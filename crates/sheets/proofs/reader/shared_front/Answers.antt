-- The pairs of equal bytes at the front.
use Rattle.std.proofs.Common.{ℕ, eqb, sym, ◌∙◌, rules}
use borrow.Author.Tests.{tests}
use Rattle.std.specs.List.{zip}
use Rattle.std.proofs.lemmas.Iterator.{YieldsList-from_slice, YieldsList-from_zip}
use Rattle.std.proofs.lemmas.Iterator.Consumers.{count_from_yields_List}
use Rattle.std.proofs.lemmas.Iterator.Search.{YieldsList-from_take_while}
use Rattle.std.proofs.lemmas.List.Folds.{length-prefix_len}
use Rattle.sheets.proofs.Literals.{shared_pairs}
use Rattle.sheets.proofs.reader.shared_front.Goals as goal

pub returns : goal.returns
returns c =
    let equal : ℕ × ℕ → _ = λ p. eqb p.0 p.1 in
    let count = count_from_yields_List c.take_while.result _ c.count.ensures.ran (YieldsList-from_take_while _ equal (YieldsList-from_zip (YieldsList-from_slice c.args.line.now cc) (YieldsList-from_slice c.args.text.now cc)) c.take_while.ensures.closure c.take_while.ensures.done (λ x b q k. search (rules, tests))) in
    record { answer = count ∙ length-prefix_len equal (zip c.args.line.now c.args.text.now) ∙ sym (shared_pairs c.args.line.now c.args.text.now) }
