-- Bytes behind the last line feed are one line more. Assumes nothing.
use Rattle.std.proofs.Common.{ℕ, List, [], sym, ap, ◌∙◌, subst, append-nil}
use Rattle.sheets.specs.Splitting.{ended, sheet_lines}
use Rattle.runs.specs.Queues.{Holds}
use Rattle.reports.specs.Sheets.{refusals, lines_bag}
use Rattle.reports.proofs.Standing.{no_rest, some-rest, rest-number, holds_more, refusals_more}
use Rattle.reports.proofs.sheet.Sheet.finish_rest.Goals as goal

pub returns-then-has_rest : goal.returns-then-has_rest
returns-then-has_rest g c =
    let m = g.C.Condenser in
    let cap = g.C.Condenser.capacity in
    let s = c.args.self.lines in
    let rest = c.if-has_rest.ensures.answer in
    record {
      answer = λ past st few.
          ap (refusals cap) (some-rest past s st.lines_are rest)
          ∙ refusals_more m (ended [] past) _ _ c.enter_held-refused.new.run.condenser c.enter_held-refused.result (c.enter_held-refused.ensures.after _ st.holds) (rest-number past s st.lines_are rest few);
      after = λ past st.
          subst (λ x. Holds m x (lines_bag cap (sheet_lines past))) (sym c.seal.ensures.unchanged)
          (subst (λ (ls : List (List ℕ)). Holds m c.enter_held-refused.new.run.condenser (lines_bag cap ls)) (sym (some-rest past s st.lines_are rest))
          (holds_more m (ended [] past) _ _ c.enter_held-refused.new.run.condenser c.enter_held-refused.result (c.enter_held-refused.ensures.after _ st.holds)));
    }

pub returns : goal.returns
returns g c =
    let m = g.C.Condenser in
    let cap = g.C.Condenser.capacity in
    let s = c.args.self.lines in
    let none = c.if-has_rest.ensures.answer in
    record {
      answer = λ past st few. ap (refusals cap) (no_rest past s st.lines_are none) ∙ sym (append-nil (refusals cap (ended [] past)));
      after = λ past st.
          subst (λ x. Holds m x (lines_bag cap (sheet_lines past))) (sym c.seal-2.ensures.unchanged)
          (subst (λ (ls : List (List ℕ)). Holds m c.args.self.run.condenser (lines_bag cap ls)) (sym (no_rest past s st.lines_are none)) st.holds);
    }
