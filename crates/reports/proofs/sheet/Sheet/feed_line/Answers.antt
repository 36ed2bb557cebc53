-- A line feed ends one line, which is entered; without one nothing is. Assumes nothing.
use Rattle.std.proofs.Common.{ℕ, List, [], sym, ap, ◌∙◌, subst, append-nil}
use Rattle.sheets.specs.Splitting.{ended}
use Rattle.runs.specs.Queues.{Holds}
use Rattle.reports.specs.Sheets.{refusals, lines_bag}
use Rattle.reports.proofs.Standing.{none-ended, one_ended, number_is, holds_more, refusals_more, took_some}
use Rattle.reports.proofs.sheet.Sheet.feed_line.Goals as goal

pub returns-then-is_complete : goal.returns-then-is_complete
returns-then-is_complete g c =
    let m = g.C.Condenser in
    let cap = g.C.Condenser.capacity in
    let took = c.take-taken.ensures.answer in
    let s = c.args.self.now.lines in
    let s2 = c.take-taken.new.self in
    let full = sym c.if-is_complete.ensures.answer in
    let chunk = c.args.chunk.now in
    let r = c.take-taken.result in
    record {
      limits = (took.within, took_some s s2 chunk r took);
      lines = took;
      law = λ past st.
          record {
            lines_are = c.take-taken.ensures.after past st.lines_are;
            holds = subst (λ (ls : List (List ℕ)). Holds m c.enter_held-refused.new.run.condenser (lines_bag cap ls)) (sym (one_ended past chunk r s s2 st.lines_are took full))
                (holds_more m (ended [] past) _ _ c.enter_held-refused.new.run.condenser c.enter_held-refused.result (c.enter_held-refused.ensures.after _ st.holds));
          };
      answer = λ past st few.
          ap (refusals cap) (one_ended past chunk r s s2 st.lines_are took full)
          ∙ refusals_more m (ended [] past) _ _ c.enter_held-refused.new.run.condenser c.enter_held-refused.result (c.enter_held-refused.ensures.after _ st.holds)
          (number_is past chunk r s s2 st.lines_are took full (c.take-taken.ensures.after past st.lines_are) few);
    }

pub returns : goal.returns
returns g c =
    let m = g.C.Condenser in
    let cap = g.C.Condenser.capacity in
    let took = c.take-taken.ensures.answer in
    let s = c.args.self.now.lines in
    let s2 = c.take-taken.new.self in
    let part = sym c.if-is_complete.ensures.answer in
    let chunk = c.args.chunk.now in
    let r = c.take-taken.result in
    record {
      limits = (took.within, took_some s s2 chunk r took);
      lines = took;
      law = λ past st.
          record {
            lines_are = c.take-taken.ensures.after past st.lines_are;
            holds = subst (λ (ls : List (List ℕ)). Holds m c.args.self.now.run.condenser (lines_bag cap ls)) (sym (none-ended past chunk r s s2 st.lines_are took part)) st.holds;
          };
      answer = λ past st few. ap (refusals cap) (none-ended past chunk r s s2 st.lines_are took part) ∙ sym (append-nil (refusals cap (ended [] past)));
    }
