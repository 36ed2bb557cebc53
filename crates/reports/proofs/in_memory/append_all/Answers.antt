-- The reports of the lines that were ended, and at last the sum's, one behind the other. Assumes nothing.
use Rattle.std.proofs.Common.{ℕ, ◌+◌, ◌^◌, ◌<◌, List, [], ◌++◌, length, take, ℤ, sym, refl, ap, ◌∙◌, subst, arith, length-append}
use lib.Ieee.{binary64}
use Rattle.readings.specs.declared.forms.Direction.TheVariants.{Nearest}
use Rattle.readings.specs.Rounding.{Rounds}
use Rattle.sheets.specs.Reports.{sum_report}
use Rattle.sheets.specs.Splitting.{ended, sheet_lines}
use Rattle.runs.proofs.Bags.{sum_of_entries}
use Rattle.reports.specs.InMemory.{refused_reports, Filled, Reported}
use Rattle.reports.specs.Sheets.{refusals, refusals_from, lines_bag, listed}
use Rattle.reports.proofs.InMemory.{filled_none, filled_more, ended_few}
use Rattle.reports.proofs.Standing.{left_is, next_part, none_left, fewer_left}
use Rattle.reports.proofs.in_memory.append_all.Goals as goal

pub loop-rest-init : goal.loop-rest-init
unfolding refused_reports refusals_from
loop-rest-init g c = ([], refl, c.new-fed.ensures.law, filled_none c.args.out.now)

pub loop-rest-preserved : goal.loop-rest-preserved
loop-rest-preserved g c =
    let l = c.loop-rest in
    let rest = l.rest.now in
    let n = c.feed-taken.result.taken in
    let past = l.invariant.0 in (
      past ++ take n rest,
      ap (λ (bs : List ℕ). (past ++ take n rest) ++ bs) (left_is rest n) ∙ next_part past rest c.args.sheet.now n l.invariant.1,
      c.feed-taken.ensures.law past l.invariant.2,
      let small : length (ended [] past) + 1 < 2 ^ 64 = omega (arith, ended_few [] past, length-append past rest, ap length l.invariant.1) in
          filled_more (refusals g.C.Condenser.capacity (ended [] past)) (listed c.feed-taken.result.refused) l.out c.args.out.now c.append_refused-end.new.out l.end c.append_refused-end.result
          l.invariant.3 c.append_refused-end.ensures.after (refusals g.C.Condenser.capacity (ended [] (past ++ take n rest)))
          (c.feed-taken.ensures.answer past l.invariant.2 small),
    )

pub loop-rest-smaller : goal.loop-rest-smaller
loop-rest-smaller g c = fewer_left c.loop-rest.rest.now c.feed-taken.result.taken c.loop-rest-test.ensures c.feed-taken.ensures.limits.1

pub returns : goal.returns
returns g c =
    let l = c.loop-rest in
    let sheet = c.args.sheet.now in
    let past = l.invariant.0 in
    let capacity = g.C.Condenser.capacity in
    let bag = lines_bag capacity (sheet_lines past) in
    let holds = c.finish-run.ensures.after past l.invariant.2 in
    let w = c.append_total.ensures.after in
    record {
      after =
          let small : length (ended [] past) + 1 < 2 ^ 64 = omega (arith, ended_few [] past, length-append past l.rest.now, ap length l.invariant.1) in
          let lines = refused_reports (refusals capacity (sheet_lines past)) in
          let listed_in : Filled lines c.args.out.now c.append_refused-end-2.new.out c.append_refused-end-2.result =
          filled_more (refusals capacity (ended [] past)) (listed c.finish-run.result.refused) l.out c.args.out.now c.append_refused-end-2.new.out l.end c.append_refused-end-2.result
          l.invariant.3 c.append_refused-end-2.ensures.after (refusals capacity (sheet_lines past)) (c.finish-run.ensures.answer past l.invariant.2 small) in
          subst (λ (bs : List ℕ). Reported capacity bs c.args.out.now c.append_total.new.out c.append_total.result) (none_left past l.rest.now sheet l.invariant.1 c.loop-rest-test.ensures)
          record {
            text = lines ++ sum_report w.pattern (g.C.Condenser.count c.finish-run.result.run.condenser);
            report = record {
              pattern = w.pattern;
              rounds = subst (λ (x : ℤ). Rounds binary64 Nearest x w.pattern) (holds.total_is ∙ sym (sum_of_entries bag)) w.rounds;
              text_is = ap (λ (k : ℕ). lines ++ sum_report w.pattern k) holds.count_is;
            };
            filled = w.appends lines c.args.out.now listed_in;
          };
    }
