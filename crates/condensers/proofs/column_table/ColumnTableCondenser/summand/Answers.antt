-- A column hands out its low half at an even index and its high one at an odd. Assumes nothing.
use Rattle.std.proofs.Common.{ℕ, ◌*◌, ◌/◌, ◌<◌, ◌≤◌, ℤ, pos, nat_abs, sym, refl, ap, ◌∙◌, subst, arith}
use Rattle.condensers.specs.Columns.{low_summand, high_summand}
use Rattle.condensers.proofs.ColumnReads.{as_many, at_most, read_at, low_stands, high-stands}
use Rattle.condensers.proofs.column_table.ColumnTableCondenser.summand.Goals as goal

pub returns-in_default : goal.returns-in_default
returns-in_default c =
    let e = c.in_default.ensures.lookup in
    record { answer = record { within = λ l. absurd (omega (arith, l, as_many c.args.self.now, c.args.self.now.long, e)); past_size = λ _. refl; past_sign = λ _. refl; past_exponent = λ _. refl } }

pub high_summand-requires : goal.high_summand-requires
high_summand-requires c =
    let t = c.args.self.now in
    let seen = c.in-Some.ensures.lookup.3 in
    record {
      inside = subst (λ (n : ℕ). c.args.k / 2 < n) t.long seen.0;
      within = subst (λ (z : ℤ). nat_abs z ≤ 67108864 * 4294967295) (sym (read_at t (c.args.k / 2) c.in-Some.column.now (seen.1 (pos 0)))) (at_most t (c.args.k / 2));
    }

pub returns-then-k-eq0 : goal.returns-then-k-eq0
returns-then-k-eq0 c =
    let t = c.args.self.now in
    let k = c.args.k in
    let seen = c.in-Some.ensures.lookup.3 in
    record { answer = low_stands t k c.low_summand.result (omega (arith, seen.0, t.long)) (omega (arith, c.if-k-eq0.true)) (c.low_summand.ensures.answer ∙ ap (low_summand (k / 2)) (read_at t (k / 2) c.in-Some.column.now (seen.1 (pos 0)))) }

pub returns-else-k-eq0 : goal.returns-else-k-eq0
returns-else-k-eq0 c =
    let t = c.args.self.now in
    let k = c.args.k in
    let seen = c.in-Some.ensures.lookup.3 in
    record { answer = high-stands t k c.high_summand.result (omega (arith, seen.0, t.long)) (λ e. c.if-k-eq0.false (omega (arith, e))) (c.high_summand.ensures.answer ∙ ap (high_summand (k / 2)) (read_at t (k / 2) c.in-Some.column.now (seen.1 (pos 0)))) }
