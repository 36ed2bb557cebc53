-- The parts of the piece go to three columns, of which each gains one. Assumes nothing.
use Rattle.std.proofs.Common.{◌≡◌, ℕ, ◌+◌, ◌*◌, ◌/◌, ◌%◌, ◌^◌, ◌<◌, length, get_or, ℤ, pos, ◌+ℤ◌, sym, ap, ◌∙◌, subst, lt_of_le_of_lt, mul-le-mul, arith, lit<, pow_mono}
use Rattle.numbers.specs.declared.piece.Piece.{Piece}
use Rattle.numbers.specs.Units.{rank, signed, units}
use Rattle.numbers.specs.Products.{piece_units}
use Rattle.numbers.proofs.Scale.{signed-zero}
use Rattle.condensers.specs.declared.column_table.ColumnTable.{ColumnTable}
use Rattle.condensers.specs.Columns.{column_total, Gains}
use Rattle.condensers.specs.Laws.Columns.{two_gains, three_gains, third_nothing, code-parts, put_total}
use Rattle.condensers.proofs.Building.{piece_rank, rank_limit}
use Rattle.condensers.proofs.column_table.ColumnTable.insert.Goals as goal

pub add_part-requires-clause-inside : goal.add_part-requires-clause-inside
add_part-requires-clause-inside c = omega (arith, piece_rank c.args.piece c.from.result c.rank-rank.result c.from.ensures c.rank-rank.ensures.answer)

pub add_part-requires-2-clause-inside : goal.add_part-requires-2-clause-inside
add_part-requires-2-clause-inside c = omega (arith, piece_rank c.args.piece c.from.result c.rank-rank.result c.from.ensures c.rank-rank.ensures.answer)

-- what the columns gain, they hold
held : (p : Piece) (t u : ColumnTable) (R : ℕ) → R ≡ rank p.exponent → Gains p.negative (p.significand * 2 ^ R) t.columns u.columns
    → (column_total u.columns ≡ column_total t.columns +ℤ piece_units p) × Gains p.negative (p.significand * 2 ^ rank p.exponent) t.columns u.columns
unfolding units
held p t u R r gains =
    let small : p.significand * 2 ^ rank p.exponent < 2 ^ 2048 = lt_of_le_of_lt (mul-le-mul p.short (pow_mono (rank_limit p))) (lit< tt) in
    let all : Gains p.negative (p.significand * 2 ^ rank p.exponent) t.columns u.columns = subst (λ (k : ℕ). Gains p.negative (p.significand * 2 ^ k) t.columns u.columns) r gains in
    (put_total p.negative (p.significand * 2 ^ rank p.exponent) t.columns u.columns t.long u.long small all, all)

pub returns-then-first-lt-COLUMNS : goal.returns-then-first-lt-COLUMNS
returns-then-first-lt-COLUMNS c =
    let p = c.args.piece in
    let t = c.args.self.now in
    let R = c.rank-rank.result in
    let q = R / 32 in
    let r = piece_rank p c.from.result R c.from.ensures c.rank-rank.ensures.answer in
    let inside : q + 2 < length t.columns = omega (arith, t.long, c.if-first-lt-COLUMNS.true) in
    let h = held p t c.add_part-then-first-lt-COLUMNS.new.self R r.0 (λ j l.
    three_gains t.columns _ _ _ q _ _ _ c.add_part.ensures.after c.add_part-2.ensures.after c.add_part-then-first-lt-COLUMNS.ensures.after inside j
    ∙ ap (λ (v : ℤ). get_or t.columns j (pos 0) +ℤ v) (code-parts p.significand R p.short p.negative j))
    in
    record { total = h.0; count = c.add_part-then-first-lt-COLUMNS.ensures.count ∙ c.add_part-2.ensures.count ∙ c.add_part.ensures.count; kept = h.1 }

pub returns-else-first-lt-COLUMNS : goal.returns-else-first-lt-COLUMNS
returns-else-first-lt-COLUMNS c =
    let p = c.args.piece in
    let s = p.negative in
    let t = c.args.self.now in
    let R = c.rank-rank.result in
    let q = R / 32 in
    let r = piece_rank p c.from.result R c.from.ensures c.rank-rank.ensures.answer in
    let inside : q + 1 < length t.columns = subst (λ (n : ℕ). q + 1 < n) (sym t.long) (omega (arith, r)) in
    let nothing = third_nothing p.significand R p.short r.1 (omega (arith, r, c.if-first-lt-COLUMNS.false)) in
    let h = held p t c.add_part-2.new.self R r.0 (λ j l.
    two_gains t.columns _ _ q _ _ (signed s (p.significand * 2 ^ (R % 32) % 2 ^ 128 / 2 ^ 32 / 2 ^ 32)) c.add_part.ensures.after c.add_part-2.ensures.after (ap (signed s) nothing ∙ signed-zero s) inside j
    ∙ ap (λ (v : ℤ). get_or t.columns j (pos 0) +ℤ v) (code-parts p.significand R p.short s j))
    in
    record { total = h.0; count = c.add_part-2.ensures.count ∙ c.add_part.ensures.count; kept = h.1 }
