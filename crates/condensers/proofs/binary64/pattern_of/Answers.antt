-- The significand is moved up to 53 digits, or as far as the rank allows. Assumes nothing.
use Rattle.std.proofs.Common.{ℕ, ◌*◌, ◌^◌, ap, ◌∙◌, arith}
use Rattle.condensers.proofs.Building.{piece_rank, normalised, moved-pattern}
use Rattle.condensers.proofs.binary64.pattern_of.Goals as goal

pub overflow_sub-piece : goal.overflow_sub-piece
overflow_sub-piece c = (normalised c.args.piece.significand c.requires c.args.piece.short).0

pub overflow_add-result : goal.overflow_add-result
overflow_add-result c =
    let r = piece_rank c.args.piece c.from.result c.rank-rank.result c.from.ensures c.rank-rank.ensures.answer in
    omega (arith, (moved-pattern c.args.piece.significand c.rank-rank.result c.min-shift.result c.requires c.args.piece.short (omega (arith, r)) c.min-shift.ensures).0)

pub returns : goal.returns
returns c =
    let r = piece_rank c.args.piece c.from.result c.rank-rank.result c.from.ensures c.rank-rank.ensures.answer in
    let m = moved-pattern c.args.piece.significand c.rank-rank.result c.min-shift.result c.requires c.args.piece.short (omega (arith, r)) c.min-shift.ensures in
    record { limits = (m.0, m.1); value = m.2 ∙ ap (λ (k : ℕ). c.args.piece.significand * 2 ^ k) r.0 }
