-- A piece lies within the limits of a summand. Assumes nothing.
use Rattle.std.proofs.Common.{◌≡◌, ◌*◌, ◌^◌, ◌≤◌, ℤ, pos, sym, subst, le_trans, le_of_lt, mul-le-mul, arith, lit<, pow_mono, w32, to_z, of_z}
use borrow.Author.Differences.{ints}
use Rattle.numbers.specs.declared.piece.Piece.{Piece}
use Rattle.numbers.specs.Units.{rank}
use Rattle.numbers.proofs.Scale.{rank_is}

-- nothing of its exponent is lost
pub exponent_kept : (p : Piece) → to_z w32 (of_z w32 p.exponent) ≡ p.exponent
exponent_kept p = omega (arith, ints)

-- 2^52 × 2^916 is at most 2^1006
piece_bounded : (p : Piece) → p.significand * 2 ^ rank p.exponent ≤ 2 ^ rank (pos 1006)
unfolding rank
piece_bounded p =
    let r : rank p.exponent ≤ 1990 = omega (arith, ints, rank_is p.exponent (omega (arith, ints))) in
    le_trans (mul-le-mul p.short (pow_mono r)) (le_of_lt (lit< tt))

pub summand_bounded : (p : Piece) → p.significand * 2 ^ rank (to_z w32 (of_z w32 p.exponent)) ≤ 2 ^ rank (pos 1006)
summand_bounded p = subst (λ (x : ℤ). p.significand * 2 ^ rank x ≤ 2 ^ rank (pos 1006)) (sym (exponent_kept p)) (piece_bounded p)
