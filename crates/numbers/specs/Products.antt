-- The piece of two factors, and the piece of a withdrawal.
use Rattle.std.specs.Prelude.{◌≡◌, ◌*◌, false, cond, not, ℤ, pos, ◌+ℤ◌, ◌==◌}
use Rattle.std.specs.Float.Ieee.{unlike}
use Rattle.numbers.specs.declared.factor.Factor.{Factor}
use Rattle.numbers.specs.declared.piece.Piece.{Piece}
use Rattle.numbers.specs.declared.piece.Summand.{Summand}
use Rattle.numbers.specs.Units.{units}

-- the values of a factor, a piece and a summand, in units
abbrev pub factor_units : Factor → ℤ
factor_units f = units f.negative f.significand f.exponent

abbrev pub piece_units : Piece → ℤ
piece_units p = units p.negative p.significand p.exponent

abbrev pub summand_units : Summand → ℤ
summand_units p = units p.negative p.significand p.exponent

-- the number one, in units
abbrev pub one_units : ℤ
one_units = units false 1 (pos 0)

-- what P = M × M', F = E + E' and the product's sign say; a zero piece has a plus sign and F = 0
pub record IsProduct (a b : Factor) (r : Piece) : Type 0 where
  pub significand_is : r.significand ≡ a.significand * b.significand
  pub exponent_is : r.exponent ≡ cond (r.significand == 0) (pos 0) (a.exponent +ℤ b.exponent)
  pub sign_is : r.negative ≡ cond (r.significand == 0) false (unlike a.negative b.negative)

-- the same piece with the opposite sign, zero excepted
pub record IsOpposite (p r : Piece) : Type 0 where
  pub significand_is : r.significand ≡ p.significand
  pub exponent_is : r.exponent ≡ p.exponent
  pub sign_is : r.negative ≡ cond (p.significand == 0) false (not p.negative)

-- the same sign, significand and exponent, and so the same value
pub record IsSummandOf (p : Piece) (r : Summand) : Type 0 where
  pub significand_is : r.significand ≡ p.significand
  pub exponent_is : r.exponent ≡ p.exponent
  pub sign_is : r.negative ≡ p.negative
