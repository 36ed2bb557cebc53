-- The pattern of the piece's size is read as that size, and its negation as the piece's value. Assumes nothing.
use Rattle.std.proofs.Common.{◌≡◌, ℕ, ◌*◌, ◌^◌, ◌<◌, Bool, true, false, ℤ, pos, neg_ℤ, Some, sym, ap, ap₂, ◌∙◌, lit<, rules}
use lib.Ieee.{Float, nan, inf, fin, binary64, of_bits, neg}
use lib.Ieee.Bits.{of_bits-fits}
use Rattle.numbers.specs.declared.piece.Piece.{Piece}
use Rattle.numbers.specs.Units.{rank, signed, units, float_value}
use Rattle.numbers.specs.Products.{piece_units}
use Rattle.numbers.proofs.Scale.{units-zero, units_not}
use Rattle.numbers.specs.Patterns.{field_of}
use Rattle.condensers.specs.Fields.{significand_of, height_of}
use Rattle.condensers.specs.Pairing.{float_units}
use Rattle.condensers.specs.Laws.Patterns.{number_is, pattern_no_nan, pattern_number, finite_field}
use Rattle.condensers.proofs.Building.{plus_sign}
use Rattle.condensers.proofs.binary64.FiniteFromPiece.from.Goals as goal
use Rattle.condensers.proofs.binary64.FiniteFromPiece.from.Goals.{Joined-piece, then-piece, else-piece}

negated : (x : Float) (v : ℤ) → float_value x ≡ Some v → float_value (neg x) ≡ Some (neg_ℤ v)
unfolding float_value float_units neg
negated nan v e = cc
negated (inf s) v e = cc
negated (fin s m k) v e = ap Some (units_not s m k ∙ ap neg_ℤ (number_is (fin s m k) v e))

nothing : float_value (of_bits binary64 0) ≡ Some (pos 0)
nothing = pattern_number 0 (lit< tt)

pub invariant_of-result : goal.invariant_of-result
invariant_of-result c = record { finite = finite_field (of_bits binary64 0) (pos 0) (of_bits-fits binary64 0) nothing }

pub returns-then-piece-eq0 : goal.returns-then-piece-eq0
returns-then-piece-eq0 c =
    nothing ∙ ap Some (sym (ap (λ (m : ℕ). units c.args.piece.negative m c.args.piece.exponent) c.if-piece-eq0.true ∙ units-zero c.args.piece.negative c.args.piece.exponent))

pub float_from_bits-size : goal.float_from_bits-size
float_from_bits-size c = pattern_no_nan c.pattern_of-size.result c.pattern_of-size.ensures.limits.1

-- the size of a piece, read from its pattern
size_value : (piece : Piece) (p : ℕ) → p < 2 ^ 63 → field_of p < 2047 → significand_of p * 2 ^ height_of p ≡ piece.significand * 2 ^ rank piece.exponent
    → float_value (of_bits binary64 p) ≡ Some (pos (piece.significand * 2 ^ rank piece.exponent))
size_value piece p l f e = pattern_number p f ∙ ap Some (ap₂ signed (plus_sign p l) e)

-- a number that is the size with the piece's sign has the piece's value
signed-size : (piece : Piece) (x : Float) (s : Bool) → float_value x ≡ Some (signed s (piece.significand * 2 ^ rank piece.exponent)) → piece.negative ≡ s → float_value x ≡ Some (piece_units piece)
unfolding units
signed-size piece x s e n = e ∙ ap (λ (b : Bool). Some (signed b (piece.significand * 2 ^ rank piece.exponent))) (sym n)

number-value : (c : Joined-piece) → float_value c.if-piece.number ≡ Some (piece_units c.args.piece)
number-value c =
    let p = c.pattern_of-size in
    let x = of_bits binary64 p.result in
    let e = size_value c.args.piece p.result p.ensures.limits.0 p.ensures.limits.1 p.ensures.value in
    elim c.if-piece.branch [
      | then-piece w ↦ ap float_value w.number-is ∙ signed-size c.args.piece (neg x) true (negated x _ e) w.if-piece.true
      | else-piece w ↦ ap float_value w.number-is ∙ signed-size c.args.piece x false e w.if-piece.false
    ]

pub invariant_of-result-2 : goal.invariant_of-result-2
invariant_of-result-2 c = record { finite = finite_field c.if-piece.number _ (search rules) (number-value c) }

pub returns : goal.returns
returns c = number-value (goal.at.returns c).Joined-piece
