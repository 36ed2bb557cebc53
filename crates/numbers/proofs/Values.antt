-- The values of a product and of an opposite follow from their signs, significands and exponents. Assumes nothing.
use Rattle.std.proofs.Common.{◌≡◌, ℕ, ◌*◌, Bool, not, ◌⊎◌, ℤ, pos, ◌+ℤ◌, ◌*ℤ◌, neg_ℤ, sym, ap, ◌∙◌, ap₂, inl, inr, arith}
use native.Mathlib.Nat.{mul-eq-zero}
use mathlib.Core.Logic.Or
use lib.IntN.{*ℤ-zero, zero-*ℤ, ℤ_set}
use lib.Ieee.{unlike}
use borrow.Author.Differences.{ints}
use Rattle.std.proofs.lemmas.Bool.{cases_eq, ne_eqb, cond-false}
use Rattle.numbers.specs.declared.factor.Factor.{Factor}
use Rattle.numbers.specs.declared.piece.Piece.{Piece}
use Rattle.numbers.specs.Products.{IsProduct, IsOpposite, factor_units, piece_units, one_units}
use Rattle.numbers.specs.Units.{units}
use Rattle.numbers.proofs.Scale.{units-zero, units_not, units_mul}

nothing : (s : Bool) (m : ℕ) (e : ℤ) → m ≡ 0 → units s m e ≡ pos 0
nothing s m e h = ap (λ (x : ℕ). units s x e) h ∙ units-zero s e

-- products

zero-product : (a b : Factor) → a.significand * b.significand ≡ 0 → factor_units a *ℤ factor_units b ≡ pos 0
zero-product a b h =
    Or.elim (ℤ_set (factor_units a *ℤ factor_units b) (pos 0)) (mul-eq-zero.0 h)
    (λ ha. ap (λ (x : ℤ). x *ℤ factor_units b) (nothing a.negative a.significand a.exponent ha) ∙ zero-*ℤ (factor_units b))
    (λ hb. ap (λ (x : ℤ). factor_units a *ℤ x) (nothing b.negative b.significand b.exponent hb) ∙ *ℤ-zero (factor_units a))

some-product : (a b : Factor) → units (unlike a.negative b.negative) (a.significand * b.significand) (a.exponent +ℤ b.exponent) *ℤ one_units ≡ factor_units a *ℤ factor_units b
some-product a b =
    units_mul a.negative b.negative a.significand b.significand a.exponent b.exponent (omega (arith, ints, a.low)) (omega (arith, ints, b.low)) (omega (arith, ints, a.low, b.low))

pub product_value_lem : (a b : Factor) (r : Piece) → IsProduct a b r → piece_units r *ℤ one_units ≡ factor_units a *ℤ factor_units b
product_value_lem a b r p = go (cases_eq r.significand 0)
  where
    go : (r.significand ≡ 0) ⊎ (r.significand ≡ 0 → ⊥) → piece_units r *ℤ one_units ≡ factor_units a *ℤ factor_units b
    go (inl z) =
        ap (λ (x : ℤ). x *ℤ one_units) (nothing r.negative r.significand r.exponent z)
        ∙ zero-*ℤ one_units
        ∙ sym (zero-product a b (sym p.significand_is ∙ z))
    go (inr n) =
        let some = ne_eqb r.significand 0 n in
        let sign = p.sign_is ∙ cond-false _ _ _ some in
        let exponent = p.exponent_is ∙ cond-false _ _ _ some in
        ap₂ (λ (s : Bool) (e : ℤ). units s r.significand e *ℤ one_units) sign exponent
        ∙ ap (λ (m : ℕ). units (unlike a.negative b.negative) m (a.exponent +ℤ b.exponent) *ℤ one_units) p.significand_is
        ∙ some-product a b

-- opposites

pub opposite_value : (p r : Piece) → IsOpposite p r → piece_units r ≡ neg_ℤ (piece_units p)
opposite_value p r o = go (cases_eq p.significand 0)
  where
    go : (p.significand ≡ 0) ⊎ (p.significand ≡ 0 → ⊥) → piece_units r ≡ neg_ℤ (piece_units p)
    go (inl z) = nothing r.negative r.significand r.exponent (o.significand_is ∙ z) ∙ sym (ap neg_ℤ (nothing p.negative p.significand p.exponent z))
    go (inr n) =
        let sign = o.sign_is ∙ cond-false _ _ _ (ne_eqb p.significand 0 n) in
        ap₂ (λ (s : Bool) (e : ℤ). units s r.significand e) sign o.exponent_is
        ∙ ap (λ (m : ℕ). units (not p.negative) m p.exponent) o.significand_is
        ∙ units_not p.negative p.significand p.exponent
