-- Each line of the table of worked cases, by computation. Assumes nothing.
use Rattle.std.proofs.Common.{◌≡◌, ℕ, zero, suc, ◌+◌, ◌*◌, ◌^◌, ◌<◌, ◌≤◌, cond, eqb, ◌⊎◌, List, [], ◌∷◌, ℤ, pos, negsuc, ◌+ℤ◌, neg_ℤ, nat_abs, refl, ap, ◌∙◌, subst, inl, inr, mul-le-mul_left, arith, lit≤, pow_mono}
use lib.Ieee.{binary64, size, span, climb}
use Rattle.numbers.specs.Acceptance.{acceptable}
use Rattle.numbers.specs.Units.{rank, units}
use Rattle.readings.specs.declared.forms.Direction.{Direction}
use Rattle.readings.specs.declared.forms.Direction.TheVariants.{Nearest, Up, Down}
use Rattle.readings.specs.Formats.{largest}
use Rattle.readings.specs.Rounding.{Rounds}
use Rattle.readings.specs.Rounded.{dropped, tie_carry, size_pattern, rounded}
use Rattle.readings.specs.MarkedCases.{pattern, count, Product, take, withdraw, SumOf, factor, square, Yields, halfway, squares, MarkedCases}
use Rattle.readings.proofs.Directions.{rounded-rounds}

-- a rounding by computation
at : (d : Direction) (x : ℤ) (b : ℕ) → nat_abs x ≤ largest binary64 → rounded binary64 d x ≡ b → Rounds binary64 d x b
at d x b h e = subst (λ (a : ℕ). Rounds binary64 d x a) e (rounded-rounds binary64 d x h)

-- ---- elements, a factor and a piece

-- the count 2^26 is halved once
halved : (s h : ℕ) → s < 2 ^ 26 → 67108864 ≡ s * 2 ^ h → (h ≡ 0) ⊎ (2 ^ 25 ≤ s) → (s ≡ 33554432) × (h ≡ 1)
halved s zero S e n = absurd (omega arith)
halved s (suc zero) S e n = (omega arith, refl)
halved s (suc (suc h)) S e (inl z) = absurd (omega arith)
halved s (suc (suc h)) S e (inr g) =
    let p : 2 ^ 2 ≤ 2 ^ suc (suc h) = pow_mono {i = 2} {j = suc (suc h)} (omega arith) in
    let q : s * 2 ^ 2 ≤ s * 2 ^ suc (suc h) = mul-le-mul_left s p in
    absurd (omega arith)

count-factor : Yields (factor (pos 67108864) 33554432 (pos 1))
unfolding acceptable rank units size span climb
count-factor = (refl, λ f c. let z = halved f.significand c.halvings f.short c.size_is c.needed in (z.0, c.exponent_is ∙ ap pos z.1))

piece : Yields (square 67108863 (pos 0) 4503599493152769 (pos 0))
piece f r m e p =
    let size : r.significand ≡ 4503599493152769 = p.significand_is ∙ ap (λ (a : ℕ). a * f.significand) m ∙ ap (λ (a : ℕ). 67108863 * a) m in
    (size, p.exponent_is ∙ ap (λ (a : ℕ). cond (eqb a 0) (pos 0) (f.exponent +ℤ f.exponent)) size ∙ ap (λ (z : ℤ). z +ℤ f.exponent) e ∙ ap (λ (z : ℤ). pos 0 +ℤ z) e)

-- ---- sums

-- 2^60, 1 and -2^60
cancelled : List Product
cancelled = take (pattern 0x43b0000000000000) (count (pos 1)) ∷ (take (count (pos 1)) (count (pos 1)) ∷ (take (pattern 0xc3b0000000000000) (count (pos 1)) ∷ []))

cancelled_sum : SumOf cancelled (pos (2 ^ 1074))
unfolding cancelled rank units
cancelled_sum =
    let a = pos (2 ^ 1134) in
    let b = pos (2 ^ 1074) in
    (a, (b +ℤ neg_ℤ a, (refl, (b, (neg_ℤ a, (refl, (neg_ℤ a, (pos 0, (refl, refl, refl))), refl))), refl)))

halfway-sum : SumOf halfway (pos ((2 ^ 53 + 1) * 2 ^ 1074))
unfolding rank units
halfway-sum = (pos (2 ^ 53 * 2 ^ 1074), (pos (2 ^ 1074), (refl, (pos (2 ^ 1074), (pos 0, (refl, refl, refl))), refl)))

-- a square of 2^-484 is 2^106 units
under_sum : SumOf (take (pattern 0xa1b0000000000000) (pattern 0x21b0000000000000) ∷ halfway) (neg_ℤ (pos (2 ^ 106)) +ℤ pos ((2 ^ 53 + 1) * 2 ^ 1074))
unfolding rank units
under_sum = (neg_ℤ (pos (2 ^ 106)), (pos ((2 ^ 53 + 1) * 2 ^ 1074), (refl, halfway-sum, refl)))

squares-sum : SumOf squares (pos (2 ^ 106 + (2 ^ 52 + 2 ^ 28 + 4)))
unfolding rank units
squares-sum = (pos (2 ^ 106), (pos (2 ^ 52 + 2 ^ 28 + 4), (refl, (pos (2 ^ 52 + 2 ^ 28 + 4), (pos 0, (refl, refl, refl))), refl)))

left_sum : SumOf (withdraw (pattern 0x21b0000000000000) (pattern 0x21b0000000000000) ∷ (withdraw (pattern 0x2000000000000000) (pattern 0x2000000010000000) ∷ squares)) (pos 4)
unfolding rank units
left_sum =
    let y = pos (2 ^ 106 + (2 ^ 52 + 2 ^ 28 + 4)) in
    (pos (2 ^ 106), (pos (2 ^ 106 + 4), (refl, (pos (2 ^ 52 + 2 ^ 28), (y, (refl, squares-sum, refl))), refl)))

count-sum : SumOf (take (count (negsuc 2147483647)) (count (negsuc 2147483647)) ∷ []) (pos (2 ^ 62 * 2 ^ 1074))
unfolding rank units
count-sum = (pos (2 ^ 62 * 2 ^ 1074), (pos 0, (refl, refl, refl)))

-- ---- the table

pub marked_cases_lem : MarkedCases
unfolding cancelled acceptable rank units size span climb largest rounded size_pattern dropped tie_carry
marked_cases_lem =
    let half = pos ((2 ^ 53 + 1) * 2 ^ 1074) in
    let under = neg_ℤ (pos (2 ^ 106)) +ℤ pos ((2 ^ 53 + 1) * 2 ^ 1074) in
    let sq = pos (2 ^ 106 + (2 ^ 52 + 2 ^ 28 + 4)) in (
      refl,
      (
        refl,
        (
          refl,
          (
            refl,
            (
              refl,
              (
                refl,
                (
                  piece,
                  (
                    refl,
                    (
                      count-factor,
                      (
                        (pos (2 ^ 1074), (cancelled_sum, at Nearest (pos (2 ^ 1074)) 0x3ff0000000000000 (lit≤ tt) refl)),
                        (
                          (half, (halfway-sum, at Nearest half 0x4340000000000001 (lit≤ tt) refl)),
                          (
                            (half, (halfway-sum, at Up half 0x4340000000000001 (lit≤ tt) refl)),
                            (
                              (half, (halfway-sum, at Down half 0x4340000000000000 (lit≤ tt) refl)),
                              (
                                (under, (under_sum, at Nearest under 0x4340000000000000 (lit≤ tt) refl)),
                                (
                                  (sq, (squares-sum, at Nearest sq 0x0370000000000000 (lit≤ tt) refl)),
                                  (
                                    (sq, (squares-sum, at Up sq 0x0370000000000001 (lit≤ tt) refl)),
                                    (
                                      (pos 4, (left_sum, at Nearest (pos 4) 0x0000000000000004 (lit≤ tt) refl)),
                                      (
                                        (pos (2 ^ 62 * 2 ^ 1074), (count-sum, at Nearest (pos (2 ^ 62 * 2 ^ 1074)) 0x43d0000000000000 (lit≤ tt) refl)),
                                        (
                                          (pos 0, (refl, at Nearest (pos 0) 0x0000000000000000 (lit≤ tt) refl)),
                                          tt,
                                        ),
                                      ),
                                    ),
                                  ),
                                ),
                              ),
                            ),
                          ),
                        ),
                      ),
                    ),
                  ),
                ),
              ),
            ),
          ),
        ),
      ),
    )
