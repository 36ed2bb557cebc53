-- The pattern of a number of so many units: the significand moved up to 53 digits, below the field and the sign. Assumes nothing.
use Rattle.std.proofs.Common.{◌≡◌, ℕ, suc, ◌+◌, ◌-◌, ◌*◌, ◌%◌, ◌^◌, ◌<◌, ◌≤◌, min, Bool, true, false, not, T, ltb, ◌⊎◌, sym, ap, ◌∙◌, subst, ap₂, inl, inr, le_of_lt, lt_of_le_of_lt, mul-le-mul_right, mod-eq_of_lt, mul_assoc, mul-le-mul_left, mul-lt-mul_of_pos_right, arith, ltb→lt, nltb→le, pow_pos, pow_mono, pow-add}
use lib.Count.{count_leading_zeros, leading_top}
use Rattle.std.proofs.Math.Nat.{min-eq_left, min-eq_right}
use borrow.Author.Tests.{lt-leb}
use borrow.Author.Differences.{ints}
use Rattle.std.proofs.lemmas.Bool.{cases_lt}
use Rattle.numbers.specs.declared.piece.Piece.{Piece}
use Rattle.numbers.specs.declared.piece.Summand.{Summand}
use Rattle.numbers.specs.Products.{IsSummandOf}
use Rattle.numbers.specs.Units.{rank}
use Rattle.numbers.specs.Patterns.{sign_of, field_of}
use Rattle.numbers.proofs.Scale.{rank_is}
use Rattle.numbers.proofs.Window.{pow-order}
use Rattle.condensers.specs.Fields.{leading, significand_of, height_of}

-- the rank of a piece
pub rank_limit : (p : Piece) → rank p.exponent ≤ 1990
rank_limit p = omega (arith, ints, rank_is p.exponent (omega (arith, ints)))

-- the rank of a piece, as its summand gives it
pub piece_rank : (p : Piece) (s : Summand) (r : ℕ) → IsSummandOf p s → r ≡ rank s.exponent → (r ≡ rank p.exponent) × (r ≤ 1990)
piece_rank p s r h e = let f : r ≡ rank p.exponent = e ∙ ap rank h.exponent_is in (f, omega (arith, f, rank_limit p))

-- ---- a pattern by its height and its significand

-- a positive pattern
abbrev pub Built : ℕ → ℕ → ℕ → Type 0
Built b w q = (field_of b < 2047) × (significand_of b ≡ q) × (height_of b ≡ w)

module _ (w q : ℕ) (hq : q < 2 ^ 53) (hw : w ≤ 2044) where
  built_normal : 2 ^ 52 ≤ q → Built (w * 2 ^ 52 + q) w q
  built_normal lead =
      let b = w * 2 ^ 52 + q in
      let f : field_of b ≡ suc w = omega arith in
      let r : 2 ^ 52 + b % 2 ^ 52 ≡ q = omega arith in
      (omega arith, ap (λ (x : ℕ). leading x + b % 2 ^ 52) f ∙ r, omega arith)

  built_low : w ≡ 0 → q < 2 ^ 52 → Built (w * 2 ^ 52 + q) w q
  built_low lead small =
      let b = w * 2 ^ 52 + q in
      let f : field_of b ≡ 0 = omega arith in
      let r : 0 + b % 2 ^ 52 ≡ q = omega arith in
      (omega arith, ap (λ (x : ℕ). leading x + b % 2 ^ 52) f ∙ r, omega arith)

  pub built : (2 ^ 52 ≤ q) ⊎ (w ≡ 0) → Built (w * 2 ^ 52 + q) w q
  built (inl lead) = built_normal lead
  built (inr e) = go (ltb q (2 ^ 52)) (ltb→lt q (2 ^ 52)) (nltb→le q (2 ^ 52))
    where
      go : (b : Bool) → (T b → q < 2 ^ 52) → (T (not b) → 2 ^ 52 ≤ q) → Built (w * 2 ^ 52 + q) w q
      go true l g = built_low e (l tt)
      go false l g = built_normal (g tt)

-- a number of at most 53 digits, moved up to 53 digits by its leading zeros
pub normalised : (P : ℕ) → 0 < P → P ≤ 2 ^ 52 → (11 ≤ count_leading_zeros 64 P) × (2 ^ 52 ≤ P * 2 ^ (count_leading_zeros 64 P - 11)) × (P * 2 ^ (count_leading_zeros 64 P - 11) < 2 ^ 53)
normalised P p s =
    let t = leading_top 64 P p (omega arith) in
    let z = count_leading_zeros 64 P in
    let j = t.0 in
    let l : j < 53 = pow-order j 53 P t.2 (omega arith) in
    let e : z + suc j ≡ 64 = t.1 in
    let a : 2 ^ j * 2 ^ (z - 11) ≡ 2 ^ 52 = sym (pow-add 2 j (z - 11)) ∙ ap (λ (x : ℕ). 2 ^ x) {x = j + (z - 11)} {y = 52} (omega arith) in
    let b : 2 ^ suc j * 2 ^ (z - 11) ≡ 2 ^ 53 = sym (pow-add 2 (suc j) (z - 11)) ∙ ap (λ (x : ℕ). 2 ^ x) {x = suc j + (z - 11)} {y = 53} (omega arith) in (
      omega arith,
      subst (λ (x : ℕ). x ≤ P * 2 ^ (z - 11)) a (mul-le-mul_right (2 ^ (z - 11)) t.2),
      subst (λ (x : ℕ). P * 2 ^ (z - 11) < x) b (mul-lt-mul_of_pos_right t.3 (pow_pos (z - 11))),
    )

-- moved up until it has 53 digits, or to the end of the rank
moved_up : (P R S : ℕ) → 0 < P → P ≤ 2 ^ 52 → S ≡ min (count_leading_zeros 64 P - 11) R → (S ≤ R) × (P * 2 ^ S < 2 ^ 53) × ((2 ^ 52 ≤ P * 2 ^ S) ⊎ (R - S ≡ 0))
moved_up P R S p s e = go (cases_lt (count_leading_zeros 64 P - 11) R)
  where
    n : (11 ≤ count_leading_zeros 64 P) × (2 ^ 52 ≤ P * 2 ^ (count_leading_zeros 64 P - 11)) × (P * 2 ^ (count_leading_zeros 64 P - 11) < 2 ^ 53)
    n = normalised P p s

    go : (count_leading_zeros 64 P - 11 < R) ⊎ (R ≤ count_leading_zeros 64 P - 11) → (S ≤ R) × (P * 2 ^ S < 2 ^ 53) × ((2 ^ 52 ≤ P * 2 ^ S) ⊎ (R - S ≡ 0))
    go (inl l) =
        let f = e ∙ min-eq_left (le_of_lt l) in
        (omega arith, subst (λ (x : ℕ). P * 2 ^ x < 2 ^ 53) (sym f) n.2, inl (subst (λ (x : ℕ). 2 ^ 52 ≤ P * 2 ^ x) (sym f) n.1))
    go (inr l) =
        let f = e ∙ min-eq_right l in
        (omega arith, lt_of_le_of_lt (mul-le-mul_left P (pow_mono {i = S} {j = count_leading_zeros 64 P - 11} (omega arith))) n.2, inr (omega arith))

pub moved-pattern : (P R S : ℕ) → 0 < P → P ≤ 2 ^ 52 → R ≤ 2042 → S ≡ min (count_leading_zeros 64 P - 11) R
    → let b = (R - S) * 2 ^ 52 + P * 2 ^ S % 2 ^ 64 in (b < 2 ^ 63) × (field_of b < 2047) × (significand_of b * 2 ^ height_of b ≡ P * 2 ^ R)
moved-pattern P R S p s r m =
    let u = moved_up P R S p s m in
    let q = P * 2 ^ S in
    let l : q < 2 ^ 53 = u.1 in
    let e : q % 2 ^ 64 ≡ q = mod-eq_of_lt (omega arith) in
    let b = (R - S) * 2 ^ 52 + q in
    let t = built (R - S) q l (omega arith) u.2 in
    let v : significand_of b * 2 ^ height_of b ≡ P * 2 ^ R = ap₂ (λ (x y : ℕ). x * 2 ^ y) t.1 t.2 ∙ shifted P R S u.0 in
    subst (λ (x : ℕ). let d = (R - S) * 2 ^ 52 + x in (d < 2 ^ 63) × (field_of d < 2047) × (significand_of d * 2 ^ height_of d ≡ P * 2 ^ R)) (sym e) (omega arith, t.0, v)
  where
    shifted : (P R S : ℕ) → S ≤ R → P * 2 ^ S * 2 ^ (R - S) ≡ P * 2 ^ R
    shifted P R S h = mul_assoc P (2 ^ S) (2 ^ (R - S)) ∙ ap (λ (x : ℕ). P * x) (sym (pow-add 2 S (R - S)) ∙ ap (λ (x : ℕ). 2 ^ x) {x = S + (R - S)} {y = R} (omega arith))

-- a positive pattern has no sign bit
pub plus_sign : (p : ℕ) → p < 2 ^ 63 → sign_of p ≡ false
plus_sign p h = lt-leb (2 ^ 63) p h
