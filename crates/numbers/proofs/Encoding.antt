-- The sizes that binary64 patterns stand for: which of them are acceptable, and the factor of each. Assumes nothing.
use Rattle.std.proofs.Common.{◌≡◌, ℕ, zero, suc, ◌+◌, ◌*◌, ◌/◌, ◌%◌, ◌^◌, ◌<◌, ◌≤◌, Bool, true, false, cond, ◌&&◌, eqb, ◌⊎◌, ℤ, pos, ◌-ℤ◌, Some, Ok, Err, Option, sym, refl, ap, ◌∙◌, subst, ap₂, inl, inr, ⊎_elim, le_trans, lt_of_lt_of_le, lt_irrefl, mul-le-mul_right, arith, pow_pos, pow_mono, pow-add, shl_lt}
use borrow.Author.Differences.{ints}
use Rattle.std.proofs.lemmas.Bool.{ne_eqb, eq-eqb, eqb-true, eqb-false, and_parts, and_cases, cases_eq, cond-false, cond-true}
use Rattle.numbers.specs.declared.factor.Factor.{Factor}
use Rattle.numbers.specs.declared.refusal.Reason.{Reason}
use Rattle.numbers.specs.Acceptance.{FactorValue, Acceptable, Answers}
use Rattle.numbers.specs.Patterns.{sign_of, field_of, fraction_of, pattern_size, pattern_value, zero_pattern, PatternFactor}
use Rattle.numbers.specs.Products.{factor_units}
use Rattle.numbers.specs.Refusals.{code_of}
use Rattle.numbers.specs.Units.{rank, signed, units}
use Rattle.numbers.proofs.Scale.{rank_is, signed-zero, units-zero}
use Rattle.numbers.proofs.Window.{size-signed, pow-order, pow_shift, trailing, not_above, rank-high, own_value, factor-size, in_window, to_window}

pub size_above : (x t : ℕ) → 2 ^ (52 + x) ≤ (2 ^ 52 + t) * 2 ^ x
size_above x t =
    let low : 2 ^ 52 ≤ 2 ^ 52 + t = omega arith in
    subst (λ (y : ℕ). y ≤ (2 ^ 52 + t) * 2 ^ x) (sym (pow-add 2 52 x)) (mul-le-mul_right (2 ^ x) low)

pub size_below : (x t : ℕ) → t < 2 ^ 52 → (2 ^ 52 + t) * 2 ^ x < 2 ^ (53 + x)
size_below x t h =
    let high : 2 ^ 52 + t < 2 ^ 53 = omega arith in
    shl_lt 53 x high

-- only +0 and -0 have size zero
pub size-zero : (field t : ℕ) → pattern_size field t ≡ 0 → (field ≡ 0) × (t ≡ 0)
size-zero zero t h = (refl, h)
size-zero (suc x) t h = absurd (lt_irrefl 0 (lt_of_lt_of_le (pow_pos (52 + x)) (subst (λ (y : ℕ). 2 ^ (52 + x) ≤ y) h (size_above x t))))

size_positive : (n : ℕ) → (n ≡ 0 → ⊥) → 0 < n
size_positive zero h = absurd (h refl)
size_positive (suc n) h = omega arith

-- what is not acceptable: a field outside 512 to 1506, or a fraction that is no multiple of 2^27
pub not_acceptable : (s : Bool) (field t : ℕ) → t < 2 ^ 52 → (pattern_size field t ≡ 0 → ⊥) → (field < 512) ⊎ ((1506 < field) ⊎ (t % 2 ^ 27 ≡ 0 → ⊥))
    → Acceptable (signed s (pattern_size field t)) → ⊥
not_acceptable s zero t ht nz why (w, win) =
    lt_irrefl t (lt_of_lt_of_le ht (le_trans (pow_mono (lower)) (in_window (signed s t) t (size-signed s t) (size_positive t nz) win)))
  where
    lower : 52 ≤ 563
    lower = omega arith
not_acceptable s (suc x) t ht nz why (w, win) = go why
  where
    n : ℕ
    n = (2 ^ 52 + t) * 2 ^ x

    is : w.significand * 2 ^ rank w.exponent ≡ n
    is = sym (factor-size w) ∙ size-signed s n

    go : (suc x < 512) ⊎ ((1506 < suc x) ⊎ (t % 2 ^ 27 ≡ 0 → ⊥)) → ⊥
    go (inl h) =
        let o = pow-order 563 (53 + x) n (in_window (signed s n) n (size-signed s n) (size_positive n nz) win) (size_below x t ht) in
        omega arith
    go (inr (inl h)) =
        let large : 2 ^ 52 ≤ 2 ^ 52 + t = omega arith in
        let o = not_above w.significand (rank w.exponent) (2 ^ 52 + t) x w.short (rank-high w.exponent w.low w.high) large is in
        omega arith
    go (inr (inr h)) =
        let large : 2 ^ (25 + 27) ≤ 2 ^ 52 + t = omega arith in
        let z = trailing w.significand (rank w.exponent) (2 ^ 52 + t) x 27 w.short large is in
        h (omega arith)

-- the factor of an accepted pattern has the pattern's value
pub accepted-value : (s : Bool) (x t : ℕ) (e : ℤ) → t % 2 ^ 27 ≡ 0 → rank e ≡ x + 27 → units s (2 ^ 25 + t / 2 ^ 27) e ≡ signed s ((2 ^ 52 + t) * 2 ^ x)
unfolding units
accepted-value s x t e h k = ap (signed s) (ap (λ (y : ℕ). m * 2 ^ y) (k ∙ turned) ∙ pow_shift m 27 x ∙ ap (λ (y : ℕ). y * 2 ^ x) whole)
  where
    m : ℕ
    m = 2 ^ 25 + t / 2 ^ 27

    turned : x + 27 ≡ 27 + x
    turned = omega arith

    whole : m * 2 ^ 27 ≡ 2 ^ 52 + t
    whole = omega arith

-- a pattern below field 2047 has a value
pub finite_value : (b : ℕ) → (field_of b ≡ 2047 → ⊥) → pattern_value b ≡ Some (signed (sign_of b) (pattern_size (field_of b) (fraction_of b)))
finite_value b h = cond-false _ _ _ (ne_eqb (field_of b) 2047 h)

-- the answers, by the parts of a pattern

zero_test : (b : ℕ) → field_of b ≡ 0 → fraction_of b ≡ 0 → zero_pattern b ≡ true
zero_test b f t = eq-eqb (pattern_size (field_of b) (fraction_of b)) 0 (ap (λ (x : ℕ). pattern_size x (fraction_of b)) f ∙ t)

some_test : (b : ℕ) → (pattern_size (field_of b) (fraction_of b) ≡ 0 → ⊥) → zero_pattern b ≡ false
some_test b h = ne_eqb (pattern_size (field_of b) (fraction_of b)) 0 h

-- the test for both zeros, by the parts
pub both_zero : (b : ℕ) → (eqb (field_of b) 0 && eqb (fraction_of b) 0) ≡ true → (field_of b ≡ 0) × (fraction_of b ≡ 0)
both_zero b h = let p = and_parts (eqb (field_of b) 0) (eqb (fraction_of b) 0) h in (eqb-true (field_of b) 0 p.0, eqb-true (fraction_of b) 0 p.1)

pub not_zero : (b : ℕ) → (eqb (field_of b) 0 && eqb (fraction_of b) 0) ≡ false → pattern_size (field_of b) (fraction_of b) ≡ 0 → ⊥
not_zero b h z = ⊎_elim (λ n. eqb-false (field_of b) 0 n p.0) (λ n. eqb-false (fraction_of b) 0 n p.1) (and_cases (eqb (field_of b) 0) (eqb (fraction_of b) 0) h)
  where
    p : (field_of b ≡ 0) × (fraction_of b ≡ 0)
    p = size-zero (field_of b) (fraction_of b) z

no_value-answer : (b : ℕ) (r : Reason) → field_of b ≡ 2047 → code_of r ≡ 1 → Answers (pattern_value b) (Err r)
no_value-answer b r f code = subst (λ (o : Option ℤ). Answers o (Err r)) (sym (cond-true _ _ _ (eq-eqb (field_of b) 2047 f))) code

pub zero-answer : (b : ℕ) (f : Factor) → field_of b ≡ 0 → fraction_of b ≡ 0 → f.significand ≡ 0 → Answers (pattern_value b) (Ok f)
zero-answer b f h t m =
    let is : factor_units f ≡ pos 0 = ap (λ (x : ℕ). units f.negative x f.exponent) m ∙ units-zero f.negative f.exponent in
    let v : signed (sign_of b) (pattern_size (field_of b) (fraction_of b)) ≡ pos 0 = ap (λ (x : ℕ). signed (sign_of b) (pattern_size x (fraction_of b))) h ∙ ap (signed (sign_of b)) t ∙ signed-zero (sign_of b) in
    subst (λ (o : Option ℤ). Answers o (Ok f)) (sym (finite_value b (λ n. omega arith) ∙ ap Some v)) ((subst FactorValue is (own_value f), inl refl), is)

pub zero-factor : (b : ℕ) (f : Factor) → field_of b ≡ 0 → fraction_of b ≡ 0 → f.significand ≡ 0 → PatternFactor b f
zero-factor b f h t m =
    let z = zero_test b h t in
    record { sign_is = f.plus m ∙ sym (cond-true _ _ _ z); significand_is = m ∙ sym (cond-true _ _ _ z); exponent_is = f.plain m ∙ sym (cond-true _ _ _ z) }

pub refused-answer : (b : ℕ) (r : Reason) → (field_of b ≡ 2047 → ⊥) → (pattern_size (field_of b) (fraction_of b) ≡ 0 → ⊥)
    → (field_of b < 512) ⊎ ((1506 < field_of b) ⊎ (fraction_of b % 2 ^ 27 ≡ 0 → ⊥)) → code_of r ≡ 2 → Answers (pattern_value b) (Err r)
refused-answer b r n nz why code =
    let small : fraction_of b < 2 ^ 52 = omega arith in
    subst (λ (o : Option ℤ). Answers o (Err r)) (sym (finite_value b n)) (not_acceptable (sign_of b) (field_of b) (fraction_of b) small nz why, code)

-- outside the window: field 2047 has no value, any other is refused for its size
pub outside_answer : (b : ℕ) (r : Reason) → (pattern_size (field_of b) (fraction_of b) ≡ 0 → ⊥) → (field_of b < 512) ⊎ (1506 < field_of b)
    → code_of r ≡ cond (eqb (field_of b) 2047) 1 2 → Answers (pattern_value b) (Err r)
outside_answer b r nz why code = go (cases_eq (field_of b) 2047)
  where
    go : (field_of b ≡ 2047) ⊎ (field_of b ≡ 2047 → ⊥) → Answers (pattern_value b) (Err r)
    go (inl h) = no_value-answer b r h (code ∙ cond-true _ _ _ (eq-eqb (field_of b) 2047 h))
    go (inr h) = refused-answer b r h nz (⊎_elim inl (λ k. inr (inl k)) why) (code ∙ cond-false _ _ _ (ne_eqb (field_of b) 2047 h))

-- a factor's exponent has its limits, and so has the field
field_low : (f : Factor) (field : ℕ) → f.exponent ≡ pos field -ℤ pos 1048 → 512 ≤ field
field_low f field e = omega (arith, ints, f.low)

pub made-answer : (b : ℕ) (f : Factor) → (field_of b ≡ 2047 → ⊥) → fraction_of b % 2 ^ 27 ≡ 0
    → f.negative ≡ sign_of b → f.significand ≡ 2 ^ 25 + fraction_of b / 2 ^ 27 → f.exponent ≡ pos (field_of b) -ℤ pos 1048 → Answers (pattern_value b) (Ok f)
made-answer b f n even sign m e = subst (λ (o : Option ℤ). Answers o (Ok f)) (sym (finite_value b n)) (go (field_of b) (field_low f (field_of b) e) e)
  where
    t : ℕ
    t = fraction_of b

    s : Bool
    s = sign_of b

    go : (field : ℕ) → 512 ≤ field → f.exponent ≡ pos field -ℤ pos 1048 → Acceptable (signed s (pattern_size field t)) × (factor_units f ≡ signed s (pattern_size field t))
    go zero lo ex = absurd (omega arith)
    go (suc x) lo ex =
        let k : rank f.exponent ≡ x + 27 = omega (arith, ints, rank_is f.exponent (omega (arith, ints)), ex) in
        let is : factor_units f ≡ signed s ((2 ^ 52 + t) * 2 ^ x) = ap₂ (λ (p : Bool) (q : ℕ). units p q f.exponent) sign m ∙ accepted-value s x t f.exponent even k in
        let reach : 2 ^ 563 ≤ (2 ^ 52 + t) * 2 ^ x = le_trans (pow_mono (reached x lo)) (size_above x t) in
        ((subst FactorValue is (own_value f), to_window (signed s ((2 ^ 52 + t) * 2 ^ x)) ((2 ^ 52 + t) * 2 ^ x) (size-signed s ((2 ^ 52 + t) * 2 ^ x)) reach), is)
      where
        reached : (y : ℕ) → 512 ≤ suc y → 563 ≤ 52 + y
        reached y h = omega arith

pub made-factor : (b : ℕ) (f : Factor) → f.negative ≡ sign_of b → f.significand ≡ 2 ^ 25 + fraction_of b / 2 ^ 27 → f.exponent ≡ pos (field_of b) -ℤ pos 1048 → PatternFactor b f
made-factor b f sign m e =
    let low = field_low f (field_of b) e in
    let z = some_test b (λ h. let p = size-zero (field_of b) (fraction_of b) h in omega arith) in
    record { sign_is = sign ∙ sym (cond-false _ _ _ z); significand_is = m ∙ sym (cond-false _ _ _ z); exponent_is = e ∙ sym (cond-false _ _ _ z) }
