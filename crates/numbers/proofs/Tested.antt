-- The test for acceptable values decides acceptance, and a kind's answer has the code that the test gives. Assumes nothing.
use Rattle.std.proofs.Common.{◌≡◌, ℕ, ◌+◌, ◌-◌, ◌*◌, ◌/◌, ◌%◌, ◌^◌, ◌<◌, ◌≤◌, Bool, true, false, ◌&&◌, ◌||◌, eqb, ltb, leb, ◌⊎◌, ℤ, pos, negsuc, ◌-ℤ◌, nat_abs, ◌≤ℤ◌, Some, None, Ok, Err, Option, Result, sym, refl, ap, ◌∙◌, subst, inl, inr, lt_of_lt_of_le, add-zero, zero-mul, mul-one, arith, pow_mono, shl_lt, shr_lt}
use lib.Ieee.{size}
use lib.Ieee.Digits.{size-lt, size-le, size_reaches}
use lib.Pow.{split}
use borrow.Author.Differences.{ints}
use Rattle.std.proofs.lemmas.Bool.{and_parts, and_from, or_cases, or_left, or_right, eqb-true, eq-eqb, leb-true, le-leb, ltb-true, lt-ltb, cases_eq, cond-true, cond-false}
use Rattle.numbers.specs.declared.factor.Factor.{Factor}
use Rattle.numbers.specs.declared.refusal.Reason.{Reason}
use Rattle.numbers.specs.declared.refusal.Reason.TheVariants.{NotFinite, NotFactor, LengthsDiffer, Full, Shape, CountRange, OutputShort, ShortRange}
use Rattle.numbers.specs.Acceptance.{FactorValue, Acceptable, acceptable, AcceptanceTested, element_code, answer_code, Answers}
use Rattle.numbers.specs.Counts.{is_negative}
use Rattle.numbers.specs.Refusals.{code_of}
use Rattle.numbers.specs.Units.{rank, signed, units}
use Rattle.numbers.proofs.Halving.{signed_parts}
use Rattle.numbers.proofs.Scale.{rank_is}
use Rattle.numbers.proofs.Window.{least, pow-order, trailing, rank-high, factor-size}

top : rank (pos 484) ≡ 1558
unfolding rank
top = refl

zero-value : (v : ℤ) → nat_abs v ≡ 0 → v ≡ pos 0
zero-value (pos n) h = ap pos h
zero-value (negsuc n) h = absurd (omega arith)

-- the factor of a size of k bits, k from 564 to 1558, whose bits below the leading 26 are zero
value_from_size : (v : ℤ) (k : ℕ) → 563 < k → k ≤ 1558 → nat_abs v < 2 ^ k → nat_abs v % 2 ^ (k - 26) ≡ 0 → FactorValue v
unfolding units
value_from_size v k low high below even =
    let n = nat_abs v in
    let j = k - 26 in
    let e : ℤ = pos j -ℤ pos 1074 in
    let r : rank e ≡ j = omega (arith, ints, rank_is e (omega (arith, ints))) in
    let whole : n / 2 ^ j * 2 ^ j ≡ n = sym (add-zero (n / 2 ^ j * 2 ^ j)) ∙ ap (λ (x : ℕ). n / 2 ^ j * 2 ^ j + x) (sym even) ∙ split n j in
    let is : units (is_negative v) (n / 2 ^ j) e ≡ v = ap (signed (is_negative v)) (ap (λ (x : ℕ). n / 2 ^ j * 2 ^ x) r ∙ whole) ∙ signed_parts v in
    let parts : k ≡ 26 + j = omega arith in
    record {
      sign = is_negative v;
      significand = n / 2 ^ j;
      exponent = e;
      short = shr_lt 26 j (subst (λ (x : ℕ). n < 2 ^ x) parts below);
      low = omega (arith, ints);
      high = omega (arith, ints);
      value_is = sym is;
    }

zero-factor-value : (v : ℤ) → nat_abs v ≡ 0 → FactorValue v
unfolding units
zero-factor-value v h = record { sign = false; significand = 0; exponent = pos 0; short = omega arith; low = omega (arith, ints); high = omega (arith, ints); value_is = zero-value v h ∙ ap pos (sym (zero-mul (2 ^ rank (pos 0)))) }

-- a size that is not zero has its leading bit at size - 1
leading : (n : ℕ) → 2 ^ 563 ≤ n → (563 < size n) × (2 ^ (size n - 1) ≤ n)
leading n h =
    let low : 563 < size n = pow-order 563 (size n) n h (size-lt n) in
    (low, size_reaches n (size n - 1) (omega arith))

pub acceptance_tested : AcceptanceTested
unfolding acceptable
acceptance_tested v = (λ h. from_test (or_cases _ _ h), λ a. to_test a (cases_eq n 0))
  where
    n : ℕ
    n = nat_abs v

    inside : Bool
    inside = ltb n (2 ^ rank (pos 484)) && eqb (n % 2 ^ (size n - 26)) 0

    from_test : (eqb n 0 ≡ true) ⊎ ((leb (2 ^ rank (negsuc 510)) n && inside) ≡ true) → Acceptable v
    from_test (inl z) = (zero-factor-value v (eqb-true n 0 z), inl (zero-value v (eqb-true n 0 z)))
    from_test (inr h) =
        let p = and_parts (leb (2 ^ rank (negsuc 510)) n) inside h in
        let q = and_parts (ltb n (2 ^ rank (pos 484))) (eqb (n % 2 ^ (size n - 26)) 0) p.1 in
        let window : 2 ^ rank (negsuc 510) ≤ n = leb-true (2 ^ rank (negsuc 510)) n p.0 in
        let low = (leading n (subst (λ (k : ℕ). 2 ^ k ≤ n) least window)).0 in
        let high = size-le n 1558 (subst (λ (k : ℕ). n < 2 ^ k) top (ltb-true n (2 ^ rank (pos 484)) q.0)) in
        (value_from_size v (size n) low high (size-lt n) (eqb-true (n % 2 ^ (size n - 26)) 0 q.1), inr window)

    to_test : Acceptable v → (n ≡ 0) ⊎ (n ≡ 0 → ⊥) → (eqb n 0 || (leb (2 ^ rank (negsuc 510)) n && inside)) ≡ true
    to_test a (inl z) = or_left (eqb n 0) _ (eq-eqb n 0 z)
    to_test (w, inl z) (inr nz) = absurd (nz (ap nat_abs z))
    to_test (w, inr window) (inr nz) =
        let m = w.significand in
        let r = rank w.exponent in
        let l = leading n (subst (λ (k : ℕ). 2 ^ k ≤ n) least window) in
        let is : m * 2 ^ r ≡ n * 2 ^ 0 = sym (factor-size w) ∙ sym (mul-one n) in
        let lead : 2 ^ (25 + (size n - 26)) ≤ n = subst (λ (k : ℕ). 2 ^ k ≤ n) (place (size n) l.0) l.1 in
        let below : n < 2 ^ 1558 = subst (λ (x : ℕ). x < 2 ^ 1558) (sym (factor-size w)) (lt_of_lt_of_le (shl_lt 26 r w.short) (pow_mono (reach w.exponent w.low w.high))) in
        or_right (eqb n 0) _
        (and_from _ inside (le-leb (2 ^ rank (negsuc 510)) n window)
        (and_from _ _ (lt-ltb n (2 ^ rank (pos 484)) (subst (λ (k : ℕ). n < 2 ^ k) (sym top) below))
        (eq-eqb (n % 2 ^ (size n - 26)) 0 (trailing m r n 0 (size n - 26) w.short lead is))))
      where
        place : (k : ℕ) → 563 < k → k - 1 ≡ 25 + (k - 26)
        place k h = omega arith

        reach : (e : ℤ) → negsuc 535 ≤ℤ e → e ≤ℤ pos 458 → 26 + rank e ≤ 1558
        reach e lo hi = let h = rank-high e lo hi in omega arith

-- a kind's answer has the code that the element's value gives
pub answer-code : (x : Option ℤ) (r : Result Factor Reason) → Answers x r → answer_code r ≡ element_code x
answer-code None (Ok f) h = absurd h
answer-code None (Err e) h = h
answer-code (Some v) (Ok f) h = sym (cond-true _ _ _ ((acceptance_tested v).1 h.0))
answer-code (Some v) (Err e) h = h.1 ∙ sym (cond-false _ _ _ (refused_test (acceptable v) refl))
  where
    refused_test : (b : Bool) → acceptable v ≡ b → acceptable v ≡ false
    refused_test true k = absurd (h.0 ((acceptance_tested v).0 k))
    refused_test false k = k

pub code-above : (e : Reason) → 0 < code_of e
code-above NotFinite = omega arith
code-above NotFactor = omega arith
code-above LengthsDiffer = omega arith
code-above Full = omega arith
code-above Shape = omega arith
code-above CountRange = omega arith
code-above OutputShort = omega arith
code-above ShortRange = omega arith
