-- Each pattern is answered by its value. Assumes nothing.
use Rattle.std.proofs.Common.{◌≡◌, ℕ, ◌%◌, ◌^◌, ◌<◌, cond, ◌&&◌, eqb, ◌⊎◌, sym, refl, ap, ◌∙◌, subst, ap₂, inr, arith}
use Rattle.std.proofs.lemmas.Result.{err_from_is_err_and}
use borrow.Author.Differences.{ints}
use Rattle.numbers.proofs.Encoding.{both_zero, not_zero, zero-answer, zero-factor, refused-answer, outside_answer, made-answer, made-factor}
use Rattle.numbers.proofs.Floats.{pattern-value}
use Rattle.numbers.proofs.patterns.PatternsKind.factor.Goals as goal

pub returns-then-is_zero : goal.returns-then-is_zero
returns-then-is_zero c =
    let b = c.args.element in
    let p = c.from-parts.ensures in
    let z = both_zero b (sym (c.if-is_zero.ensures.answer ∙ ap₂ (λ (x y : ℕ). eqb x 0 && eqb y 0) p.1 p.2)) in
    record { answer = zero-answer b _ z.0 z.1 refl; made = zero-factor b _ z.0 z.1 refl; value = pattern-value b }

pub returns-in_err-exponent : goal.returns-in_err-exponent
returns-in_err-exponent c =
    let r = err_from_is_err_and c.from_residual.result c.from_residual.ensures.1 in
    let b = c.args.element in
    let p = c.from-parts.ensures in
    let e = c.in_err-exponent.ensures.answer in
    let nz = not_zero b (sym (c.if-is_zero.ensures.answer ∙ ap₂ (λ (x y : ℕ). eqb x 0 && eqb y 0) p.1 p.2)) in
    let outside = subst (λ (x : ℕ). (x < 512) ⊎ (1506 < x)) p.1 e.0 in
    let code = e.1 ∙ ap (λ (x : ℕ). cond (eqb x 2047) 1 2) p.1 in
    rw (r.1, r.2) (record { answer = outside_answer b _ nz outside code; made = tt; value = pattern-value b })

pub returns-in_err-significand : goal.returns-in_err-significand
returns-in_err-significand c =
    let r = err_from_is_err_and c.from_residual-in_err-significand.result c.from_residual-in_err-significand.ensures.1 in
    let b = c.args.element in
    let p = c.from-parts.ensures in
    let e = c.in_ok-exponent.ensures.answer in
    let m = c.in_err-significand.ensures.answer in
    let nz = not_zero b (sym (c.if-is_zero.ensures.answer ∙ ap₂ (λ (x y : ℕ). eqb x 0 && eqb y 0) p.1 p.2)) in
    let long = subst (λ (x : ℕ). x % 2 ^ 27 ≡ 0 → ⊥) p.2 m.0 in
    rw (r.1, r.2) (record { answer = refused-answer b _ (λ n. omega arith) nz (inr (inr long)) m.1; made = tt; value = pattern-value b })

pub returns : goal.returns
returns c =
    let b = c.args.element in
    let p = c.from-parts.ensures in
    let e = c.in_ok-exponent.ensures.answer in
    let m = c.in_ok-significand.ensures.answer in
    record {
      answer = made-answer b _ (λ n. omega arith) (omega arith) p.0 (omega arith) (omega (arith, ints));
      made = made-factor b _ p.0 (omega arith) (omega (arith, ints));
      value = pattern-value b;
    }
