-- The sign bit goes before the pattern of the size, and the whole is the rounding.
use Rattle.std.proofs.Common.{◌≡◌, ℕ, ◌+◌, ◌^◌, ◌<◌, ◌≤◌, cond, nat_abs, sym, ap, ◌∙◌, subst, le_trans, le_of_eq}
use lib.Ieee.{top}
use Rattle.numbers.proofs.Window.{size-signed}
use Rattle.readings.specs.Formats.{format_of, largest}
use Rattle.readings.specs.Limbs.{natural}
use Rattle.readings.specs.Rounded.{size_pattern, rounded}
use Rattle.readings.specs.Rounding.{Rounds}
use Rattle.readings.specs.Sums.{sum_value}
use Rattle.readings.specs.declared.rounding.Mode.{Mode}
use Rattle.readings.proofs.Directions.{rounded-rounds}
use Rattle.readings.proofs.Widths.{rounded_by, signed_fits}
use Rattle.readings.proofs.sums.ExactSum.pattern.Goals as goal

pub with_sign-requires : goal.with_sign-requires
with_sign-requires c =
    let f = format_of c.args.width in
    subst (λ (a : ℕ). top f + a < 2 ^ 64) (sym c.size_pattern-size.ensures.answer) (signed_fits f c.size_mode.result (natural c.args.self.now.size.limbs) c.requires)

pub returns : goal.returns
returns c =
    let f = format_of c.args.width in
    let s = c.args.self.now in
    let d = c.args.direction in
    let n = natural s.size.limbs in
    let small : nat_abs (sum_value s) ≤ largest f = le_trans (le_of_eq (size-signed s.negative n)) c.requires in
    let is : c.with_sign.result ≡ rounded f d (sum_value s) =
    c.with_sign.ensures.answer
    ∙ ap (λ (a : ℕ). cond s.negative (top f) 0 + a) (c.size_pattern-size.ensures.answer ∙ ap (λ (m : Mode). size_pattern f m n) c.size_mode.ensures.answer)
    ∙ sym (rounded_by f d s.negative n s.plus) in
    record { answer = subst (λ (b : ℕ). Rounds f d (sum_value s) b) (sym is) (rounded-rounds f d (sum_value s) small) }
