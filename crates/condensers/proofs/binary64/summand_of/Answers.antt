-- The fields of the number's pattern are the parts of its summand. Assumes nothing.
use Rattle.std.proofs.Common.{◌≡◌, ℕ, ◌+◌, ◌-◌, ◌%◌, ◌^◌, Bool, T, sym, ap, ◌∙◌, ap₂, subst₂, rules}
use lib.Ieee.{Float, nan, inf, fin, binary64, to_bits}
use lib.Ieee.Exact.{HasValue}
use Rattle.std.specs.Float.{is_sign_negative}
use Rattle.numbers.specs.Patterns.{sign_of}
use Rattle.condensers.specs.Fields.{leading}
use Rattle.condensers.specs.Handed.{limited, summand_at}
use Rattle.condensers.specs.Pairing.{summand_of}
use Rattle.condensers.specs.Laws.Patterns.{float_value_lem, not_nan}
use Rattle.condensers.proofs.binary64.summand_of.Goals as goal

sign_read : (x : Float) (s : Bool) (a n : ℕ) → HasValue x s a n → is_sign_negative x ≡ s
unfolding is_sign_negative
sign_read nan s a n v = absurd v
sign_read (inf t) s a n v = absurd v
sign_read (fin t m e) s a n v = v.0

pub float_to_bits-bits : goal.float_to_bits-bits
float_to_bits-bits c = not_nan c.args.entry.number (search rules) c.args.entry.finite

pub summand_at-requires : goal.summand_at-requires
summand_at-requires c =
    let b = to_bits binary64 c.args.entry.number in
    let field = c.exponent_field-field.ensures.answer in
    subst₂ (λ (m h : ℕ). T (limited (m + b % 2 ^ 52) h)) (sym (c.leading_of.ensures.answer ∙ ap leading field)) (sym (c.saturating_sub.ensures ∙ ap (λ (x : ℕ). x - 1) field)) c.requires

pub is_sign_negative-requires : goal.is_sign_negative-requires
is_sign_negative-requires c = not_nan c.args.entry.number (search rules) c.args.entry.finite

pub returns : goal.returns
unfolding summand_of
returns c =
    let b = to_bits binary64 c.args.entry.number in
    let field = c.exponent_field-field.ensures.answer in
    let sign = c.is_sign_negative.ensures ∙ sign_read c.args.entry.number _ _ _ (float_value_lem c.args.entry.number (search rules) c.args.entry.finite) in
    record {
      answer = c.summand_at.ensures.answer
          ∙ ap (λ (s : Bool). summand_at s (c.leading_of.result + b % 2 ^ 52) c.saturating_sub.result) sign
          ∙ ap₂ (λ (m h : ℕ). summand_at (sign_of b) (m + b % 2 ^ 52) h) (c.leading_of.ensures.answer ∙ ap leading field) (c.saturating_sub.ensures ∙ ap (λ (x : ℕ). x - 1) field);
    }
