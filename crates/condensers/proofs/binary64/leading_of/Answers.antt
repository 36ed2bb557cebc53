-- Field 0 has no leading bit. Assumes nothing.
use Rattle.std.proofs.Common.{◌≡◌, ℕ, zero, suc, ◌^◌, sym, refl, ap, lit≤}
use Rattle.condensers.specs.Fields.{leading}
use Rattle.condensers.proofs.binary64.leading_of.Goals as goal

leading-one : (x : ℕ) → (x ≡ 0 → ⊥) → 2 ^ 52 ≡ leading x
leading-one zero n = absurd (n refl)
leading-one (suc x) n = refl

pub returns-then-field-eq0 : goal.returns-then-field-eq0
returns-then-field-eq0 c = record { answer = sym (ap leading c.if-field-eq0.true); limits = lit≤ tt }

pub returns-else-field-eq0 : goal.returns-else-field-eq0
returns-else-field-eq0 c = record { answer = leading-one c.args.field c.if-field-eq0.false; limits = lit≤ tt }
