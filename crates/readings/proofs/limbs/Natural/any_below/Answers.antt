-- A limb below that of the bit is not zero, or that limb's low bits are not.
use Rattle.std.proofs.Common.{◌≡◌, ℕ, ◌+◌, ◌*◌, ◌/◌, ◌%◌, ◌^◌, ◌<◌, Bool, not, T, eqb, get_or, take, ltb, sym, ap, ◌∙◌, subst, mul-pos, zero-mul, arith, lt→ltb, ltb→lt, nltb→le, pow_pos}
use Rattle.std.proofs.lemmas.Nat.{one_shl}
use lib.Ieee.Bits.{is_true}
use Rattle.readings.specs.Limbs.{natural}
use Rattle.readings.proofs.Naturals.{not-zero, alike, any_limb, below_is}
use Rattle.readings.proofs.limbs.Natural.any_below.Goals as goal

pub returns-then-any_set : goal.returns-then-any_set
returns-then-any_set c =
    let xs = c.args.self.now.limbs in
    let at = c.args.cut / 64 in
    let low : 0 < natural (take at xs) = ltb→lt 0 (natural (take at xs)) (subst T (c.if-any_set.ensures.answer ∙ any_limb (take at xs)) tt) in
    let e = below_is xs c.args.cut c.args.self.now.fit.1 in
    let some : 0 < natural xs % 2 ^ c.args.cut = omega arith in
    record {
      answer = c.if-any_set.true ∙ sym (is_true (ltb 0 (natural xs % 2 ^ c.args.cut)) (lt→ltb 0 (natural xs % 2 ^ c.args.cut) some));
    }

decides : (n d w m : ℕ) → n ≡ d * w + m → m ≡ 0 → 0 < w → not (eqb d 0) ≡ ltb 0 n
decides n d w m e z W =
    not-zero d
    ∙ alike d n
    (λ h. e ∙ ap (λ (a : ℕ). a * w + m) h ∙ ap (λ (a : ℕ). a + m) (zero-mul w) ∙ ap (λ (a : ℕ). 0 + a) z)
    (λ h. let p = mul-pos h W in omega arith)

pub returns-else-any_set : goal.returns-else-any_set
returns-else-any_set c =
    let xs = c.args.self.now.limbs in
    let cut = c.args.cut in
    let at = cut / 64 in
    let o = cut % 64 in
    let O : o < 64 = omega arith in
    let low = nltb→le 0 (natural (take at xs)) (subst (λ (b : Bool). T (not b)) (c.if-any_set.ensures.answer ∙ any_limb (take at xs)) tt) in
    let none : natural (take at xs) ≡ 0 = omega arith in
    let d : c.limb.result % (1 * 2 ^ o % 2 ^ 64) ≡ get_or xs at 0 % 2 ^ o = ap (λ (a : ℕ). c.limb.result % a) (one_shl o 64 O) ∙ ap (λ (a : ℕ). a % 2 ^ o) c.limb.ensures.answer in
    record {
      answer =
          ap (λ (a : ℕ). not (eqb a 0)) d
          ∙ decides (natural xs % 2 ^ cut) (get_or xs at 0 % 2 ^ o) (2 ^ (64 * at)) (natural (take at xs)) (below_is xs cut c.args.self.now.fit.1) none (pow_pos (64 * at));
    }
