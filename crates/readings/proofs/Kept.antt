-- The digits that a format keeps of a size, found from the number of its bits, and that the pattern fits 64 bits. Assumes nothing.
use Rattle.std.proofs.Common.{◌≡◌, ℕ, ◌+◌, ◌-◌, ◌*◌, ◌/◌, ◌%◌, ◌^◌, ◌<◌, ◌≤◌, List, length, sym, ap, ◌∙◌, subst, le_trans, le_of_eq, lt_of_lt_of_le, mul-le-mul_right, mod-eq_of_lt, mul-le-mul_left, arith, lit≤, pow_mono, shr-shr}
use lib.Ieee.{Format, binary32, binary64, prec, hid, size}
use lib.Ieee.Digits.{size-le}
use lib.Ieee.Fits.{kept-lt}
use Rattle.readings.specs.Formats.{lowest}
use Rattle.readings.specs.Limbs.{natural}
use Rattle.readings.specs.declared.rounding.Mode.{Mode}
use Rattle.readings.specs.declared.rounding.Remainder.{Remainder}
use Rattle.readings.specs.Rounded.{dropped, remainder_of, carry, size_pattern}
use Rattle.readings.proofs.Naturals.{Limbs, natural_lt}
use Rattle.readings.proofs.Remainders.{size_shr}

pub dropped_is : (f : Format) (n : ℕ) → dropped f n ≡ size n - (lowest f + prec f)
unfolding dropped
dropped_is f n = let e = size_shr n (lowest f) in omega arith

pub few_bits : (xs : List ℕ) → Limbs xs → length xs ≤ 33 → size (natural xs) ≤ 2112
few_bits xs h l = le_trans (size-le (natural xs) (64 * length xs) (natural_lt xs h)) (omega arith)

short : (f : Format) → prec f ≤ 53
short binary32 = lit≤ tt
short binary64 = lit≤ tt

hid_le : (f : Format) → hid f ≤ 2 ^ 52
hid_le binary32 = lit≤ tt
hid_le binary64 = lit≤ tt

kept_small : (f : Format) (n : ℕ) → n / 2 ^ (lowest f + dropped f n) < 2 ^ 53
unfolding dropped
kept_small f n =
    let w = n / 2 ^ lowest f in
    lt_of_lt_of_le (subst (λ (a : ℕ). a < 2 ^ prec f) (shr-shr n (lowest f) (size w - prec f)) (kept-lt (prec f) w)) (pow_mono (short f))

field_small : (f : Format) (n : ℕ) → size n ≤ 2112 → dropped f n * hid f ≤ 2112 * 2 ^ 52
field_small f n h = le_trans (mul-le-mul_right (hid f) (le_trans (le_of_eq (dropped_is f n)) (omega arith))) (mul-le-mul_left 2112 (hid_le f))

-- what the code found: d dropped digits, the kept number, and the carry
pub record Counted (f : Format) (m : Mode) (n d kept c : ℕ) : Type 0 where
  pub fits : kept + c < 2 ^ 64
  pub room : d * hid f + (kept + c) < 2 ^ 64
  pub pattern : d * hid f + (kept + c) ≡ size_pattern f m n

pub counted : (f : Format) (m : Mode) (n bits p l d kept c : ℕ) (left : Remainder) → size n ≤ 2112 → bits ≡ size n → p ≡ prec f → l ≡ lowest f → d ≡ bits - (l + p)
    → kept ≡ n / 2 ^ (l + d) % 2 ^ 64 → left ≡ remainder_of (n % 2 ^ (l + d)) (2 ^ (l + d)) → c ≡ carry m kept left → c ≤ 1 → Counted f m n d kept c
unfolding size_pattern
counted f m n bits p l d kept c left few eb ep el ed ek er ec C =
    let k = dropped f n in
    let dk : d ≡ k = ed ∙ ap (λ (a : ℕ). a - (l + p)) eb ∙ ap (λ (a : ℕ). size n - (a + p)) el ∙ ap (λ (a : ℕ). size n - (lowest f + a)) ep ∙ sym (dropped_is f n) in
    let cut : l + d ≡ lowest f + k = ap (λ (a : ℕ). a + d) el ∙ ap (λ (a : ℕ). lowest f + a) dk in
    let u = 2 ^ (lowest f + k) in
    let q = n / u in
    let small : q < 2 ^ 53 = kept_small f n in
    let kq : kept ≡ q = ek ∙ ap (λ (a : ℕ). n / 2 ^ a % 2 ^ 64) cut ∙ mod-eq_of_lt (omega arith) in
    let lr : left ≡ remainder_of (n % u) u = er ∙ ap (λ (a : ℕ). remainder_of (n % 2 ^ a) (2 ^ a)) cut in
    let cc1 : c ≡ carry m q (remainder_of (n % u) u) = ec ∙ ap (λ (a : ℕ). carry m a left) kq ∙ ap (λ (a : Remainder). carry m q a) lr in
    let F : k * hid f ≤ 2112 * 2 ^ 52 = field_small f n few in
    let dh : d * hid f ≡ k * hid f = ap (λ (a : ℕ). a * hid f) dk in
    record {
      fits = omega arith;
      room = omega arith;
      pattern = ap (λ (a : ℕ). a + (kept + c)) dh ∙ ap (λ (a : ℕ). k * hid f + (a + c)) kq ∙ ap (λ (a : ℕ). k * hid f + (q + a)) cc1;
    }
