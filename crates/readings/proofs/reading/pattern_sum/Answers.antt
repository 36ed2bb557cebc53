-- The shifted significand is the size; the sign bit alone is zero's.
use Rattle.std.proofs.Common.{◌≡◌, ℕ, ◌+◌, ◌*◌, ◌^◌, ◌<◌, ◌≤◌, false, ltb, leb, ℤ, sym, ap, ◌∙◌, subst, le_trans, le_of_eq, lt_of_le_of_lt, zero-add, arith}
use lib.Ieee.{binary32, binary64}
use Rattle.numbers.specs.Units.{signed}
use Rattle.readings.specs.Formats.{Encodes, largest}
use Rattle.readings.specs.Limbs.{natural}
use Rattle.readings.proofs.Widths.{strict, short-long, short-room}
use Rattle.readings.proofs.reading.pattern_sum.Goals as goal

-- zero and a size within binary32 have room
room : (z m : ℕ) → z ≡ 0 → m ≤ largest binary32 → z + m < 2 ^ 2112
room z m e h = lt_of_le_of_lt (le_trans (le_of_eq (ap (λ (a : ℕ). a + m) e ∙ zero-add m)) h) short-room

pub add_shifted-requires : goal.add_shifted-requires
add_shifted-requires c =
    let r = c.significand_of-significand.result in
    record {
      reach = omega (arith, c.significand_of-significand.ensures.limits.0);
      room = room (natural c.zero-size.result.limbs) (r.0 * 2 ^ r.1) c.zero-size.ensures.value c.significand_of-significand.ensures.limits.1;
    }

-- what the limbs hold, of a pattern b and its size m
held : (b m n z : ℕ) → Encodes binary64 b (signed (leb (2 ^ 63) b) m) → m ≤ largest binary32 → z ≡ 0 → n ≡ z + m
    → (n ≤ largest binary32) × (n ≤ largest binary64) × (n ≡ 0 → ltb (2 ^ 63) b ≡ false) × Encodes binary64 b (signed (ltb (2 ^ 63) b) n)
held b m n z e l o h =
    let same : n ≡ m = h ∙ ap (λ (a : ℕ). a + m) o ∙ zero-add m in
    let s = strict b m e in
    let L : n ≤ largest binary32 = le_trans (le_of_eq same) l in
    (L, le_trans L short-long, λ k. s.1 (sym same ∙ k), subst (λ (v : ℤ). Encodes binary64 b v) (s.0 ∙ ap (λ (a : ℕ). signed (ltb (2 ^ 63) b) a) (sym same)) e)

pub invariant_of-result : goal.invariant_of-result
invariant_of-result c =
    let r = c.significand_of-significand.result in
    let h = held c.args.pattern (r.0 * 2 ^ r.1) (natural c.add_shifted.new.self.limbs) (natural c.zero-size.result.limbs) c.significand_of-significand.ensures.value c.significand_of-significand.ensures.limits.1 c.zero-size.ensures.value c.add_shifted.ensures.value in
    record { bounded = h.1; plus = h.2 }

pub returns : goal.returns
returns c =
    let r = c.significand_of-significand.result in
    let h = held c.args.pattern (r.0 * 2 ^ r.1) (natural c.add_shifted.new.self.limbs) (natural c.zero-size.result.limbs) c.significand_of-significand.ensures.value c.significand_of-significand.ensures.limits.1 c.zero-size.ensures.value c.add_shifted.ensures.value in
    record { value = h.3; limits = h.0 }
