-- The fields of the pattern say its size.
use Rattle.std.proofs.Common.{◌≡◌, ℕ, suc, ◌+◌, ◌-◌, ◌*◌, ◌/◌, ◌%◌, ◌^◌, ◌<◌, ◌≤◌, leb, ap, ◌∙◌, subst, arith, lit<}
use lib.Ieee.{binary32, binary64}
use Rattle.numbers.specs.Units.{signed}
use Rattle.readings.specs.Formats.{Encodes, largest}
use Rattle.readings.proofs.Patterns.{grid_size}
use Rattle.readings.proofs.Widths.{rest-encodes, size_low, size_field, within-short}
use Rattle.readings.proofs.reading.significand_of.Goals as goal

-- a size m of the pattern b, found to be that of its place in the grid
sized : (b m : ℕ) → b < 2 ^ 64 → b % 2 ^ 63 ≤ 0x47ef_ffff_e000_0000 → grid_size binary64 (b % 2 ^ 63) ≡ m
    → (Encodes binary64 b (signed (leb (2 ^ 63) b) m)) × (m ≤ largest binary32)
sized b m h k e = (
  subst (λ (a : ℕ). Encodes binary64 b (signed (leb (2 ^ 63) b) a)) e (rest-encodes b h k),
  subst (λ (a : ℕ). a ≤ largest binary32) e (within-short (b % 2 ^ 63) k),
)

low_digits : (b : ℕ) → b % 2 ^ 63 % 2 ^ 52 ≡ b % 2 ^ 52
low_digits b = omega arith

pub returns-then-field-eq0 : goal.returns-then-field-eq0
returns-then-field-eq0 c =
    let b = c.args.pattern in
    let z = sized b (b % 2 ^ 52 * 2 ^ 0) c.ranges.pattern.fits c.requires (size_low (b % 2 ^ 63) c.if-field-eq0.true ∙ ap (λ (a : ℕ). a * 2 ^ 0) (low_digits b)) in
    record { value = z.0; limits = (lit< tt, z.1) }

pub returns : goal.returns
returns c =
    let b = c.args.pattern in
    let x = b % 2 ^ 63 / 2 ^ 52 - 1 in
    let f : b % 2 ^ 63 / 2 ^ 52 ≡ suc x = omega arith in
    let z = sized b ((2 ^ 52 + b % 2 ^ 52) * 2 ^ x) c.ranges.pattern.fits c.requires (size_field (b % 2 ^ 63) x f ∙ ap (λ (a : ℕ). (2 ^ 52 + a) * 2 ^ x) (low_digits b)) in
    record { value = z.0; limits = (omega arith, z.1) }
