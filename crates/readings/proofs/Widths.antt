-- A binary64 pattern taken apart, and the limits of sums and short readings within the formats. Assumes nothing.
use Rattle.std.proofs.Common.{◌≡◌, ℕ, zero, suc, ◌+◌, ◌*◌, ◌/◌, ◌%◌, ◌^◌, ◌<◌, ◌≤◌, Bool, true, false, cond, ltb, leb, ◌⊎◌, ℤ, pos, nat_abs, sym, refl, ap, ◌∙◌, subst, inl, inr, le_trans, le_of_eq, lt_of_le_of_lt, le_of_lt, lt_irrefl, eq-or-lt_of_le, mul-one, arith, lit<, lit≤, le→leb, lt→ltb}
use lib.Arith.{le→nltb, lt→nleb}
use lib.Ieee.{Format, binary32, binary64, top}
use lib.Ieee.Bits.{is_true, is_false}
use Rattle.numbers.specs.Units.{signed, rank}
use Rattle.numbers.proofs.Window.{size-signed}
use Rattle.readings.specs.declared.forms.Direction.{Direction}
use Rattle.readings.specs.Formats.{Encodes, largest}
use Rattle.readings.specs.Readings.{short_limit}
use Rattle.readings.specs.Rounded.{mode_of, size_pattern, rounded}
use Rattle.readings.specs.Rounding.{negative}
use Rattle.readings.specs.declared.rounding.Mode.{Mode}
use Rattle.readings.proofs.Bounds.{sum_limit}
use Rattle.readings.proofs.Cases.{lt_or_ge}
use Rattle.readings.proofs.Grid.{magnitude, magnitude_of}
use Rattle.readings.proofs.Patterns.{grid_size, split, places_lt, mod_of, place-encodes, found}
use Rattle.readings.proofs.Sizes.{grid_le, grid_lt, grid_zero}
use Rattle.readings.proofs.Directions.{place_finite}
use Rattle.readings.proofs.Rules.{one_value, one-pattern}

-- ---- limits

pub sum-long : sum_limit ≤ largest binary64
unfolding sum_limit largest rank
sum-long = lit≤ tt

pub short-long : largest binary32 ≤ largest binary64
unfolding largest
short-long = lit≤ tt

pub short_limit_lem : short_limit ≡ largest binary32
unfolding short_limit largest rank
short_limit_lem = refl

pub short-room : largest binary32 < 2 ^ 2112
unfolding largest
short-room = lit< tt

-- the binary64 pattern of the largest binary32 number
pub short-place : grid_size binary64 0x47ef_ffff_e000_0000 ≡ largest binary32
unfolding grid_size magnitude magnitude_of largest
short-place = refl

-- ---- a pattern by its sign and the rest

pub by_sign : (b : ℕ) → b < 2 ^ 64 → b ≡ cond (leb (2 ^ 63) b) (2 ^ 63) 0 + b % 2 ^ 63
by_sign b h =
    let c = split binary64 b h in
    let e : b % 2 ^ 63 ≡ c.place = ap (λ (a : ℕ). a % 2 ^ 63) c.is ∙ mod_of binary64 c.sign c.place c.below in
    c.is ∙ ap (λ (s : Bool). cond s (2 ^ 63) 0 + c.place) (sym c.test) ∙ ap (λ (a : ℕ). cond (leb (2 ^ 63) b) (2 ^ 63) 0 + a) (sym e)

pub rest-encodes : (b : ℕ) → b < 2 ^ 64 → b % 2 ^ 63 ≤ 0x47ef_ffff_e000_0000 → Encodes binary64 b (signed (leb (2 ^ 63) b) (grid_size binary64 (b % 2 ^ 63)))
rest-encodes b h k =
    subst (λ (a : ℕ). Encodes binary64 a (signed (leb (2 ^ 63) b) (grid_size binary64 (b % 2 ^ 63)))) (sym (by_sign b h))
    (place-encodes binary64 (leb (2 ^ 63) b) (b % 2 ^ 63) (lt_of_le_of_lt k (lit< tt)))

-- the size of a pattern without a sign
pub size_low : (p : ℕ) → p / 2 ^ 52 ≡ 0 → grid_size binary64 p ≡ p % 2 ^ 52 * 2 ^ 0
unfolding grid_size magnitude magnitude_of
size_low p e = ap (λ (a : ℕ). magnitude_of (2 ^ 52) a (p % 2 ^ 52) * 1) e

pub size_field : (p x : ℕ) → p / 2 ^ 52 ≡ suc x → grid_size binary64 p ≡ (2 ^ 52 + p % 2 ^ 52) * 2 ^ x
unfolding grid_size magnitude magnitude_of
size_field p x e = ap (λ (a : ℕ). magnitude_of (2 ^ 52) a (p % 2 ^ 52) * 1) e ∙ mul-one ((2 ^ 52 + p % 2 ^ 52) * 2 ^ x)

pub within-short : (p : ℕ) → p ≤ 0x47ef_ffff_e000_0000 → grid_size binary64 p ≤ largest binary32
within-short p h = le_trans (grid_le binary64 p 0x47ef_ffff_e000_0000 h) (le_of_eq short-place)

-- ---- the sign of a sum

pub sign-value : (b : Bool) (n : ℕ) → (n ≡ 0 → b ≡ false) → negative (signed b n) ≡ b
sign-value false n h = refl
sign-value true zero h = sym (h refl)
sign-value true (suc n) h = refl

pub rounded_by : (f : Format) (d : Direction) (b : Bool) (n : ℕ) → (n ≡ 0 → b ≡ false) → rounded f d (signed b n) ≡ cond b (top f) 0 + size_pattern f (mode_of d b) n
unfolding rounded
rounded_by f d b n h =
    ap (λ (s : Bool). cond s (top f) 0 + size_pattern f (mode_of d s) (nat_abs (signed b n))) (sign-value b n h)
    ∙ ap (λ (a : ℕ). cond b (top f) 0 + size_pattern f (mode_of d b) a) (size-signed b n)

top_le : (f : Format) → top f ≤ 2 ^ 63
top_le binary32 = lit≤ tt
top_le binary64 = lit≤ tt

pub signed_fits : (f : Format) (m : Mode) (n : ℕ) → n ≤ largest f → top f + size_pattern f m n < 2 ^ 64
signed_fits f m n h = let l = places_lt f (size_pattern f m n) (place_finite f m n h) in let t = top_le f in omega arith

-- a minus belongs to what is above the sign bit in the pattern: the bit alone is zero's
minus_zero : (b : ℕ) → leb (2 ^ 63) b ≡ true → Encodes binary64 b (pos 0) → b ≡ 2 ^ 63
minus_zero b s e =
    one-pattern binary64 b (2 ^ 63) (pos 0) (signed true (grid_size binary64 0)) (ap (λ (a : ℕ). signed true a) (sym (grid_zero binary64))) s e (place-encodes binary64 true 0 (lit< tt))

abbrev Strict : ℕ → ℕ → Type 0
Strict b m = (signed (leb (2 ^ 63) b) m ≡ signed (ltb (2 ^ 63) b) m) × (m ≡ 0 → ltb (2 ^ 63) b ≡ false)

pub strict : (b m : ℕ) → Encodes binary64 b (signed (leb (2 ^ 63) b) m) → Strict b m
strict b m e = go (lt_or_ge b (2 ^ 63)) (eq-or-lt_of_le)
  where
    below : b < 2 ^ 63 → Strict b m
    below l =
        let p : leb (2 ^ 63) b ≡ false = is_false (leb (2 ^ 63) b) (lt→nleb (2 ^ 63) b l) in
        let q : ltb (2 ^ 63) b ≡ false = is_false (ltb (2 ^ 63) b) (le→nltb (2 ^ 63) b (le_of_lt l)) in
        (ap (λ (s : Bool). signed s m) (p ∙ sym q), λ z. q)

    at : 2 ^ 63 ≡ b → Strict b m
    at i =
        let p : leb (2 ^ 63) b ≡ true = ap (leb (2 ^ 63)) (sym i) in
        let q : ltb (2 ^ 63) b ≡ false = ap (ltb (2 ^ 63)) (sym i) in
        let v : signed true m ≡ signed true (grid_size binary64 0) =
        one_value binary64 b (signed true m) (signed true (grid_size binary64 0)) (subst (λ (s : Bool). Encodes binary64 b (signed s m)) p e) (subst (λ (a : ℕ). Encodes binary64 a (signed true (grid_size binary64 0))) i (place-encodes binary64 true 0 (lit< tt))) in
        let z : m ≡ 0 = sym (size-signed true m) ∙ ap nat_abs v ∙ size-signed true (grid_size binary64 0) ∙ grid_zero binary64 in
        (ap (λ (s : Bool). signed s m) p ∙ ap (λ (a : ℕ). signed true a) z ∙ sym (ap (λ (s : Bool). signed s m) q ∙ ap (λ (a : ℕ). signed false a) z), λ k. q)

    above : 2 ^ 63 < b → Strict b m
    above l =
        let p : leb (2 ^ 63) b ≡ true = is_true (leb (2 ^ 63) b) (le→leb (2 ^ 63) b (le_of_lt l)) in
        let q : ltb (2 ^ 63) b ≡ true = is_true (ltb (2 ^ 63) b) (lt→ltb (2 ^ 63) b l) in (
          ap (λ (s : Bool). signed s m) (p ∙ sym q),
          λ z. absurd (lt_irrefl (2 ^ 63) (subst (λ (a : ℕ). 2 ^ 63 < a) (minus_zero b p (subst (λ (a : ℕ). Encodes binary64 b (signed true a)) z (subst (λ (s : Bool). Encodes binary64 b (signed s m)) p e))) l)),
        )

    go : (b < 2 ^ 63) ⊎ (2 ^ 63 ≤ b) → (2 ^ 63 ≤ b → (2 ^ 63 ≡ b) ⊎ (2 ^ 63 < b)) → Strict b m
    go (inl l) o = below l
    go (inr g) o = elim (o g) [ inl i ↦ at i | inr l ↦ above l ]

-- ---- a long reading that is too large for a short one

pub too_large : (b : ℕ) (v : ℤ) → Encodes binary64 b v → 0x47ef_ffff_e000_0000 < b % 2 ^ 63 → short_limit < nat_abs v
too_large b v e h =
    let g = found binary64 b v e in
    let r : b % 2 ^ 63 ≡ g.place = ap (λ (a : ℕ). a % 2 ^ 63) g.is ∙ mod_of binary64 g.sign g.place (places_lt binary64 g.place g.finite) in
    let l : largest binary32 < grid_size binary64 g.place =
    subst (λ (a : ℕ). a < grid_size binary64 g.place) short-place (grid_lt binary64 0x47ef_ffff_e000_0000 g.place (subst (λ (a : ℕ). 0x47ef_ffff_e000_0000 < a) r h)) in
    subst (λ (a : ℕ). a < nat_abs v) (sym short_limit_lem) (subst (λ (a : ℕ). largest binary32 < a) (sym (ap nat_abs g.value ∙ size-signed g.sign (grid_size binary64 g.place))) l)
