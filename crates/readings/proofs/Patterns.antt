-- The value of a pattern by its sign and its place in the grid, from the toolchain's own definition of the format. Assumes nothing.
use Rattle.std.proofs.Common.{◌≡◌, ℕ, zero, suc, ◌+◌, ◌-◌, ◌*◌, ◌/◌, ◌%◌, ◌^◌, ◌<◌, ◌≤◌, Bool, true, false, cond, not, T, eqb, leb, ◌⊎◌, ℤ, pos, negsuc, Some, None, Option, sym, refl, ap, ◌∙◌, subst, inl, inr, le_trans, le_of_eq, lt_of_lt_of_le, le_of_suc-le-suc, le-add_right, mul-le-mul_right, mod-eq_of_lt, mul_assoc, mul_comm, div-lt_iff_lt-mul, add-sub_of_le, le_antisymm, le-div_iff_mul-le, zero-add, zero-mul, mul-one, arith, lit≤, le→leb, eqb→eq, leb→le, pow_pos, pow-add}
use native.Mathlib.Nat.{add-mod_left, mod-mod_of_dvd, dvd-mul_right, eq_of_mul-eq-mul_right}
use lib.Dec.{nleb→lt}
use lib.Arith.{lt→nleb}
use lib.Count.{count_trailing_zeros}
use lib.Ieee.{nan, inf, Format, binary32, binary64, prec, low, emax, hid, ones, top, down, minus, odd, of_fields, of_bits}
use lib.Ieee.Digits.{odd_val, minus_val}
use lib.Ieee.Fits.{down_pos, eq→eqb}
use lib.Ieee.Bits.{is_true, is_false, cond_no}
use Rattle.numbers.specs.Units.{rank, signed, units, float_value}
use Rattle.readings.specs.Formats.{encoded_value, Encodes, lowest}
use Rattle.readings.proofs.Cases.{lt_or_ge}
use Rattle.readings.proofs.Grid.{magnitude, magnitude_of}

-- ---- what the toolchain's `odd` writes, in units

rank_minus : (a l : ℕ) → l ≤ 1074 → rank (minus a l) ≡ a + (1074 - l)
unfolding rank
rank_minus a l h = go (leb l a) (leb→le l a) (nleb→lt l a)
  where
    go : (b : Bool) → (T b → l ≤ a) → (T (not b) → a < l) → rank (cond b (pos (a - l)) (negsuc (l - suc a))) ≡ a + (1074 - l)
    go true y n = let g : l ≤ a = y tt in omega arith
    go false y n = let g : a < l = n tt in omega arith

odd_units : (d : ℕ) (s : Bool) (q k l : ℕ) → l ≤ 1074 → float_value (odd d s q k l) ≡ Some (signed s (q * 2 ^ k * 2 ^ (1074 - l)))
unfolding odd rank units float_value
odd_units d s zero k l h = ap (λ (a : ℕ). Some (signed s a)) (zero-mul (2 ^ 1074) ∙ sym (ap (λ (a : ℕ). a * 2 ^ (1074 - l)) (zero-mul (2 ^ k)) ∙ zero-mul (2 ^ (1074 - l))))
odd_units d s (suc q) k l h =
    let t = count_trailing_zeros d (suc q) in
    let m = suc q / 2 ^ t in
    let e = minus (k + t) l in
    let same : m * 2 ^ (k + t) ≡ suc q * 2 ^ k =
    eq_of_mul-eq-mul_right (down e) (down_pos e) (m * 2 ^ (k + t)) (suc q * 2 ^ k) (sym (minus_val m (k + t) l) ∙ odd_val d s (suc q) k l) in
    ap (λ (a : ℕ). Some (signed s a))
    (ap (λ (a : ℕ). m * 2 ^ a) (rank_minus (k + t) l h)
    ∙ ap (λ (a : ℕ). m * a) (pow-add 2 (k + t) (1074 - l))
    ∙ sym (mul_assoc m (2 ^ (k + t)) (2 ^ (1074 - l)))
    ∙ ap (λ (a : ℕ). a * 2 ^ (1074 - l)) same)

low_le : (f : Format) → low f ≤ 1074
low_le binary32 = lit≤ tt
low_le binary64 = lit≤ tt

pub hid_pos : (f : Format) → 0 < hid f
hid_pos f = pow_pos (prec f - 1)

-- the size of the pattern p, without a sign, in units
unfoldable pub grid_size : Format → ℕ → ℕ
grid_size f p = magnitude (hid f) p * 2 ^ lowest f

fields_units : (f : Format) (s : Bool) (x t : ℕ) → x < ones f → float_value (of_fields f s x t) ≡ Some (signed s (magnitude_of (hid f) x t * 2 ^ lowest f))
unfolding of_fields magnitude_of
fields_units f s zero t h = odd_units (prec f) s t 0 (low f) (low_le f) ∙ ap (λ (a : ℕ). Some (signed s (a * 2 ^ lowest f))) (mul-one t)
fields_units f s (suc x) t h =
    ap float_value (cond_no (eqb (suc x) (ones f)) (cond (eqb t 0) (inf s) nan) (odd (prec f) s (hid f + t) x (low f)) (differ (suc x) (ones f) h))
    ∙ odd_units (prec f) s (hid f + t) x (low f) (low_le f)
  where
    differ : (a b : ℕ) → a < b → T (not (eqb a b))
    differ a b l = go (eqb a b) (eqb→eq a b)
      where
        go : (c : Bool) → (T c → a ≡ b) → T (not c)
        go true y = let e : a ≡ b = y tt in absurd (omega arith)
        go false y = tt

-- an exponent's field of ones has no value
no_units : (f : Format) (s : Bool) (x t : ℕ) → x ≡ ones f → float_value (of_fields f s x t) ≡ None
unfolding of_fields float_value
no_units f s zero t e = absurd (nonzero (emax f) e)
  where
    nonzero : (a : ℕ) → 0 ≡ 2 * a + 1 → ⊥
    nonzero a e = omega arith
no_units f s (suc x) t e = go (eqb (suc x) (ones f)) (eq→eqb e) (eqb t 0)
  where
    go : (b : Bool) → T b → (c : Bool) → float_value (cond b (cond c (inf s) nan) (odd (prec f) s (hid f + t) x (low f))) ≡ None
    go true y true = refl
    go true y false = refl
    go false y c = absurd y

-- ---- a pattern is its sign and a place in the grid

pub record Split (f : Format) (b : ℕ) : Type 0 where
  pub sign : Bool
  pub place : ℕ
  pub is : b ≡ cond sign (top f) 0 + place
  pub test : leb (top f) b ≡ sign
  pub below : place < top f

pub split : (f : Format) (b : ℕ) → b < 2 * top f → Split f b
split f b h = go (leb (top f) b) refl (leb→le (top f) b) (nleb→lt (top f) b)
  where
    go : (s : Bool) → leb (top f) b ≡ s → (T s → top f ≤ b) → (T (not s) → b < top f) → Split f b
    go true e y n =
        let g : top f ≤ b = y tt in
        record { sign = true; place = b - top f; is = sym (add-sub_of_le g); test = e; below = less b (top f) g h }
      where
        less : (b t : ℕ) → t ≤ b → b < 2 * t → b - t < t
        less b t g h = omega arith
    go false e y n = record { sign = false; place = b; is = sym (zero-add b); test = e; below = n tt }

pub sign_of : (f : Format) (s : Bool) (p : ℕ) → p < top f → leb (top f) (cond s (top f) 0 + p) ≡ s
sign_of f true p h = is_true (leb (top f) (top f + p)) (le→leb (top f) (top f + p) (le-add_right (top f) p))
sign_of f false p h = is_false (leb (top f) (0 + p)) (lt→nleb (top f) (0 + p) (subst (λ (a : ℕ). a < top f) (sym (zero-add p)) h))

pub mod_of : (f : Format) (s : Bool) (p : ℕ) → p < top f → (cond s (top f) 0 + p) % top f ≡ p
mod_of f true p h = add-mod_left (top f) p ∙ mod-eq_of_lt h
mod_of f false p h = ap (λ (a : ℕ). a % top f) (zero-add p) ∙ mod-eq_of_lt h

digits_of : (f : Format) (s : Bool) (p : ℕ) → p < top f → (cond s (top f) 0 + p) % hid f ≡ p % hid f
digits_of f s p h =
    sym (mod-mod_of_dvd (hid f) (cond s (top f) 0 + p) (dvd-mul_right (hid f) (suc (ones f)))) ∙ ap (λ (a : ℕ). a % hid f) (mod_of f s p h)

read_is : (f : Format) (s : Bool) (p : ℕ) → p < top f → of_bits f (cond s (top f) 0 + p) ≡ of_fields f s (p / hid f) (p % hid f)
unfolding of_bits
read_is f s p h =
    ap (λ (a : Bool). of_fields f a ((cond s (top f) 0 + p) % top f / hid f) ((cond s (top f) 0 + p) % hid f)) (sign_of f s p h)
    ∙ ap (λ (a : ℕ). of_fields f s (a / hid f) ((cond s (top f) 0 + p) % hid f)) (mod_of f s p h)
    ∙ ap (λ (a : ℕ). of_fields f s (p / hid f) a) (digits_of f s p h)

-- ---- finite patterns

-- how many places of the grid are finite
abbrev pub places : Format → ℕ
places f = ones f * hid f

pub places_lt : (f : Format) (p : ℕ) → p < places f → p < top f
places_lt f p h = lt_of_lt_of_le h (le_trans (mul-le-mul_right (hid f) (le_self (ones f))) (le_of_eq (mul_comm (suc (ones f)) (hid f))))
  where
    le_self : (a : ℕ) → a ≤ suc a
    le_self a = omega arith

pub place-value : (f : Format) (s : Bool) (p : ℕ) → p < places f → encoded_value f (cond s (top f) 0 + p) ≡ Some (signed s (grid_size f p))
unfolding grid_size magnitude
place-value f s p h =
    ap float_value (read_is f s p (places_lt f p h))
    ∙ fields_units f s (p / hid f) (p % hid f) ((div-lt_iff_lt-mul (hid_pos f)).1 h)

double_top : (t p : ℕ) (s : Bool) → p < t → cond s t 0 + p < 2 * t
double_top t p true h = omega arith
double_top t p false h = omega arith

pub place-encodes : (f : Format) (s : Bool) (p : ℕ) → p < places f → Encodes f (cond s (top f) 0 + p) (signed s (grid_size f p))
place-encodes f s p h = record { width = double_top (top f) p s (places_lt f p h); value = place-value f s p h }

-- what encodes a number is such a pattern
pub record Found (f : Format) (b : ℕ) (v : ℤ) : Type 0 where
  pub sign : Bool
  pub place : ℕ
  pub is : b ≡ cond sign (top f) 0 + place
  pub test : leb (top f) b ≡ sign
  pub finite : place < places f
  pub value : v ≡ signed sign (grid_size f place)

pub some_same : (v w : ℤ) → ◌≡◌ {A = Option ℤ} (Some v) (Some w) → v ≡ w
some_same v w e = cc

none-some : (v : ℤ) → ◌≡◌ {A = Option ℤ} None (Some v) → ⊥
none-some v e = let z : ◌≡◌ {A = ℕ} 0 1 = cc in omega arith

pub found : (f : Format) (b : ℕ) (v : ℤ) → Encodes f b v → Found f b v
found f b v e =
    let c = split f b e.width in
    let at : encoded_value f (cond c.sign (top f) 0 + c.place) ≡ Some v = subst (λ (a : ℕ). encoded_value f a ≡ Some v) c.is e.value in
    go c at (lt_or_ge c.place (places f))
  where
    go : (c : Split f b) → encoded_value f (cond c.sign (top f) 0 + c.place) ≡ Some v → (c.place < places f) ⊎ (places f ≤ c.place) → Found f b v
    go c at (inl l) = record {
      sign = c.sign;
      place = c.place;
      is = c.is;
      test = c.test;
      finite = l;
      value = some_same v (signed c.sign (grid_size f c.place)) (sym at ∙ place-value f c.sign c.place l);
    }
    go c at (inr g) =
        let x = c.place / hid f in
        let lo : ones f ≤ x = (le-div_iff_mul-le (hid_pos f)).1 g in
        let hi : x < suc (ones f) = (div-lt_iff_lt-mul (hid_pos f)).1 (subst (λ (a : ℕ). c.place < a) (mul_comm (hid f) (suc (ones f))) c.below) in
        absurd (none-some v
        (sym (ap float_value (read_is f c.sign c.place c.below) ∙ no_units f c.sign x (c.place % hid f) (le_antisymm (le_of_suc-le-suc hi) lo)) ∙ at))
