-- Where a size lies in the grid of a format, and which of its two neighbours each way of rounding a size takes. Assumes nothing.
use Rattle.std.proofs.Common.{◌≡◌, ℕ, zero, suc, ◌+◌, ◌-◌, ◌*◌, ◌/◌, ◌%◌, ◌^◌, ◌<◌, ◌≤◌, ◌⊎◌, sym, refl, ap, ◌∙◌, subst, inl, inr, le_trans, le_of_eq, lt_of_lt_of_le, le_of_lt, lt_irrefl, add-suc, mul-le-mul_right, mod-lt, zero-lt-suc, mul_assoc, suc-mul, mul_comm, eq-zero-or-pos, mul-lt-mul_of_pos_right, div-add-mod', le-div_iff_mul-le, zero-mul, arith, pow_pos, pow-add, shr-shr}
use Prim.Native.Nat.{compare, Ordering}
use native.Mathlib.Nat.{pow-succ'}
use native.Mathlib.Omega.{compare-lt, compare-eq, compare-gt}
use lib.Ieee.{Format, prec, hid, size}
use lib.Ieee.Digits.{size_reaches}
use lib.Ieee.Fits.{kept-lt, two}
use Rattle.readings.specs.Formats.{lowest}
use Rattle.readings.specs.Rounded.{dropped, tie_carry, by_half, remainder_of, carry, size_pattern}
use Rattle.readings.specs.declared.rounding.Mode.{Mode}
use Rattle.readings.specs.declared.rounding.Mode.TheVariants.{Cut, Raise, Near}
use Rattle.readings.specs.declared.rounding.Remainder.{Remainder}
use Rattle.readings.specs.declared.rounding.Remainder.TheVariants.{Nothing, BelowHalf, Half, AboveHalf}
use Rattle.readings.proofs.Cases.{lt_or_ge}
use Rattle.readings.proofs.Grid.{magnitude_at, magnitude_lt, magnitude_le, magnitude_low}
use Rattle.readings.proofs.Patterns.{grid_size, hid_pos}

-- ---- the grid in units

pub grid_lt : (f : Format) (p c : ℕ) → p < c → grid_size f p < grid_size f c
unfolding grid_size
grid_lt f p c h = mul-lt-mul_of_pos_right (magnitude_lt (hid f) p c (hid_pos f) h) (pow_pos (lowest f))

pub grid_le : (f : Format) (p c : ℕ) → p ≤ c → grid_size f p ≤ grid_size f c
unfolding grid_size
grid_le f p c h = mul-le-mul_right (2 ^ lowest f) (magnitude_le (hid f) p c (hid_pos f) h)

pub grid_zero : (f : Format) → grid_size f 0 ≡ 0
unfolding grid_size
grid_zero f = ap (λ (a : ℕ). a * 2 ^ lowest f) (magnitude_low (hid f) 0 (hid_pos f)) ∙ zero-mul (2 ^ lowest f)

pub grid_back : (f : Format) (p c : ℕ) → grid_size f p < grid_size f c → p < c
grid_back f p c h = elim (lt_or_ge p c) [ inl l ↦ l | inr g ↦ absurd (lt_irrefl (grid_size f p) (lt_of_lt_of_le h (grid_le f c p g))) ]

-- ---- the kept digits

-- p is the place at or below a size of n units: n lies r units above it, and the next place u units
pub record Bracket (f : Format) (n p r u : ℕ) : Type 0 where
  pub lower : grid_size f p + r ≡ n
  pub upper : grid_size f (suc p) ≡ grid_size f p + u
  pub left : r < u

twice_hid : (p : ℕ) → 2 ≤ p → 2 ^ p ≡ 2 * 2 ^ (p - 1)
twice_hid p h = let e : suc (p - 1) ≡ p = omega arith in ap (λ (a : ℕ). 2 ^ a) (sym e) ∙ pow-succ' 2 (p - 1)

-- with z digits, of which p are kept and some are dropped, the leading digit is kept
kept_ge : (w p : ℕ) → 2 ≤ p → 0 < size w - p → 2 ^ (p - 1) ≤ w / 2 ^ (size w - p)
kept_ge w p P K =
    (le-div_iff_mul-le (pow_pos (size w - p))).1
    (le_trans (le_of_eq (sym (pow-add 2 (p - 1) (size w - p)))) (size_reaches w (p - 1 + (size w - p)) (inside (size w) p P K)))
  where
    inside : (z p : ℕ) → 2 ≤ p → 0 < z - p → p - 1 + (z - p) < z
    inside z p P K = omega arith

pub unit : Format → ℕ → ℕ
unit f n = 2 ^ (lowest f + dropped f n)

in_units : (f : Format) (k q : ℕ) → (k ≡ 0) ⊎ (hid f ≤ q) → q ≤ 2 * hid f → grid_size f (k * hid f + q) ≡ q * 2 ^ (lowest f + k)
unfolding grid_size
in_units f k q full few =
    ap (λ (a : ℕ). a * 2 ^ lowest f) (magnitude_at (hid f) k q (hid_pos f) full few)
    ∙ mul_assoc q (2 ^ k) (2 ^ lowest f)
    ∙ ap (λ (a : ℕ). q * a) (mul_comm (2 ^ k) (2 ^ lowest f) ∙ sym (pow-add 2 (lowest f) k))

pub bracket : (f : Format) (n : ℕ) → let u = 2 ^ (lowest f + dropped f n) in Bracket f n (dropped f n * hid f + n / u) (n % u) u
unfolding dropped
bracket f n =
    let w = n / 2 ^ lowest f in
    let k = size w - prec f in
    let u = 2 ^ (lowest f + k) in
    let q = n / u in
    let same : w / 2 ^ k ≡ q = shr-shr n (lowest f) k in
    let few : q < 2 * hid f = subst (λ (a : ℕ). q < a) (twice_hid (prec f) (two f)) (subst (λ (a : ℕ). a < 2 ^ prec f) same (kept-lt (prec f) w)) in
    let full : (k ≡ 0) ⊎ (hid f ≤ q) = elim (eq-zero-or-pos k) [ inl z ↦ inl z | inr g ↦ inr (subst (λ (a : ℕ). hid f ≤ a) same (kept_ge w (prec f) (two f) g)) ] in
    let full' : (k ≡ 0) ⊎ (hid f ≤ suc q) = elim full [ inl z ↦ inl z | inr g ↦ inr (omega arith) ] in
    let at : grid_size f (k * hid f + q) ≡ q * u = in_units f k q full (le_of_lt few) in
    record {
      lower = ap (λ (a : ℕ). a + n % u) at ∙ div-add-mod' n u;
      upper = ap (λ (a : ℕ). grid_size f a) (sym (add-suc (k * hid f) q)) ∙ in_units f k (suc q) full' few ∙ suc-mul q u ∙ ap (λ (a : ℕ). a + u) (sym at);
      left = mod-lt n (pow_pos (lowest f + k));
    }

-- ---- the neighbours

-- every place is at or below p, or at or above the next
pub sides : (f : Format) (p c : ℕ) → (grid_size f c ≤ grid_size f p) ⊎ (grid_size f (suc p) ≤ grid_size f c)
sides f p c = elim (lt_or_ge p c) [ inl l ↦ inr (grid_le f (suc p) c l) | inr g ↦ inl (grid_le f c p g) ]

abbrev pub gap : ℕ → ℕ → ℕ
gap a b = (a - b) + (b - a)

-- a is the size on the grid that n is cut to, raised to, or nearest to
abbrev pub CutTo : Format → ℕ → ℕ → Type 0
CutTo f n a = (a ≤ n) × ((c : ℕ) → grid_size f c ≤ n → grid_size f c ≤ a)

abbrev pub RaisedTo : Format → ℕ → ℕ → Type 0
RaisedTo f n a = (n ≤ a) × ((c : ℕ) → n ≤ grid_size f c → a ≤ grid_size f c)

abbrev pub NearTo : Format → ℕ → ℕ → Type 0
NearTo f n a = (c : ℕ) → gap n a ≤ gap n (grid_size f c)

-- the tie rule among sizes
abbrev pub TieTo : Format → ℕ → ℕ → Type 0
TieTo f n a = (c : ℕ) → gap n a ≡ gap n (grid_size f c) → grid_size f c ≤ a

pub cut_to : (f : Format) (n p r u : ℕ) → Bracket f n p r u → CutTo f n (grid_size f p)
cut_to f n p r u b = (omega arith, λ c h. elim (sides f p c) [ inl g ↦ g | inr g ↦ absurd (omega arith) ])

pub raised_to : (f : Format) (n p r u : ℕ) → 0 < r → Bracket f n p r u → RaisedTo f n (grid_size f (suc p))
raised_to f n p r u h b = (omega arith, λ c g. elim (sides f p c) [ inl l ↦ absurd (omega arith) | inr l ↦ l ])

pub raised_exact : (f : Format) (n p u : ℕ) → Bracket f n p 0 u → RaisedTo f n (grid_size f p)
raised_exact f n p u b = (omega arith, λ c g. omega arith)

-- below the middle the lower neighbour is the nearer one, above it the other, and at the middle both are as near
pub near_lower : (f : Format) (n p r u : ℕ) → 2 * r ≤ u → Bracket f n p r u → NearTo f n (grid_size f p)
near_lower f n p r u h b c = elim (sides f p c) [ inl g ↦ omega arith | inr g ↦ omega arith ]

pub near_upper : (f : Format) (n p r u : ℕ) → u ≤ 2 * r → Bracket f n p r u → NearTo f n (grid_size f (suc p))
near_upper f n p r u h b c = elim (sides f p c) [ inl g ↦ omega arith | inr g ↦ omega arith ]

-- what the tie rule says of each
tie_lower : (f : Format) (n p r u : ℕ) → 2 * r < u → Bracket f n p r u → TieTo f n (grid_size f p)
tie_lower f n p r u h b c e = elim (sides f p c) [ inl g ↦ g | inr g ↦ absurd (omega arith) ]

tie_upper : (f : Format) (n p r u : ℕ) → u ≤ 2 * r → Bracket f n p r u → TieTo f n (grid_size f (suc p))
tie_upper f n p r u h b c e = elim (sides f p c) [ inl g ↦ omega arith | inr g ↦ omega arith ]

-- ---- the place that a mode takes

abbrev pub Taken : Format → Mode → ℕ → ℕ → Type 0
Taken f Cut n a = CutTo f n a
Taken f Raise n a = RaisedTo f n a
Taken f Near n a = NearTo f n a × TieTo f n a

-- a place is taken, and it is within the finite ones where the size is not above the largest number
pub record Chosen (f : Format) (m : Mode) (n p : ℕ) : Type 0 where
  pub taken : Taken f m n (grid_size f p)
  pub finite : (l : ℕ) → n ≤ grid_size f l → p ≤ l

lower_finite : (f : Format) (n p r u : ℕ) → Bracket f n p r u → (l : ℕ) → n ≤ grid_size f l → p ≤ l
lower_finite f n p r u b l h = elim (lt_or_ge l p) [ inl g ↦ let k = grid_lt f l p g in absurd (omega arith) | inr g ↦ g ]

upper_finite : (f : Format) (n p r u : ℕ) → 0 < r → Bracket f n p r u → (l : ℕ) → n ≤ grid_size f l → suc p ≤ l
upper_finite f n p r u R b l h = grid_back f p l (omega arith)

pub tie-one : (q : ℕ) → tie_carry q ≡ 1
unfolding tie_carry
tie-one q = refl

at_zero : (k q c : ℕ) → c ≡ 0 → k + (q + c) ≡ k + q
at_zero k q c e = omega arith

at_one : (k q c : ℕ) → c ≡ 1 → k + (q + c) ≡ suc (k + q)
at_one k q c e = omega arith

-- what a remainder says of r and u
abbrev pub Says : Remainder → ℕ → ℕ → Type 0
Says Nothing r u = r ≡ 0
Says BelowHalf r u = (0 < r) × (2 * r < u)
Says Half r u = (0 < r) × (2 * r ≡ u)
Says AboveHalf r u = (0 < r) × (u < 2 * r)

pub says : (r u : ℕ) → Says (remainder_of r u) r u
says zero u = refl
says (suc r) u = go (compare (2 * suc r) u) refl
  where
    go : (o : Ordering) → compare (2 * suc r) u ≡ o → Says (by_half o) (suc r) u
    go Ordering.lt e = (zero-lt-suc r, compare-lt (2 * suc r) u e)
    go Ordering.eq e = (zero-lt-suc r, compare-eq (2 * suc r) u e)
    go Ordering.gt e = (zero-lt-suc r, compare-gt (2 * suc r) u e)

-- the place at or below n, or the next one
stay : (f : Format) (m : Mode) (n k q r u : ℕ) → Bracket f n (k + q) r u → Taken f m n (grid_size f (k + q)) → Chosen f m n (k + (q + 0))
stay f m n k q r u b t = rw (at_zero k q 0 refl) record { taken = t; finite = lower_finite f n (k + q) r u b }

step : (f : Format) (m : Mode) (n k q r u c : ℕ) → c ≡ 1 → 0 < r → Bracket f n (k + q) r u → Taken f m n (grid_size f (suc (k + q))) → Chosen f m n (k + (q + c))
step f m n k q r u c e R b t = rw (at_one k q c e) record { taken = t; finite = upper_finite f n (k + q) r u R b }

above : (f : Format) (n p r u : ℕ) → u ≤ 2 * r → Bracket f n p r u → Taken f Near n (grid_size f (suc p))
above f n p r u h b = (near_upper f n p r u h b, tie_upper f n p r u h b)

below : (f : Format) (n p r u : ℕ) → 2 * r < u → Bracket f n p r u → Taken f Near n (grid_size f p)
below f n p r u h b = (near_lower f n p r u (le_of_lt h) b, tie_lower f n p r u h b)

pub chosen_by : (f : Format) (m : Mode) (n k q r u : ℕ) (w : Remainder) → Says w r u → Bracket f n (k + q) r u → Chosen f m n (k + (q + carry m q w))
chosen_by f Cut n k q r u w h b = stay f Cut n k q r u b (cut_to f n (k + q) r u b)
chosen_by f Raise n k q r u Nothing h b = stay f Raise n k q r u b (raised_exact f n (k + q) u (subst (λ (a : ℕ). Bracket f n (k + q) a u) h b))
chosen_by f Raise n k q r u BelowHalf h b = step f Raise n k q r u 1 refl h.0 b (raised_to f n (k + q) r u h.0 b)
chosen_by f Raise n k q r u Half h b = step f Raise n k q r u 1 refl h.0 b (raised_to f n (k + q) r u h.0 b)
chosen_by f Raise n k q r u AboveHalf h b = step f Raise n k q r u 1 refl h.0 b (raised_to f n (k + q) r u h.0 b)
chosen_by f Near n k q r u Nothing h b = stay f Near n k q r u b (below f n (k + q) r u (let l = b.left in omega arith) b)
chosen_by f Near n k q r u BelowHalf h b = stay f Near n k q r u b (below f n (k + q) r u h.1 b)
chosen_by f Near n k q r u Half h b = step f Near n k q r u (tie_carry q) (tie-one q) h.0 b (above f n (k + q) r u (le_of_eq (sym h.1)) b)
chosen_by f Near n k q r u AboveHalf h b = step f Near n k q r u 1 refl h.0 b (above f n (k + q) r u (le_of_lt h.1) b)

pub chosen : (f : Format) (m : Mode) (n : ℕ) → Chosen f m n (size_pattern f m n)
unfolding size_pattern
chosen f m n = let u = 2 ^ (lowest f + dropped f n) in chosen_by f m n (dropped f n * hid f) (n / u) (n % u) u (remainder_of (n % u) u) (says (n % u) u) (bracket f n)
