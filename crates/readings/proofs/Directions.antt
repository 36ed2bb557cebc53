-- The rounding that can be computed is the rounding that IEEE 754 describes, in every direction, for each total that is not above the format's largest number. Assumes nothing.
use Rattle.std.proofs.Common.{◌≡◌, ℕ, suc, ◌+◌, ◌-◌, ◌*◌, ◌^◌, ◌<◌, ◌≤◌, Bool, true, false, cond, leb, ◌⊎◌, ℤ, pos, negsuc, neg_ℤ, nat_abs, ◌≤ℤ◌, sym, refl, ap, ◌∙◌, subst, inl, inr, le_trans, le_of_eq, add-mul, mul-pos, arith, lit≤}
use borrow.Author.Differences.{ints}
use lib.Ieee.{Format, binary32, binary64, prec, hid, ones, top}
use Rattle.numbers.specs.Units.{signed}
use Rattle.numbers.proofs.Window.{size-signed}
use Rattle.readings.specs.declared.forms.Direction.{Direction}
use Rattle.readings.specs.declared.forms.Direction.TheVariants.{Nearest, TowardZero, Up, Down}
use Rattle.readings.specs.Formats.{Encodes, lowest, largest}
use Rattle.readings.specs.Rounding.{LeastAbove, GreatestBelow, distance, NoneNearer, Preferred, TieTaken, Directed, Rounds}
use Rattle.readings.specs.Rounded.{mode_of, size_pattern, rounded}
use Rattle.readings.specs.declared.rounding.Mode.{Mode}
use Rattle.readings.proofs.Grid.{magnitude, magnitude_at}
use Rattle.readings.proofs.Patterns.{grid_size, hid_pos, places, places_lt, place-encodes, found, sign_of}
use Rattle.readings.proofs.Sizes.{CutTo, RaisedTo, NearTo, TieTo, Taken, chosen, gap, grid_zero}

-- ---- the numbers of the format that are not below and not above a total, by sizes

-- w is a number of the format: a sign and a size of the grid
abbrev Sized : Format → ℤ → Type 0
Sized f w = (t : Bool) × ((c : ℕ) × (w ≡ signed t (grid_size f c)))

sized : (f : Format) (c : ℕ) (w : ℤ) → Encodes f c w → Sized f w
sized f c w e = let g = found f c w e in (g.sign, (g.place, g.value))

up_plus : (n a : ℕ) (w : ℤ) (t : Bool) (m : ℕ) → w ≡ signed t m → (n ≤ m → a ≤ m) → (n ≤ 0 → a ≤ 0) → pos n ≤ℤ w → pos a ≤ℤ w
up_plus n a w false m e h z g = let h1 : n ≤ m = omega (arith, ints) in let h2 : a ≤ m = h h1 in omega (arith, ints)
up_plus n a w true m e h z g = let h1 : n ≤ 0 = omega (arith, ints) in let h2 : a ≤ 0 = z h1 in omega (arith, ints)

up_minus : (n a : ℕ) (w : ℤ) (t : Bool) (m : ℕ) → w ≡ signed t m → (m ≤ n → m ≤ a) → neg_ℤ (pos n) ≤ℤ w → neg_ℤ (pos a) ≤ℤ w
up_minus n a w false m e h g = omega (arith, ints)
up_minus n a w true m e h g = let h1 : m ≤ n = omega (arith, ints) in let h2 : m ≤ a = h h1 in omega (arith, ints)

down_plus : (n a : ℕ) (w : ℤ) (t : Bool) (m : ℕ) → w ≡ signed t m → (m ≤ n → m ≤ a) → w ≤ℤ pos n → w ≤ℤ pos a
down_plus n a w false m e h g = let h1 : m ≤ n = omega (arith, ints) in let h2 : m ≤ a = h h1 in omega (arith, ints)
down_plus n a w true m e h g = omega (arith, ints)

down_minus : (n a : ℕ) (w : ℤ) (t : Bool) (m : ℕ) → w ≡ signed t m → (n ≤ m → a ≤ m) → (n ≤ 0 → a ≤ 0) → w ≤ℤ neg_ℤ (pos n) → w ≤ℤ neg_ℤ (pos a)
down_minus n a w true m e h z g = let h1 : n ≤ m = omega (arith, ints) in let h2 : a ≤ m = h h1 in omega (arith, ints)
down_minus n a w false m e h z g = let h1 : n ≤ 0 = omega (arith, ints) in let h2 : a ≤ 0 = z h1 in omega (arith, ints)

raised_zero : (f : Format) (n a : ℕ) → RaisedTo f n a → n ≤ 0 → a ≤ 0
raised_zero f n a r h = subst (λ (x : ℕ). n ≤ x → a ≤ x) (grid_zero f) (r.1 0) h

above_plus : (f : Format) (n a : ℕ) → RaisedTo f n a → LeastAbove f (pos n) (pos a)
above_plus f n a r = (
  (let h = r.0 in omega (arith, ints)),
  λ c w e g. let z = sized f c w e in up_plus n a w z.0 (grid_size f z.1.0) z.1.1 (r.1 z.1.0) (raised_zero f n a r) g,
)

above_minus : (f : Format) (n a : ℕ) → CutTo f n a → LeastAbove f (neg_ℤ (pos n)) (neg_ℤ (pos a))
above_minus f n a r = (
  (let h = r.0 in omega (arith, ints)),
  λ c w e g. let z = sized f c w e in up_minus n a w z.0 (grid_size f z.1.0) z.1.1 (r.1 z.1.0) g,
)

below_plus : (f : Format) (n a : ℕ) → CutTo f n a → GreatestBelow f (pos n) (pos a)
below_plus f n a r = (
  (let h = r.0 in omega (arith, ints)),
  λ c w e g. let z = sized f c w e in down_plus n a w z.0 (grid_size f z.1.0) z.1.1 (r.1 z.1.0) g,
)

below_minus : (f : Format) (n a : ℕ) → RaisedTo f n a → GreatestBelow f (neg_ℤ (pos n)) (neg_ℤ (pos a))
below_minus f n a r = (
  (let h = r.0 in omega (arith, ints)),
  λ c w e g. let z = sized f c w e in down_minus n a w z.0 (grid_size f z.1.0) z.1.1 (r.1 z.1.0) (raised_zero f n a r) g,
)

-- a size of zero is cut to what it is raised to
zero_raised : (f : Format) (n a : ℕ) → n ≤ 0 → CutTo f n a → RaisedTo f n a
zero_raised f n a h r = let g = r.0 in (omega arith, λ c k. omega arith)

-- ---- nearest

-- the distance of two numbers, by their signs and sizes
apart-same : (s : Bool) (n m : ℕ) → distance (signed s n) (signed s m) ≡ gap n m
apart-same false n m = omega (arith, ints)
apart-same true n m = omega (arith, ints)

apart_plus : (n m : ℕ) → distance (pos n) (neg_ℤ (pos m)) ≡ n + m
apart_plus n m = omega (arith, ints)

apart_minus : (n m : ℕ) → distance (neg_ℤ (pos n)) (pos m) ≡ n + m
apart_minus n m = omega (arith, ints)

near_zero : (f : Format) (n a : ℕ) → NearTo f n a → gap n a ≤ n
near_zero f n a r = le_trans (subst (λ (x : ℕ). gap n a ≤ gap n x) (grid_zero f) (r 0)) (omega arith)

-- either the other number has the total's sign, or it lies beyond zero
by_sign : (s t : Bool) (n m : ℕ) → (distance (signed s n) (signed t m) ≡ gap n m) ⊎ (distance (signed s n) (signed t m) ≡ n + m)
by_sign false false n m = inl (apart-same false n m)
by_sign false true n m = inr (apart_plus n m)
by_sign true false n m = inr (apart_minus n m)
by_sign true true n m = inl (apart-same true n m)

none_nearer : (f : Format) (s : Bool) (n a : ℕ) → NearTo f n a → NoneNearer f (signed s n) (signed s a)
none_nearer f s n a r c w e =
    let z = sized f c w e in
    let m = grid_size f z.1.0 in
    let near : gap n a ≤ gap n m = r z.1.0 in
    let zero : gap n a ≤ n = near_zero f n a r in
    let both : distance (signed s n) (signed s a) ≤ distance (signed s n) (signed z.0 m) =
    subst (λ (d : ℕ). d ≤ distance (signed s n) (signed z.0 m)) (sym (apart-same s n a))
    (elim (by_sign s z.0 n m) [ inl i ↦ le_trans near (le_of_eq (sym i)) | inr i ↦ le_trans zero (le_trans (omega arith) (le_of_eq (sym i))) ]) in
    subst (λ (v : ℤ). distance (signed s n) (signed s a) ≤ distance (signed s n) v) (sym z.1.1) both

pub preferred : (b : ℕ) (v : ℤ) (c : ℕ) (w : ℤ) → nat_abs w ≤ nat_abs v → Preferred b v c w
preferred b v c w h = record { away = h }

tie-taken : (f : Format) (s : Bool) (n a b : ℕ) → NearTo f n a → TieTo f n a → TieTaken f (signed s n) b (signed s a)
tie-taken f s n a b r t c w e d =
    let z = sized f c w e in
    let m = grid_size f z.1.0 in
    let same : gap n a ≡ distance (signed s n) (signed z.0 m) = sym (apart-same s n a) ∙ d ∙ ap (distance (signed s n)) z.1.1 in
    let zero : gap n a ≤ n = near_zero f n a r in
    let size : m ≤ a = elim (by_sign s z.0 n m) [ inl i ↦ t z.1.0 (same ∙ i) | inr i ↦ omega arith ] in
    preferred b (signed s a) c w (subst (λ (v : ℤ). nat_abs v ≤ nat_abs (signed s a)) (sym z.1.1) (le_trans (le_of_eq (size-signed z.0 m)) (le_trans size (le_of_eq (sym (size-signed s a))))))

-- ---- every direction

directed : (f : Format) (d : Direction) (s : Bool) (n a b : ℕ) → Taken f (mode_of d s) n a → Directed f d (signed s n) b (signed s a)
directed f Nearest s n a b t = (none_nearer f s n a t.0, tie-taken f s n a b t.0 t.1)
directed f TowardZero false n a b t = (λ h. below_plus f n a t, λ h. above_plus f n a (zero_raised f n a (omega (arith, ints)) t))
directed f TowardZero true n a b t = (λ h. below_minus f n a (zero_raised f n a (omega (arith, ints)) t), λ h. above_minus f n a t)
directed f Up false n a b t = above_plus f n a t
directed f Up true n a b t = above_minus f n a t
directed f Down false n a b t = below_plus f n a t
directed f Down true n a b t = below_minus f n a t

-- ---- the largest number

last-place : (o h : ℕ) → 2 ≤ o → 0 < h → (o - 2) * h + (2 * h - 1) ≡ o * h - 1
last-place o h O H =
    let e : o ≡ (o - 2) + 2 = omega arith in
    let g : o * h ≡ (o - 2) * h + 2 * h = ap (λ (a : ℕ). a * h) e ∙ add-mul (o - 2) 2 h in
    omega arith

twice : (f : Format) → 2 ^ prec f ≡ 2 * hid f
twice binary32 = refl
twice binary64 = refl

pub two_ones : (f : Format) → 2 ≤ ones f
two_ones binary32 = lit≤ tt
two_ones binary64 = lit≤ tt

pub largest_is : (f : Format) → grid_size f (places f - 1) ≡ largest f
unfolding grid_size largest
largest_is f =
    let h = hid f in
    let H = hid_pos f in
    ap (λ (a : ℕ). a * 2 ^ lowest f)
    (ap (λ (a : ℕ). magnitude h a) (sym (last-place (ones f) h (two_ones f) H))
    ∙ magnitude_at h (ones f - 2) (2 * h - 1) H (inr (omega arith)) (omega arith)
    ∙ ap (λ (a : ℕ). (a - 1) * 2 ^ (ones f - 2)) (sym (twice f)))

pub places_pos : (f : Format) → 0 < places f
places_pos f = mul-pos (le_trans (lit≤ tt) (two_ones f)) (hid_pos f)

pub place_finite : (f : Format) (m : Mode) (n : ℕ) → n ≤ largest f → size_pattern f m n < places f
place_finite f m n h =
    let g : size_pattern f m n ≤ places f - 1 = (chosen f m n).finite (places f - 1) (subst (λ (a : ℕ). n ≤ a) (sym (largest_is f)) h) in
    let p = places_pos f in
    omega arith

by_parts : (f : Format) (d : Direction) (s : Bool) (n : ℕ) → n ≤ largest f →
    (v : ℤ) × ((Encodes f (cond s (top f) 0 + size_pattern f (mode_of d s) n) v) × (leb (top f) (cond s (top f) 0 + size_pattern f (mode_of d s) n) ≡ s) × Directed f d (signed s n) (cond s (top f) 0 + size_pattern f (mode_of d s) n) v)
by_parts f d s n h =
    let p = size_pattern f (mode_of d s) n in
    let l = place_finite f (mode_of d s) n h in
    (signed s (grid_size f p), (place-encodes f s p l, sign_of f s p (places_lt f p l), directed f d s n (grid_size f p) (cond s (top f) 0 + p) (chosen f (mode_of d s) n).taken))

pub rounded-rounds : (f : Format) (d : Direction) (x : ℤ) → nat_abs x ≤ largest f → Rounds f d x (rounded f d x)
unfolding rounded
rounded-rounds f d (pos n) h = let c = by_parts f d false n h in record { number = c.0; encodes = c.1.0; sign = c.1.1; rounds = c.1.2 }
rounded-rounds f d (negsuc n) h = let c = by_parts f d true (suc n) h in record { number = c.0; encodes = c.1.0; sign = c.1.1; rounds = c.1.2 }
