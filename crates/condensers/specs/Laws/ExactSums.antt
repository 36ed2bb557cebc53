-- Where the sum of two floats is exact: at two that are whole multiples p and q of one power of two units, p and q of one parity and of no more digits than the format keeps, the sum being in range.
-- The unit is the format's smallest value, 2 ^ -low. Assumes nothing.
use Rattle.std.specs.Prelude.{◌≡◌, ℕ, suc, ◌+◌, ◌-◌, ◌*◌, ◌/◌, ◌%◌, ◌^◌, ◌<◌, ◌≤◌, Bool, true, false, ◌⊎◌, ◌+ℤ◌, refl, Float}
use Rattle.std.proofs.Common.{sym, ap, ◌∙◌, subst, subst₂, inl, inr, true≢false, mul_right_comm, mul_comm, mul-pos, lt_of_mul-lt-mul_right, mul-lt-mul_of_pos_right, eq-zero-or-pos, arith, pow_pos, lt-ltb, le-ltb}
use Rattle.std.specs.Bool.{beq}
use Rattle.std.proofs.Math.Nat.{eq_of_mul-eq-mul_right, pow-succ'}
use Rattle.std.specs.Float.{nan, inf, fin, Format}
use Rattle.std.specs.Float.Ieee.{prec, emax, low, up, down, round, sum, add}
use Rattle.std.specs.Float.Ieee.Exact.{HasValue, round_exact}
use Rattle.std.specs.Float.Ieee.Fits.{down_pos}
use Rattle.std.proofs.lemmas.Int.{ints}
use Rattle.numbers.specs.Units.{signed}

-- from one fraction to another of the same size
rescale : (x : Float) (s : Bool) (a c A L : ℕ) → 0 < c → a * L ≡ A * c → HasValue x s a c → HasValue x s A L
rescale nan s a c A L p h v = v
rescale (inf t) s a c A L p h v = v
rescale (fin t m e) s a c A L p h v = (
  v.0,
  eq_of_mul-eq-mul_right c p (m * up e * L) (A * down e)
      (mul_right_comm (m * up e) L c
      ∙ ap (λ (x : ℕ). x * L) v.1
      ∙ mul_right_comm a (down e) L
      ∙ ap (λ (x : ℕ). x * down e) h
      ∙ mul_right_comm A c (down e)),
)

-- A rounding of num / den, which is A units, is exact where A has few enough digits above its zeros, and is in range.
round_at : (f : Format) (s : Bool) (num den A q j : ℕ) → 0 < den → num * 2 ^ low f ≡ A * den → A ≡ q * 2 ^ j → q < 2 ^ prec f → A < 2 ^ (low f + suc (emax f))
    → HasValue (round f s num den) s A (2 ^ low f)
round_at f s num den A q j dp h e small fine =
    rescale (round f s num den) s num den A (2 ^ low f) dp h
    (round_exact f s num den q j dp small (subst (λ (x : ℕ). x < 2 ^ (low f + suc (emax f))) e fine) (h ∙ ap (λ (x : ℕ). x * den) e))

-- x is the sum of ±A and ±B units
abbrev pub Adds : Format → Float → Bool → ℕ → Bool → ℕ → Type 0
Adds f x s A t B = (u : Bool) × (C : ℕ) × HasValue x u C (2 ^ low f) × (signed u C ≡ signed s A +ℤ signed t B)

-- ---- the sum of two numerators, by signs and order

sum_like : (f : Format) (s : Bool) (a b c : ℕ) → sum f s a s b c ≡ round f s (a + b) c
unfolding sum
sum_like f true a b c = refl
sum_like f false a b c = refl

sum_less : (f : Format) (s t : Bool) (a b c : ℕ) → beq s t ≡ false → a < b → sum f s a t b c ≡ round f t (b - a) c
unfolding sum
sum_less f s t a b c u l = rw (u, lt-ltb a b l) refl

sum_more : (f : Format) (s t : Bool) (a b c : ℕ) → beq s t ≡ false → b < a → sum f s a t b c ≡ round f s (a - b) c
unfolding sum
sum_more f true t a b c u l = rw (u, le-ltb a b (omega arith), lt-ltb b a l) refl
sum_more f false t a b c u l = rw (u, le-ltb a b (omega arith)) refl

sum_level : (f : Format) (s t : Bool) (a b c : ℕ) → beq s t ≡ false → a ≡ b → sum f s a t b c ≡ round f false 0 c
unfolding sum
sum_level f true t a b c u e = let z : a - b ≡ 0 = omega arith in rw (u, le-ltb a b (omega arith), le-ltb b a (omega arith), z) refl
sum_level f false t a b c u e = let z : a - b ≡ 0 = omega arith in rw (u, le-ltb a b (omega arith), z) refl

order : (a b : ℕ) → (a < b) ⊎ ((a ≡ b) ⊎ (b < a))
order a b = elim (eq-zero-or-pos (b - a)) [ inl z ↦ inr (elim (eq-zero-or-pos (a - b)) [ inl y ↦ inl (omega arith) | inr p ↦ inr (omega arith) ]) | inr p ↦ inl (omega arith) ]

-- ---- half of a sum or a difference of two numbers of one parity

half_sum : (p q R : ℕ) → p % 2 ≡ q % 2 → p * R + q * R ≡ (p + q) / 2 * (2 * R)
half_sum p q R h = let e : (p + q) / 2 * 2 ≡ p + q = omega arith in omega (arith, ap (λ (x : ℕ). x * R) e)

half_difference : (p q R : ℕ) → p % 2 ≡ q % 2 → q ≤ p → p * R - q * R ≡ (p - q) / 2 * (2 * R)
half_difference p q R h l = let e : (p - q) / 2 * 2 + q ≡ p = omega arith in omega (arith, ap (λ (x : ℕ). x * R) e)

small-sum : (p q P : ℕ) → p < P → q < P → (p + q) / 2 < P
small-sum p q P h k = omega arith

small_difference : (p q P : ℕ) → p < P → (p - q) / 2 < P
small_difference p q P h = omega arith

-- ---- the signs of a sum

plus_like : (s : Bool) (A B : ℕ) → signed s (A + B) ≡ signed s A +ℤ signed s B
plus_like true A B = omega (arith, ints)
plus_like false A B = refl

plus_less : (s t : Bool) (A B : ℕ) → beq s t ≡ false → A < B → signed t (B - A) ≡ signed s A +ℤ signed t B
plus_less true false A B u l = omega (arith, ints)
plus_less false true A B u l = omega (arith, ints)
plus_less true true A B u l = absurd (true≢false u)
plus_less false false A B u l = absurd (true≢false u)

plus_more : (s t : Bool) (A B : ℕ) → beq s t ≡ false → B < A → signed s (A - B) ≡ signed s A +ℤ signed t B
plus_more true false A B u l = omega (arith, ints)
plus_more false true A B u l = omega (arith, ints)
plus_more true true A B u l = absurd (true≢false u)
plus_more false false A B u l = absurd (true≢false u)

plus_level : (s t : Bool) (A B : ℕ) → beq s t ≡ false → A ≡ B → signed false 0 ≡ signed s A +ℤ signed t B
plus_level true false A B u l = omega (arith, ints)
plus_level false true A B u l = omega (arith, ints)
plus_level true true A B u l = absurd (true≢false u)
plus_level false false A B u l = absurd (true≢false u)

-- ---- a difference of numerators is the difference of what they are in units

apart : (a b c A B L : ℕ) → a < b → A < B → a * L ≡ A * c → b * L ≡ B * c → (b - a) * L ≡ (B - A) * c
apart a b c A B L l m ha hb =
    let d : b - a + a ≡ b = omega arith in
    let e : B - A + A ≡ B = omega arith in
    omega (arith, ap (λ (x : ℕ). x * L) d, ap (λ (x : ℕ). x * c) e)

less_fine : (A B M : ℕ) → A + B < M → B - A < M
less_fine A B M h = omega arith

more_fine : (A B M : ℕ) → A + B < M → A - B < M
more_fine A B M h = omega arith

-- ---- two numbers p and q of one parity, at one power of two

module _ (f : Format) (a b c p q r : ℕ) (cp : 0 < c) (ha : a * 2 ^ low f ≡ p * 2 ^ r * c) (hb : b * 2 ^ low f ≡ q * 2 ^ r * c)
    (hp : p < 2 ^ prec f) (hq : q < 2 ^ prec f) (same : p % 2 ≡ q % 2) (fine : p * 2 ^ r + q * 2 ^ r < 2 ^ (low f + suc (emax f))) where
  two_power : 2 * 2 ^ r ≡ 2 ^ suc r
  two_power = sym (pow-succ' 2 r)

  like : (s : Bool) → Adds f (sum f s a s b c) s (p * 2 ^ r) s (q * 2 ^ r)
  like s = (
    s,
    p * 2 ^ r + q * 2 ^ r,
    subst (λ (x : Float). HasValue x s (p * 2 ^ r + q * 2 ^ r) (2 ^ low f)) (sym (sum_like f s a b c))
        (round_at f s (a + b) c (p * 2 ^ r + q * 2 ^ r) ((p + q) / 2) (suc r) cp (omega arith) (half_sum p q (2 ^ r) same ∙ ap (λ (x : ℕ). (p + q) / 2 * x) two_power) (small-sum p q (2 ^ prec f) hp hq) fine),
    plus_like s (p * 2 ^ r) (q * 2 ^ r),
  )

  below : a < b → p * 2 ^ r < q * 2 ^ r
  below l =
      let k : p * 2 ^ r * c < q * 2 ^ r * c = subst (λ (x : ℕ). x < q * 2 ^ r * c) ha (subst (λ (x : ℕ). a * 2 ^ low f < x) hb (mul-lt-mul_of_pos_right l (pow_pos (low f)))) in
      lt_of_mul-lt-mul_right c k

  above : b < a → q * 2 ^ r < p * 2 ^ r
  above l =
      let k : q * 2 ^ r * c < p * 2 ^ r * c = subst (λ (x : ℕ). x < p * 2 ^ r * c) hb (subst (λ (x : ℕ). b * 2 ^ low f < x) ha (mul-lt-mul_of_pos_right l (pow_pos (low f)))) in
      lt_of_mul-lt-mul_right c k

  level : a ≡ b → p * 2 ^ r ≡ q * 2 ^ r
  level e = eq_of_mul-eq-mul_right c cp (p * 2 ^ r) (q * 2 ^ r) (sym ha ∙ ap (λ (x : ℕ). x * 2 ^ low f) e ∙ hb)

  unlike : (s t : Bool) → beq s t ≡ false → Adds f (sum f s a t b c) s (p * 2 ^ r) t (q * 2 ^ r)
  unlike s t u =
      let A = p * 2 ^ r in
      let B = q * 2 ^ r in
      elim (order a b) [
        | inl l ↦
            let m : A < B = below l in
            let k : p < q = lt_of_mul-lt-mul_right (2 ^ r) m in (
              t,
              B - A,
              subst (λ (x : Float). HasValue x t (B - A) (2 ^ low f)) (sym (sum_less f s t a b c u l))
                  (round_at f t (b - a) c (B - A) ((q - p) / 2) (suc r) cp
                  (apart a b c A B (2 ^ low f) l m ha hb)
                  (half_difference q p (2 ^ r) (sym same) (omega arith) ∙ ap (λ (x : ℕ). (q - p) / 2 * x) two_power)
                  (small_difference q p (2 ^ prec f) hq)
                  (less_fine A B (2 ^ (low f + suc (emax f))) fine)),
              plus_less s t A B u m,
            )
        | inr g ↦ elim g [
          | inl e ↦ (
            false,
            0,
            subst (λ (x : Float). HasValue x false 0 (2 ^ low f)) (sym (sum_level f s t a b c u e))
                (round_at f false 0 c 0 0 0 cp (omega arith) (omega arith) (pow_pos (prec f)) (pow_pos (low f + suc (emax f)))),
            plus_level s t A B u (level e),
          )
          | inr l ↦
              let m : B < A = above l in
              let k : q < p = lt_of_mul-lt-mul_right (2 ^ r) m in (
                s,
                A - B,
                subst (λ (x : Float). HasValue x s (A - B) (2 ^ low f)) (sym (sum_more f s t a b c u l))
                    (round_at f s (a - b) c (A - B) ((p - q) / 2) (suc r) cp
                    (apart b a c B A (2 ^ low f) l m hb ha)
                    (half_difference p q (2 ^ r) same (omega arith) ∙ ap (λ (x : ℕ). (p - q) / 2 * x) two_power)
                    (small_difference p q (2 ^ prec f) hp)
                    (more_fine A B (2 ^ (low f + suc (emax f))) fine)),
                plus_more s t A B u m,
              )
        ]
      ]

  pub sum-exact : (s t : Bool) → Adds f (sum f s a t b c) s (p * 2 ^ r) t (q * 2 ^ r)
  sum-exact true true = like true
  sum-exact false false = like false
  sum-exact true false = unlike true false refl
  sum-exact false true = unlike false true refl

-- ---- two floats

crossed : (m u L A d n : ℕ) → m * u * L ≡ A * d → m * u * n * L ≡ A * (d * n)
crossed m u L A d n h = omega (arith, ap (λ (x : ℕ). x * n) h)

-- The sum of two floats that are p and q times 2 ^ r units, p and q of one parity, is exact.
pub add_exact : (f : Format) (x y : Float) (s t : Bool) (p q r : ℕ) → HasValue x s (p * 2 ^ r) (2 ^ low f) → HasValue y t (q * 2 ^ r) (2 ^ low f)
    → p < 2 ^ prec f → q < 2 ^ prec f → p % 2 ≡ q % 2 → p * 2 ^ r + q * 2 ^ r < 2 ^ (low f + suc (emax f)) → Adds f (add f x y) s (p * 2 ^ r) t (q * 2 ^ r)
unfolding add
add_exact f nan y s t p q r hx hy hp hq same fine = absurd hx
add_exact f (inf k) y s t p q r hx hy hp hq same fine = absurd hx
add_exact f (fin k m e) nan s t p q r hx hy hp hq same fine = absurd hy
add_exact f (fin k m e) (inf l) s t p q r hx hy hp hq same fine = absurd hy
add_exact f (fin k m e) (fin l n d) s t p q r hx hy hp hq same fine =
    subst₂ (λ (i j : Bool). Adds f (sum f i (m * up e * down d) j (n * up d * down e) (down e * down d)) s (p * 2 ^ r) t (q * 2 ^ r)) (sym hx.0) (sym hy.0)
    (sum-exact f (m * up e * down d) (n * up d * down e) (down e * down d) p q r (mul-pos (down_pos e) (down_pos d))
    (crossed m (up e) (2 ^ low f) (p * 2 ^ r) (down e) (down d) hx.1)
    (crossed n (up d) (2 ^ low f) (q * 2 ^ r) (down d) (down e) hy.1 ∙ ap (λ (z : ℕ). q * 2 ^ r * z) (mul_comm (down d) (down e)))
    hp hq same fine s t)
