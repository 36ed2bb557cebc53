-- What stands at a place: a number is zero exactly where the comparison with 0.0 says so, a place with value zero is empty, any other number is where it belongs. Assumes nothing.
use Rattle.std.specs.Prelude.{◌≡◌, ℕ, zero, suc, ◌+◌, ◌*◌, ◌%◌, ◌^◌, ◌<◌, Bool, true, false, not, ◌&&◌, ◌||◌, T, ◌≢◌, ◌⊎◌, pos, ◌==◌, nat_eq, nat_lt, to_bits, refl, Float}
use Rattle.std.proofs.Common.{sym, ap, ◌∙◌, subst, inl, inr, true≢false, mul-pos, lt_irrefl, zero-mul, mul-one, arith, eqb→eq, T_not, ltb→lt, lt→ltb, lit<, pow_pos}
use Rattle.std.specs.Bool.{beq}
use Rattle.std.proofs.Math.Dec.{eqb_refl, not_T}
use Rattle.std.specs.Float.{nan, inf, fin, binary64}
use Rattle.std.specs.Float.Ieee.{up, down, fits, eq, of_bits}
use Rattle.std.specs.Float.Ieee.Exact.{HasValue}
use Rattle.std.specs.Float.Ieee.Fits.{and_i, and_l, and_r, up_pos, eq→eqb}
use Rattle.std.specs.Float.Ieee.Bits.{of_bits-to_bits, of_bits-fits, is_true}
use Rattle.numbers.specs.Units.{rank, signed, units, float_value}
use Rattle.numbers.proofs.Scale.{units-zero, signed-zero}
use Rattle.numbers.specs.Patterns.{sign_of, field_of}
use Rattle.condensers.specs.Fields.{leading, significand_of, height_of}
use Rattle.condensers.specs.Pairing.{float_units, empty, place_of, stands}
use Rattle.condensers.specs.Laws.Patterns.{float_value_lem, number_fields, number_is, pattern_number, pattern_again}

-- ---- the comparison with 0.0

zero_is : of_bits binary64 0 ≡ fin false 0 (pos 0)
unfolding of_bits
zero_is = refl

factor-zero : (m k : ℕ) → 0 < k → m * k ≡ 0 → m ≡ 0
factor-zero zero k p e = refl
factor-zero (suc m) k p e = absurd (lt_irrefl 0 (subst (λ (x : ℕ). 0 < x) e (mul-pos (omega arith) p)))

size-zero : (s : Bool) (A : ℕ) → signed s A ≡ pos 0 → A ≡ 0
size-zero true zero e = refl
size-zero true (suc A) e = cc
size-zero false A e = cc

same_as_zero : (s : Bool) (m k d : ℕ) → m ≡ 0 → T (m * k * 1 == 0 * 1 * d && (beq s false || m * k * 1 == 0))
same_as_zero s m k d e =
    let z : m * k * 1 ≡ 0 = ap (λ (x : ℕ). x * k * 1) e ∙ ap (λ (x : ℕ). x * 1) (zero-mul k) in
    let w : 0 * 1 * d ≡ 0 = zero-mul d in
    and_i (m * k * 1 == 0 * 1 * d) _ (eq→eqb (z ∙ sym w)) (or_r (beq s false) _ (eq→eqb z))
  where
    or_r : (a b : Bool) → T b → T (a || b)
    or_r true b t = tt
    or_r false b t = t

zero_then : (s : Bool) (m k d : ℕ) → 0 < k → T (m * k * 1 == 0 * 1 * d && (beq s false || m * k * 1 == 0)) → m ≡ 0
zero_then s m k d p t =
    factor-zero m k p (sym (mul-one (m * k)) ∙ eqb→eq (m * k * 1) (0 * 1 * d) (and_l (m * k * 1 == 0 * 1 * d) _ t) ∙ zero-mul d)

level-zero : (x : Float) → T (eq x (fin false 0 (pos 0))) → float_units x ≡ pos 0
unfolding eq float_units
level-zero nan t = absurd t
level-zero (inf s) t = absurd t
level-zero (fin s m e) t = ap (λ (k : ℕ). units s k e) (zero_then s m (up e) (down e) (up_pos e) t) ∙ units-zero s e

zero-level : (x : Float) (s : Bool) (a c : ℕ) → HasValue x s a c → float_units x ≡ pos 0 → T (eq x (fin false 0 (pos 0)))
unfolding eq float_units units
zero-level nan s a c v e = absurd v
zero-level (inf t) s a c v e = absurd v
zero-level (fin t m k) s a c v e = same_as_zero t m (up k) (down k) (factor-zero m (2 ^ rank k) (pow_pos (rank k)) (size-zero t (m * 2 ^ rank k) e))

pub zero_test : (x : Float) → eq x (of_bits binary64 0) ≡ true → float_units x ≡ pos 0
zero_test x h = level-zero x (subst (λ (y : Float). T (eq x y)) zero_is (subst T (sym h) tt))

pub nonzero_test : (x : Float) → T (fits binary64 x) → field_of (to_bits binary64 x) < 2047 → eq x (of_bits binary64 0) ≡ false → float_units x ≢ pos 0
nonzero_test x f k h e =
    let t = zero-level x _ _ _ (float_value_lem x f k) e in
    true≢false (sym (is_true (eq x (of_bits binary64 0)) (subst (λ (y : Float). T (eq x y)) (sym zero_is) t)) ∙ h)

-- ---- a number that stands at a place

no_bits : (b : ℕ) → significand_of b ≡ 0 → b % 2 ^ 63 ≡ 0
no_bits b h = go (field_of b) refl h
  where
    go : (x : ℕ) → field_of b ≡ x → leading x + b % 2 ^ 52 ≡ 0 → b % 2 ^ 63 ≡ 0
    go zero e k = omega arith
    go (suc x) e k = absurd (omega arith)

no_size : (b : ℕ) → b % 2 ^ 63 ≡ 0 → significand_of b ≡ 0
no_size b h = go (field_of b) refl
  where
    go : (x : ℕ) → field_of b ≡ x → leading x + b % 2 ^ 52 ≡ 0
    go zero e = omega arith
    go (suc x) e = absurd (omega arith)

-- the two ways to stand
data Stands (k : ℕ) (x : Float) : Type 0 where
  nothing : to_bits binary64 x ≡ 0 → Stands k x
  something : to_bits binary64 x % 2 ^ 63 ≢ 0 → field_of (to_bits binary64 x) < 2047 → place_of x ≡ k → Stands k x

either : (a b : Bool) → T (a || b) → T a ⊎ T b
either true b t = inl tt
either false b t = inr t

ways : (k : ℕ) (x : Float) → T (stands k x) → Stands k x
unfolding stands
ways k x t =
    let b = to_bits binary64 x in
    let inner = nat_lt (field_of b) 2047 && nat_eq (place_of x) k in
    let outer = not (b % 2 ^ 63 == 0) && inner in
    elim (either (b == 0) outer (and_r (fits binary64 x) (b == 0 || outer) t)) [
      | inl e ↦ nothing (eqb→eq b 0 e)
      | inr u ↦
          let v = and_r (not (b % 2 ^ 63 == 0)) inner u in
          something
          (λ z. T_not (b % 2 ^ 63 == 0) (and_l (not (b % 2 ^ 63 == 0)) inner u) (eq→eqb z))
          (ltb→lt (field_of b) 2047 (and_l (nat_lt (field_of b) 2047) (place_of x == k) v))
          (eqb→eq (place_of x) k (and_r (nat_lt (field_of b) 2047) (place_of x == k) v))
    ]

pub standing_fits : (k : ℕ) (x : Float) → T (stands k x) → T (fits binary64 x)
unfolding stands
standing_fits k x t = and_l (fits binary64 x) (to_bits binary64 x == 0 || (not (to_bits binary64 x % 2 ^ 63 == 0) && (nat_lt (field_of (to_bits binary64 x)) 2047 && place_of x == k))) t

pub standing_field : (k : ℕ) (x : Float) → T (stands k x) → field_of (to_bits binary64 x) < 2047
standing_field k x t = go (ways k x t)
  where
    go : Stands k x → field_of (to_bits binary64 x) < 2047
    go (nothing e) = subst (λ (b : ℕ). field_of b < 2047) (sym e) (lit< tt)
    go (something n l p) = l

-- a place whose value is zero is empty
pub standing_empty : (k : ℕ) (x : Float) → T (stands k x) → float_units x ≡ pos 0 → x ≡ empty
unfolding empty
standing_empty k x t z = go (ways k x t)
  where
    f : T (fits binary64 x)
    f = standing_fits k x t

    go : Stands k x → x ≡ of_bits binary64 0
    go (nothing e) = sym (of_bits-to_bits binary64 x f) ∙ ap (of_bits binary64) e
    go (something n l p) =
        let b = to_bits binary64 x in
        absurd (n (no_bits b (factor-zero (significand_of b) (2 ^ height_of b) (pow_pos (height_of b)) (size-zero (sign_of b) (significand_of b * 2 ^ height_of b) (sym (number_fields x f l) ∙ z)))))

pub empty-value : float_units empty ≡ pos 0
unfolding empty
empty-value = number_is (of_bits binary64 0) (pos 0) (pattern_number 0 (lit< tt))

-- any other number stands at its own place
pub standing_place : (k : ℕ) (x : Float) → T (stands k x) → float_units x ≢ pos 0 → place_of x ≡ k
standing_place k x t z = go (ways k x t)
  where
    go : Stands k x → place_of x ≡ k
    go (nothing e) = absurd (z (number_is x (pos 0) (ap float_value (sym (of_bits-to_bits binary64 x (standing_fits k x t)) ∙ ap (of_bits binary64) e) ∙ pattern_number 0 (lit< tt))))
    go (something n l p) = p

or_i : (a b : Bool) → T b → T (a || b)
or_i true b t = tt
or_i false b t = t

pub stands_there : (x : Float) → T (fits binary64 x) → field_of (to_bits binary64 x) < 2047 → float_units x ≢ pos 0 → T (stands (place_of x) x)
unfolding stands
stands_there x f l z =
    let b = to_bits binary64 x in
    let n : b % 2 ^ 63 ≢ 0 = λ e. z (number_fields x f l ∙ ap (λ (m : ℕ). signed (sign_of b) (m * 2 ^ height_of b)) (no_size b e) ∙ ap (signed (sign_of b)) (zero-mul (2 ^ height_of b)) ∙ signed-zero (sign_of b)) in
    let inner = nat_lt (field_of b) 2047 && nat_eq (place_of x) (place_of x) in
    let outer = not (b % 2 ^ 63 == 0) && inner in
    and_i (fits binary64 x) (b == 0 || outer) f
    (or_i (b == 0) outer
    (and_i (not (b % 2 ^ 63 == 0)) inner (not_T (b % 2 ^ 63 == 0) (λ t. n (eqb→eq (b % 2 ^ 63) 0 t)))
    (and_i (nat_lt (field_of b) 2047) (place_of x == place_of x) (lt→ltb (field_of b) 2047 l) (eqb_refl (place_of x)))))

pub empty_stands : (k : ℕ) → T (stands k empty)
unfolding stands empty
empty_stands k =
    let b = to_bits binary64 (of_bits binary64 0) in
    let rest = not (b % 2 ^ 63 == 0) && (nat_lt (field_of b) 2047 && place_of (of_bits binary64 0) == k) in
    and_i (fits binary64 (of_bits binary64 0)) (b == 0 || rest) (of_bits-fits binary64 0) (or_l (b == 0) rest (eq→eqb (pattern_again 0 (lit< tt) (lit< tt))))
  where
    or_l : (a b : Bool) → T a → T (a || b)
    or_l true b t = tt
    or_l false b t = absurd t
