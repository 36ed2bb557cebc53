-- What is left below a bit, by the bit under it and whether anything lies below that one. Assumes nothing.
use Rattle.std.proofs.Common.{eqb, eqb-true, ◌≡◌, ℕ, zero, suc, ◌+◌, ◌-◌, ◌*◌, ◌/◌, ◌%◌, ◌^◌, ◌<◌, ◌≤◌, Bool, true, false, not, T, ltb, ◌≢◌, sym, refl, ap, ◌∙◌, subst, inl, inr, le_trans, le_of_eq, lt_of_lt_of_le, mod-lt, le_antisymm, one-mul, le-div_iff_mul-le, zero-mul, arith, ltb→lt, nltb→le, pow_pos, pow_mono, pow-add, shr_lt}
use Prim.Native.Nat.{compare, Ordering}
use native.Mathlib.Nat.{pow-succ'}
use native.Mathlib.Omega.{compare-lt, compare-eq, compare-gt}
use lib.Pow.{mod-pow-add}
use Rattle.std.proofs.lemmas.Bool.{eqb-false}
use lib.Ieee.{size}
use lib.Ieee.Digits.{size-lt, size-le, size_reaches}
use Rattle.readings.specs.declared.rounding.Remainder.{Remainder}
use Rattle.readings.specs.declared.rounding.Remainder.TheVariants.{Nothing, BelowHalf, Half, AboveHalf}
use Rattle.readings.specs.Rounded.{by_half, remainder_of}
use Rattle.readings.proofs.Cases.{lt_or_ge}
use Rattle.readings.proofs.Naturals.{size_gt}
use Rattle.readings.proofs.Sizes.{Says}

pub remainder_is : (w : Remainder) (r u : ℕ) → Says w r u → w ≡ remainder_of r u
remainder_is Nothing zero u h = refl
remainder_is Nothing (suc r) u h = absurd (omega arith)
remainder_is BelowHalf zero u h = absurd (omega arith)
remainder_is BelowHalf (suc r) u h = go (compare (2 * suc r) u) refl
  where
    go : (o : Ordering) → compare (2 * suc r) u ≡ o → BelowHalf ≡ by_half o
    go Ordering.lt e = refl
    go Ordering.eq e = let k = compare-eq (2 * suc r) u e in absurd (omega arith)
    go Ordering.gt e = let k = compare-gt (2 * suc r) u e in absurd (omega arith)
remainder_is Half zero u h = absurd (omega arith)
remainder_is Half (suc r) u h = go (compare (2 * suc r) u) refl
  where
    go : (o : Ordering) → compare (2 * suc r) u ≡ o → Half ≡ by_half o
    go Ordering.lt e = let k = compare-lt (2 * suc r) u e in absurd (omega arith)
    go Ordering.eq e = refl
    go Ordering.gt e = let k = compare-gt (2 * suc r) u e in absurd (omega arith)
remainder_is AboveHalf zero u h = absurd (omega arith)
remainder_is AboveHalf (suc r) u h = go (compare (2 * suc r) u) refl
  where
    go : (o : Ordering) → compare (2 * suc r) u ≡ o → AboveHalf ≡ by_half o
    go Ordering.lt e = let k = compare-lt (2 * suc r) u e in absurd (omega arith)
    go Ordering.eq e = let k = compare-eq (2 * suc r) u e in absurd (omega arith)
    go Ordering.gt e = refl

-- the bit b of weight h under the cut, and what lies below it
pub record Under (n cut b h m : ℕ) : Type 0 where
  pub is : n % 2 ^ cut ≡ b * h + m
  pub whole : 2 ^ cut ≡ 2 * h
  pub small : m < h

under_suc : (n k : ℕ) → Under n (suc k) (n / 2 ^ k % 2 ^ 64 % 2) (2 ^ k) (n % 2 ^ k)
under_suc n k =
    let bit : n / 2 ^ k % 2 ^ 64 % 2 ≡ n / 2 ^ k % 2 = omega arith in
    let one : 1 + k ≡ suc k = omega arith in
    record {
      is = ap (λ (a : ℕ). n % 2 ^ a) (sym one) ∙ mod-pow-add n 1 k ∙ ap (λ (a : ℕ). a * 2 ^ k + n % 2 ^ k) (sym bit);
      whole = pow-succ' 2 k;
      small = mod-lt n (pow_pos k);
    }

pub under : (n cut : ℕ) → cut ≢ 0 → Under n cut (n / 2 ^ (cut - 1) % 2 ^ 64 % 2) (2 ^ (cut - 1)) (n % 2 ^ (cut - 1))
under n zero h = absurd (h refl)
under n (suc k) h = let e : k ≡ suc k - 1 = omega arith in subst (λ (j : ℕ). Under n (suc k) (n / 2 ^ j % 2 ^ 64 % 2) (2 ^ j) (n % 2 ^ j)) e (under_suc n k)

-- the four cases

pub above_half : (n cut b h m : ℕ) → Under n cut b h m → b ≡ 1 → 0 < m → AboveHalf ≡ remainder_of (n % 2 ^ cut) (2 ^ cut)
above_half n cut b h m u e k = let f : b * h ≡ h = ap (λ (a : ℕ). a * h) e ∙ one-mul h in remainder_is AboveHalf (n % 2 ^ cut) (2 ^ cut) (omega arith, omega arith)

pub at_half : (n cut b h m : ℕ) → Under n cut b h m → b ≡ 1 → m ≡ 0 → Half ≡ remainder_of (n % 2 ^ cut) (2 ^ cut)
at_half n cut b h m u e k = let f : b * h ≡ h = ap (λ (a : ℕ). a * h) e ∙ one-mul h in remainder_is Half (n % 2 ^ cut) (2 ^ cut) (omega arith, omega arith)

pub below_half : (n cut b h m : ℕ) → Under n cut b h m → b ≡ 0 → 0 < m → BelowHalf ≡ remainder_of (n % 2 ^ cut) (2 ^ cut)
below_half n cut b h m u e k = let f : b * h ≡ 0 = ap (λ (a : ℕ). a * h) e ∙ zero-mul h in remainder_is BelowHalf (n % 2 ^ cut) (2 ^ cut) (omega arith, omega arith)

pub nothing : (n cut b h m : ℕ) → Under n cut b h m → b ≡ 0 → m ≡ 0 → Nothing ≡ remainder_of (n % 2 ^ cut) (2 ^ cut)
nothing n cut b h m u e k = let f : b * h ≡ 0 = ap (λ (a : ℕ). a * h) e ∙ zero-mul h in remainder_is Nothing (n % 2 ^ cut) (2 ^ cut) (omega arith)

-- a test for more than nothing
pub some : (m : ℕ) → true ≡ ltb 0 m → 0 < m
some m e = ltb→lt 0 m (subst T e tt)

pub none : (m : ℕ) → false ≡ ltb 0 m → m ≡ 0
none m e = let h : m ≤ 0 = nltb→le 0 m (subst (λ (b : Bool). T (not b)) e tt) in omega arith

-- what the bit under the cut says with a test for anything below it
abbrev pub left : Bool → Bool → Remainder
left true true = AboveHalf
left true false = Half
left false true = BelowHalf
left false false = Nothing

digit_zero : (b : ℕ) → b < 2 → eqb b 1 ≡ false → b ≡ 0
digit_zero b l e = let n = eqb-false b 1 e in omega arith

left_under : (n cut b h m : ℕ) (half rest : Bool) → Under n cut b h m → b < 2 → eqb b 1 ≡ half → rest ≡ ltb 0 m → left half rest ≡ remainder_of (n % 2 ^ cut) (2 ^ cut)
left_under n cut b h m true true u l e k = above_half n cut b h m u (eqb-true b 1 e) (some m k)
left_under n cut b h m true false u l e k = at_half n cut b h m u (eqb-true b 1 e) (none m k)
left_under n cut b h m false true u l e k = below_half n cut b h m u (digit_zero b l e) (some m k)
left_under n cut b h m false false u l e k = nothing n cut b h m u (digit_zero b l e) (none m k)

pub left_is : (n cut r : ℕ) (half rest : Bool) → cut ≢ 0 → r ≡ n / 2 ^ (cut - 1) % 2 ^ 64 → eqb (r % 2) 1 ≡ half → rest ≡ ltb 0 (n % 2 ^ (cut - 1)) → left half rest ≡ remainder_of (n % 2 ^ cut) (2 ^ cut)
left_is n cut r half rest k bits h z =
    left_under n cut (n / 2 ^ (cut - 1) % 2 ^ 64 % 2) (2 ^ (cut - 1)) (n % 2 ^ (cut - 1)) half rest (under n cut k) (omega arith) (ap (λ (a : ℕ). eqb (a % 2) 1) (sym bits) ∙ h) z

-- ---- the bits of a number that is cut short

pub size_shr : (n l : ℕ) → size (n / 2 ^ l) ≡ size n - l
size_shr n l = le_antisymm upper lower
  where
    upper : size (n / 2 ^ l) ≤ size n - l
    upper = size-le (n / 2 ^ l) (size n - l) (shr_lt (size n - l) l (lt_of_lt_of_le (size-lt n) (pow_mono (cover (size n) l))))
      where
        cover : (a b : ℕ) → a ≤ a - b + b
        cover a b = omega arith

    lower : size n - l ≤ size (n / 2 ^ l)
    lower = elim (lt_or_ge l (size n)) [
      | inl h ↦
          let j = size n - l - 1 in
          let e : j + l < size n = omega arith in
          let k = size_gt (n / 2 ^ l) j ((le-div_iff_mul-le (pow_pos l)).1 (le_trans (le_of_eq (sym (pow-add 2 j l))) (size_reaches n (j + l) e))) in
          omega arith
      | inr h ↦ omega arith
    ]
