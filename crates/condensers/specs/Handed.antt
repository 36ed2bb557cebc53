-- A summand by its sign, its significand and how far the significand's lowest bit lies above the unit of 2^-1074.
use Rattle.std.specs.Prelude.{◌≡◌, ℕ, zero, suc, ◌-◌, ◌*◌, ◌^◌, ◌<◌, ◌≤◌, Bool, true, false, cond, not, ◌&&◌, T, ℤ, pos, negsuc, ◌-ℤ◌, ◌≤ℤ◌, ◌≢◌, nat_le, nat_lt, refl}
use Rattle.std.proofs.Common.{sym, subst, zero-le, zero-mul, not-suc-le-zero, le_of_eq, arith, lit<, ltb→lt, nltb→le, leb→le}
use Rattle.std.specs.Int.Signed.{le_z_yes}
use Rattle.std.specs.Float.Ieee.Fits.{and_l, and_r}
use Rattle.std.proofs.lemmas.Int.{ints}
use Rattle.numbers.specs.declared.piece.Summand.{Summand}
use Rattle.numbers.specs.Units.{rank}

-- m × 2^h units lie within a summand's limits
abbrev pub limited : ℕ → ℕ → Bool
limited m h = nat_lt m (2 ^ 53) && (nat_le h 2080 && nat_le (m * 2 ^ h) (2 ^ 2080))

-- the exponent of 2^h units
abbrev pub exponent_of : ℕ → ℤ
exponent_of h = pos h -ℤ pos 1074

abbrev pub nothing : Summand
nothing = record {
  negative = false;
  significand = 0;
  exponent = pos 0;
  short = lit< tt;
  low = le_z_yes tt;
  high = le_z_yes tt;
  bounded = subst (λ (x : ℕ). x ≤ 2 ^ rank (pos 1006)) (sym (zero-mul (2 ^ rank (pos 0)))) zero-le;
  plus = λ _. refl;
  plain = λ _. refl;
}

pub rank-exponent : (h : ℕ) → rank (exponent_of h) ≡ h
unfolding rank
rank-exponent h = go (nat_lt h 1074) (ltb→lt h 1074) (nltb→le h 1074)
  where
    go : (b : Bool) → (T b → h < 1074) → (T (not b) → 1074 ≤ h) → rank (cond b (negsuc (1074 - suc h)) (pos (h - 1074))) ≡ h
    go true l g = omega (arith, l tt)
    go false l g = omega (arith, g tt)

pub low-exponent : (h : ℕ) → negsuc 1073 ≤ℤ exponent_of h
low-exponent h = omega (arith, ints)

pub high-exponent : (h : ℕ) → h ≤ 2080 → exponent_of h ≤ℤ pos 1006
high-exponent h k = omega (arith, ints)

pub within : (m h : ℕ) → m * 2 ^ h ≤ 2 ^ 2080 → m * 2 ^ rank (exponent_of h) ≤ 2 ^ rank (pos 1006)
unfolding rank
within m h l = subst (λ (r : ℕ). m * 2 ^ r ≤ 2 ^ 2080) (sym (rank-exponent h)) l

unfoldable pub made : (s : Bool) (m h : ℕ) → (m ≢ 0) → T (limited m h) → Summand
made s m h n t =
    let u = and_r (nat_lt m (2 ^ 53)) (nat_le h 2080 && nat_le (m * 2 ^ h) (2 ^ 2080)) t in
    record {
      negative = s;
      significand = m;
      exponent = exponent_of h;
      short = ltb→lt m (2 ^ 53) (and_l (nat_lt m (2 ^ 53)) (nat_le h 2080 && nat_le (m * 2 ^ h) (2 ^ 2080)) t);
      low = low-exponent h;
      high = high-exponent h (leb→le h 2080 (and_l (nat_le h 2080) (nat_le (m * 2 ^ h) (2 ^ 2080)) u));
      bounded = within m h (leb→le (m * 2 ^ h) (2 ^ 2080) (and_r (nat_le h 2080) (nat_le (m * 2 ^ h) (2 ^ 2080)) u));
      plus = λ e. absurd (n e);
      plain = λ e. absurd (n e);
    }

unfoldable pub chosen : (s : Bool) (m h : ℕ) (b : Bool) → (T b → T (limited (suc m) h)) → Summand
chosen s m h true t = made s (suc m) h (λ e. not-suc-le-zero (le_of_eq e)) (t tt)
chosen s m h false t = nothing

-- The summand ±m × 2^h units; outside a summand's limits this is zero.
unfoldable pub summand_at : Bool → ℕ → ℕ → Summand
unfolding made chosen
summand_at s zero h = nothing
summand_at s (suc m) h = chosen s m h (limited (suc m) h) (λ t. t)
