-- A summand is known by its parts, and `summand_at` has the parts and the value that it is asked for. Assumes nothing.
use Rattle.std.specs.Prelude.{◌≡◌, ℕ, zero, suc, ◌*◌, ◌^◌, ◌<◌, ◌≤◌, Bool, true, false, ◌&&◌, T, List, length, ℤ, pos, negsuc, ◌≤ℤ◌, ◌≢◌, nat_le, nat_lt, slice_index_or}
use Rattle.std.proofs.Common.{sym, ap, ◌∙◌, zero-mul, not-le_of_lt, arith, ltb→lt, leb→le, lt→ltb, le→leb}
use mathlib.Core.HLevel.{is_prop→PathP}
use Rattle.std.specs.Float.Ieee.Fits.{and_i, and_l, and_r}
use denote.Struct.Props.{props}
use Rattle.numbers.specs.declared.piece.Summand.{Summand}
use Rattle.numbers.specs.Units.{rank, signed, units}
use Rattle.numbers.specs.Products.{summand_units}
use Rattle.numbers.proofs.Scale.{signed-zero}
use Rattle.condensers.specs.Meaning.{StandsAt}
use Rattle.condensers.specs.Handed.{limited, exponent_of, nothing, rank-exponent, within, made, chosen, summand_at}

-- the limits of a summand have at most one proof
short_prop : (m : ℕ) → IsProp (m < 2 ^ 53)
short_prop m = hlevel props

low_prop : (e : ℤ) → IsProp (negsuc 1073 ≤ℤ e)
low_prop e = hlevel props

high_prop : (e : ℤ) → IsProp (e ≤ℤ pos 1006)
high_prop e = hlevel props

bounded_prop : (m : ℕ) (e : ℤ) → IsProp (m * 2 ^ rank e ≤ 2 ^ rank (pos 1006))
bounded_prop m e = hlevel props

plus_prop : (m : ℕ) (s : Bool) → IsProp (m ≡ 0 → s ≡ false)
plus_prop m s = hlevel props

plain_prop : (m : ℕ) (e : ℤ) → IsProp (m ≡ 0 → e ≡ pos 0)
plain_prop m e = hlevel props

pub same_parts : (a b : Summand) → a.negative ≡ b.negative → a.significand ≡ b.significand → a.exponent ≡ b.exponent → a ≡ b
same_parts a b p q r = λ i. record {
  negative = p i;
  significand = q i;
  exponent = r i;
  short = is_prop→PathP (λ j. q j < 2 ^ 53) (λ j. short_prop (q j)) a.short b.short i;
  low = is_prop→PathP (λ j. negsuc 1073 ≤ℤ r j) (λ j. low_prop (r j)) a.low b.low i;
  high = is_prop→PathP (λ j. r j ≤ℤ pos 1006) (λ j. high_prop (r j)) a.high b.high i;
  bounded = is_prop→PathP (λ j. q j * 2 ^ rank (r j) ≤ 2 ^ rank (pos 1006)) (λ j. bounded_prop (q j) (r j)) a.bounded b.bounded i;
  plus = is_prop→PathP (λ j. q j ≡ 0 → p j ≡ false) (λ j. plus_prop (q j) (p j)) a.plus b.plus i;
  plain = is_prop→PathP (λ j. q j ≡ 0 → r j ≡ pos 0) (λ j. plain_prop (q j) (r j)) a.plain b.plain i;
}

-- a summand with the parts that were asked for is the one
pub summand_at_is : (r : Summand) (s : Bool) (m h : ℕ) → T (limited m h) → r.significand ≡ m → ((m ≢ 0) → r.negative ≡ s) → ((m ≢ 0) → r.exponent ≡ exponent_of h) → r ≡ summand_at s m h
unfolding summand_at made chosen
summand_at_is r s zero h t q p e = same_parts r nothing (r.plus q) q (r.plain q)
summand_at_is r s (suc m) h t q p e = go (limited (suc m) h) (λ u. u) t
  where
    above : suc m ≡ 0 → ⊥
    above k = omega arith

    go : (b : Bool) (f : T b → T (limited (suc m) h)) → T b → r ≡ chosen s m h b f
    go true f u = same_parts r (chosen s m h true f) (p above) q (e above)
    go false f u = absurd u

-- and its value is ±m × 2^h units
pub summand_at-units : (s : Bool) (m h : ℕ) → T (limited m h) → summand_units (summand_at s m h) ≡ signed s (m * 2 ^ h)
unfolding summand_at made chosen units
summand_at-units s zero h t = ap pos (zero-mul (2 ^ rank (pos 0))) ∙ sym (ap (signed s) (zero-mul (2 ^ h)) ∙ signed-zero s)
summand_at-units s (suc m) h t = go (limited (suc m) h) (λ u. u) t
  where
    go : (b : Bool) (f : T b → T (limited (suc m) h)) → T b → summand_units (chosen s m h b f) ≡ signed s (suc m * 2 ^ h)
    go true f u = ap (λ (k : ℕ). signed s (suc m * 2 ^ k)) (rank-exponent h)
    go false f u = absurd u

-- ---- what the limits say

pub limited-short : (m h : ℕ) → T (limited m h) → m < 2 ^ 53
limited-short m h t = ltb→lt m (2 ^ 53) (and_l (nat_lt m (2 ^ 53)) (nat_le h 2080 && nat_le (m * 2 ^ h) (2 ^ 2080)) t)

pub limited-high : (m h : ℕ) → T (limited m h) → h ≤ 2080
limited-high m h t = leb→le h 2080 (and_l (nat_le h 2080) (nat_le (m * 2 ^ h) (2 ^ 2080)) (and_r (nat_lt m (2 ^ 53)) (nat_le h 2080 && nat_le (m * 2 ^ h) (2 ^ 2080)) t))

pub limited-size : (m h : ℕ) → T (limited m h) → m * 2 ^ rank (exponent_of h) ≤ 2 ^ rank (pos 1006)
limited-size m h t = within m h (leb→le (m * 2 ^ h) (2 ^ 2080) (and_r (nat_le h 2080) (nat_le (m * 2 ^ h) (2 ^ 2080)) (and_r (nat_lt m (2 ^ 53)) (nat_le h 2080 && nat_le (m * 2 ^ h) (2 ^ 2080)) t)))

pub limited_in : (m h : ℕ) → m < 2 ^ 53 → h ≤ 2080 → m * 2 ^ h ≤ 2 ^ 2080 → T (limited m h)
limited_in m h a b c =
    and_i (nat_lt m (2 ^ 53)) (nat_le h 2080 && nat_le (m * 2 ^ h) (2 ^ 2080)) (lt→ltb m (2 ^ 53) a)
    (and_i (nat_le h 2080) (nat_le (m * 2 ^ h) (2 ^ 2080)) (le→leb h 2080 b) (le→leb (m * 2 ^ h) (2 ^ 2080) c))

-- ---- the summand at an index

pub stands-within : (ss : List Summand) (k : ℕ) (r : Summand) → k < length ss → r ≡ slice_index_or ss k r → StandsAt ss k r
stands-within ss k r l e = record {
  within = λ _. e;
  past_size = λ g. absurd (not-le_of_lt l g);
  past_sign = λ g. absurd (not-le_of_lt l g);
  past_exponent = λ g. absurd (not-le_of_lt l g);
}

pub stands_past : (ss : List Summand) (k : ℕ) (r : Summand) → length ss ≤ k → r ≡ summand_at false 0 0 → StandsAt ss k r
unfolding summand_at
stands_past ss k r g e = record {
  within = λ l. absurd (not-le_of_lt l g);
  past_size = λ _. ap (λ (x : Summand). x.significand) e;
  past_sign = λ _. ap (λ (x : Summand). x.negative) e;
  past_exponent = λ _. ap (λ (x : Summand). x.exponent) e;
}
