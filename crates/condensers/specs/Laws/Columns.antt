-- Columns of 32 bits: the parts of a number add up to it, what three changed columns gain, and what the columns hand out. Assumes nothing.
use Rattle.std.specs.Prelude.{◌≡◌, ℕ, zero, suc, ◌+◌, ◌-◌, ◌*◌, ◌/◌, ◌%◌, ◌^◌, ◌<◌, ◌≤◌, Bool, true, false, cond, not, T, List, [], ◌∷◌, length, get_or, replicate, ℤ, pos, ◌+ℤ◌, ◌*ℤ◌, neg_ℤ, ◌==◌, ◌≢◌, nat_lt, slice_index_or, slice_set, unsigned_abs, refl}
use Rattle.std.proofs.Common.{sym, ap₂, ◌∙◌, subst, mul_comm, mul-div_cancel, lt_of_lt_of_le, zero-mul, add-zero, add-suc, suc-add, zero-add, mul-one, mul-le-mul, div-one, lit<, lit≤, ltb→lt, nltb→le, pow_pos, pow-add, length-set, get_or-set_same, get_or-set_other, eq-eqb, ne_eqb, eqb-true}
use Rattle.std.proofs.Math.Path.{ap}
use Rattle.std.proofs.Math.Nat.{mul_assoc, div-div-eq-div-mul, mul-mod_left, div-eq_of_lt, lt_of_le_of_lt, mod-eq_of_lt}
use native.Mathlib.Omega.{arith}
use Rattle.std.proofs.Math.Pow.{pow_mono}
use Rattle.std.proofs.Math.IntN.{+ℤ_idr, +ℤ_idl}
use borrow.Author.Differences.{ints, sum_is_lem}
use Rattle.std.proofs.lemmas.Bool.{eqb-false}
use Rattle.numbers.specs.Units.{signed}
use Rattle.numbers.proofs.Scale.{signed-zero}
use Rattle.condensers.specs.Columns.{columns_from, column_total, part_of, Gains}

-- ---- parts

-- the weight of the next column
next_weight : (j : ℕ) → 2 ^ (32 * suc j) ≡ 2 ^ 32 * 2 ^ (32 * j)
next_weight j = ap (λ (x : ℕ). 2 ^ x) {x = 32 * suc j} {y = 32 + 32 * j} (omega arith) ∙ pow-add 2 32 (32 * j)

-- what lies from bit 32 j on is part j and what lies from bit 32 (j + 1) on
parts_step : (n j : ℕ) → n / 2 ^ (32 * j) * 2 ^ (32 * j) ≡ part_of n j * 2 ^ (32 * j) + n / 2 ^ (32 * suc j) * 2 ^ (32 * suc j)
parts_step n j = apart (n / 2 ^ (32 * j)) (2 ^ (32 * j)) (n / 2 ^ (32 * suc j)) (2 ^ (32 * suc j)) quotient (next_weight j)
  where
    apart : (d w e v : ℕ) → e ≡ d / 2 ^ 32 → v ≡ 2 ^ 32 * w → d * w ≡ d % 2 ^ 32 * w + e * v
    apart d w e v h k = let m : d ≡ d % 2 ^ 32 + e * 2 ^ 32 = omega arith in ap (λ (x : ℕ). x * w) m ∙ spread (d % 2 ^ 32) e w ∙ ap (λ (x : ℕ). d % 2 ^ 32 * w + e * x) (sym k)
      where
        spread : (a b w : ℕ) → (a + b * 2 ^ 32) * w ≡ a * w + b * (2 ^ 32 * w)
        spread a b w = omega arith

    quotient : n / 2 ^ (32 * suc j) ≡ n / 2 ^ (32 * j) / 2 ^ 32
    quotient = ap (λ (x : ℕ). n / x) (next_weight j ∙ mul_comm (2 ^ 32) (2 ^ (32 * j))) ∙ sym (div-div-eq-div-mul n (2 ^ (32 * j)) (2 ^ 32))

-- n × 2^(32 q) has the parts of n, q columns higher
pub part_above : (n q i : ℕ) → part_of (n * 2 ^ (32 * q)) (q + i) ≡ part_of n i
part_above n q i = ap (λ (x : ℕ). x % 2 ^ 32) (ap (λ (x : ℕ). n * 2 ^ (32 * q) / x) powers ∙ sym (div-div-eq-div-mul (n * 2 ^ (32 * q)) (2 ^ (32 * q)) (2 ^ (32 * i))) ∙ ap (λ (x : ℕ). x / 2 ^ (32 * i)) (mul-div_cancel n (pow_pos (32 * q))))
  where
    powers : 2 ^ (32 * (q + i)) ≡ 2 ^ (32 * q) * 2 ^ (32 * i)
    powers = ap (λ (x : ℕ). 2 ^ x) {x = 32 * (q + i)} {y = 32 * q + 32 * i} (omega arith) ∙ pow-add 2 (32 * q) (32 * i)

pub part_below : (n q j : ℕ) → j < q → part_of (n * 2 ^ (32 * q)) j ≡ 0
part_below n q j h =
    ap (λ (x : ℕ). x / 2 ^ (32 * j) % 2 ^ 32) moved
    ∙ ap (λ (x : ℕ). x % 2 ^ 32) (mul-div_cancel (n * 2 ^ (32 * (q - suc j)) * 2 ^ 32) (pow_pos (32 * j)))
    ∙ mul-mod_left (n * 2 ^ (32 * (q - suc j))) (2 ^ 32)
  where
    powers : 2 ^ (32 * q) ≡ 2 ^ (32 * (q - suc j)) * 2 ^ 32 * 2 ^ (32 * j)
    powers =
        ap (λ (x : ℕ). 2 ^ x) {x = 32 * q} {y = 32 * (q - suc j) + 32 + 32 * j} (omega arith)
        ∙ pow-add 2 (32 * (q - suc j) + 32) (32 * j)
        ∙ ap (λ (x : ℕ). x * 2 ^ (32 * j)) (pow-add 2 (32 * (q - suc j)) 32)

    moved : n * 2 ^ (32 * q) ≡ n * 2 ^ (32 * (q - suc j)) * 2 ^ 32 * 2 ^ (32 * j)
    moved = ap (λ (x : ℕ). n * x) powers ∙ sym (mul_assoc n (2 ^ (32 * (q - suc j)) * 2 ^ 32) (2 ^ (32 * j))) ∙ ap (λ (x : ℕ). x * 2 ^ (32 * j)) (sym (mul_assoc n (2 ^ (32 * (q - suc j))) (2 ^ 32)))

-- ---- signed sums

pub distributes : (a b : ℤ) (w : ℕ) → (a +ℤ b) *ℤ pos w ≡ a *ℤ pos w +ℤ b *ℤ pos w
distributes a b w = omega (arith, ints, ap (λ (x : ℕ). x * w) (sum_is_lem a b))

pub signed_times : (s : Bool) (m w : ℕ) → signed s m *ℤ pos w ≡ signed s (m * w)
signed_times true zero w = ap pos (zero-mul w) ∙ sym (ap (λ (x : ℕ). neg_ℤ (pos x)) (zero-mul w))
signed_times true (suc m) w = refl
signed_times false m w = refl

pub signed_plus : (s : Bool) (a b : ℕ) → signed s a +ℤ signed s b ≡ signed s (a + b)
signed_plus true a b = omega (arith, ints)
signed_plus false a b = refl

four : (a b c d : ℤ) → (a +ℤ b) +ℤ (c +ℤ d) ≡ (a +ℤ c) +ℤ (b +ℤ d)
four a b c d = omega (arith, ints)

joined : (s : Bool) (d D c C : ℤ) (w p r : ℕ) → d ≡ c +ℤ signed s p → D ≡ C +ℤ signed s r → d *ℤ pos w +ℤ D ≡ (c *ℤ pos w +ℤ C) +ℤ signed s (p * w + r)
joined s d D c C w p r f h =
    ap₂ ◌+ℤ◌ (ap (λ (x : ℤ). x *ℤ pos w) f ∙ distributes c (signed s p) w ∙ ap (λ (x : ℤ). c *ℤ pos w +ℤ x) (signed_times s p w)) h
    ∙ four (c *ℤ pos w) (signed s (p * w)) C (signed s r)
    ∙ ap (λ (x : ℤ). (c *ℤ pos w +ℤ C) +ℤ x) (signed_plus s (p * w) r)

-- ---- the total of columns that gain the parts of n

-- after is before with part j of n, and the parts above it, added to the columns from j on
abbrev pub GainsFrom : ℕ → Bool → ℕ → List ℤ → List ℤ → Type 0
GainsFrom j s n before after = (i : ℕ) → i < length before → slice_index_or after i (pos 0) ≡ slice_index_or before i (pos 0) +ℤ signed s (part_of n (j + i))

pub total_gain : (j : ℕ) (s : Bool) (n : ℕ) (before after : List ℤ) → length after ≡ length before → n < 2 ^ (32 * (j + length before)) → GainsFrom j s n before after
    → columns_from j after ≡ columns_from j before +ℤ signed s (n / 2 ^ (32 * j) * 2 ^ (32 * j))
unfolding columns_from
total_gain j s n [] [] e l g =
    let z : n / 2 ^ (32 * j) ≡ 0 = div-eq_of_lt (subst (λ (x : ℕ). n < 2 ^ (32 * x)) (add-zero j) l) in
    sym (ap (λ (x : ℕ). pos 0 +ℤ signed s (x * 2 ^ (32 * j))) z ∙ ap (λ (x : ℕ). pos 0 +ℤ signed s x) (zero-mul (2 ^ (32 * j))) ∙ ap (λ (v : ℤ). pos 0 +ℤ v) (signed-zero s))
total_gain j s n [] (d ∷ ds) e l g = absurd (omega arith)
total_gain j s n (c ∷ cs) [] e l g = absurd (omega arith)
total_gain j s n (c ∷ cs) (d ∷ ds) e l g =
    joined s d (columns_from (suc j) ds) c (columns_from (suc j) cs) (2 ^ (32 * j)) (part_of n j) (n / 2 ^ (32 * suc j) * 2 ^ (32 * suc j))
    (g 0 (omega arith) ∙ ap (λ (x : ℕ). c +ℤ signed s (part_of n x)) (add-zero j))
    (total_gain (suc j) s n cs ds (omega arith) (subst (λ (x : ℕ). n < 2 ^ (32 * x)) (add-suc j (length cs) ∙ sym (suc-add j (length cs))) l)
    (λ i h. g (suc i) (omega arith) ∙ ap (λ (x : ℕ). slice_index_or cs i (pos 0) +ℤ signed s (part_of n x)) (add-suc j i ∙ sym (suc-add j i))))
    ∙ ap (λ (x : ℕ). (c *ℤ pos (2 ^ (32 * j)) +ℤ columns_from (suc j) cs) +ℤ signed s x) (sym (parts_step n j))

pub put_total : (s : Bool) (n : ℕ) (before after : List ℤ) → length before ≡ 64 → length after ≡ 64 → n < 2 ^ 2048 → Gains s n before after
    → column_total after ≡ column_total before +ℤ signed s n
put_total s n before after lb la small gains =
    total_gain 0 s n before after (la ∙ sym lb) (subst (λ (x : ℕ). n < 2 ^ (32 * (0 + x))) (sym lb) small)
    (λ i l. gains i (subst (λ (x : ℕ). i < x) lb l) ∙ ap (λ (x : ℕ). slice_index_or before i (pos 0) +ℤ signed s (part_of n x)) (sym (zero-add i)))
    ∙ ap (λ (x : ℕ). column_total before +ℤ signed s x) (mul-one (n / 1) ∙ div-one n)

-- ---- three changed columns

-- v at column k, nothing elsewhere
abbrev pub at : ℕ → ℕ → ℤ → ℤ
at k j v = cond (j == k) v (pos 0)

one_gain : (cs : List ℤ) (k : ℕ) (v : ℤ) (j : ℕ) → k < length cs → slice_index_or (slice_set cs k (slice_index_or cs k (pos 0) +ℤ v)) j (pos 0) ≡ slice_index_or cs j (pos 0) +ℤ at k j v
one_gain cs k v j l = go (j == k) refl
  where
    go : (b : Bool) → (j == k) ≡ b → slice_index_or (slice_set cs k (slice_index_or cs k (pos 0) +ℤ v)) j (pos 0) ≡ slice_index_or cs j (pos 0) +ℤ cond b v (pos 0)
    go true e = let h : j ≡ k = eqb-true j k e in ap (λ (x : ℕ). get_or (slice_set cs k (slice_index_or cs k (pos 0) +ℤ v)) x (pos 0)) h ∙ get_or-set_same cs k (slice_index_or cs k (pos 0) +ℤ v) (pos 0) l ∙ ap (λ (x : ℕ). slice_index_or cs x (pos 0) +ℤ v) (sym h)
    go false e = get_or-set_other cs k j (slice_index_or cs k (pos 0) +ℤ v) (pos 0) (eqb-false j k e) ∙ sym (+ℤ_idr (slice_index_or cs j (pos 0)))

-- what column j gains where the parts x, y, z go to columns q, q + 1 and q + 2
abbrev pub three : ℕ → ℕ → ℤ → ℤ → ℤ → ℤ
three q j x y z = (at q j x +ℤ at (q + 1) j y) +ℤ at (q + 2) j z

same_at : (k j : ℕ) (v : ℤ) → j ≡ k → at k j v ≡ v
same_at k j v e = ap (λ (b : Bool). cond b v (pos 0)) (eq-eqb j k e)

other_at : (k j : ℕ) (v : ℤ) → (j ≢ k) → at k j v ≡ pos 0
other_at k j v e = ap (λ (b : Bool). cond b v (pos 0)) (ne_eqb j k e)

only : (q j : ℕ) (x y z a b c : ℤ) → at q j x ≡ a → at (q + 1) j y ≡ b → at (q + 2) j z ≡ c → three q j x y z ≡ (a +ℤ b) +ℤ c
only q j x y z a b c e f g = ap₂ ◌+ℤ◌ (ap₂ ◌+ℤ◌ e f) g

plus_none : (a : ℤ) → (a +ℤ pos 0) +ℤ pos 0 ≡ a
plus_none a = +ℤ_idr (a +ℤ pos 0) ∙ +ℤ_idr a

none_plus : (a : ℤ) → (pos 0 +ℤ a) +ℤ pos 0 ≡ a
none_plus a = +ℤ_idr (pos 0 +ℤ a) ∙ +ℤ_idl a

none-none_plus : (a : ℤ) → (pos 0 +ℤ pos 0) +ℤ a ≡ a
none-none_plus a = +ℤ_idl a

-- a number below 2^96 has three parts
high_part : (n i : ℕ) → n < 2 ^ 96 → part_of n (suc (suc (suc i))) ≡ 0
high_part n i h = ap (λ (x : ℕ). x % 2 ^ 32) (div-eq_of_lt (lt_of_lt_of_le h (pow_mono {i = 96} {j = 32 * suc (suc (suc i))} (omega arith))))

three_from : (q j : ℕ) (f : ℕ → ℤ) → ((k : ℕ) → f (suc (suc (suc k))) ≡ pos 0) → (i : ℕ) → j ≡ q + i → three q j (f 0) (f 1) (f 2) ≡ f i
three_from q j f h zero e =
    only q j (f 0) (f 1) (f 2) (f 0) (pos 0) (pos 0) (same_at q j (f 0) (omega arith)) (other_at (q + 1) j (f 1) (λ k. omega arith)) (other_at (q + 2) j (f 2) (λ k. omega arith)) ∙ plus_none (f 0)
three_from q j f h (suc zero) e =
    only q j (f 0) (f 1) (f 2) (pos 0) (f 1) (pos 0) (other_at q j (f 0) (λ k. omega arith)) (same_at (q + 1) j (f 1) (omega arith)) (other_at (q + 2) j (f 2) (λ k. omega arith)) ∙ none_plus (f 1)
three_from q j f h (suc (suc zero)) e =
    only q j (f 0) (f 1) (f 2) (pos 0) (pos 0) (f 2) (other_at q j (f 0) (λ k. omega arith)) (other_at (q + 1) j (f 1) (λ k. omega arith)) (same_at (q + 2) j (f 2) (omega arith)) ∙ none-none_plus (f 2)
three_from q j f h (suc (suc (suc i))) e =
    only q j (f 0) (f 1) (f 2) (pos 0) (pos 0) (pos 0) (other_at q j (f 0) (λ k. omega arith)) (other_at (q + 1) j (f 1) (λ k. omega arith)) (other_at (q + 2) j (f 2) (λ k. omega arith)) ∙ sym (h i)

three-below : (q j : ℕ) (x y z : ℤ) → j < q → three q j x y z ≡ pos 0
three-below q j x y z h = only q j x y z (pos 0) (pos 0) (pos 0) (other_at q j x (λ k. omega arith)) (other_at (q + 1) j y (λ k. omega arith)) (other_at (q + 2) j z (λ k. omega arith))

pub three-parts : (s : Bool) (n q j : ℕ) → n < 2 ^ 96
    → three q j (signed s (part_of n 0)) (signed s (part_of n 1)) (signed s (part_of n 2)) ≡ signed s (part_of (n * 2 ^ (32 * q)) j)
three-parts s n q j h = go (nat_lt j q) (ltb→lt j q) (nltb→le j q)
  where
    go : (b : Bool) → (T b → j < q) → (T (not b) → q ≤ j) → three q j (signed s (part_of n 0)) (signed s (part_of n 1)) (signed s (part_of n 2)) ≡ signed s (part_of (n * 2 ^ (32 * q)) j)
    go true l g = three-below q j _ _ _ (l tt) ∙ sym (ap (signed s) (part_below n q j (l tt)) ∙ signed-zero s)
    go false l g =
        let e : j ≡ q + (j - q) = omega (arith, g tt) in
        three_from q j (λ (i : ℕ). signed s (part_of n i)) (λ k. ap (signed s) (high_part n k h) ∙ signed-zero s) (j - q) e
        ∙ ap (signed s) (sym (part_above n q (j - q)) ∙ ap (λ (k : ℕ). part_of (n * 2 ^ (32 * q)) k) (sym e))

-- b is cs with v added to column k
abbrev pub Added : List ℤ → ℕ → ℤ → List ℤ → Type 0
Added cs k v b = b ≡ slice_set cs k (slice_index_or cs k (pos 0) +ℤ v)

added_gain : (cs b : List ℤ) (k : ℕ) (v : ℤ) (j : ℕ) → Added cs k v b → k < length cs → slice_index_or b j (pos 0) ≡ slice_index_or cs j (pos 0) +ℤ at k j v
added_gain cs b k v j e l = ap (λ (x : List ℤ). get_or x j (pos 0)) e ∙ one_gain cs k v j l

added_length : (cs b : List ℤ) (k : ℕ) (v : ℤ) → Added cs k v b → length b ≡ length cs
added_length cs b k v e = ap length e ∙ length-set cs k (slice_index_or cs k (pos 0) +ℤ v)

zero-at : (k j : ℕ) (v : ℤ) → v ≡ pos 0 → at k j v ≡ pos 0
zero-at k j v h = go (j == k)
  where
    go : (b : Bool) → cond b v (pos 0) ≡ pos 0
    go true = h
    go false = refl

-- the columns after two parts, the third being nothing, and after three
pub two_gains : (cs b d : List ℤ) (q : ℕ) (x y z : ℤ) → Added cs q x b → Added b (q + 1) y d → z ≡ pos 0 → q + 1 < length cs
    → (j : ℕ) → slice_index_or d j (pos 0) ≡ slice_index_or cs j (pos 0) +ℤ three q j x y z
two_gains cs b d q x y z e f h l j =
    added_gain b d (q + 1) y j f (subst (λ (n : ℕ). q + 1 < n) (sym (added_length cs b q x e)) l)
    ∙ ap (λ (v : ℤ). v +ℤ at (q + 1) j y) (added_gain cs b q x j e (omega arith))
    ∙ grouped (slice_index_or cs j (pos 0)) (at q j x) (at (q + 1) j y) (at (q + 2) j z) (zero-at (q + 2) j z h)
  where
    grouped : (a b c d : ℤ) → d ≡ pos 0 → (a +ℤ b) +ℤ c ≡ a +ℤ ((b +ℤ c) +ℤ d)
    grouped a b c d h = omega (arith, ints)

pub three_gains : (cs b d g : List ℤ) (q : ℕ) (x y z : ℤ) → Added cs q x b → Added b (q + 1) y d → Added d (q + 2) z g → q + 2 < length cs
    → (j : ℕ) → slice_index_or g j (pos 0) ≡ slice_index_or cs j (pos 0) +ℤ three q j x y z
three_gains cs b d g q x y z e f h l j =
    let lb : length b ≡ length cs = added_length cs b q x e in
    let ld : length d ≡ length cs = added_length b d (q + 1) y f ∙ lb in
    added_gain d g (q + 2) z j h (subst (λ (n : ℕ). q + 2 < n) (sym ld) l)
    ∙ ap (λ (v : ℤ). v +ℤ at (q + 2) j z) (added_gain b d (q + 1) y j f (subst (λ (n : ℕ). q + 1 < n) (sym lb) (omega arith)))
    ∙ ap (λ (v : ℤ). (v +ℤ at (q + 1) j y) +ℤ at (q + 2) j z) (added_gain cs b q x j e (omega arith))
    ∙ grouped (slice_index_or cs j (pos 0)) (at q j x) (at (q + 1) j y) (at (q + 2) j z)
  where
    grouped : (a b c d : ℤ) → ((a +ℤ b) +ℤ c) +ℤ d ≡ a +ℤ ((b +ℤ c) +ℤ d)
    grouped a b c d = omega (arith, ints)

-- ---- the parts of P × 2^R, as the code has them

module _ (P R : ℕ) (short : P ≤ 2 ^ 52) where
  moved : ℕ
  moved = P * 2 ^ (R % 32)

  moved-short : moved < 2 ^ 84
  unfolding moved
  moved-short = let r : 2 ^ (R % 32) ≤ 2 ^ 31 = pow_mono {i = R % 32} {j = 31} (omega arith) in lt_of_le_of_lt (mul-le-mul short r) (lit< tt)

  moved-whole : P * 2 ^ (R % 32) % 2 ^ 128 ≡ moved
  unfolding moved
  moved-whole = mod-eq_of_lt (lt_of_lt_of_le moved-short (lit≤ tt))

  pub third_fits : P * 2 ^ (R % 32) % 2 ^ 128 / 2 ^ 32 / 2 ^ 32 < 2 ^ 32
  third_fits = subst (λ (n : ℕ). n / 2 ^ 32 / 2 ^ 32 < 2 ^ 32) (sym moved-whole) (cut moved moved-short)
    where
      cut : (n : ℕ) → n < 2 ^ 84 → n / 2 ^ 32 / 2 ^ 32 < 2 ^ 32
      cut n h = omega arith

  -- where the columns end, the third part is nothing
  pub third_nothing : R ≤ 1990 → R / 32 ≡ 62 → P * 2 ^ (R % 32) % 2 ^ 128 / 2 ^ 32 / 2 ^ 32 ≡ 0
  unfolding moved
  third_nothing top h =
      let r : 2 ^ (R % 32) ≤ 2 ^ 6 = pow_mono {i = R % 32} {j = 6} (omega arith) in
      ap (λ (x : ℕ). x / 2 ^ 32 / 2 ^ 32) moved-whole ∙ cut moved (lt_of_le_of_lt (mul-le-mul short r) (lit< tt))
    where
      cut : (n : ℕ) → n < 2 ^ 64 → n / 2 ^ 32 / 2 ^ 32 ≡ 0
      cut n h = omega arith

  moved_back : moved * 2 ^ (32 * (R / 32)) ≡ P * 2 ^ R
  unfolding moved
  moved_back =
      mul_assoc P (2 ^ (R % 32)) (2 ^ (32 * (R / 32)))
      ∙ ap (λ (x : ℕ). P * x) (sym (pow-add 2 (R % 32) (32 * (R / 32))) ∙ ap (λ (x : ℕ). 2 ^ x) {x = R % 32 + 32 * (R / 32)} {y = R} (omega arith))

  pub code-parts : (s : Bool) (j : ℕ) → let n = P * 2 ^ (R % 32) % 2 ^ 128 in
      three (R / 32) j (signed s (n % 2 ^ 32)) (signed s (n / 2 ^ 32 % 2 ^ 32)) (signed s (n / 2 ^ 32 / 2 ^ 32)) ≡ signed s (part_of (P * 2 ^ R) j)
  code-parts s j =
      ap (λ (n : ℕ). three (R / 32) j (signed s (n % 2 ^ 32)) (signed s (n / 2 ^ 32 % 2 ^ 32)) (signed s (n / 2 ^ 32 / 2 ^ 32))) moved-whole
      ∙ ap₂ (λ (a b : ℕ). three (R / 32) j (signed s a) (signed s (moved / 2 ^ 32 % 2 ^ 32)) (signed s b)) (ap (λ (x : ℕ). x % 2 ^ 32) (sym (div-one moved))) (last moved moved-short)
      ∙ three-parts s moved (R / 32) j (lt_of_lt_of_le moved-short (lit≤ tt))
      ∙ ap (λ (x : ℕ). signed s (part_of x j)) moved_back
    where
      last : (n : ℕ) → n < 2 ^ 84 → n / 2 ^ 32 / 2 ^ 32 ≡ n / 2 ^ 64 % 2 ^ 32
      last n h = omega arith

-- ---- empty columns

pub none_total : (j n : ℕ) → columns_from j (replicate n (pos 0)) ≡ pos 0
unfolding columns_from
none_total j zero = refl
none_total j (suc n) = ap₂ ◌+ℤ◌ {x = pos 0 *ℤ pos (2 ^ (32 * j))} {y = pos 0} (ap pos (zero-mul (2 ^ (32 * j)))) (none_total (suc j) n)

pub none_bounded : (n j : ℕ) → unsigned_abs (slice_index_or (replicate n (pos 0)) j (pos 0)) ≤ 0
none_bounded zero j = omega arith
none_bounded (suc n) zero = omega arith
none_bounded (suc n) (suc j) = none_bounded n j
