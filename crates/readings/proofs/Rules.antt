-- The laws of rounding, proved once for all directions and both formats. Assumes nothing.
use Rattle.std.proofs.Common.{◌≡◌, ℕ, suc, ◌+◌, ◌*◌, ◌^◌, ◌<◌, ◌≤◌, Bool, true, false, cond, leb, ℤ, pos, negsuc, nat_abs, ◌≤ℤ◌, ◌<ℤ◌, Some, Ok, Err, Result, sym, refl, ap, ◌∙◌, subst, inl, inr, le_trans, le_of_eq, lt_of_lt_of_le, lt_irrefl, mul-le-mul_right, le_antisymm, one-mul, arith, lit≤}
use borrow.Author.Differences.{ints}
use lib.Arith.{digits_lt}
use lib.Signed.{clash_ℤ}
use lib.Ieee.{Format, binary32, binary64, hid, top}
use Rattle.std.proofs.lemmas.Int.{by_lt_z}
use Rattle.numbers.specs.Units.{signed}
use Rattle.readings.specs.declared.forms.Direction.{Direction}
use Rattle.readings.specs.declared.forms.Direction.TheVariants.{Nearest, TowardZero, Up, Down}
use Rattle.numbers.specs.declared.refusal.Refusal.{Refusal}
use Rattle.readings.specs.declared.forms.Width.{Width}
use Rattle.readings.specs.declared.forms.Width.TheVariants.{Long, Short}
use Rattle.readings.specs.Formats.{Encodes, lowest}
use Rattle.readings.specs.Readings.{LongReading, ShortReading, TooLarge, short_limit, ReadsIn}
use Rattle.readings.specs.Rounding.{LeastAbove, GreatestBelow, distance, Preferred, Directed, negative, Rounds}
use Rattle.readings.specs.Laws.{SubnormalValue, NormalValue, AtMostOne, KeepsOrder, Exact, UpLaw, DownLaw, TowardZeroLaw, NearestLaw, TieLaw, ZeroLaw, SameAnswer, OneAnswer, RoundingLaws}
use Rattle.readings.proofs.Cases.{lt_or_ge}
use Rattle.readings.proofs.Grid.{magnitude_low, magnitude_field}
use Rattle.readings.proofs.Patterns.{grid_size, places_lt, place-encodes, place-value, found, sign_of, some_same}
use Rattle.readings.proofs.Sizes.{grid_lt, grid_zero}
use Rattle.readings.proofs.Directions.{places_pos, two_ones, rounded-rounds}

-- ---- a pattern has one value, and a value and a sign one pattern

pub one_value : (f : Format) (b : ℕ) (v w : ℤ) → Encodes f b v → Encodes f b w → v ≡ w
one_value f b v w e g = some_same v w (sym e.value ∙ g.value)

size-one : (s : Bool) (m n : ℕ) → signed s m ≡ signed s n → m ≡ n
size-one false m n e = omega (arith, ints)
size-one true m n e = omega (arith, ints)

place-one : (f : Format) (p c : ℕ) → grid_size f p ≡ grid_size f c → p ≡ c
place-one f p c e = elim (lt_or_ge p c) [
  | inl l ↦ absurd (lt_irrefl (grid_size f p) (subst (λ (a : ℕ). grid_size f p < a) (sym e) (grid_lt f p c l)))
  | inr g ↦ elim (lt_or_ge c p) [
    | inl l ↦ absurd (lt_irrefl (grid_size f c) (subst (λ (a : ℕ). grid_size f c < a) e (grid_lt f c p l)))
    | inr k ↦ le_antisymm k g
  ]
]

pub one-pattern : (f : Format) (b c : ℕ) (v w : ℤ) → v ≡ w → leb (top f) b ≡ leb (top f) c → Encodes f b v → Encodes f c w → b ≡ c
one-pattern f b c v w e s p q =
    let g = found f b v p in
    let h = found f c w q in
    let t : g.sign ≡ h.sign = sym g.test ∙ s ∙ h.test in
    let z : signed g.sign (grid_size f g.place) ≡ signed g.sign (grid_size f h.place) =
    sym g.value ∙ e ∙ h.value ∙ ap (λ (a : Bool). signed a (grid_size f h.place)) (sym t) in
    let i : g.place ≡ h.place = place-one f g.place h.place (size-one g.sign (grid_size f g.place) (grid_size f h.place) z) in
    g.is ∙ ap (λ (a : Bool). cond a (top f) 0 + g.place) t ∙ ap (λ (a : ℕ). cond h.sign (top f) 0 + a) i ∙ sym h.is

zero-encodes : (f : Format) → Encodes f 0 (pos 0)
zero-encodes f = subst (λ (a : ℕ). Encodes f 0 (pos a)) (grid_zero f) (place-encodes f false 0 (places_pos f))

-- ---- order

up-order : (f : Format) (x y v w : ℤ) (c : ℕ) → x ≤ℤ y → LeastAbove f x v → LeastAbove f y w → Encodes f c w → v ≤ℤ w
up-order f x y v w c h p q e = p.1 c w e (let k = q.0 in omega (arith, ints))

down-order : (f : Format) (x y v w : ℤ) (b : ℕ) → x ≤ℤ y → GreatestBelow f x v → GreatestBelow f y w → Encodes f b v → v ≤ℤ w
down-order f x y v w b h p q e = q.1 b v e (let k = p.0 in omega (arith, ints))

zero-order : (f : Format) (x y v w : ℤ) (b c : ℕ) → x ≤ℤ y → Directed f TowardZero x b v → Directed f TowardZero y c w → Encodes f b v → Encodes f c w → v ≤ℤ w
zero-order f (pos m) (pos n) v w b c h p q e g = down-order f (pos m) (pos n) v w b h (p.0 (omega (arith, ints))) (q.0 (omega (arith, ints))) e
zero-order f (negsuc m) (negsuc n) v w b c h p q e g = up-order f (negsuc m) (negsuc n) v w c h (p.1 (omega (arith, ints))) (q.1 (omega (arith, ints))) g
zero-order f (pos m) (negsuc n) v w b c h p q e g = absurd (omega (arith, ints))
zero-order f (negsuc m) (pos n) v w b c h p q e g =
    let k1 : v ≤ℤ pos 0 = (p.1 (omega (arith, ints))).1 0 (pos 0) (zero-encodes f) (omega (arith, ints)) in
    let k2 : pos 0 ≤ℤ w = (q.0 (omega (arith, ints))).1 0 (pos 0) (zero-encodes f) (omega (arith, ints)) in
    omega (arith, ints)

-- two totals whose nearest numbers are the wrong way round are one total in the middle
middle : (x y v w : ℤ) → x ≤ℤ y → w <ℤ v → distance x v ≤ distance x w → distance y w ≤ distance y v → (x ≡ y) × (distance x v ≡ distance x w) × (distance y w ≡ distance y v)
middle x y v w h l p q = (omega (arith, ints), omega (arith, ints), omega (arith, ints))

-- the tie rule prefers one of two numbers of one sign only, unless they are equal
tie-one : (s : Bool) (m n b c : ℕ) → Preferred b (signed s m) c (signed s n) → Preferred c (signed s n) b (signed s m) → m ≡ n
tie-one false m n b c p q = le_antisymm q.away p.away
tie-one true m n b c p q = let h = p.away in let k = q.away in omega (arith, ints)

nearest-order : (f : Format) (x y v w : ℤ) (b c : ℕ) → x ≤ℤ y → Directed f Nearest x b v → Directed f Nearest y c w
    → leb (top f) b ≡ negative x → leb (top f) c ≡ negative y → Encodes f b v → Encodes f c w → v ≤ℤ w
nearest-order f x y v w b c h p q s t e g = by_lt_z w v wrong (λ k. k)
  where
    wrong : w <ℤ v → v ≤ℤ w
    wrong l =
        let m = middle x y v w h l (p.0 c w g) (q.0 b v e) in
        let i = found f b v e in
        let j = found f c w g in
        let same : i.sign ≡ j.sign = sym i.test ∙ s ∙ ap negative m.0 ∙ sym t ∙ j.test in
        let one : Preferred b v c w = p.1 c w g m.1 in
        let two : Preferred c w b v = q.1 b v e m.2 in
        let iv : v ≡ signed j.sign (grid_size f i.place) = i.value ∙ ap (λ (a : Bool). signed a (grid_size f i.place)) same in
        let sizes : grid_size f i.place ≡ grid_size f j.place =
        tie-one j.sign (grid_size f i.place) (grid_size f j.place) b c
        (subst (λ (a : ℤ). Preferred b a c (signed j.sign (grid_size f j.place))) iv (subst (λ (a : ℤ). Preferred b v c a) j.value one))
        (subst (λ (a : ℤ). Preferred c (signed j.sign (grid_size f j.place)) b a) iv (subst (λ (a : ℤ). Preferred c a b v) j.value two)) in
        let equal : v ≡ w = iv ∙ ap (λ (a : ℕ). signed j.sign a) sizes ∙ sym j.value in
        omega (arith, ints)

order : (f : Format) (d : Direction) (x y v w : ℤ) (b c : ℕ) → x ≤ℤ y → Directed f d x b v → Directed f d y c w
    → leb (top f) b ≡ negative x → leb (top f) c ≡ negative y → Encodes f b v → Encodes f c w → v ≤ℤ w
order f Nearest x y v w b c h p q s t e g = nearest-order f x y v w b c h p q s t e g
order f TowardZero x y v w b c h p q s t e g = zero-order f x y v w b c h p q e g
order f Up x y v w b c h p q s t e g = up-order f x y v w c h p q g
order f Down x y v w b c h p q s t e g = down-order f x y v w b h p q e

-- ---- the value that a rounding has is the one that its pattern encodes

pub directed_at : (f : Format) (d : Direction) (x : ℤ) (b : ℕ) (v : ℤ) → Rounds f d x b → Encodes f b v → Directed f d x b v
directed_at f d x b v r e = subst (λ (a : ℤ). Directed f d x b a) (one_value f b r.number v r.encodes e) r.rounds

pub keeps_order : KeepsOrder
keeps_order f d x y b c v w h p q e g = order f d x y v w b c h (directed_at f d x b v p e) (directed_at f d y c w q g) p.sign q.sign e g

pub at_most_one : AtMostOne
at_most_one f d x b c p q =
    let l : p.number ≤ℤ q.number = keeps_order f d x x b c p.number q.number (omega (arith, ints)) p q p.encodes q.encodes in
    let g : q.number ≤ℤ p.number = keeps_order f d x x c b q.number p.number (omega (arith, ints)) q p q.encodes p.encodes in
    one-pattern f b c p.number q.number (omega (arith, ints)) (p.sign ∙ sym q.sign) p.encodes q.encodes

-- ---- exact

stays : (f : Format) (d : Direction) (x v : ℤ) (b c : ℕ) → Encodes f c x → Directed f d x b v → v ≡ x
stays f Nearest x v b c e r = let h : distance x v ≤ distance x x = r.0 c x e in omega (arith, ints)
stays f TowardZero x v b c e r = by_lt_z x (pos 0)
    (λ l. let k = r.1 (omega (arith, ints)) in let i = k.0 in let j = k.1 c x e (omega (arith, ints)) in omega (arith, ints))
    (λ l. let k = r.0 l in let i = k.0 in let j = k.1 c x e (omega (arith, ints)) in omega (arith, ints))
stays f Up x v b c e r = let i = r.0 in let j = r.1 c x e (omega (arith, ints)) in omega (arith, ints)
stays f Down x v b c e r = let i = r.0 in let j = r.1 c x e (omega (arith, ints)) in omega (arith, ints)

pub exact : Exact
exact f d x b c e r = subst (λ (a : ℤ). Encodes f b a) (stays f d x r.number b c e r.rounds) r.encodes

-- ---- each direction in words

pub up_law : UpLaw
up_law f x b v r e = let d = directed_at f Up x b v r e in (d.0, λ c w g h l. clash_ℤ l (d.1 c w g h))

pub down_law : DownLaw
down_law f x b v r e = let d = directed_at f Down x b v r e in (d.0, λ c w g h l. clash_ℤ l (d.1 c w g h))

pub nearest_law : NearestLaw
nearest_law f x b c v w r e g = let d = directed_at f Nearest x b v r e in (d.0 c w g, d.1 c w g)

-- ---- the value of a pattern by its fields

pub subnormal_value : SubnormalValue
unfolding grid_size
subnormal_value f s t h =
    place-value f s t (lt_of_lt_of_le h (le_trans (le_of_eq (sym (one-mul (hid f)))) (mul-le-mul_right (hid f) (le_trans (lit≤ tt) (two_ones f)))))
    ∙ ap (λ (a : ℕ). Some (signed s (a * 2 ^ lowest f))) (magnitude_low (hid f) t h)

pub normal_value : NormalValue
unfolding grid_size
normal_value f s e t h k =
    place-value f s (suc e * hid f + t) (digits_lt h k) ∙ ap (λ (a : ℕ). Some (signed s (a * 2 ^ lowest f))) (magnitude_field (hid f) e t k)

-- ---- toward zero

pub toward_zero_law : TowardZeroLaw
toward_zero_law f (pos n) a b c u v w p q r e g h =
    let d = (directed_at f TowardZero (pos n) b v q g).0 (omega (arith, ints)) in
    let down : Rounds f Down (pos n) b = record { number = v; encodes = g; sign = q.sign; rounds = d } in
    let same : b ≡ a = at_most_one f Down (pos n) b a down p in
    let equal : v ≡ u = one_value f a v u (subst (λ (i : ℕ). Encodes f i v) same g) e in
    let zero : pos 0 ≤ℤ v = d.1 0 (pos 0) (zero-encodes f) (omega (arith, ints)) in
    let under : v ≤ℤ pos n = d.0 in
    let over : pos n ≤ℤ w = (up_law f (pos n) c w r h).0 in
    (inl same, le_of_eq (ap nat_abs equal), omega (arith, ints))
toward_zero_law f (negsuc n) a b c u v w p q r e g h =
    let d = (directed_at f TowardZero (negsuc n) b v q g).1 (omega (arith, ints)) in
    let up : Rounds f Up (negsuc n) b = record { number = v; encodes = g; sign = q.sign; rounds = d } in
    let same : b ≡ c = at_most_one f Up (negsuc n) b c up r in
    let equal : v ≡ w = one_value f c v w (subst (λ (i : ℕ). Encodes f i v) same g) h in
    let zero : v ≤ℤ pos 0 = d.1 0 (pos 0) (zero-encodes f) (omega (arith, ints)) in
    let over : negsuc n ≤ℤ v = d.0 in
    let under : u ≤ℤ negsuc n = (down_law f (negsuc n) a u p e).0 in
    (inr same, omega (arith, ints), le_of_eq (ap nat_abs equal))

pub tie_law : TieLaw
tie_law b c v w p = p.away

pub zero_law : ZeroLaw
zero_law f d b r =
    let e = exact f d (pos 0) b 0 (zero-encodes f) r in
    let s : leb (top f) 0 ≡ false = sign_of f false 0 (places_lt f 0 (places_pos f)) in
    one-pattern f b 0 (pos 0) (pos 0) refl (r.sign ∙ sym s) e (zero-encodes f)

pub rounding_laws_lem : RoundingLaws
rounding_laws_lem = record {
  subnormal_value = subnormal_value;
  normal_value = normal_value;
  exists = rounded-rounds;
  at_most_one = at_most_one;
  keeps_order = keeps_order;
  exact = exact;
  up = up_law;
  down = down_law;
  toward_zero = toward_zero_law;
  nearest = nearest_law;
  tie = tie_law;
  zero = zero_law;
}

-- ---- readings

-- two long readings of one total have one number
same-long : (d : Direction) (x : ℤ) (b c : ℕ) (v w : ℤ) → LongReading d x b v → LongReading d x c w → v ≡ w
same-long d x b c v w p q =
    let e : b ≡ c = at_most_one binary64 d x b c p.rounds q.rounds in
    one_value binary64 c v w (subst (λ (a : ℕ). Encodes binary64 a v) e p.encodes) q.encodes

clash : (d : Direction) (x : ℤ) (b : ℕ) → ShortReading d x b → TooLarge d x → ⊥
clash d x b p q =
    let e : p.number ≡ q.number = same-long d x p.pattern q.pattern p.number q.number p.long q.long in
    lt_irrefl short_limit (lt_of_lt_of_le q.large (subst (λ (v : ℤ). nat_abs v ≤ short_limit) e p.small))

one_in : (w : Width) (d : Direction) (x : ℤ) (r s : Result ℕ Refusal) → ReadsIn w d x r → ReadsIn w d x s → SameAnswer r s
one_in Long d x (Ok a) (Ok b) p q = at_most_one binary64 d x a b p q
one_in Long d x (Ok a) (Err e) p q = q
one_in Long d x (Err e) s p q = absurd p
one_in Short d x (Ok a) (Ok b) p q =
    let e : p.number ≡ q.number = same-long d x p.pattern q.pattern p.number q.number p.long q.long in
    at_most_one binary32 d q.number a b (subst (λ (v : ℤ). Rounds binary32 d v a) e p.rounds) q.rounds
one_in Short d x (Ok a) (Err e) p q = clash d x a p q.0
one_in Short d x (Err e) (Ok b) p q = clash d x b q p.0
one_in Short d x (Err e) (Err g) p q = (p.1.0 ∙ sym q.1.0, p.1.1 ∙ sym q.1.1, p.1.2 ∙ sym q.1.2)

pub one_answer : OneAnswer
one_answer form x r s p q = one_in form.width form.direction x r s p q
