-- Numbers written in limbs of 64 bits: one limb changed, the lowest limbs, a limb read back. Assumes nothing.
use Rattle.std.proofs.Common.{◌≡◌, ◌++◌, append-nil, length-take-le, ℕ, Bool, not, eqb, ◌||◌, ltb, lt→ltb, zero, suc, ◌+◌, ◌-◌, ◌*◌, ◌/◌, ◌%◌, ◌^◌, ◌<◌, ◌≤◌, ◌≢◌, List, [], ◌∷◌, length, get_or, take, drop, set, sym, refl, ap, ◌∙◌, subst, le_trans, le_of_eq, le_refl, le_of_suc-le-suc, not-suc-le-zero, add-zero, add-suc, mul-le-mul_right, zero-lt-suc, mul_assoc, suc-mul, mul_comm, add-mul, add-sub_of_le, add_comm, le_antisymm, lt_of_not-le, zero-mul, not-le_of_lt, mul_left_comm, le-add_left, add-one, arith, pow_pos, pow_mono, pow-add, shl_exact, shr-shr}
use native.Mathlib.Nat.{mul-add-mod_self_left}
use lib.Arith.{digits_div, digits_mod, digits_lt}
use lib.Pow.{field, mod-pow-add}
use borrow.Rule.Slice.PartMut.{put_mid, mid_of, post_of}
use lib.Count.{count_leading_zeros, leading_top}
use lib.Dec.{eqb-suc-zero}
use lib.Ieee.{size}
use lib.Ieee.Bits.{is_true}
use lib.Ieee.Digits.{size-lt, size-le}
use Rattle.std.proofs.lemmas.List.{drop_all, length-drop, take_all}
use Rattle.std.specs.List.{list_any}
use Rattle.std.specs.Prelude.{◌==◌, EachIndex}
use Rattle.readings.specs.Limbs.{natural}

abbrev pub Limbs : List ℕ → Type 0
Limbs xs = (i : ℕ) → get_or xs i 0 < 2 ^ 64

pub weight_more : (i : ℕ) → 2 ^ (64 * suc i) ≡ 2 ^ 64 * 2 ^ (64 * i)
weight_more i = ap (λ (a : ℕ). 2 ^ a) (omega arith) ∙ pow-add 2 64 (64 * i)

-- a limb's weight one place up
raised : (a i : ℕ) → a * 2 ^ (64 * suc i) ≡ 2 ^ 64 * (a * 2 ^ (64 * i))
raised a i = ap (λ (w : ℕ). a * w) (weight_more i) ∙ mul_left_comm a (2 ^ 64) (2 ^ (64 * i))

pub natural-set : (xs : List ℕ) (i v : ℕ) → i < length xs → natural (set xs i v) + get_or xs i 0 * 2 ^ (64 * i) ≡ natural xs + v * 2 ^ (64 * i)
unfolding natural
natural-set [] i v h = absurd (not-suc-le-zero h)
natural-set (x ∷ xs) zero v h = omega arith
natural-set (x ∷ xs) (suc i) v h =
    let ih = natural-set xs i v (le_of_suc-le-suc h) in
    let e1 = raised (get_or xs i 0) i in
    let e2 = raised v i in
    omega arith

pub natural_more : (xs : List ℕ) (i : ℕ) → i < length xs → natural (take (suc i) xs) ≡ natural (take i xs) + get_or xs i 0 * 2 ^ (64 * i)
unfolding natural
natural_more [] i h = absurd (not-suc-le-zero h)
natural_more (x ∷ xs) zero h = omega arith
natural_more (x ∷ xs) (suc i) h =
    let ih = natural_more xs i (le_of_suc-le-suc h) in
    let e1 = raised (get_or xs i 0) i in
    omega arith

-- limbs of which one is written
pub limbs-set : (xs : List ℕ) (i v : ℕ) → Limbs xs → v < 2 ^ 64 → Limbs (set xs i v)
limbs-set [] i v h V j = h j
limbs-set (x ∷ xs) zero v h V zero = V
limbs-set (x ∷ xs) zero v h V (suc j) = h (suc j)
limbs-set (x ∷ xs) (suc i) v h V zero = h 0
limbs-set (x ∷ xs) (suc i) v h V (suc j) = limbs-set xs i v (λ k. h (suc k)) V j

-- a carry on its way: the limb l and the carry c at the weight w become l' and, one place up, c'
pub carry_step : (n n' w l l' c c' t : ℕ) → l + c ≡ l' + c' * 2 ^ 64 → n' + l * w ≡ n + l' * w → n + c * w ≡ t → n' + c' * (2 ^ 64 * w) ≡ t
carry_step n n' w l l' c c' t e set inv =
    let e1 : (l + c) * w ≡ l * w + c * w = add-mul l c w in
    let e2 : (l' + c' * 2 ^ 64) * w ≡ l' * w + c' * 2 ^ 64 * w = add-mul l' (c' * 2 ^ 64) w in
    let e3 : c' * 2 ^ 64 * w ≡ c' * (2 ^ 64 * w) = mul_assoc c' (2 ^ 64) w in
    let e4 : (l + c) * w ≡ (l' + c' * 2 ^ 64) * w = ap (λ (a : ℕ). a * w) e in
    omega arith

-- a borrow on its way: from the limb l the limb o and the borrow b are taken
pub borrow_step : (n n' m m' w l l' o b b' t : ℕ) → l + b' * 2 ^ 64 ≡ l' + o + b → n' + l * w ≡ n + l' * w → m' ≡ m + o * w → n + m ≡ t + b * w → n' + m' ≡ t + b' * (2 ^ 64 * w)
borrow_step n n' m m' w l l' o b b' t e set more inv =
    let e1 : (l + b' * 2 ^ 64) * w ≡ l * w + b' * 2 ^ 64 * w = add-mul l (b' * 2 ^ 64) w in
    let e2 : (l' + o + b) * w ≡ (l' + o) * w + b * w = add-mul (l' + o) b w in
    let e5 : (l' + o) * w ≡ l' * w + o * w = add-mul l' o w in
    let e3 : b' * 2 ^ 64 * w ≡ b' * (2 ^ 64 * w) = mul_assoc b' (2 ^ 64) w in
    let e4 : (l + b' * 2 ^ 64) * w ≡ (l' + o + b) * w = ap (λ (a : ℕ). a * w) e in
    omega arith

-- ---- the turns of an addition and of a subtraction

pub add_turn : (xs : List ℕ) (i c t : ℕ) → i < length xs → natural xs + c * 2 ^ (64 * i) ≡ t
    → natural (set xs i ((get_or xs i 0 + c) % 2 ^ 64)) + (get_or xs i 0 + c) / 2 ^ 64 * 2 ^ (64 * (i + 1)) ≡ t
add_turn xs i c t h inv =
    let l = get_or xs i 0 in
    let s = l + c in
    ap (λ (a : ℕ). natural (set xs i (s % 2 ^ 64)) + s / 2 ^ 64 * a) (ap (λ (a : ℕ). 2 ^ (64 * a)) (add-one i) ∙ weight_more i)
    ∙ carry_step (natural xs) (natural (set xs i (s % 2 ^ 64))) (2 ^ (64 * i)) l (s % 2 ^ 64) c (s / 2 ^ 64) t (omega arith) (natural-set xs i (s % 2 ^ 64) h) inv

pub subtract_turn : (xs ys : List ℕ) (i v b b' t : ℕ) → i < length xs → i < length ys → v + get_or ys i 0 + b ≡ get_or xs i 0 + b' * 2 ^ 64
    → natural xs + natural (take i ys) ≡ t + b * 2 ^ (64 * i) → natural (set xs i v) + natural (take (i + 1) ys) ≡ t + b' * 2 ^ (64 * (i + 1))
subtract_turn xs ys i v b b' t h k e inv =
    borrow_step (natural xs) (natural (set xs i v)) (natural (take i ys)) (natural (take (i + 1) ys)) (2 ^ (64 * i)) (get_or xs i 0) v (get_or ys i 0) b b' t
    (sym e) (natural-set xs i v h) (ap (λ (a : ℕ). natural (take a ys)) (add-one i) ∙ natural_more ys i k) inv
    ∙ ap (λ (a : ℕ). t + b' * a) (sym (ap (λ (a : ℕ). 2 ^ (64 * a)) (add-one i) ∙ weight_more i))

-- ---- the limbs below a place and those from it up

pub natural_split : (xs : List ℕ) (i : ℕ) → natural xs ≡ natural (drop i xs) * 2 ^ (64 * i) + natural (take i xs)
unfolding natural
natural_split xs zero = omega arith
natural_split [] (suc i) = sym (add-zero (0 * 2 ^ (64 * suc i)) ∙ zero-mul (2 ^ (64 * suc i)))
natural_split (x ∷ xs) (suc i) =
    let ih = natural_split xs i in
    let e1 = raised (natural (drop i xs)) i in
    omega arith

pub take_lt : (xs : List ℕ) (i : ℕ) → Limbs xs → natural (take i xs) < 2 ^ (64 * i)
unfolding natural
take_lt xs zero h = zero-lt-suc 0
take_lt [] (suc i) h = pow_pos (64 * suc i)
take_lt (x ∷ xs) (suc i) h =
    let ih = take_lt xs i (λ j. h (suc j)) in
    let X : x < 2 ^ 64 = h 0 in
    let e1 = weight_more i in
    omega arith

pub high_limbs : (xs : List ℕ) (i : ℕ) → Limbs xs → natural xs / 2 ^ (64 * i) ≡ natural (drop i xs)
high_limbs xs i h = ap (λ (a : ℕ). a / 2 ^ (64 * i)) (natural_split xs i) ∙ digits_div (natural (drop i xs)) (take_lt xs i h)

pub low_limbs : (xs : List ℕ) (i : ℕ) → Limbs xs → natural xs % 2 ^ (64 * i) ≡ natural (take i xs)
low_limbs xs i h = ap (λ (a : ℕ). a % 2 ^ (64 * i)) (natural_split xs i) ∙ digits_mod (natural (drop i xs)) (take_lt xs i h)

pub first_limb : (xs : List ℕ) (i : ℕ) → natural (drop i xs) ≡ get_or xs i 0 + 2 ^ 64 * natural (drop (suc i) xs)
unfolding natural
first_limb [] zero = refl
first_limb [] (suc i) = refl
first_limb (x ∷ xs) zero = refl
first_limb (x ∷ xs) (suc i) = first_limb xs i

pub natural_lt : (xs : List ℕ) → Limbs xs → natural xs < 2 ^ (64 * length xs)
natural_lt xs h = subst (λ (a : List ℕ). natural a < 2 ^ (64 * length xs)) (take_all (length xs) xs (le_refl (length xs))) (take_lt xs (length xs) h)

-- ---- 64 bits from any bit up

-- what stands 2 * 64 places up does not show
far : (o p r : ℕ) → o ≤ 64 → (p + 2 ^ 64 * (2 ^ 64 * r)) / 2 ^ o % 2 ^ 64 ≡ p / 2 ^ o % 2 ^ 64
far o p r h =
    sym (field (p + 2 ^ 64 * (2 ^ 64 * r)) 64 o)
    ∙ ap (λ (a : ℕ). a / 2 ^ o) same
    ∙ field p 64 o
  where
    w : ℕ
    w = 2 ^ (64 + o)

    e : 2 ^ 64 ≡ 2 ^ o * 2 ^ (64 - o)
    e = ap (λ (a : ℕ). 2 ^ a) (sym (add-sub_of_le h)) ∙ pow-add 2 o (64 - o)

    split : 2 ^ 64 * (2 ^ 64 * r) ≡ 2 ^ (64 + o) * (2 ^ (64 - o) * r)
    split =
        ap (λ (a : ℕ). 2 ^ 64 * (a * r)) e
        ∙ ap (λ (a : ℕ). 2 ^ 64 * a) (mul_assoc (2 ^ o) (2 ^ (64 - o)) r)
        ∙ sym (mul_assoc (2 ^ 64) (2 ^ o) (2 ^ (64 - o) * r))
        ∙ ap (λ (a : ℕ). a * (2 ^ (64 - o) * r)) (sym (pow-add 2 64 o))

    same : (p + 2 ^ 64 * (2 ^ 64 * r)) % 2 ^ (64 + o) ≡ p % 2 ^ (64 + o)
    same =
        ap (λ (a : ℕ). a % 2 ^ (64 + o)) (ap (λ (a : ℕ). p + a) split ∙ add_comm p (2 ^ (64 + o) * (2 ^ (64 - o) * r)))
        ∙ mul-add-mod_self_left (2 ^ (64 + o)) (2 ^ (64 - o) * r) p

by_limbs : (n cut : ℕ) → n / 2 ^ cut ≡ n / 2 ^ (64 * (cut / 64)) / 2 ^ (cut % 64)
by_limbs n cut = let e : 64 * (cut / 64) + cut % 64 ≡ cut = omega arith in sym (shr-shr n (64 * (cut / 64)) (cut % 64) ∙ ap (λ (a : ℕ). n / 2 ^ a) e)

pub read_bits : (xs : List ℕ) (cut : ℕ) → Limbs xs
    → (get_or xs (cut / 64 + 1) 0 * 2 ^ 64 + get_or xs (cut / 64) 0) / 2 ^ (cut % 64) % 2 ^ 64 ≡ natural xs / 2 ^ cut % 2 ^ 64
read_bits xs cut h =
    let i = cut / 64 in
    let o = cut % 64 in
    let O : o ≤ 64 = omega arith in
    let p = get_or xs (i + 1) 0 * 2 ^ 64 + get_or xs i 0 in
    let r = natural (drop (suc (suc i)) xs) in
    let e0 = first_limb xs i in
    let e1 = first_limb xs (suc i) in
    let e2 : get_or xs (i + 1) 0 ≡ get_or xs (suc i) 0 = ap (λ (a : ℕ). get_or xs a 0) (add-one i) in
    let whole : natural (drop i xs) ≡ p + 2 ^ 64 * (2 ^ 64 * r) = omega arith in
    sym (ap (λ (a : ℕ). a % 2 ^ 64) (by_limbs (natural xs) cut ∙ ap (λ (a : ℕ). a / 2 ^ o) (high_limbs xs i h ∙ whole)) ∙ far o p r O)

-- ---- what lies below a bit

pub below_is : (xs : List ℕ) (cut : ℕ) → Limbs xs
    → natural xs % 2 ^ cut ≡ get_or xs (cut / 64) 0 % 2 ^ (cut % 64) * 2 ^ (64 * (cut / 64)) + natural (take (cut / 64) xs)
below_is xs cut h =
    let i = cut / 64 in
    let o = cut % 64 in
    let n = natural xs in
    let O : o ≤ 64 = omega arith in
    let e : o + 64 * i ≡ cut = omega arith in
    let x = get_or xs i 0 in
    let r = natural (drop (suc i) xs) in
    let w : 2 ^ 64 ≡ 2 ^ o * 2 ^ (64 - o) = ap (λ (a : ℕ). 2 ^ a) (sym (add-sub_of_le O)) ∙ pow-add 2 o (64 - o) in
    let low : natural (drop i xs) % 2 ^ o ≡ x % 2 ^ o =
    ap (λ (a : ℕ). a % 2 ^ o) (first_limb xs i ∙ add_comm x (2 ^ 64 * r) ∙ ap (λ (a : ℕ). a * r + x) w ∙ ap (λ (a : ℕ). a + x) (mul_assoc (2 ^ o) (2 ^ (64 - o)) r))
    ∙ mul-add-mod_self_left (2 ^ o) (2 ^ (64 - o) * r) x in
    ap (λ (a : ℕ). n % 2 ^ a) (sym e)
    ∙ mod-pow-add n o (64 * i)
    ∙ ap (λ (a : ℕ). a * 2 ^ (64 * i) + n % 2 ^ (64 * i)) (ap (λ (a : ℕ). a % 2 ^ o) (high_limbs xs i h) ∙ low)
    ∙ ap (λ (a : ℕ). x % 2 ^ o * 2 ^ (64 * i) + a) (low_limbs xs i h)

pub not-zero : (a : ℕ) → not (eqb a 0) ≡ ltb 0 a
not-zero zero = refl
not-zero (suc a) = ap not (eqb-suc-zero a) ∙ sym (is_true (ltb 0 (suc a)) (lt→ltb 0 (suc a) (zero-lt-suc a)))

-- two numbers that are zero together
pub alike : (a b : ℕ) → (a ≡ 0 → b ≡ 0) → (0 < a → 0 < b) → ltb 0 a ≡ ltb 0 b
alike zero b z p = ap (ltb 0) (sym (z refl))
alike (suc a) b z p = is_true (ltb 0 (suc a)) (lt→ltb 0 (suc a) (zero-lt-suc a)) ∙ sym (is_true (ltb 0 b) (lt→ltb 0 b (p (zero-lt-suc a))))

-- some limb is not zero where the number is not
pub any_limb : (xs : List ℕ) → list_any (λ x. not (x == 0)) xs ≡ ltb 0 (natural xs)
unfolding natural
any_limb [] = refl
any_limb (zero ∷ xs) = any_limb xs ∙ alike (natural xs) (0 + 2 ^ 64 * natural xs) (λ h. omega arith) (λ h. omega arith)
any_limb (suc x ∷ xs) =
    ap (λ (b : Bool). b || list_any (λ y. not (y == 0)) xs) (not-zero (suc x) ∙ is_true (ltb 0 (suc x)) (lt→ltb 0 (suc x) (zero-lt-suc x)))
    ∙ sym (is_true (ltb 0 (suc x + 2 ^ 64 * natural xs)) (lt→ltb 0 (suc x + 2 ^ 64 * natural xs) (omega arith)))

-- ---- the number of bits

all-zero : (xs : List ℕ) → EachIndex xs (λ j. get_or xs j 0 ≡ 0) → natural xs ≡ 0
unfolding natural
all-zero [] h = refl
all-zero (x ∷ xs) h =
    let e = all-zero xs (λ j l. h (suc j) (omega arith)) in
    let z : x ≡ 0 = h 0 (omega arith) in
    omega arith

-- with zeros above a limb, the number is made of that limb and those below it
highest : (xs : List ℕ) (t : ℕ) → t < length xs → EachIndex xs (λ j. t < j → get_or xs j 0 ≡ 0) → natural xs ≡ natural (take t xs) + get_or xs t 0 * 2 ^ (64 * t)
unfolding natural
highest [] t l h = absurd (not-suc-le-zero l)
highest (x ∷ xs) zero l h =
    let e = all-zero xs (λ j k. h (suc j) (omega arith) (zero-lt-suc j)) in
    omega arith
highest (x ∷ xs) (suc t) l h =
    let ih = highest xs t (le_of_suc-le-suc l) (λ j k g. h (suc j) (omega arith) (omega arith)) in
    let e1 = raised (get_or xs t 0) t in
    omega arith

-- a number that reaches 2 ^ j has more than j bits
pub size_gt : (n j : ℕ) → 2 ^ j ≤ n → j < size n
size_gt n j h = lt_of_not-le (λ (g : size n ≤ j). not-le_of_lt (size-lt n) (le_trans (pow_mono g) h))

-- a number has as many bits as its highest part, and those below it
pub size_above : (r x k m : ℕ) → r < 2 ^ k → 2 ^ m ≤ x → x < 2 ^ suc m → size (r + x * 2 ^ k) ≡ k + suc m
size_above r x k m R lo hi =
    let n = r + x * 2 ^ k in
    let top : n < 2 ^ (k + suc m) = subst (λ (a : ℕ). n < a) (mul_comm (2 ^ suc m) (2 ^ k) ∙ sym (pow-add 2 k (suc m))) (subst (λ (a : ℕ). a < 2 ^ suc m * 2 ^ k) (add_comm (x * 2 ^ k) r) (digits_lt hi R)) in
    let bottom : 2 ^ (k + m) ≤ n = le_trans (le_of_eq (pow-add 2 k m ∙ mul_comm (2 ^ k) (2 ^ m))) (le_trans (mul-le-mul_right (2 ^ k) lo) (le-add_left (x * 2 ^ k) r)) in
    le_antisymm (size-le n (k + suc m) top) (le_trans (le_of_eq (add-suc k m)) (size_gt n (k + m) bottom))

-- the bits of a number by its highest limb that is not zero
pub top_bits : (xs : List ℕ) (t : ℕ) → Limbs xs → t < length xs → get_or xs t 0 ≢ 0 → EachIndex xs (λ j. t < j → get_or xs j 0 ≡ 0)
    → 64 * t + (64 - count_leading_zeros 64 (get_or xs t 0)) ≡ size (natural xs)
top_bits xs t f l g h =
    let x = get_or xs t 0 in
    let b = leading_top 64 x (omega arith) (f t) in
    let e : 64 * t + (64 - count_leading_zeros 64 x) ≡ 64 * t + suc b.0 = omega (arith, b.1) in
    e ∙ sym (size_above (natural (take t xs)) x (64 * t) b.0 (take_lt xs t f) b.2 b.3) ∙ ap size (sym (highest xs t l h))

pub no_bits : (xs : List ℕ) → EachIndex xs (λ j. get_or xs j 0 ≡ 0) → 0 ≡ size (natural xs)
unfolding size
no_bits xs h = sym (ap size (all-zero xs h))

-- ---- a number that is added at any bit

natural-append : (xs ys : List ℕ) → natural (xs ++ ys) ≡ natural xs + natural ys * 2 ^ (64 * length xs)
unfolding natural
natural-append [] ys = omega arith
natural-append (x ∷ xs) ys =
    let ih = natural-append xs ys in
    let e = raised (natural ys) (length xs) in
    omega arith

-- the limbs from a place up are written anew
put_above : (xs ys : List ℕ) (i k : ℕ) → i + k ≡ length xs → natural (put_mid i k xs ys) ≡ natural ys * 2 ^ (64 * i) + natural (take i xs)
put_above xs ys i k e =
    natural-append (take i xs) (ys ++ post_of i k xs)
    ∙ ap (λ (a : ℕ). natural (take i xs) + natural (ys ++ post_of i k xs) * 2 ^ (64 * a)) (length-take-le i xs (omega (arith, e)))
    ∙ ap (λ (l : List ℕ). natural (take i xs) + natural (ys ++ l) * 2 ^ (64 * i)) (drop_all k (drop i xs) (le_of_eq (length-drop i xs ∙ omega (arith, e))))
    ∙ ap (λ (l : List ℕ). natural (take i xs) + natural l * 2 ^ (64 * i)) (append-nil ys)
    ∙ add_comm (natural (take i xs)) (natural ys * 2 ^ (64 * i))

-- a carry out of what has room is none
no_carry : (n r w m : ℕ) → n + r * w ≡ m → m < w → n ≡ m
no_carry n zero w m e h = let z = zero-mul w in omega arith
no_carry n (suc r) w m e h = let z = suc-mul r w in absurd (omega arith)

pub placed : (xs ys : List ℕ) (i k r s shift : ℕ) → i ≡ shift / 64 → i + k ≡ length xs → s < 2 ^ 64
    → natural ys + r * 2 ^ (64 * length (mid_of i k xs)) ≡ natural (mid_of i k xs) + s * 2 ^ (shift % 64) % 2 ^ 128
    → natural xs + s * 2 ^ shift < 2 ^ (64 * length xs) → natural (put_mid i k xs ys) ≡ natural xs + s * 2 ^ shift
placed xs ys i k r s shift at e S sum room =
    let o = shift % 64 in
    let w = 2 ^ (64 * i) in
    let O : 64 + o ≤ 128 = omega arith in
    let l : length (drop i xs) ≡ k = length-drop i xs ∙ omega arith in
    let mid : mid_of i k xs ≡ drop i xs = take_all k (drop i xs) (le_of_eq l) in
    let h : natural ys + r * 2 ^ (64 * k) ≡ natural (drop i xs) + s * 2 ^ o =
    ap (λ (a : ℕ). natural ys + r * 2 ^ (64 * a)) (sym (ap length mid ∙ l)) ∙ sum ∙ ap (λ (a : List ℕ). natural a + s * 2 ^ o % 2 ^ 128) mid ∙ ap (λ (a : ℕ). natural (drop i xs) + a) (shl_exact 64 o 128 S O) in
    let e1 : (natural ys + r * 2 ^ (64 * k)) * w ≡ (natural (drop i xs) + s * 2 ^ o) * w = ap (λ (a : ℕ). a * w) h in
    let e2 = add-mul (natural ys) (r * 2 ^ (64 * k)) w in
    let e3 = add-mul (natural (drop i xs)) (s * 2 ^ o) w in
    let whole : 64 * k + 64 * i ≡ 64 * length xs = omega arith in
    let part : o + 64 * i ≡ shift = omega arith in
    let e4 : r * 2 ^ (64 * k) * w ≡ r * 2 ^ (64 * length xs) = mul_assoc r (2 ^ (64 * k)) w ∙ ap (λ (a : ℕ). r * a) (sym (pow-add 2 (64 * k) (64 * i)) ∙ ap (λ (a : ℕ). 2 ^ a) whole) in
    let e5 : s * 2 ^ o * w ≡ s * 2 ^ shift = mul_assoc s (2 ^ o) w ∙ ap (λ (a : ℕ). s * a) (sym (pow-add 2 o (64 * i)) ∙ ap (λ (a : ℕ). 2 ^ a) part) in
    let e6 = put_above xs ys i k e in
    let e7 = natural_split xs i in
    no_carry (natural (put_mid i k xs ys)) r (2 ^ (64 * length xs)) (natural xs + s * 2 ^ shift) (omega arith) room
