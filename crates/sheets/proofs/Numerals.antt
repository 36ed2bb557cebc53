-- Digits: how far they run, and the numbers that they write. Assumes nothing.
use Rattle.std.proofs.Common.{◌≡◌, ℕ, zero, suc, ◌+◌, ◌-◌, ◌*◌, ◌/◌, ◌%◌, ◌^◌, ◌<◌, ◌≤◌, min, Bool, true, false, cond, ◌⊎◌, List, [], ◌∷◌, ◌++◌, length, get_or, take, drop, sym, refl, ap, ◌∙◌, subst, inl, inr, append_assoc, add-zero, mul-le-mul_right, mod-lt, mod-eq_of_lt, suc-mul, div-lt_iff_lt-mul, pow-suc, div-add-mod', add-one, arith}
use native.Mathlib.Nat.{pow-zero, div-eq_of_lt, mul-add-div_right, mul-add-mod_self_right}
use Rattle.std.proofs.lemmas.List.{drop_more, drop_all, take_more, take_all, length-take-le, nil_from_length}
use Rattle.std.proofs.lemmas.Bool.{cases_lt, lt-ltb, ltb-true}
use Rattle.std.proofs.lemmas.Bool.Decides.{nat_tests}
use Rattle.sheets.specs.Digits.{worth, digit_byte, is_digit, AllDigits, run, number_on, number_of, last_digits}

-- a run, one digit on
run_cons : (radix m b : ℕ) (bs : List ℕ) → is_digit radix b ≡ true → run radix (suc m) (b ∷ bs) ≡ suc (run radix m bs)
run_cons radix m b bs h = rw h

pub run_more : (radix most : ℕ) (text : List ℕ) (i : ℕ) → i < most → i < length text → is_digit radix (get_or text i 0) ≡ true →
    i + run radix (most - i) (drop i text) ≡ (i + 1) + run radix (most - (i + 1)) (drop (i + 1) text)
run_more radix most text i h l d =
    let e : most - i ≡ suc (most - (i + 1)) = omega arith in
    let s : run radix (most - i) (drop i text) ≡ suc (run radix (most - (i + 1)) (drop (i + 1) text)) = rw (e, drop_more text i 0 l) (run_cons radix (most - (i + 1)) (get_or text i 0) (drop (i + 1) text) d) in
    omega arith

pub run_stop : (radix most : ℕ) (text : List ℕ) (i : ℕ) → i < length text → is_digit radix (get_or text i 0) ≡ false → run radix (most - i) (drop i text) ≡ 0
run_stop radix most text i l d = rw (drop_more text i 0 l) (go (most - i))
  where
    go : (m : ℕ) → run radix m (get_or text i 0 ∷ drop (i + 1) text) ≡ 0
    go zero = refl
    go (suc m) = rw d

-- no digit comes behind the text, nor behind `most` of them
pub run_over : (radix most : ℕ) (text : List ℕ) (i : ℕ) → min most (length text) ≤ i → run radix (most - i) (drop i text) ≡ 0
run_over radix most text i h = go (cases_lt i most)
  where
    none : (m : ℕ) → run radix m [] ≡ 0
    none zero = refl
    none (suc m) = refl

    go : (i < most) ⊎ (most ≤ i) → run radix (most - i) (drop i text) ≡ 0
    go (inl l) = rw (drop_all i text (omega arith)) (none (most - i))
    go (inr l) = let all : most - i ≡ 0 = omega arith in rw all refl

-- the number, one digit on
number_on-append : (radix n : ℕ) (xs ys : List ℕ) → number_on radix n (xs ++ ys) ≡ number_on radix (number_on radix n xs) ys
number_on-append radix n [] ys = refl
number_on-append radix n (x ∷ xs) ys = number_on-append radix (n * radix + worth x) xs ys

pub number_push : (radix : ℕ) (xs : List ℕ) (b : ℕ) → number_of radix (xs ++ (b ∷ [])) ≡ number_of radix xs * radix + worth b
number_push radix xs b = number_on-append radix 0 xs (b ∷ [])

pub number_more : (radix : ℕ) (text : List ℕ) (i : ℕ) → i < length text → number_of radix (take (i + 1) text) ≡ number_of radix (take i text) * radix + worth (get_or text i 0)
number_more radix text i l = ap (number_of radix) (take_more text i 0 l) ∙ number_push radix (take i text) (get_or text i 0)

-- a digit more keeps the number below the next power
pub power_more : (radix i n d : ℕ) → n < radix ^ i → d < radix → n * radix + d < radix ^ (i + 1)
power_more radix i n d h l =
    let e : radix ^ (i + 1) ≡ radix ^ i * radix = rw add-one (pow-suc radix i) in
    let m : suc n * radix ≤ radix ^ i * radix = mul-le-mul_right radix h in
    let a : suc n * radix ≡ n * radix + radix = suc-mul n radix in
    omega arith

-- a run is within the text and within its limit
pub run-within : (radix most : ℕ) (text : List ℕ) → (run radix most text ≤ length text) × (run radix most text ≤ most)
run-within radix zero text = (omega arith, omega arith)
run-within radix (suc most) [] = (omega arith, omega arith)
run-within radix (suc most) (b ∷ bs) = go (is_digit radix b) (run-within radix most bs)
  where
    go : (test : Bool) → (run radix most bs ≤ length bs) × (run radix most bs ≤ most) → (cond test (suc (run radix most bs)) 0 ≤ suc (length bs)) × (cond test (suc (run radix most bs)) 0 ≤ suc most)
    go true h = (omega arith, omega arith)
    go false h = (omega arith, omega arith)

-- the lowest digit goes before those that are written
pub last_more : (radix m n : ℕ) (ds : List ℕ) → last_digits radix (suc m) n ++ ds ≡ last_digits radix m (n / radix) ++ (digit_byte (n % radix) ∷ ds)
unfolding last_digits
last_more radix m n ds = append_assoc (last_digits radix m (n / radix)) (digit_byte (n % radix) ∷ []) ds

-- a digit and its byte
pub worth-byte : (d : ℕ) → d < 16 → worth (digit_byte d) ≡ d
worth-byte d h = grind (arith, nat_tests)

pub byte_worth : (radix b : ℕ) → radix ≤ 16 → is_digit radix b ≡ true → digit_byte (worth b) ≡ b
byte_worth radix b h d = let small : worth b < 16 = omega (arith, ltb-true (worth b) radix d) in go small
  where
    go : worth b < 16 → digit_byte (worth b) ≡ b
    go small = grind (arith, nat_tests)

-- digits of a joined text
pub digits_parts : (radix : ℕ) (xs ys : List ℕ) → AllDigits radix (xs ++ ys) → AllDigits radix xs × AllDigits radix ys
digits_parts radix [] ys h = (tt, h)
digits_parts radix (x ∷ xs) ys h = let k = digits_parts radix xs ys h.1 in ((h.0, k.0), k.1)

pub digits_join : (radix : ℕ) (xs ys : List ℕ) → AllDigits radix xs → AllDigits radix ys → AllDigits radix (xs ++ ys)
digits_join radix [] ys h k = k
digits_join radix (x ∷ xs) ys h k = (h.0, digits_join radix xs ys h.1 k)

-- the digits of a text's number are the text
pub last-number : (radix k : ℕ) (t : List ℕ) → 0 < radix → radix ≤ 16 → AllDigits radix t → length t ≡ k → last_digits radix k (number_of radix t) ≡ t
unfolding last_digits
last-number radix zero t p q d e = sym (nil_from_length t e)
last-number radix (suc k) t p q d e = go (last-number radix k (take k t) p q)
  where
    b : ℕ
    b = get_or t k 0

    split : t ≡ take k t ++ (b ∷ [])
    split = sym (take_all (k + 1) t (omega arith)) ∙ take_more t k 0 (omega arith)

    parts : AllDigits radix (take k t) × AllDigits radix (b ∷ [])
    parts = digits_parts radix (take k t) (b ∷ []) (subst (AllDigits radix) split d)

    number_is : number_of radix t ≡ number_of radix (take k t) * radix + worth b
    number_is = ap (number_of radix) split ∙ number_push radix (take k t) b

    small : worth b < radix
    small = ltb-true (worth b) radix parts.1.0

    quotient : number_of radix t / radix ≡ number_of radix (take k t)
    quotient = ap (λ n. n / radix) number_is ∙ mul-add-div_right p (number_of radix (take k t)) (worth b) ∙ rw (div-eq_of_lt small) (add-zero (number_of radix (take k t)))

    remainder : number_of radix t % radix ≡ worth b
    remainder = ap (λ n. n % radix) number_is ∙ mul-add-mod_self_right (number_of radix (take k t)) radix (worth b) ∙ mod-eq_of_lt small

    go : (AllDigits radix (take k t) → length (take k t) ≡ k → last_digits radix k (number_of radix (take k t)) ≡ take k t) → last_digits radix k (number_of radix t / radix) ++ (digit_byte (number_of radix t % radix) ∷ []) ≡ t
    go ih =
        let front : last_digits radix k (number_of radix t / radix) ≡ take k t = ap (last_digits radix k) quotient ∙ ih parts.0 (length-take-le k t (omega arith)) in
        let digit : digit_byte (number_of radix t % radix) ≡ b = ap digit_byte remainder ∙ byte_worth radix b q parts.1.0 in
        let whole = sym split in
        cc

-- the number of the last digits of n is n, if it has no more
pub number-last : (radix k n : ℕ) → 0 < radix → radix ≤ 16 → n < radix ^ k → number_of radix (last_digits radix k n) ≡ n
unfolding last_digits
number-last radix zero n p q h = omega (arith, pow-zero radix)
number-last radix (suc k) n p q h =
    let small : n % radix < radix = mod-lt n p in
    let below : n / radix < radix ^ k = (div-lt_iff_lt-mul {k = radix} {x = n} {y = radix ^ k} p).1 (subst (λ m. n < m) (pow-suc radix k) h) in
    let ih = number-last radix k (n / radix) p q below in
    let push = number_push radix (last_digits radix k (n / radix)) (digit_byte (n % radix)) in
    let worth-is = worth-byte (n % radix) (omega arith) in
    let whole = div-add-mod' n radix in
    cc

-- last digits are digits
pub digits_last : (radix k n : ℕ) → 0 < radix → radix ≤ 16 → AllDigits radix (last_digits radix k n)
unfolding last_digits
digits_last radix zero n p q = tt
digits_last radix (suc k) n p q =
    let small : n % radix < radix = mod-lt n p in
    let worth-is = worth-byte (n % radix) (omega arith) in
    digits_join radix (last_digits radix k (n / radix)) (digit_byte (n % radix) ∷ []) (digits_last radix k (n / radix) p q) (lt-ltb (worth (digit_byte (n % radix))) radix (omega arith), tt)
