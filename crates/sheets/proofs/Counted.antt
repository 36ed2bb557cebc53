-- The texts of counts: how far bytes go along them, and which number they write. Assumes nothing.
use Rattle.std.proofs.Common.{◌≡◌, ℕ, zero, suc, ◌+◌, ◌-◌, ◌*◌, ◌^◌, ◌<◌, ◌≤◌, max, Bool, true, false, cond, not, ◌&&◌, eqb, List, [], ◌∷◌, length, get_or, take, drop, ℤ, pos, negsuc, neg_ℤ, Some, None, decimal, Option, sym, refl, ap, ◌∙◌, subst, inl, inr, zero-add, one-add, arith, lit<, lit≤, w32, SFits, MatchOption}
use borrow.Author.Differences.{ints}
use mir.Val.{bool_byte}
use Rattle.numbers.specs.Units.{signed as with_sign}
use Rattle.std.specs.Fmt.{signed_decimal}
use Rattle.std.specs.Int.{IsInRange}
use Rattle.std.proofs.lemmas.Fmt.{decimal_digit as decimal_digit_lem, decimal-digits_value, digits_decimal, digits_value-decimal, first_decimal, decimal_nonempty, length-decimal-le}
use Rattle.std.proofs.lemmas.List.{length-take-le}
use Rattle.std.proofs.lemmas.Str.Parse.{IsNumeralModel, IsDigitsTest, FoldsDigits, numerals_by_fold, digits_value_short}
use Rattle.std.proofs.lemmas.Bool.{both_ways, eqb-true, eqb-false, ne_eqb, and_from, not_from_false, ltb-true, lt-ltb, cond-false}
use Rattle.std.proofs.lemmas.Bool.Decides.{nat_tests}
use Rattle.sheets.specs.Digits.{worth, is_digit, AllDigits, begins, run, size_run, number_on, number_of}
use Rattle.sheets.specs.Elements.{Outside, Within, TextAt, Closed, count_text, count_of, NoCount}
use Rattle.sheets.specs.Forms.{Form, end, one, Lang, reach}
use Rattle.sheets.specs.Shapes.{byte, decimal_digit, up_to, size_shape, count_shape}
use Rattle.sheets.proofs.Fields.{run_digits, up_to-reach, digits_up_to}
use Rattle.sheets.proofs.Numerals.{run-within}

-- a sign takes one byte
pub sign_byte : (negative : Bool) → bool_byte negative ≡ cond negative 1 0
sign_byte true = refl
sign_byte false = refl

pub sign_most : (negative : Bool) → bool_byte negative ≤ 1
sign_most true = omega arith
sign_most false = omega arith

-- one byte and then the rest
byte-reach : (n : ℕ) (rest : Form) (bytes : List ℕ) → reach (one (byte n) rest) bytes ≡ cond (begins n bytes) (suc (reach rest (drop 1 bytes))) 0
byte-reach n rest [] = refl
byte-reach n rest (b ∷ bs) = refl

-- no size stands at the front
pub size_none : (bytes : List ℕ) → size_run bytes ≡ 0 → (rest : Form) → reach (size_shape rest) bytes ≡ 0
unfolding size_shape
size_none [] e rest = refl
size_none (b ∷ bs) e rest = go (is_digit 10 b) (eqb b 48) e
  where
    go : (d z : Bool) → cond z 0 (cond d (suc (run 10 9 bs)) 0) ≡ 0 → cond (d && not z) (suc (reach (up_to 9 decimal_digit rest) bs)) 0 ≡ 0
    go true true e = refl
    go true false e = omega arith
    go false true e = refl
    go false false e = refl

-- a size stands there, before a form that begins with no digit
pub size-some : (bytes : List ℕ) (rest : Form) → 0 < size_run bytes → Closed rest → reach (size_shape rest) bytes ≡ size_run bytes + reach rest (drop (size_run bytes) bytes)
unfolding size_shape
size-some [] rest h closed = omega arith
size-some (b ∷ bs) rest h closed = go (is_digit 10 b) (eqb b 48) h
  where
    go : (d z : Bool) → 0 < cond z 0 (cond d (suc (run 10 9 bs)) 0) → cond (d && not z) (suc (reach (up_to 9 decimal_digit rest) bs)) 0 ≡ cond z 0 (cond d (suc (run 10 9 bs)) 0) + reach rest (drop (cond z 0 (cond d (suc (run 10 9 bs)) 0)) (b ∷ bs))
    go true true h = omega arith
    go true false h = omega (arith, up_to-reach 9 rest bs closed)
    go false true h = omega arith
    go false false h = omega arith

-- digits that write a number other than zero: at most ten, the first of them not `0`
pub record Size (ds : List ℕ) : Type 0 where
  pub digits : AllDigits 10 ds
  pub first : begins 48 ds ≡ false
  pub some : 0 < length ds
  pub few : length ds ≤ 10

begins-take : (d n : ℕ) (bytes : List ℕ) → 0 < n → begins d (take n bytes) ≡ begins d bytes
begins-take d zero bytes h = absurd (omega arith)
begins-take d (suc n) [] h = refl
begins-take d (suc n) (b ∷ bs) h = refl

pub size-at : (bytes : List ℕ) → 0 < size_run bytes → Size (take (size_run bytes) bytes) × (size_run bytes ≤ length bytes)
size-at bytes h = go (begins 48 bytes) refl h
  where
    go : (z : Bool) → begins 48 bytes ≡ z → 0 < cond z 0 (run 10 10 bytes) → Size (take (cond z 0 (run 10 10 bytes)) bytes) × (cond z 0 (run 10 10 bytes) ≤ length bytes)
    go true q h = absurd (omega arith)
    go false q h =
        let within = run-within 10 10 bytes in
        let len : length (take (run 10 10 bytes) bytes) ≡ run 10 10 bytes = length-take-le (run 10 10 bytes) bytes within.0 in
        (record { digits = run_digits 10 10 bytes; first = begins-take 48 (run 10 10 bytes) bytes h ∙ q; some = omega arith; few = omega arith }, within.0)

size_lang : (ds : List ℕ) → Size ds → Lang (size_shape end) ds
unfolding size_shape
size_lang [] s = let h = s.some in omega arith
size_lang (b ∷ bs) s = let few = s.few in (and_from (is_digit 10 b) (not (eqb b 48)) s.digits.0 (not_from_false (eqb b 48) s.first), digits_up_to 9 bs s.digits.1 (omega arith))

-- `AllDigits 10` and `number_of 10` in the library's words
decimal_in : (c : ℕ) → is_digit 10 c ≡ true → IsInRange 48 57 c
decimal_in c d = let small : worth c < 10 = ltb-true (worth c) 10 d in go small
  where
    go : worth c < 10 → IsInRange 48 57 c
    go small = (grind (arith, nat_tests), grind (arith, nat_tests))

in_worth : (c : ℕ) → IsInRange 48 57 c → worth c ≡ c - 48
in_worth c h = let low : 48 ≤ c = h.0 in let high : c ≤ 57 = h.1 in grind (arith, nat_tests)

in_decimal : (c : ℕ) → IsInRange 48 57 c → is_digit 10 c ≡ true
in_decimal c h = let w = in_worth c h in let low : 48 ≤ c = h.0 in let high : c ≤ 57 = h.1 in lt-ltb (worth c) 10 (omega arith)

tells_digits : IsDigitsTest (AllDigits 10)
tells_digits = record { empty = tt; parts = λ c cs h. (decimal_in c h.0, h.1); more = λ c cs h k. (in_decimal c h, k) }

folds_number : FoldsDigits (number_on 10)
folds_number = record { empty = λ n. refl; more = λ n c cs h. ap (λ w. number_on 10 (n * 10 + w) cs) (in_worth c h) }

own : IsNumeralModel (AllDigits 10) (number_of 10)
own = numerals_by_fold (AllDigits 10) tells_digits (number_on 10) folds_number

not_first : (ds : List ℕ) → begins 48 ds ≡ false → 0 < length ds → get_or ds 0 0 ≡ 48 → ⊥
not_first [] q h e = omega arith
not_first (b ∷ bs) q h e = eqb-false b 48 q e

size_below : (ds : List ℕ) → Size ds → number_of 10 ds < 10 ^ 10
size_below ds s = digits_value_short own ds 10 s.digits s.few

-- the decimal text of a size's number is the size
pub size_decimal : (ds : List ℕ) → Size ds → decimal (number_of 10 ds) ≡ ds
size_decimal ds s = decimal-digits_value own ds s.digits s.some (λ e. absurd (not_first ds s.first s.some e)) (omega (arith, size_below ds s))

size_positive : (ds : List ℕ) → Size ds → 0 < number_of 10 ds
size_positive ds s = go (number_of 10 ds) refl
  where
    go : (n : ℕ) → number_of 10 ds ≡ n → 0 < n
    go (suc n) e = omega arith
    go zero e = absurd (both_ways (begins 48 ds) s.first (ap (begins 48) (sym (size_decimal ds s) ∙ ap decimal e ∙ decimal_digit_lem 0 (lit< tt))))

-- the text of a count other than zero, by its sign and size
abbrev pub spelled : Bool → List ℕ → List ℕ
spelled negative ds = cond negative (45 ∷ ds) ds

digits_no_sign : (ds : List ℕ) → AllDigits 10 ds → begins 45 ds ≡ false
digits_no_sign [] d = refl
digits_no_sign (b ∷ bs) d = ne_eqb b 45 (λ e. omega (arith, (decimal_in b d.0).0))

spelled_text : (negative : Bool) (ds : List ℕ) → Size ds → count_text (with_sign negative (number_of 10 ds)) ≡ spelled negative ds
unfolding count_text
spelled_text false ds s = size_decimal ds s
spelled_text true ds s = go (number_of 10 ds) (size_positive ds s) (size_decimal ds s)
  where
    go : (n : ℕ) → 0 < n → decimal n ≡ ds → signed_decimal (neg_ℤ (pos n)) ≡ 45 ∷ ds
    go zero h e = absurd (omega arith)
    go (suc n) h e = ap (λ t. 45 ∷ t) e

spelled_number : (negative : Bool) (ds : List ℕ) → Size ds → count_of (spelled negative ds) ≡ with_sign negative (number_of 10 ds)
spelled_number false ds s = rw (digits_no_sign ds s.digits)
spelled_number true ds s = refl

spelled_lang : (negative : Bool) (ds : List ℕ) → Size ds → Lang (count_shape end) (spelled negative ds)
unfolding count_shape
spelled_lang false ds s = inr (inl (size_lang ds s))
spelled_lang true ds s = inr (inr (refl, size_lang ds s))

-- the element of such a text, or none where the number has too many bits
spelled_element : (negative : Bool) (ds : List ℕ) → Size ds → (e : Option ℤ) → Within 32 (with_sign negative (number_of 10 ds)) e → MatchOption e (NoCount (spelled negative ds)) (λ z. (count_text z ≡ spelled negative ds) × (NoCount (spelled negative ds) → ⊥))
spelled_element negative ds s (Some z) h = (ap count_text h.0 ∙ spelled_text negative ds s, λ bad. h.1 (subst (Outside 32) (spelled_number negative ds s) bad))
spelled_element negative ds s None h = subst (Outside 32) (sym (spelled_number negative ds s)) h

-- how far bytes go along a count: along `0`, along a size, or along `-` and a size
pub count-reach : (rest : Form) (bytes : List ℕ) → reach (count_shape rest) bytes ≡ max (cond (begins 48 bytes) (suc (reach rest (drop 1 bytes))) 0) (max (reach (size_shape rest) bytes) (cond (begins 45 bytes) (suc (reach (size_shape rest) (drop 1 bytes))) 0))
unfolding count_shape
count-reach rest bytes = rw (byte-reach 48 rest bytes, byte-reach 45 (size_shape rest) bytes)

-- a sign or `0` is no size
sign-size : (bytes : List ℕ) → begins 45 bytes ≡ true → size_run bytes ≡ 0
sign-size [] q = refl
sign-size (b ∷ bs) q = rw (eqb-true b 45 q)

zero-size : (bytes : List ℕ) → begins 48 bytes ≡ true → size_run bytes ≡ 0
zero-size bytes q = rw q

zero-sign : (bytes : List ℕ) → begins 48 bytes ≡ true → begins 45 bytes ≡ false
zero-sign [] q = refl
zero-sign (b ∷ bs) q = rw (eqb-true b 48 q)

zero_front : (bytes : List ℕ) → begins 48 bytes ≡ true → (take 1 bytes ≡ 48 ∷ []) × (1 ≤ length bytes)
zero_front [] q = absurd (both_ways false refl q)
zero_front (b ∷ bs) q = (ap (λ c. c ∷ []) (eqb-true b 48 q), omega arith)

pub count-zero : (bytes : List ℕ) → begins 48 bytes ≡ true → TextAt count_shape count_text NoCount bytes (record { len = 1; element = Some (pos 0) })
unfolding count_shape count_text
count-zero bytes q =
    let front = zero_front bytes q in
    record {
      within = front.1;
      is_shape = subst (Lang (count_shape end)) (sym front.0) (inl (refl, tt));
      goes_on = λ rest closed. count-reach rest bytes ∙ rw (q, zero-sign bytes q) (omega (arith, size_none bytes (zero-size bytes q) rest));
      element_is = (decimal_digit_lem 0 (lit< tt) ∙ sym front.0, λ bad. zero-inside (subst NoCount front.0 bad));
    }
  where
    zero-inside : NoCount (48 ∷ []) → ⊥
    zero-inside bad = omega (arith, ints)

count_plain : (bytes : List ℕ) → begins 48 bytes ≡ false → begins 45 bytes ≡ false → 0 < size_run bytes → (e : Option ℤ) → Within 32 (pos (number_of 10 (take (size_run bytes) bytes))) e → TextAt count_shape count_text NoCount bytes (record { len = size_run bytes; element = e })
count_plain bytes z m h e w =
    let at = size-at bytes h in
    record {
      within = at.1;
      is_shape = spelled_lang false (take (size_run bytes) bytes) at.0;
      goes_on = λ rest closed. count-reach rest bytes ∙ omega (arith, size-some bytes rest h closed, cond-false (begins 48 bytes) (suc (reach rest (drop 1 bytes))) 0 z, cond-false (begins 45 bytes) (suc (reach (size_shape rest) (drop 1 bytes))) 0 m);
      element_is = spelled_element false (take (size_run bytes) bytes) at.0 e w;
    }

count_minus : (bs : List ℕ) → 0 < size_run bs → (e : Option ℤ) → Within 32 (neg_ℤ (pos (number_of 10 (take (size_run bs) bs)))) e → TextAt count_shape count_text NoCount (45 ∷ bs) (record { len = suc (size_run bs); element = e })
count_minus bs h e w =
    let at = size-at bs h in
    record {
      within = omega (arith, at.1);
      is_shape = spelled_lang true (take (size_run bs) bs) at.0;
      goes_on = λ rest closed. count-reach rest (45 ∷ bs) ∙ omega (arith, size-some bs rest h closed, size_none (45 ∷ bs) refl rest);
      element_is = spelled_element true (take (size_run bs) bs) at.0 e w;
    }

pub count-some : (bytes : List ℕ) (negative : Bool) (s n : ℕ) → begins 48 bytes ≡ false → begins 45 bytes ≡ negative → s ≡ cond negative 1 0 → n ≡ size_run (drop s bytes) → 0 < n → (e : Option ℤ) → Within 32 (with_sign negative (number_of 10 (take n (drop s bytes)))) e → TextAt count_shape count_text NoCount bytes (record { len = s + n; element = e })
count-some bytes negative s n z m si ni h e w = go bytes negative z m (subst (λ k. n ≡ size_run (drop k bytes)) si ni) (subst (λ k. Within 32 (with_sign negative (number_of 10 (take n (drop k bytes)))) e) si w) (omega arith)
  where
    go : (bytes : List ℕ) (negative : Bool) → begins 48 bytes ≡ false → begins 45 bytes ≡ negative → n ≡ size_run (drop (cond negative 1 0) bytes) → Within 32 (with_sign negative (number_of 10 (take n (drop (cond negative 1 0) bytes)))) e → s + n ≡ cond negative 1 0 + n → TextAt count_shape count_text NoCount bytes (record { len = s + n; element = e })
    go bytes false z m ni w len =
        subst (λ k. TextAt count_shape count_text NoCount bytes (record { len = k; element = e })) (sym (len ∙ zero-add n ∙ ni))
        (count_plain bytes z m (omega arith) e (subst (λ k. Within 32 (pos (number_of 10 (take k bytes))) e) ni w))
    go [] true z m ni w len = absurd (both_ways false refl m)
    go (b ∷ bs) true z m ni w len =
        subst (λ t. TextAt count_shape count_text NoCount t (record { len = s + n; element = e })) (ap (λ d. d ∷ bs) (sym (eqb-true b 45 m)))
        (subst (λ k. TextAt count_shape count_text NoCount (45 ∷ bs) (record { len = k; element = e })) (sym (len ∙ one-add n ∙ ap suc ni))
        (count_minus bs (omega arith) e (subst (λ k. Within 32 (neg_ℤ (pos (number_of 10 (take k bs)))) e) ni w)))

-- no count: the bytes go along with a sign at most
pub count_stop : (bytes : List ℕ) (negative : Bool) (s : ℕ) → begins 48 bytes ≡ false → begins 45 bytes ≡ negative → s ≡ cond negative 1 0 → size_run (drop s bytes) ≡ 0 → (s ≤ length bytes) × ((rest : Form) → reach (count_shape rest) bytes ≡ s)
count_stop bytes negative s z m si ni = go bytes negative z m si (subst (λ k. size_run (drop k bytes) ≡ 0) si ni)
  where
    go : (bytes : List ℕ) (negative : Bool) → begins 48 bytes ≡ false → begins 45 bytes ≡ negative → s ≡ cond negative 1 0 → size_run (drop (cond negative 1 0) bytes) ≡ 0 → (s ≤ length bytes) × ((rest : Form) → reach (count_shape rest) bytes ≡ s)
    go bytes false z m si ni = (omega arith, λ rest. count-reach rest bytes ∙ rw (z, m) (omega (arith, size_none bytes ni rest)))
    go [] true z m si ni = absurd (both_ways false refl m)
    go (b ∷ bs) true z m si ni = (omega arith, λ rest. count-reach rest (b ∷ bs) ∙ rw (z, m) (omega (arith, size_none bs ni rest, size_none (b ∷ bs) (sign-size (b ∷ bs) m) rest)))

pub size-most : (bytes : List ℕ) → size_run bytes ≤ 10
size-most bytes = go (begins 48 bytes) (run-within 10 10 bytes)
  where
    go : (z : Bool) → (run 10 10 bytes ≤ length bytes) × (run 10 10 bytes ≤ 10) → cond z 0 (run 10 10 bytes) ≤ 10
    go true h = omega arith
    go false h = omega arith

-- the decimal text of a number other than zero, of at most ten digits, is a size
decimal_size : (n : ℕ) → 0 < n → n < 10 ^ 10 → Size (decimal n) × (number_of 10 (decimal n) ≡ n)
decimal_size n p h =
    let short : n < 2 ^ 64 = omega arith in
    let ds = decimal n in (
      record {
        digits = digits_decimal own n short;
        first = no_zero (decimal n) (first_decimal n p short);
        some = decimal_nonempty n short;
        few = length-decimal-le 10 n (lit< tt) h short;
      },
      digits_value-decimal own n short,
    )
  where
    no_zero : (ds : List ℕ) → 48 < get_or ds 0 0 → begins 48 ds ≡ false
    no_zero [] k = refl
    no_zero (b ∷ bs) k = ne_eqb b 48 (λ e. omega arith)

-- the text of a count of 32 bits is of the shape, short, and writes that count
pub record Spelled (z : ℤ) : Type 0 where
  pub is_shape : Lang (count_shape end) (count_text z)
  pub short : length (count_text z) ≤ 16
  pub number_is : count_of (count_text z) ≡ z

spelled_size : (negative : Bool) (n : ℕ) → 0 < n → n < 10 ^ 10 → Spelled (with_sign negative n)
spelled_size negative n p h =
    let size = decimal_size n p h in
    let text : count_text (with_sign negative n) ≡ spelled negative (decimal n) = ap (λ k. count_text (with_sign negative k)) (sym size.1) ∙ spelled_text negative (decimal n) size.0 in
    record {
      is_shape = subst (Lang (count_shape end)) (sym text) (spelled_lang negative (decimal n) size.0);
      short = subst (λ t. length t ≤ 16) (sym text) (len negative size.0.few);
      number_is = ap count_of text ∙ spelled_number negative (decimal n) size.0 ∙ ap (with_sign negative) size.1;
    }
  where
    len : (negative : Bool) → length (decimal n) ≤ 10 → length (spelled negative (decimal n)) ≤ 16
    len true k = omega arith
    len false k = omega arith

pub spelled_count : (z : ℤ) → SFits w32 z → Spelled z
unfolding count_text count_shape
spelled_count (pos zero) h =
    let text : decimal 0 ≡ 48 ∷ [] = decimal_digit_lem 0 (lit< tt) in
    record { is_shape = subst (Lang (count_shape end)) (sym text) (inl (refl, tt)); short = subst (λ t. length t ≤ 16) (sym text) (lit≤ tt); number_is = ap count_of text }
spelled_count (pos (suc n)) h = spelled_size false (suc n) (omega arith) (omega (arith, h.sfits))
spelled_count (negsuc n) h = spelled_size true (suc n) (omega arith) (omega (arith, h.sfits))

-- a count of 32 bits is not outside them
pub inside : (z : ℤ) → SFits w32 z → Outside 32 z → ⊥
inside z h bad = omega (arith, ints, h.sfits)
