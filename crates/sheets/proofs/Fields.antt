-- How far a text goes along the shapes of a pattern and of a count. Assumes nothing.
use Rattle.std.proofs.Common.{◌≡◌, ℕ, zero, suc, ◌+◌, ◌<◌, ◌≤◌, max, Bool, true, false, cond, List, [], ◌∷◌, length, take, drop, Some, refl, ap, ◌∙◌, subst, inl, inr, arith, lit<, lit≤}
use Rattle.std.proofs.lemmas.List.{length-take-le}
use Rattle.sheets.specs.Digits.{is_digit, AllDigits, run, number_of, last_digits}
use Rattle.sheets.specs.Elements.{TextAt, pattern_text, NoPattern}
use Rattle.sheets.specs.Forms.{Form, end, Lang, reach}
use Rattle.sheets.specs.Shapes.{digit_of, decimal_digit, repeat, up_to, pattern_shape}
use Rattle.sheets.proofs.Numerals.{run-within, last-number}

-- the bytes of a run are digits
pub run_digits : (radix most : ℕ) (text : List ℕ) → AllDigits radix (take (run radix most text) text)
run_digits radix zero text = tt
run_digits radix (suc most) [] = tt
run_digits radix (suc most) (b ∷ bs) = go (is_digit radix b) refl (run_digits radix most bs)
  where
    go : (test : Bool) → is_digit radix b ≡ test → AllDigits radix (take (run radix most bs) bs) → AllDigits radix (take (cond test (suc (run radix most bs)) 0) (b ∷ bs))
    go true q h = (q, h)
    go false q h = tt

-- n digits: all of them and then the rest, or as many as there are
pub repeat-all : (radix : ℕ) (z : is_digit radix 48 ≡ true) (n : ℕ) (rest : Form) (text : List ℕ) → run radix n text ≡ n → reach (repeat n (digit_of radix z) rest) text ≡ n + reach rest (drop n text)
repeat-all radix z zero rest text e = omega arith
repeat-all radix z (suc n) rest [] e = omega arith
repeat-all radix z (suc n) rest (b ∷ bs) e = go (is_digit radix b) e (repeat-all radix z n rest bs)
  where
    go : (test : Bool) → cond test (suc (run radix n bs)) 0 ≡ suc n → (run radix n bs ≡ n → reach (repeat n (digit_of radix z) rest) bs ≡ n + reach rest (drop n bs)) → cond test (suc (reach (repeat n (digit_of radix z) rest) bs)) 0 ≡ suc n + reach rest (drop n bs)
    go true e h = omega (arith, h (omega arith))
    go false e h = omega arith

pub repeat-some : (radix : ℕ) (z : is_digit radix 48 ≡ true) (n : ℕ) (rest : Form) (text : List ℕ) → run radix n text < n → reach (repeat n (digit_of radix z) rest) text ≡ run radix n text
repeat-some radix z zero rest text h = omega arith
repeat-some radix z (suc n) rest [] h = refl
repeat-some radix z (suc n) rest (b ∷ bs) h = go (is_digit radix b) h (repeat-some radix z n rest bs)
  where
    go : (test : Bool) → cond test (suc (run radix n bs)) 0 < suc n → (run radix n bs < n → reach (repeat n (digit_of radix z) rest) bs ≡ run radix n bs) → cond test (suc (reach (repeat n (digit_of radix z) rest) bs)) 0 ≡ cond test (suc (run radix n bs)) 0
    go true l k = ap suc (k (omega arith))
    go false l k = refl

-- at most n digits, before a rest that begins with none
pub up_to-reach : (n : ℕ) (rest : Form) (text : List ℕ) → ((b : ℕ) (bs : List ℕ) → is_digit 10 b ≡ true → reach rest (b ∷ bs) ≡ 0) → reach (up_to n decimal_digit rest) text ≡ run 10 n text + reach rest (drop (run 10 n text) text)
up_to-reach zero rest text closed = omega arith
up_to-reach (suc n) rest [] closed = omega arith
up_to-reach (suc n) rest (b ∷ bs) closed = go (is_digit 10 b) refl (up_to-reach n rest bs closed)
  where
    go : (test : Bool) → is_digit 10 b ≡ test → reach (up_to n decimal_digit rest) bs ≡ run 10 n bs + reach rest (drop (run 10 n bs) bs) → max (reach rest (b ∷ bs)) (cond test (suc (reach (up_to n decimal_digit rest) bs)) 0) ≡ cond test (suc (run 10 n bs)) 0 + reach rest (drop (cond test (suc (run 10 n bs)) 0) (b ∷ bs))
    go true q e = omega (arith, closed b bs q)
    go false q e = omega arith

-- texts of digits are of the shapes
pub digits_repeat : (radix : ℕ) (z : is_digit radix 48 ≡ true) (n : ℕ) (t : List ℕ) → AllDigits radix t → length t ≡ n → Lang (repeat n (digit_of radix z) end) t
digits_repeat radix z zero [] d e = tt
digits_repeat radix z zero (b ∷ bs) d e = omega arith
digits_repeat radix z (suc n) [] d e = omega arith
digits_repeat radix z (suc n) (b ∷ bs) d e = (d.0, digits_repeat radix z n bs d.1 (omega arith))

pub digits_up_to : (n : ℕ) (t : List ℕ) → AllDigits 10 t → length t ≤ n → Lang (up_to n decimal_digit end) t
digits_up_to zero [] d e = tt
digits_up_to zero (b ∷ bs) d e = omega arith
digits_up_to (suc n) [] d e = inl tt
digits_up_to (suc n) (b ∷ bs) d e = inr (d.0, digits_up_to n bs d.1 (omega arith))

-- what reading a pattern finds
pub pattern_read : (bytes : List ℕ) (n : ℕ) → run 16 16 bytes ≡ 16 → n ≡ number_of 16 (take 16 bytes) → TextAt pattern_shape pattern_text NoPattern bytes (record { len = 16; element = Some n })
unfolding pattern_shape pattern_text
pattern_read bytes n all is =
    let within : 16 ≤ length bytes = omega (arith, run-within 16 16 bytes) in
    let len : length (take 16 bytes) ≡ 16 = length-take-le 16 bytes within in
    let digits : AllDigits 16 (take 16 bytes) = subst (λ k. AllDigits 16 (take k bytes)) all (run_digits 16 16 bytes) in
    record {
      within = within;
      is_shape = digits_repeat 16 refl 16 (take 16 bytes) digits len;
      goes_on = λ rest closed. repeat-all 16 refl 16 rest bytes all;
      element_is = (ap (last_digits 16 16) is ∙ last-number 16 16 (take 16 bytes) (lit< tt) (lit≤ tt) digits len, λ bad. bad);
    }

pub pattern_stop : (bytes : List ℕ) → run 16 16 bytes < 16 → (rest : Form) → reach (pattern_shape rest) bytes ≡ run 16 16 bytes
unfolding pattern_shape
pattern_stop bytes few rest = repeat-some 16 refl 16 rest bytes few
