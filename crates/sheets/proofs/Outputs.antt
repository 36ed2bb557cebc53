-- Texts that are put together and handed over. Assumes nothing.
use Rattle.std.proofs.Common.{◌≡◌, ℕ, zero, suc, ◌+◌, ◌/◌, ◌%◌, ◌^◌, ◌<◌, ◌≤◌, false, ◌⊎◌, ◌↔◌, List, ◌++◌, length, drop, decimal, Ok, Err, Result, IsOk, OnOk, OnErr, sym, refl, inl, inr, ap, ◌∙◌, add-one, arith, lit<}
use Rattle.arrayvec.specs.ArrayVec.{ArrayVec, array_vec_len}
use Rattle.std.proofs.lemmas.Fmt.{length-decimal-le}
use Rattle.std.proofs.lemmas.List.{length_push}
use Rattle.std.proofs.lemmas.Bool.{le-leb, lt-leb, cases_lt, both_ways}
use Rattle.sheets.specs.Digits.{digit_byte, last_digits}
use Rattle.sheets.specs.Outputs.{put, handed}

pub put_fits : (a b : List ℕ) → length a + length b ≤ 80 → put a b ≡ a ++ b
unfolding put
put_fits a b h = rw (le-leb (length a + length b) 80 h)

pub put_full : (a b : List ℕ) → 80 < length a + length b → put a b ≡ a
unfolding put
put_full a b h = rw (lt-leb (length a + length b) 80 h)

pub handed_fits : (text before : List ℕ) → length text ≤ length before → handed text before ≡ text ++ drop (length text) before
unfolding handed
handed_fits text before h = rw (le-leb (length text) (length before) h)

pub handed-short : (text before : List ℕ) → length before < length text → handed text before ≡ before
unfolding handed
handed-short text before h = rw (lt-leb (length text) (length before) h)

-- what a text holds after one put more, where it has room
pub put_on : (before after a b : List ℕ) → after ≡ put before b → before ≡ a → length a + length b ≤ 80 → after ≡ a ++ b
put_on before after a b e was h = e ∙ ap (λ t. put t b) was ∙ put_fits a b h

-- some bytes that were tried: behind the others if there was room for all of them
pub put_tried : {A E : Type 0} (before after : ArrayVec ℕ) (more : List ℕ) (r : Result A E) → (IsOk r ↔ (array_vec_len before + length more ≤ 80)) → OnOk r (after.items ≡ before.items ++ more) → OnErr r (after ≡ before) → after.items ≡ put before.items more
put_tried before after more (Ok x) room ok err = ok ∙ sym (put_fits before.items more (room.0 refl))
put_tried before after more (Err e) room ok err = go (cases_lt 80 (length before.items + length more))
  where
    go : (80 < length before.items + length more) ⊎ (length before.items + length more ≤ 80) → after.items ≡ put before.items more
    go (inl h) = ap (λ v. v.items) err ∙ sym (put_full before.items more h)
    go (inr h) = absurd (both_ways false refl (room.1 h))

-- how many last digits there are
pub length_last : (radix count n : ℕ) → length (last_digits radix count n) ≡ count
unfolding last_digits
length_last radix zero n = refl
length_last radix (suc count) n = length_push (last_digits radix count (n / radix)) (digit_byte (n % radix)) ∙ add-one (length (last_digits radix count (n / radix))) ∙ ap suc (length_last radix count (n / radix))

pub length_decimal : (n : ℕ) → n < 2 ^ 64 → length (decimal n) ≤ 20
length_decimal n h = length-decimal-le 20 n (lit< tt) (omega arith) h
