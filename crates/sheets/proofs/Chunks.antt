-- Lines, parted at line feeds, chunk by chunk. Assumes nothing.
use Rattle.std.proofs.Common.{◌≡◌, ℕ, zero, suc, ◌+◌, ◌-◌, ◌^◌, ◌<◌, ◌≤◌, min, Bool, true, false, cond, not, eqb, ◌⊎◌, ◌↔◌, List, [], ◌∷◌, ◌++◌, length, get_or, take, Ok, Err, Result, IsOk, OnOk, MatchBool, sym, refl, ap, ◌∙◌, subst, inl, inr, append_assoc, arith, length-append}
use native.Mathlib.Nat.{sub-zero}
use Rattle.std.proofs.lemmas.List.{take_more, take_all, append-nil, length-take}
use Rattle.std.proofs.lemmas.Bool.{eqb-true, eq-eqb, ne_eqb, cond-true, cond-false, cases_lt, both_ways}
use Rattle.arrayvec.specs.ArrayVec.{ArrayVec, array_vec_len}
use Rattle.sheets.specs.declared.splitter.Splitter.{Splitter}
use Rattle.sheets.specs.Splitting.{longer, ended, begun, last, feed_at, held, current, yielded, Parting, Took, After}

-- bytes in two chunks
pub ended_join : (line a b : List ℕ) → ended line (a ++ b) ≡ ended line a ++ ended (begun line a) b
ended_join line [] b = refl
ended_join line (x ∷ a) b = go (eqb x 10) (ended_join [] a b) (ended_join (longer line x) a b)
  where
    go : (test : Bool) → ended [] (a ++ b) ≡ ended [] a ++ ended (begun [] a) b → ended (longer line x) (a ++ b) ≡ ended (longer line x) a ++ ended (begun (longer line x) a) b → cond test (line ∷ ended [] (a ++ b)) (ended (longer line x) (a ++ b)) ≡ cond test (line ∷ ended [] a) (ended (longer line x) a) ++ ended (cond test (begun [] a) (begun (longer line x) a)) b
    go true h k = ap (λ t. line ∷ t) h
    go false h k = k

pub begun_join : (line a b : List ℕ) → begun line (a ++ b) ≡ begun (begun line a) b
begun_join line [] b = refl
begun_join line (x ∷ a) b = go (eqb x 10) (begun_join [] a b) (begun_join (longer line x) a b)
  where
    go : (test : Bool) → begun [] (a ++ b) ≡ begun (begun [] a) b → begun (longer line x) (a ++ b) ≡ begun (begun (longer line x) a) b → cond test (begun [] (a ++ b)) (begun (longer line x) (a ++ b)) ≡ begun (cond test (begun [] a) (begun (longer line x) a)) b
    go true h k = h
    go false h k = k

-- the first bytes of the first bytes and more
take-take-append : (n : ℕ) (xs ys : List ℕ) → take n (take n xs ++ ys) ≡ take n (xs ++ ys)
take-take-append zero xs ys = refl
take-take-append (suc n) [] ys = refl
take-take-append (suc n) (x ∷ xs) ys = ap (λ t. x ∷ t) (take-take-append n xs ys)

-- up to the first line feed no line ends, and the line keeps its first 40 bytes
pub before_feed : (line chunk : List ℕ) → length line ≤ 40 → (ended line (take (feed_at chunk) chunk) ≡ []) × (begun line (take (feed_at chunk) chunk) ≡ take 40 (line ++ take (feed_at chunk) chunk))
before_feed line [] h = (refl, sym (ap (take 40) (append-nil line) ∙ take_all 40 line h))
before_feed line (x ∷ xs) h = go (eqb x 10) refl (before_feed (longer line x) xs (longer-short))
  where
    longer-short : length (longer line x) ≤ 40
    longer-short = simp length-take (omega arith)

    short : take 40 (line ++ []) ≡ line
    short = ap (take 40) (append-nil line) ∙ take_all 40 line h

    joined : take 40 (longer line x ++ take (feed_at xs) xs) ≡ take 40 (line ++ (x ∷ take (feed_at xs) xs))
    joined = take-take-append 40 (line ++ (x ∷ [])) (take (feed_at xs) xs) ∙ ap (take 40) (append_assoc line (x ∷ []) (take (feed_at xs) xs))

    go : (test : Bool) → eqb x 10 ≡ test → (ended (longer line x) (take (feed_at xs) xs) ≡ []) × (begun (longer line x) (take (feed_at xs) xs) ≡ take 40 (longer line x ++ take (feed_at xs) xs)) → (ended line (take (cond test 0 (suc (feed_at xs))) (x ∷ xs)) ≡ []) × (begun line (take (cond test 0 (suc (feed_at xs))) (x ∷ xs)) ≡ take 40 (line ++ take (cond test 0 (suc (feed_at xs))) (x ∷ xs)))
    go true q k = (refl, sym short)
    go false q k = (rw q k.0, rw q (k.1 ∙ joined))

pub feed_within : (chunk : List ℕ) → feed_at chunk ≤ length chunk
feed_within [] = omega arith
feed_within (x ∷ xs) = go (eqb x 10) (feed_within xs)
  where
    go : (test : Bool) → feed_at xs ≤ length xs → cond test 0 (suc (feed_at xs)) ≤ suc (length xs)
    go true h = omega arith
    go false h = omega arith

-- the byte there is a line feed
pub feed_is : (chunk : List ℕ) → feed_at chunk < length chunk → take (feed_at chunk + 1) chunk ≡ take (feed_at chunk) chunk ++ (10 ∷ [])
feed_is chunk h = take_more chunk (feed_at chunk) 0 h ∙ ap (λ b. take (feed_at chunk) chunk ++ (b ∷ [])) (at chunk h)
  where
    at : (chunk : List ℕ) → feed_at chunk < length chunk → get_or chunk (feed_at chunk) 0 ≡ 10
    at [] h = omega arith
    at (x ∷ xs) h = go (eqb x 10) refl h (at xs)
      where
        go : (test : Bool) → eqb x 10 ≡ test → cond test 0 (suc (feed_at xs)) < suc (length xs) → (feed_at xs < length xs → get_or xs (feed_at xs) 0 ≡ 10) → get_or (x ∷ xs) (cond test 0 (suc (feed_at xs))) 0 ≡ 10
        go true q h k = eqb-true x 10 q
        go false q h k = k (omega arith)

-- one step of the search
pub feed_hit : (b : ℕ) (bs : List ℕ) → b ≡ 10 → feed_at (b ∷ bs) ≡ 0
feed_hit b bs e = rw (eq-eqb b 10 e) refl

pub feed_miss : (b : ℕ) (bs : List ℕ) → (b ≡ 10 → ⊥) → feed_at (b ∷ bs) ≡ feed_at bs + 1
feed_miss b bs ne = rw (ne_eqb b 10 ne) (omega arith)

-- a chunk up to its line feed ends the line, and without one it only goes on
pub feed_lines : (line chunk kept : List ℕ) → length line ≤ 40 → feed_at chunk < length chunk → kept ≡ take 40 (line ++ take (feed_at chunk) chunk) → (ended line (take (feed_at chunk + 1) chunk) ≡ kept ∷ []) × (begun line (take (feed_at chunk + 1) chunk) ≡ [])
feed_lines line chunk kept h l e =
    let front = take (feed_at chunk) chunk in
    let before = before_feed line chunk h in
    let cut = feed_is chunk l in
    (ap (ended line) cut ∙ ended_join line front (10 ∷ []) ∙ ap (λ t. t ++ (begun line front ∷ [])) before.0 ∙ ap (λ t. t ∷ []) (before.1 ∙ sym e), ap (begun line) cut ∙ begun_join line front (10 ∷ []))

-- what a splitter is after more bytes follows from what it was
pub took_after : (before after : Splitter) (chunk : List ℕ) (r : ℕ) → Took before chunk r after → (past : List ℕ) → After past before → After (past ++ take r chunk) after
took_after before after chunk r t past a =
    record {
      line = sym (begun_join [] past (take r chunk) ∙ ap (λ l. begun l (take r chunk)) (sym a.line) ∙ t.line);
      earlier = a.earlier ++ yielded before;
      lines = ended_join [] past (take r chunk) ∙ ap (λ l. ended [] past ++ ended l (take r chunk)) (sym a.line) ∙ ap (λ l. ended [] past ++ l) t.lines ∙ ap (λ l. l ++ yielded after) a.lines;
      number = λ h. counted before.complete refl (subst (λ n. n + 1 < 2 ^ 64) (length-append a.earlier (yielded before)) h) ∙ ap (λ n. n + 1) (sym (length-append a.earlier (yielded before)));
    }
  where
    counted : (b : Bool) → before.complete ≡ b → length a.earlier + length (yielded before) + 1 < 2 ^ 64 → after.number ≡ length a.earlier + length (yielded before) + 1
    counted true q h =
        let one : length (yielded before) ≡ 1 = ap (λ b. length (cond b (held before ∷ []) [])) q in
        let next : after.number ≡ min (before.number + 1) (2 ^ 64 - 1) = t.number ∙ cond-true before.complete (min (before.number + 1) (2 ^ 64 - 1)) before.number q in
        let was : before.number ≡ length a.earlier + 1 = a.number (omega arith) in
        omega arith
    counted false q h =
        let none : length (yielded before) ≡ 0 = ap (λ b. length (cond b (held before ∷ []) [])) q in
        let same : after.number ≡ before.number = t.number ∙ cond-false before.complete (min (before.number + 1) (2 ^ 64 - 1)) before.number q in
        let was : before.number ≡ length a.earlier + 1 = a.number (omega arith) in
        omega arith

-- bytes for which there is room are put
pub kept : {A E : Type 0} (before after : ArrayVec ℕ) (more : List ℕ) (r : Result A E) → (IsOk r ↔ (array_vec_len before + length more ≤ 40)) → OnOk r (after.items ≡ before.items ++ more) → length before.items + length more ≤ 40 → after.items ≡ before.items ++ more
kept before after more (Ok x) room ok h = ok
kept before after more (Err e) room ok h = absurd (both_ways false refl (room.1 h))

-- the first k bytes of two texts
pub take_clip : (k : ℕ) (xs ys : List ℕ) → length xs ≤ k → take k (xs ++ ys) ≡ xs ++ take (min (length ys) (k - length xs)) ys
take_clip k [] ys h = rw sub-zero (go (length_cases (length ys) k))
  where
    length_cases : (m n : ℕ) → (m < n) ⊎ (n ≤ m)
    length_cases m n = cases_lt m n

    go : (length ys < k) ⊎ (k ≤ length ys) → take k ys ≡ take (min (length ys) k) ys
    go (inl l) = let e : min (length ys) k ≡ length ys = omega arith in rw e (take_all k ys (omega arith) ∙ sym (take_all (length ys) ys (omega arith)))
    go (inr l) = let e : min (length ys) k ≡ k = omega arith in rw e
take_clip zero (x ∷ xs) ys h = absurd (omega arith)
take_clip (suc k) (x ∷ xs) ys h =
    let less : suc k - suc (length xs) ≡ k - length xs = omega arith in
    ap (λ t. x ∷ t) (take_clip k xs ys (omega arith) ∙ ap (λ n. xs ++ take (min (length ys) n) ys) (sym less))

-- a last line counts if it has bytes
pub last_cases : (t : List ℕ) (empty : Bool) → empty ≡ eqb (length t) 0 → MatchBool (not empty) (last t ≡ t ∷ []) (last t ≡ [])
last_cases [] empty e = rw e refl
last_cases (b ∷ bs) empty e = rw (e ∙ ne_eqb (suc (length bs)) 0 (λ h. omega arith)) refl

-- the splitter once a line feed has come
pub fed_line : (before after : Splitter) (chunk : List ℕ) (at : ℕ) (kept : List ℕ) → at < length chunk → at ≡ feed_at chunk → (ended (current before) (take (feed_at chunk + 1) chunk) ≡ kept ∷ []) × (begun (current before) (take (feed_at chunk + 1) chunk) ≡ []) → held after ≡ kept → after.complete ≡ true → after.number ≡ cond before.complete (min (before.number + 1) (2 ^ 64 - 1)) before.number → Took before chunk (at + 1) after
fed_line before after chunk at kept h at-is fed kept-is complete number =
    record {
      within = omega arith;
      lines = ap (λ n. ended (current before) (take (n + 1) chunk)) at-is ∙ fed.0 ∙ ap (λ t. t ∷ []) (sym kept-is) ∙ sym (cond-true after.complete (held after ∷ []) [] complete);
      line = ap (λ n. begun (current before) (take (n + 1) chunk)) at-is ∙ fed.1 ∙ sym (cond-true after.complete [] (held after) complete);
      all = λ e. absurd (both_ways after.complete e complete);
      number = number;
    }

-- the lines of a sheet, line by line
plain_line : (line : List ℕ) → feed_at line ≡ length line → (ended [] line ≡ []) × (begun [] line ≡ take 40 line)
plain_line line e =
    let whole : take (feed_at line) line ≡ line = take_all (feed_at line) line (omega arith) in
    let h = before_feed [] line (omega arith) in
    (subst (λ t. ended [] t ≡ []) whole h.0, subst (λ t. begun [] t ≡ take 40 t) whole h.1)

last_some : (t : List ℕ) → 0 < length t → last t ≡ t ∷ []
last_some [] h = absurd (omega arith)
last_some (b ∷ bs) h = refl

pub parting : Parting
parting =
    record {
      none = refl;
      first = λ line rest e.
          (let p = plain_line line e in
          let lines : ended [] (line ++ (10 ∷ rest)) ≡ take 40 line ∷ ended [] rest = ended_join [] line (10 ∷ rest) ∙ ap (λ t. t ++ (begun [] line ∷ ended [] rest)) p.0 ∙ ap (λ t. t ∷ ended [] rest) p.1 in
          let line-is : begun [] (line ++ (10 ∷ rest)) ≡ begun [] rest = begun_join [] line (10 ∷ rest) in
          ap (λ t. t ++ last (begun [] (line ++ (10 ∷ rest)))) lines ∙ ap (λ t. take 40 line ∷ (ended [] rest ++ last t)) line-is);
      rest = λ line e h.
          (let p = plain_line line e in
          let some : 0 < length (take 40 line) = simp length-take (omega arith) in
          ap (λ t. t ++ last (begun [] line)) p.0 ∙ ap last p.1 ∙ last_some (take 40 line) some);
    }
