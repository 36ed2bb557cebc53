-- Lines: the answer of the line reader is what the text says. Assumes nothing.
use Rattle.std.proofs.Common.{◌≡◌, ℕ, ◌+◌, ◌^◌, ◌<◌, ◌≤◌, Bool, true, false, cond, ◌||◌, T, eqb, leb, ◌⊎◌, List, [], ◌∷◌, ◌++◌, length, drop, ℤ, pos, neg_ℤ, Err, codes, sym, refl, ap, ◌∙◌, subst, ap₂, inl, inr, le_antisymm, arith, w32, SFits}
use lib.Ieee.Bits.{is_true}
use lib.Signed.{lt_z, le_z}
use Rattle.std.proofs.lemmas.Bool.{eq-eqb, eqb-true, le-leb, lt-leb, cond-true, cond-false, and_parts, and_from, or_left, or_right, or_cases, cases_lt, false≢true}
use Rattle.numbers.specs.declared.refusal.Refusal.{Refusal}
use Rattle.numbers.specs.Counts.{count_value}
use Rattle.numbers.specs.Patterns.{pattern_value}
use Rattle.numbers.specs.Refusals.{Refused}
use Rattle.sheets.specs.declared.line.Line.{Line}
use Rattle.sheets.specs.declared.line.Word.{Word}
use Rattle.sheets.specs.declared.line.Word.TheVariants.{Add, Sub}
use Rattle.sheets.specs.Digits.{number_of}
use Rattle.sheets.specs.Elements.{Outside, count_of, pattern_text, count_text}
use Rattle.sheets.specs.Forms.{Form, Lang, Astray, reach}
use Rattle.sheets.specs.Lines.{word_text, line_text, field_text, place_of, Parts, OutOfRange, IsLine, ReadsLine}
use Rattle.sheets.specs.Shapes.{pair_shape, line_shape}
use Rattle.sheets.proofs.Forms.{reach_le, lang_reach, reach_lang, astray}
use Rattle.sheets.proofs.Counted.{spelled_count}
use Rattle.sheets.proofs.Numerals.{number-last}
use Rattle.sheets.proofs.Trips.{NoTab, field_on, field_no_tab}
use Rattle.runs.specs.Calls.{misread, product}
use Rattle.runs.specs.Lines.{before_tab, behind_tab, field_value, field_out, withdraws, is_sub, line_reading}

-- the bytes before and behind a tab

before_tab_lem : (t r : List ℕ) → NoTab t → before_tab (t ++ (9 ∷ r)) ≡ t
before_tab_lem [] r h = refl
before_tab_lem (b ∷ bs) r h = cond-false (eqb b 9) [] (b ∷ before_tab (bs ++ (9 ∷ r))) h.0 ∙ ap (λ l. b ∷ l) (before_tab_lem bs r h.1)

behind_tab_lem : (t r : List ℕ) → NoTab t → behind_tab (t ++ (9 ∷ r)) ≡ r
behind_tab_lem [] r h = refl
behind_tab_lem (b ∷ bs) r h = cond-false (eqb b 9) (bs ++ (9 ∷ r)) (behind_tab (bs ++ (9 ∷ r))) h.0 ∙ behind_tab_lem bs r h.1

-- the parts of a line

module _ (line word first second : List ℕ) (p : Parts line word first second) where
  fields : drop 4 line ≡ first ++ (9 ∷ second)
  fields = go p.is_word
    where
      go : (word ≡ codes "add") ⊎ (word ≡ codes "sub") → drop 4 line ≡ first ++ (9 ∷ second)
      go (inl w) = ap (drop 4) (p.whole ∙ ap (λ (x : List ℕ). line_text x first second) w)
      go (inr w) = ap (drop 4) (p.whole ∙ ap (λ (x : List ℕ). line_text x first second) w)

  first_is : before_tab (drop 4 line) ≡ first
  first_is = ap before_tab fields ∙ before_tab_lem first second (field_no_tab first p.is_first)

  second_is : behind_tab (drop 4 line) ≡ second
  second_is = ap behind_tab fields ∙ behind_tab_lem first second (field_no_tab first p.is_first)

  pair : Lang pair_shape (first ++ (9 ∷ second))
  unfolding pair_shape
  pair = field_on _ first (9 ∷ second) p.is_first (refl, p.is_second)

  is_line : Lang line_shape line
  unfolding line_shape
  is_line = go p.is_word
    where
      go : (word ≡ codes "add") ⊎ (word ≡ codes "sub") → Lang line_shape line
      go (inl w) = subst (Lang line_shape) (sym (p.whole ∙ ap (λ (x : List ℕ). line_text x first second) w)) (inl (refl, (refl, (refl, (refl, pair)))))
      go (inr w) = subst (Lang line_shape) (sym (p.whole ∙ ap (λ (x : List ℕ). line_text x first second) w)) (inr (refl, (refl, (refl, (refl, pair)))))

  -- the line has the right shape, so its fields decide
  shaped : line_reading line
      ≡ cond (field_out first) (misread 6 4 1) (cond (field_out second) (misread 6 (5 + length first) 2) (product (withdraws line) (field_value first) 4 (field_value second) (5 + length first)))
  unfolding line_reading
  shaped =
      cond-false (leb (reach line_shape line) (length line)) _ _ (lt-leb (reach line_shape line) (length line) (omega (arith, lang_reach line_shape line is_line)))
      ∙ ap₂ (λ (f s : List ℕ). cond (field_out f) (misread 6 4 1) (cond (field_out s) (misread 6 (5 + length f) 2) (product (withdraws line) (field_value f) 4 (field_value s) (5 + length f)))) first_is second_is

-- the range of a count

out-true : (text : List ℕ) → OutOfRange text → field_out text ≡ true
out-true [] h = absurd h
out-true (letter ∷ text) (inl h) = absurd h.1
out-true (letter ∷ text) (inr (l, o)) = and_from (eqb letter 99) _ (eq-eqb letter 99 l) (go o)
  where
    z : ℤ
    z = count_of text

    go : Outside 32 z → (lt_z z (neg_ℤ (pos (2 ^ 31))) || le_z (pos (2 ^ 31)) z) ≡ true
    go (inl k) = or_left (lt_z z (neg_ℤ (pos (2 ^ 31)))) (le_z (pos (2 ^ 31)) z) (is_true _ k.lt)
    go (inr k) = or_right (lt_z z (neg_ℤ (pos (2 ^ 31)))) (le_z (pos (2 ^ 31)) z) (is_true _ k.le)

out_from : (text : List ℕ) → field_out text ≡ true → OutOfRange text
out_from [] h = absurd (false≢true h)
out_from (letter ∷ text) h =
    let p = and_parts (eqb letter 99) _ h in
    inr (eqb-true letter 99 p.0, go (or_cases _ _ p.1))
  where
    z : ℤ
    z = count_of text

    go : (lt_z z (neg_ℤ (pos (2 ^ 31))) ≡ true) ⊎ (le_z (pos (2 ^ 31)) z ≡ true) → Outside 32 z
    go (inl k) = inl (record { lt = subst T (sym k) tt })
    go (inr k) = inr (record { le = subst T (sym k) tt })

out-false : (text : List ℕ) → (OutOfRange text → ⊥) → field_out text ≡ false
out-false text h = go (field_out text) refl
  where
    go : (b : Bool) → field_out text ≡ b → field_out text ≡ false
    go true e = absurd (h (out_from text e))
    go false e = e

-- the place of another shape

astray_once : (f : Form) (text : List ℕ) (p q : ℕ) → Astray f text p → Astray f text q → p ≡ q
astray_once f text p q a b =
    le_antisymm (subst (λ (x : ℕ). x ≤ q) a.shares (b.most a.nearest a.is_form)) (subst (λ (x : ℕ). x ≤ p) b.shares (a.most b.nearest b.is_form))

misshapen : (line : List ℕ) (place : ℕ) → Astray line_shape line place → line_reading line ≡ misread 5 place 0
unfolding line_reading
misshapen line place a = go (cases_lt (length line) (reach line_shape line))
  where
    go : (length line < reach line_shape line) ⊎ (reach line_shape line ≤ length line) → line_reading line ≡ misread 5 place 0
    go (inl h) = absurd (a.none (reach_lang line_shape line (omega (arith, reach_le line_shape line))))
    go (inr h) = cond-true _ _ _ (le-leb (reach line_shape line) (length line) h) ∙ ap (λ (x : ℕ). misread 5 x 0) (astray_once line_shape line (reach line_shape line) place (astray line_shape line (reach line_shape line) refl h) a)

-- the reader's refusals

pub record Misread (line : List ℕ) (e : Refusal) : Type 0 where
  pub code : ℕ
  pub place : ℕ
  pub side : ℕ
  pub reading : line_reading line ≡ misread code place side
  pub refused_so : Refused e code place side

pub line_refused : (line : List ℕ) (e : Refusal) → ReadsLine line (Err e) → Misread line e
line_refused line e (inl h) = record { code = 5; place = e.place; side = 0; reading = misshapen line e.place h.0; refused_so = h.1 }
line_refused line e (inr (inl f)) =
    record {
      code = 6;
      place = 4;
      side = 1;
      reading = shaped line f.word f.first f.second f.parts ∙ cond-true _ _ _ (out-true f.first f.out);
      refused_so = f.refused;
    }
line_refused line e (inr (inr s)) =
    record {
      code = 6;
      place = 5 + length s.first;
      side = 2;
      reading = shaped line s.word s.first s.second s.parts ∙ cond-false _ _ _ (out-false s.first s.inside) ∙ cond-true _ _ _ (out-true s.second s.out);
      refused_so = s.refused;
    }

-- the reader's lines

withdraws-word : (w : Word) (first second : List ℕ) → withdraws (line_text (word_text w) first second) ≡ is_sub w
withdraws-word Add first second = refl
withdraws-word Sub first second = refl

pub line-accepted : (bytes : List ℕ) (l : Line) → IsLine bytes l
    → line_reading bytes ≡ product (is_sub l.word) (field_value (field_text l.first)) (place_of l.first) (field_value (field_text l.second)) (place_of l.second)
line-accepted bytes l h =
    shaped bytes (word_text l.word) first second h.parts
    ∙ cond-false _ _ _ (out-false first h.first_is.inside)
    ∙ cond-false _ _ _ (out-false second h.second_is.inside)
    ∙ ap (λ (w : Bool). product w (field_value first) 4 (field_value second) (5 + length first)) (ap withdraws h.parts.whole ∙ withdraws-word l.word first second)
    ∙ ap₂ (λ (p q : ℕ). product (is_sub l.word) (field_value first) p (field_value second) q) (sym h.first_is.place_is) (sym h.second_is.place_is)
  where
    first : List ℕ
    first = field_text l.first

    second : List ℕ
    second = field_text l.second

-- the elements' values

pub pattern_field : (element : ℕ) (digits : List ℕ) → element < 2 ^ 64 → pattern_text element ≡ digits → field_value (112 ∷ digits) ≡ pattern_value element
unfolding pattern_text
pattern_field element digits fits h = ap pattern_value (ap (number_of 16) (sym h) ∙ number-last 16 16 element (omega arith) (omega arith) fits)

pub count_field : (element : ℤ) (digits : List ℕ) → SFits w32 element → count_text element ≡ digits → field_value (99 ∷ digits) ≡ count_value element
count_field element digits fits h = ap count_value (ap count_of (sym h) ∙ (spelled_count element fits).number_is)
