-- A field from its letter on: how far a line goes along with it. Assumes nothing.
use Rattle.std.proofs.Common.{◌≡◌, ℕ, suc, ◌+◌, ◌-◌, ◌^◌, ◌<◌, ◌≤◌, ◌⊎◌, List, [], ◌∷◌, length, get_or, take, drop, ℤ, pos, negsuc, Some, None, Ok, Err, Option, Result, sym, refl, ap, ◌∙◌, subst, inl, inr, arith, lit<, lit≤, MatchOption}
use Rattle.std.specs.Option.{IsSomeAnd}
use Rattle.std.specs.Result.{MatchResult}
use borrow.Author.Differences.{ints}
use lib.Signed.{mag}
use denote.Ref.{Bor}
use Rattle.std.specs.List.{between, HoldsAt}
use Rattle.std.specs.Slice.{IsItemAt}
use Rattle.std.proofs.lemmas.List.{drop_more, drop_all, drop-drop, length-drop}
use Rattle.std.proofs.lemmas.Bool.{ne_eqb, cases_lt}
use Rattle.std.proofs.lemmas.Fmt.{signed_decimal_injective}
use Rattle.numbers.specs.declared.refusal.Refusal.{Refusal}
use Rattle.numbers.specs.Refusals.{Refused}
use Rattle.sheets.specs.declared.line.Field.{Field}
use Rattle.sheets.specs.declared.line.Field.TheVariants.{Pattern, Count}
use Rattle.sheets.specs.declared.written.Read.{Read}
use Rattle.sheets.specs.Elements.{TextAt, ReadsText, Closed, Outside, pattern_text, count_text, NoPattern, NoCount}
use Rattle.sheets.specs.Digits.{number_of}
use Rattle.sheets.specs.Forms.{Form, end, Lang, reach}
use Rattle.sheets.specs.Lines.{Leads, IsField, FieldAt, ReadsField, OutOfRange, field_text, place_of, Writes, Proper, HoldsPattern, HoldsCount}
use Rattle.sheets.specs.Shapes.{pattern_shape, count_shape, field_shape}
use Rattle.sheets.proofs.Numerals.{number-last}

-- what `get` lent: no byte behind the end, and else the byte there
pub no_item : (bytes : List ℕ) (i : ℕ) (r : Option (Bor ℕ)) → IsItemAt bytes i r → r ≡ None → length bytes ≤ i
no_item bytes i r is none = subst (λ o. MatchOption o (length bytes ≤ i) (λ x. (i < length bytes) × HoldsAt (λ y. x.now ≡ y) bytes i)) none is.3

pub item_is : (bytes : List ℕ) (i : ℕ) (r : Option (Bor ℕ)) (x : Bor ℕ) → IsItemAt bytes i r → r ≡ Some x → (i < length bytes) × (get_or bytes i 0 ≡ x.now)
item_is bytes i r x is some =
    let here = subst (λ o. MatchOption o (length bytes ≤ i) (λ x. (i < length bytes) × HoldsAt (λ y. x.now ≡ y) bytes i)) some is.3 in
    (here.0, sym (here.1 0))

pub ok_is : {A B : Type 0} (C : Type 0) (r : Result A B) (x : A) → MatchResult r (λ y. ◌≡◌ {A = Result A C} (Ok x) (Ok y)) (λ e. ⊥) → r ≡ Ok x
ok_is C (Ok y) x h = let same : x ≡ y = cc in cc
ok_is C (Err e) x h = absurd h

pub pattern-leads : Leads 112 pattern_shape NoPattern
unfolding field_shape
pattern-leads =
    record {
      along = λ rest bs. omega arith;
      is_field = λ text h. inl (refl, h);
      out = λ text bad. absurd bad;
      only = λ text out. elim out [ inl h ↦ h.1 | inr h ↦ absurd (omega (arith, h.0)) ];
    }

pub count-leads : Leads 99 count_shape NoCount
unfolding field_shape
count-leads =
    record {
      along = λ rest bs. omega arith;
      is_field = λ text h. inr (refl, h);
      out = λ text bad. inr (refl, bad);
      only = λ text out. elim out [ inl h ↦ absurd h.1 | inr h ↦ h.1 ];
    }

-- bytes that begin with no letter of a kind go along with no field
pub no_letter : (bytes : List ℕ) → (0 < length bytes → get_or bytes 0 0 ≡ 112 → ⊥) → (0 < length bytes → get_or bytes 0 0 ≡ 99 → ⊥) → (rest : Form) → reach (field_shape rest) bytes ≡ 0
unfolding field_shape
no_letter [] p q rest = refl
no_letter (b ∷ bs) p q rest = rw (ne_eqb b 112 (p (omega arith)), ne_eqb b 99 (q (omega arith))) refl

module _ (line : List ℕ) (at letter : ℕ) (is-letter : get_or line at 0 ≡ letter) (within : at < length line) where
  from_letter : drop at line ≡ letter ∷ drop (at + 1) line
  from_letter = drop_more line at 0 within ∙ ap (λ b. b ∷ drop (at + 1) line) is-letter

  -- the bytes of the field
  pub field_bytes : (len : ℕ) → between at (at + 1 + len) line ≡ letter ∷ take len (drop (at + 1) line)
  field_bytes len =
      let n : at + 1 + len - at ≡ suc len = omega arith in
      rw (n, from_letter)

  module _ {E : Type 0} {shape : Form → Form} {text : E → List ℕ} {outside : List ℕ → Type 0} (leads : Leads letter shape outside) where
    -- a field is found where the text of an element stands behind the letter
    pub field_at : (r : Read E) → TextAt shape text outside (drop (at + 1) line) r → (field : Option Field) → MatchOption field (OutOfRange (between at (at + 1 + r.len) line)) (λ f. IsField (between at (at + 1 + r.len) line) at f) → FieldAt line at (record { end = at + 1 + r.len; field = field })
    field_at r t field is =
        let bytes = field_bytes r.len in
        record {
          later = omega arith;
          within = omega (arith, t.within, length-drop (at + 1) line);
          is_field = subst (Lang (field_shape end)) (sym bytes) (leads.is_field (take r.len (drop (at + 1) line)) t.is_shape);
          goes_on = λ rest closed. along rest closed;
          field_is = is;
        }
      where
        along : (rest : Form) → Closed rest → at + reach (field_shape rest) (drop at line) ≡ at + 1 + r.len + reach rest (drop (at + 1 + r.len) line)
        along rest closed =
            let first : reach (field_shape rest) (drop at line) ≡ suc (reach (shape rest) (drop (at + 1) line)) = ap (reach (field_shape rest)) from_letter ∙ leads.along rest (drop (at + 1) line) in
            let next = t.goes_on rest closed in
            let skip : reach rest (drop r.len (drop (at + 1) line)) ≡ reach rest (drop (at + 1 + r.len) line) = ap (reach rest) (drop-drop r.len (at + 1) line) in
            omega arith

    -- with no element where the number is out of range
    pub field_none : (r : Read E) → TextAt shape text outside (drop (at + 1) line) r → r.element ≡ None → FieldAt line at (record { end = at + 1 + r.len; field = None })
    field_none r t none =
        let bytes = take r.len (drop (at + 1) line) in
        let out : outside bytes = subst (λ o. MatchOption o (outside bytes) (λ e. (text e ≡ bytes) × (outside bytes → ⊥))) none t.element_is in
        field_at r t None (subst OutOfRange (sym (field_bytes r.len)) (leads.out bytes out))

    -- and else with the field that holds the element
    pub field_some : (r : Read E) → TextAt shape text outside (drop (at + 1) line) r → (e : E) → r.element ≡ Some e → (f : Field) → field_text f ≡ letter ∷ take r.len (drop (at + 1) line) → place_of f ≡ at → Proper f → (text e ≡ take r.len (drop (at + 1) line) → Writes f) → FieldAt line at (record { end = at + 1 + r.len; field = Some f })
    field_some r t e some f holds place proper writes =
        let bytes = take r.len (drop (at + 1) line) in
        let is : (text e ≡ bytes) × (outside bytes → ⊥) = subst (λ o. MatchOption o (outside bytes) (λ e. (text e ≡ bytes) × (outside bytes → ⊥))) some t.element_is in
        field_at r t (Some f)
        (record {
          bytes_are = holds ∙ sym (field_bytes r.len);
          place_is = place;
          proper = proper;
          writes = writes is.0;
          inside = λ out. is.1 (leads.only bytes (subst OutOfRange (field_bytes r.len) out));
        })

    -- by the answer of a reader, and what was made of its element
    pub field_made : (r : Read E) → TextAt shape text outside (drop (at + 1) line) r → (made : Option Field) {Made : E → Field → Type 0} → MatchOption r.element (made ≡ None) (λ e. IsSomeAnd made (Made e)) →
        ((e : E) (f : Field) → Made e f → (field_text f ≡ letter ∷ take r.len (drop (at + 1) line)) × (place_of f ≡ at) × Proper f × (text e ≡ take r.len (drop (at + 1) line) → Writes f)) → FieldAt line at (record { end = at + 1 + r.len; field = made })
    field_made r t made {Made} by is = go r.element refl made by
      where
        go : (o : Option E) → r.element ≡ o → (made : Option Field) → MatchOption o (made ≡ None) (λ e. IsSomeAnd made (Made e)) → FieldAt line at (record { end = at + 1 + r.len; field = made })
        go None none made by = subst (λ m. FieldAt line at (record { end = at + 1 + r.len; field = m })) (sym by) (field_none r t none)
        go (Some e) some None by = absurd by
        go (Some e) some (Some f) by = let h = is e f by in field_some r t e some f h.0 h.1 h.2 h.3

  -- or the line goes along with the shape no further
  pub field_stop : (shape : Form → Form) (outside : List ℕ → Type 0) → Leads letter shape outside → (n : ℕ) → ((rest : Form) → reach (shape rest) (drop (at + 1) line) ≡ n) → (rest : Form) → at + reach (field_shape rest) (drop at line) ≡ at + 1 + n
  field_stop shape outside leads n stop rest =
      let first : reach (field_shape rest) (drop at line) ≡ suc (reach (shape rest) (drop (at + 1) line)) = ap (reach (field_shape rest)) from_letter ∙ leads.along rest (drop (at + 1) line) in
      omega (arith, stop rest)

  pub field_missed : {E : Type 0} (shape : Form → Form) (text : E → List ℕ) (outside : List ℕ → Type 0) → Leads letter shape outside → (r : Result (Read E) ℕ) → ReadsText shape text outside (drop (at + 1) line) r →
      {Taken : Read E → Type 0} {Missed : ℕ → Type 0} → MatchResult r Taken Missed → ((x : Read E) → Taken x → ⊥) → (e : Refusal) → ((n : ℕ) → Missed n → Refused e 5 (at + 1 + n) 0) → ReadsField line at (Err e)
  field_missed shape text outside leads (Ok x) answer by never e is = absurd (never x by)
  field_missed shape text outside leads (Err n) answer by never e is =
      let h = is n by in
      let along = field_stop shape outside leads n answer.1 in
      ((h.0, refl, h.2), omega (arith, h.1, answer.0, length-drop (at + 1) line), λ rest. along rest ∙ sym h.1)

-- no field stands at `at`
pub no_field_past : (line : List ℕ) (at : ℕ) → length line ≤ at → (rest : Form) → at + reach (field_shape rest) (drop at line) ≡ at
no_field_past line at h rest =
    let none : reach (field_shape rest) (drop at line) ≡ 0 = ap (reach (field_shape rest)) (drop_all at line h) ∙ no_letter [] (λ l. absurd (omega arith)) (λ l. absurd (omega arith)) rest in
    omega arith

pub no_field_at : (line : List ℕ) (at : ℕ) → at < length line → (get_or line at 0 ≡ 112 → ⊥) → (get_or line at 0 ≡ 99 → ⊥) → (rest : Form) → at + reach (field_shape rest) (drop at line) ≡ at
no_field_at line at h p q rest =
    let none : reach (field_shape rest) (drop at line) ≡ 0 = ap (reach (field_shape rest)) (drop_more line at 0 h) ∙ no_letter (get_or line at 0 ∷ drop (at + 1) line) (λ l. p) (λ l. q) rest in
    omega arith

-- a pattern is known by its text, and so is a count
pattern-same : (m n : ℕ) → m < 2 ^ 64 → n < 2 ^ 64 → pattern_text m ≡ pattern_text n → m ≡ n
unfolding pattern_text
pattern-same m n h k e = sym (number-last 16 16 m (lit< tt) (lit≤ tt) h) ∙ ap (number_of 16) e ∙ number-last 16 16 n (lit< tt) (lit≤ tt) k

count_same : (y z : ℤ) → (Outside 32 y → ⊥) → (Outside 32 z → ⊥) → count_text y ≡ count_text z → y ≡ z
unfolding count_text
count_same y z h k e = signed_decimal_injective y z (short y h) (short z k) e
  where
    short : (z : ℤ) → (Outside 32 z → ⊥) → mag z < 2 ^ 63
    short (pos n) h = go (cases_lt n (2 ^ 31))
      where
        go : (n < 2 ^ 31) ⊎ (2 ^ 31 ≤ n) → n < 2 ^ 63
        go (inl l) = omega arith
        go (inr l) = absurd (h (inr (omega (arith, ints))))
    short (negsuc n) h = go (cases_lt n (2 ^ 31))
      where
        go : (n < 2 ^ 31) ⊎ (2 ^ 31 ≤ n) → n < 2 ^ 63
        go (inl l) = omega arith
        go (inr l) = absurd (h (inl (omega (arith, ints))))

pub pattern-back : (n : ℕ) → n < 2 ^ 64 → (f : Field) → field_text f ≡ 112 ∷ pattern_text n → Proper f → Writes f → HoldsPattern f n
pattern-back n h (Pattern digits place element) e p w =
    let text : digits.now ≡ pattern_text n = cc in
    pattern-same element n p h (w ∙ text)
pattern-back n h (Count digits place element) e p w = let bad : ◌≡◌ {A = ℕ} 99 112 = cc in absurd (omega arith)

pub count-back : (z : ℤ) → (Outside 32 z → ⊥) → (f : Field) → field_text f ≡ 99 ∷ count_text z → Proper f → Writes f → HoldsCount f z
count-back z h (Pattern digits place element) e p w = let bad : ◌≡◌ {A = ℕ} 112 99 = cc in absurd (omega arith)
count-back z h (Count digits place element) e p w =
    let text : digits.now ≡ count_text z = cc in
    count_same element z p h (w ∙ text)
