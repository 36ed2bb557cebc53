-- A whole line: how far it goes along with the shape, and what its parts are. Assumes nothing.
use Rattle.std.proofs.Common.{◌≡◌, ℕ, suc, ◌+◌, ◌-◌, ◌^◌, ◌<◌, ◌≤◌, ◌⊎◌, List, ◌∷◌, ◌++◌, length, get_or, take, drop, Some, None, codes, sym, refl, ap, ◌∙◌, subst, inl, inr, append_assoc, arith, MatchOption}
use Rattle.std.specs.List.{between}
use Rattle.std.proofs.lemmas.List.{drop_more, drop_all, drop-drop, length-drop, length-take-le, take-append-drop}
use Rattle.std.proofs.lemmas.Slice.{between_to_end}
use Rattle.std.proofs.lemmas.Bool.{ne_eqb, both_ways}
use Rattle.numbers.specs.declared.refusal.Refusal.{Refusal}
use Rattle.numbers.specs.Refusals.{Refused}
use Rattle.sheets.specs.declared.line.Field.{Field}
use Rattle.sheets.specs.declared.line.Word.{Word}
use Rattle.sheets.specs.declared.line.Word.TheVariants.{Add, Sub}
use Rattle.sheets.specs.declared.reader.Found.{Found}
use Rattle.sheets.specs.Digits.{is_digit}
use Rattle.sheets.specs.Elements.{Closed}
use Rattle.sheets.specs.Forms.{Form, end, reach, Astray}
use Rattle.sheets.specs.Lines.{word_text, field_text, OutOfRange, IsField, FieldAt, Parts, IsLine, FirstOut, SecondOut, HasParts}
use Rattle.sheets.specs.Shapes.{literal, field_shape, pair_shape, line_shape}
use Rattle.sheets.proofs.Forms.{astray}

-- no text begins with a digit that has a tab in front, and none that is empty
tab_closed : (rest : Form) → Closed (literal (codes "\t") rest)
tab_closed rest b bs d = rw (ne_eqb b 9 (λ e. both_ways (is_digit 10 b) (ap (is_digit 10) e) d))

end_closed : Closed end
end_closed b bs d = refl

-- a refusal with 5, where the line reaches no further
pub misshapen_at : (line : List ℕ) (e : Refusal) → Refused e 5 e.place 0 → e.place ≤ length line → reach line_shape line ≡ e.place → Astray line_shape line e.place × Refused e 5 e.place 0
misshapen_at line e r h along = (astray line_shape line e.place along h, r)

is_word : (w : Word) → (word_text w ≡ codes "add") ⊎ (word_text w ≡ codes "sub")
is_word Add = inl refl
is_word Sub = inr refl

module _ (line : List ℕ) (w : Word) (front : line ≡ word_text w ++ (9 ∷ drop 4 line)) (along : reach line_shape line ≡ 4 + reach pair_shape (drop 4 line)) where
  -- the first field goes astray
  pub first_stop : (place : ℕ) → ((rest : Form) → 4 + reach (field_shape rest) (drop 4 line) ≡ place) → reach line_shape line ≡ place
  unfolding pair_shape
  first_stop place stop = along ∙ stop (literal (codes "\t") (field_shape end))

  module _ (found : Found) (first : FieldAt line 4 found) where
    abbrev tab : ℕ
    tab = found.end

    to_tab : reach line_shape line ≡ tab + reach (literal (codes "\t") (field_shape end)) (drop tab line)
    unfolding pair_shape
    to_tab = along ∙ first.goes_on (literal (codes "\t") (field_shape end)) (tab_closed (field_shape end))

    -- no tab follows
    pub no_tab_past : length line ≤ tab → reach line_shape line ≡ tab
    no_tab_past h =
        let none : reach (literal (codes "\t") (field_shape end)) (drop tab line) ≡ 0 = ap (reach (literal (codes "\t") (field_shape end))) (drop_all tab line h) in
        omega (arith, to_tab)

    pub no_tab_at : tab < length line → (get_or line tab 0 ≡ 9 → ⊥) → reach line_shape line ≡ tab
    no_tab_at h ne =
        let none : reach (literal (codes "\t") (field_shape end)) (drop tab line) ≡ 0 = ap (reach (literal (codes "\t") (field_shape end))) (drop_more line tab 0 h) ∙ rw (ne_eqb (get_or line tab 0) 9 ne) refl in
        omega (arith, to_tab)

    module _ (room : tab < length line) (is-tab : get_or line tab 0 ≡ 9) where
      past : drop tab line ≡ 9 ∷ drop (tab + 1) line
      past = drop_more line tab 0 room ∙ ap (λ b. b ∷ drop (tab + 1) line) is-tab

      past_tab : reach line_shape line ≡ tab + 1 + reach (field_shape end) (drop (tab + 1) line)
      past_tab =
          let step : reach (literal (codes "\t") (field_shape end)) (drop tab line) ≡ suc (reach (field_shape end) (drop (tab + 1) line)) = ap (reach (literal (codes "\t") (field_shape end))) past in
          omega (arith, to_tab)

      -- the second field goes astray
      pub second_stop : (place : ℕ) → ((rest : Form) → tab + 1 + reach (field_shape rest) (drop (tab + 1) line) ≡ place) → reach line_shape line ≡ place
      second_stop place stop = past_tab ∙ stop end

      module _ (other : Found) (second : FieldAt line (tab + 1) other) where
        -- more bytes follow
        pub too_long : other.end < length line → reach line_shape line ≡ other.end
        too_long h =
            let none : reach end (drop other.end line) ≡ 0 = ap (reach end) (drop_more line other.end 0 h) in
            omega (arith, past_tab, second.goes_on end end_closed)

        pub parts_are : length line ≤ other.end → Parts line (word_text w) (between 4 tab line) (between (tab + 1) other.end line)
        parts_are h =
            let tail : between (tab + 1) other.end line ≡ drop (tab + 1) line = between_to_end line (tab + 1) other.end h in
            let four : 4 + (tab - 4) ≡ tab = omega (arith, first.later) in
            let rest : drop (tab - 4) (drop 4 line) ≡ drop tab line = drop-drop (tab - 4) 4 line ∙ ap (λ k. drop k line) four in
            let cut : between 4 tab line ++ drop tab line ≡ drop 4 line = ap (λ t. take (tab - 4) (drop 4 line) ++ t) (sym rest) ∙ take-append-drop (tab - 4) (drop 4 line) in
            let behind : drop tab line ≡ 9 ∷ between (tab + 1) other.end line = past ∙ ap (λ t. 9 ∷ t) (sym tail) in
            let joined : drop 4 line ≡ between 4 tab line ++ (9 ∷ between (tab + 1) other.end line) = sym cut ∙ ap (λ t. between 4 tab line ++ t) behind in
            record {
              whole = front ∙ ap (λ t. word_text w ++ (9 ∷ t)) joined ∙ sym (append_assoc (word_text w) (9 ∷ between 4 tab line) (9 ∷ between (tab + 1) other.end line));
              is_word = is_word w;
              is_first = first.is_field;
              is_second = second.is_field;
            }

        first-length : 5 + length (between 4 tab line) ≡ tab + 1
        first-length =
            let len : length (take (tab - 4) (drop 4 line)) ≡ tab - 4 = length-take-le (tab - 4) (drop 4 line) (omega (arith, length-drop 4 line, first.within)) in
            omega (arith, first.later)

        -- the fields, or the first of them that is out of range
        pub first_out : length line ≤ other.end → found.field ≡ None → (e : Refusal) → Refused e 6 4 1 → FirstOut line e
        first_out h none e r = record {
          word = word_text w;
          first = between 4 tab line;
          second = between (tab + 1) other.end line;
          parts = parts_are h;
          out = subst (λ o. MatchOption o (OutOfRange (between 4 tab line)) (λ f. IsField (between 4 tab line) 4 f)) none first.field_is;
          refused = r;
        }

        pub second_out : length line ≤ other.end → (f : Field) → found.field ≡ Some f → other.field ≡ None → (e : Refusal) → Refused e 6 (tab + 1) 2 → SecondOut line e
        second_out h f some none e r =
            let is : IsField (between 4 tab line) 4 f = subst (λ o. MatchOption o (OutOfRange (between 4 tab line)) (λ f. IsField (between 4 tab line) 4 f)) some first.field_is in
            record {
              word = word_text w;
              first = between 4 tab line;
              second = between (tab + 1) other.end line;
              parts = parts_are h;
              inside = is.inside;
              out = subst (λ o. MatchOption o (OutOfRange (between (tab + 1) other.end line)) (λ f. IsField (between (tab + 1) other.end line) (tab + 1) f)) none second.field_is;
              refused = subst (λ p. Refused e 6 p 2) (sym first-length) r;
            }

        pub line_read : length line ≤ other.end → (f g : Field) → found.field ≡ Some f → other.field ≡ Some g → IsLine line (record { word = w; first = f; second = g })
        line_read h f g some also =
            let is : IsField (between 4 tab line) 4 f = subst (λ o. MatchOption o (OutOfRange (between 4 tab line)) (λ f. IsField (between 4 tab line) 4 f)) some first.field_is in
            let js : IsField (between (tab + 1) other.end line) (tab + 1) g = subst (λ o. MatchOption o (OutOfRange (between (tab + 1) other.end line)) (λ f. IsField (between (tab + 1) other.end line) (tab + 1) f)) also second.field_is in
            let place : tab + 1 ≡ 5 + length (field_text f) = sym first-length ∙ ap (λ t. 5 + length t) (sym is.bytes_are) in
            record {
              parts = subst (λ t. Parts line (word_text w) t (field_text g)) (sym is.bytes_are) (subst (λ t. Parts line (word_text w) (between 4 tab line) t) (sym js.bytes_are) (parts_are h));
              first_is = subst (λ t. IsField t 4 f) (sym is.bytes_are) is;
              second_is = subst (λ p. IsField (field_text g) p g) place (subst (λ t. IsField t (tab + 1) g) (sym js.bytes_are) js);
            }

        pub has_parts : length line ≤ other.end → tab + 1 < 2 ^ 64 → HasParts line (record { word = w; tab = tab; first = found.field; second = other.field })
        has_parts h room =
            record {
              room = room;
              both = line_read h;
              first_out = first_out h;
              second_out = second_out h;
            }
