-- A written line reads back: it is of the shape, and there is one way to part it. Assumes nothing.
use Rattle.std.proofs.Common.{◌≡◌, ℕ, Bool, true, false, not, ◌&&◌, eqb, ◌⊎◌, List, [], ◌∷◌, ◌++◌, length, Ok, Err, codes, Result, sym, refl, ap, ◌∙◌, subst, inl, inr, append_assoc, arith}
use Rattle.std.proofs.lemmas.Bool.{eq-eqb, ne_eqb, and_parts, both_ways, not-true}
use Rattle.numbers.specs.declared.refusal.Refusal.{Refusal}
use Rattle.sheets.specs.declared.line.Field.{Field}
use Rattle.sheets.specs.declared.line.Line.{Line}
use Rattle.sheets.specs.declared.line.Word.{Word}
use Rattle.sheets.specs.declared.line.Word.TheVariants.{Add, Sub}
use Rattle.sheets.specs.Forms.{Class, Form, end, one, either, Lang}
use Rattle.sheets.specs.Lines.{word_text, line_text, field_text, OutOfRange, Stands, Parts, ReadsLine, ReadsBack, RoundTrip}
use Rattle.sheets.specs.Shapes.{literal, pattern_shape, size_shape, count_shape, field_shape, pair_shape, line_shape}
use Rattle.sheets.proofs.Words.{word-length}

-- one form and then another
infixr 20 ◌⊕◌
pub ◌⊕◌ : Form → Form → Form
end ⊕ rest = rest
one c f ⊕ rest = one c (f ⊕ rest)
either f g ⊕ rest = either (f ⊕ rest) (g ⊕ rest)

pub lang_join : (f rest : Form) (t r : List ℕ) → Lang f t → Lang rest r → Lang (f ⊕ rest) (t ++ r)
unfolding ◌⊕◌
lang_join end rest [] r h k = k
lang_join end rest (b ∷ bs) r h k = absurd h
lang_join (one c f) rest [] r h k = absurd h
lang_join (one c f) rest (b ∷ bs) r h k = (h.0, lang_join f rest bs r h.1 k)
lang_join (either f g) rest t r (inl h) k = inl (lang_join f rest t r h k)
lang_join (either f g) rest t r (inr h) k = inr (lang_join g rest t r h k)

pub field_on : (rest : Form) (t r : List ℕ) → Lang (field_shape end) t → Lang rest r → Lang (field_shape rest) (t ++ r)
unfolding ◌⊕◌ field_shape pattern_shape count_shape size_shape
field_on rest t r h k = lang_join (field_shape end) rest t r h k

-- two fields behind a word make a line
pub line_lang : (w : Word) (f g : List ℕ) → Lang (field_shape end) f → Lang (field_shape end) g → Lang line_shape (line_text (word_text w) f g)
unfolding line_shape pair_shape
line_lang w f g h k = subst (Lang line_shape) (sym (append_assoc (word_text w) (9 ∷ f) (9 ∷ g))) (go w)
  where
    pair : Lang (field_shape (literal (codes "\t") (field_shape end))) (f ++ (9 ∷ g))
    pair = field_on (literal (codes "\t") (field_shape end)) f (9 ∷ g) h (refl, k)

    go : (w : Word) → Lang line_shape (word_text w ++ (9 ∷ (f ++ (9 ∷ g))))
    go Add = inl (refl, (refl, (refl, (refl, pair))))
    go Sub = inr (refl, (refl, (refl, (refl, pair))))

-- a form whose classes lack a byte, and a text with no tab
pub lacks : ℕ → Form → Bool
lacks b end = true
lacks b (one c f) = not (c.holds b) && lacks b f
lacks b (either f g) = lacks b f && lacks b g

abbrev pub NoTab : List ℕ → Type 0
NoTab [] = Unit {0}
NoTab (b ∷ bs) = (eqb b 9 ≡ false) × NoTab bs

apart : (c : Class) (b : ℕ) → c.holds b ≡ true → not (c.holds 9) ≡ true → eqb b 9 ≡ false
apart c b h n = ne_eqb b 9 (λ e. both_ways (c.holds 9) (not-true (c.holds 9) n) (ap (λ (x : ℕ). c.holds x) (sym e) ∙ h))

pub no_tab : (f : Form) (t : List ℕ) → lacks 9 f ≡ true → Lang f t → NoTab t
unfolding lacks
no_tab end [] l h = tt
no_tab end (b ∷ bs) l h = absurd h
no_tab (one c f) [] l h = absurd h
no_tab (one c f) (b ∷ bs) l h = let p = and_parts (not (c.holds 9)) (lacks 9 f) l in (apart c b h.0 p.0, no_tab f bs p.1 h.1)
no_tab (either f g) t l (inl h) = no_tab f t (and_parts (lacks 9 f) (lacks 9 g) l).0 h
no_tab (either f g) t l (inr h) = no_tab g t (and_parts (lacks 9 f) (lacks 9 g) l).1 h

pub field_no_tab : (t : List ℕ) → Lang (field_shape end) t → NoTab t
unfolding lacks field_shape pattern_shape count_shape size_shape
field_no_tab t h = no_tab (field_shape end) t refl h

-- texts part at the first tab in one way
part_once : (f g h k : List ℕ) → NoTab f → NoTab h → f ++ (9 ∷ g) ≡ h ++ (9 ∷ k) → (f ≡ h) × (g ≡ k)
part_once [] g [] k a b e = (refl, cc)
part_once [] g (x ∷ h) k a b e = let same : 9 ≡ x = cc in absurd (both_ways (eqb x 9) b.0 (eq-eqb x 9 (sym same)))
part_once (x ∷ f) g [] k a b e = let same : x ≡ 9 = cc in absurd (both_ways (eqb x 9) a.0 (eq-eqb x 9 same))
part_once (x ∷ f) g (y ∷ h) k a b e =
    let same : x ≡ y = cc in
    let tail : f ++ (9 ∷ g) ≡ h ++ (9 ∷ k) = cc in
    let parts = part_once f g h k a.1 b.1 tail in
    let front = parts.0 in
    (cc, parts.1)

front_once : (a b x y : List ℕ) → length a ≡ length b → a ++ x ≡ b ++ y → (a ≡ b) × (x ≡ y)
front_once [] [] x y l e = (refl, e)
front_once [] (d ∷ b) x y l e = absurd (omega arith)
front_once (c ∷ a) [] x y l e = absurd (omega arith)
front_once (c ∷ a) (d ∷ b) x y l e =
    let same : c ≡ d = cc in
    let tail : a ++ x ≡ b ++ y = cc in
    let parts = front_once a b x y (omega arith) tail in
    let front = parts.0 in
    (cc, parts.1)

either-length : (word : List ℕ) → (word ≡ codes "add") ⊎ (word ≡ codes "sub") → length word ≡ 3
either-length word (inl e) = ap length e
either-length word (inr e) = ap length e

-- the parts of a line are those that it was made of
pub parts_once : (line word first second v f g : List ℕ) → Parts line word first second → line ≡ line_text v f g → length v ≡ 3 → Lang (field_shape end) f → (word ≡ v) × (first ≡ f) × (second ≡ g)
parts_once line word first second v f g p e l h =
    let joined : word ++ (9 ∷ (first ++ (9 ∷ second))) ≡ v ++ (9 ∷ (f ++ (9 ∷ g))) = sym (append_assoc word (9 ∷ first) (9 ∷ second)) ∙ sym p.whole ∙ e ∙ append_assoc v (9 ∷ f) (9 ∷ g) in
    let fronts = front_once word v (9 ∷ (first ++ (9 ∷ second))) (9 ∷ (f ++ (9 ∷ g))) (either-length word p.is_word ∙ sym l) joined in
    let rest = fronts.1 in
    let tails : first ++ (9 ∷ second) ≡ f ++ (9 ∷ g) = cc in
    let fields = part_once first second f g (field_no_tab first p.is_first) (field_no_tab f h) tails in
    (fronts.0, fields.0, fields.1)

same_word : (v w : Word) → word_text v ≡ word_text w → v ≡ w
same_word Add Add e = refl
same_word Add Sub e = let bad : ◌≡◌ {A = ℕ} 97 115 = cc in absurd (omega arith)
same_word Sub Add e = let bad : ◌≡◌ {A = ℕ} 115 97 = cc in absurd (omega arith)
same_word Sub Sub e = refl

-- what was written reads back as it was
pub trip : (w : Word) (k l : ℕ) {sk sl : Form → Form} {ok ol : List ℕ → Type 0} (tk tl : List ℕ) (hk hl : Field → Type 0) → Stands k sk ok tk hk → Stands l sl ol tl hl → RoundTrip (line_text (word_text w) (k ∷ tk) (l ∷ tl)) w hk hl
trip w k l tk tl hk hl a b r read = go r read
  where
    first : Lang (field_shape end) (k ∷ tk)
    first = a.leads.is_field tk a.is_shape

    second : Lang (field_shape end) (l ∷ tl)
    second = b.leads.is_field tl b.is_shape

    go : (r : Result Line Refusal) → ReadsLine (line_text (word_text w) (k ∷ tk) (l ∷ tl)) r → ReadsBack w hk hl r
    go (Ok line) is =
        let parts = parts_once (line_text (word_text w) (k ∷ tk) (l ∷ tl)) (word_text line.word) (field_text line.first) (field_text line.second) (word_text w) (k ∷ tk) (l ∷ tl) is.parts refl (word-length w) first in
        (same_word line.word w parts.0, a.back line.first parts.1 is.first_is.proper is.first_is.writes, b.back line.second parts.2 is.second_is.proper is.second_is.writes)
    go (Err e) (inl h) = h.0.none (line_lang w (k ∷ tk) (l ∷ tl) first second)
    go (Err e) (inr (inl h)) =
        let parts = parts_once (line_text (word_text w) (k ∷ tk) (l ∷ tl)) h.word h.first h.second (word_text w) (k ∷ tk) (l ∷ tl) h.parts refl (word-length w) first in
        a.inside (a.leads.only tk (subst OutOfRange parts.1 h.out))
    go (Err e) (inr (inr h)) =
        let parts = parts_once (line_text (word_text w) (k ∷ tk) (l ∷ tl)) h.word h.first h.second (word_text w) (k ∷ tk) (l ∷ tl) h.parts refl (word-length w) first in
        b.inside (b.leads.only tl (subst OutOfRange parts.2 h.out))
