-- What `reach` tells of a text and a form. Assumes nothing.
use Rattle.std.proofs.Common.{◌≡◌, ℕ, suc, ◌≤◌, max, Bool, true, false, cond, eqb, leb, ◌⊎◌, List, [], ◌∷◌, length, refl, ap, ◌∙◌, inl, inr, arith}
use Rattle.std.proofs.lemmas.Bool.{eqb-true, eq-eqb, ne_eqb, leb-true, leb-false, both_ways}
use Rattle.sheets.specs.Forms.{Form, end, one, either, Lang, shared, Astray, reach}

-- a text of the form reaches past its end, and no text reaches further
pub reach_le : (f : Form) (t : List ℕ) → reach f t ≤ suc (length t)
reach_le end [] = omega arith
reach_le end (b ∷ bs) = omega arith
reach_le (one c rest) [] = omega arith
reach_le (one c rest) (b ∷ bs) = go (c.holds b) (reach_le rest bs)
  where
    go : (test : Bool) → reach rest bs ≤ suc (length bs) → cond test (suc (reach rest bs)) 0 ≤ suc (suc (length bs))
    go true h = omega arith
    go false h = omega arith
reach_le (either f g) t = omega (arith, reach_le f t, reach_le g t)

pub lang_reach : (f : Form) (t : List ℕ) → Lang f t → reach f t ≡ suc (length t)
lang_reach end [] h = refl
lang_reach end (b ∷ bs) h = absurd h
lang_reach (one c rest) [] h = absurd h
lang_reach (one c rest) (b ∷ bs) h = rw h.0 (ap suc (lang_reach rest bs h.1))
lang_reach (either f g) t (inl h) = omega (arith, lang_reach f t h, reach_le g t)
lang_reach (either f g) t (inr h) = omega (arith, lang_reach g t h, reach_le f t)

pub reach_lang : (f : Form) (t : List ℕ) → reach f t ≡ suc (length t) → Lang f t
reach_lang end [] e = tt
reach_lang end (b ∷ bs) e = omega arith
reach_lang (one c rest) [] e = omega arith
reach_lang (one c rest) (b ∷ bs) e = go (c.holds b) refl e (reach_lang rest bs)
  where
    go : (test : Bool) → c.holds b ≡ test → cond test (suc (reach rest bs)) 0 ≡ suc (suc (length bs)) → (reach rest bs ≡ suc (length bs) → Lang rest bs) → (c.holds b ≡ true) × Lang rest bs
    go true q e k = (q, k (omega arith))
    go false q e k = absurd (omega arith)
reach_lang (either f g) t e = go (leb (reach g t) (reach f t)) refl (reach_lang f t) (reach_lang g t)
  where
    go : (test : Bool) → leb (reach g t) (reach f t) ≡ test → (reach f t ≡ suc (length t) → Lang f t) → (reach g t ≡ suc (length t) → Lang g t) → Lang f t ⊎ Lang g t
    go true q k l = inl (k (omega (arith, leb-true (reach g t) (reach f t) q)))
    go false q k l = inr (l (omega (arith, leb-false (reach g t) (reach f t) q)))

-- no text of the form shares more bytes than the reach
pub shared_le : (f : Form) (text t : List ℕ) → Lang f t → shared text t ≤ reach f text
shared_le end [] [] h = omega arith
shared_le end (b ∷ bs) [] h = omega arith
shared_le end text (d ∷ ds) h = absurd h
shared_le (one c rest) text [] h = absurd h
shared_le (one c rest) [] (d ∷ ds) h = omega arith
shared_le (one c rest) (b ∷ bs) (d ∷ ds) h = go (eqb b d) refl (shared_le rest bs ds h.1)
  where
    go : (test : Bool) → eqb b d ≡ test → shared bs ds ≤ reach rest bs → cond test (suc (shared bs ds)) 0 ≤ cond (c.holds b) (suc (reach rest bs)) 0
    go false q k = omega arith
    go true q k =
        let held : c.holds b ≡ true = ap c.holds (eqb-true b d q) ∙ h.0 in
        rw held (omega arith)
shared_le (either f g) text t (inl h) = omega (arith, shared_le f text t h)
shared_le (either f g) text t (inr h) = omega (arith, shared_le g text t h)

-- some text of a form
abbrev example : Form → List ℕ
example end = []
example (one c rest) = c.sample ∷ example rest
example (either f g) = example f

example_lang : (f : Form) → Lang f (example f)
example_lang end = tt
example_lang (one c rest) = (c.inside, example_lang rest)
example_lang (either f g) = inl (example_lang f)

-- a text of the form that goes along with a text as far as can be
abbrev near : Form → List ℕ → List ℕ
near end text = []
near (one c rest) [] = example (one c rest)
near (one c rest) (b ∷ bs) = cond (c.holds b) (b ∷ near rest bs) (example (one c rest))
near (either f g) text = cond (leb (reach g text) (reach f text)) (near f text) (near g text)

near_lang : (f : Form) (text : List ℕ) → Lang f (near f text)
near_lang end text = tt
near_lang (one c rest) [] = (c.inside, example_lang rest)
near_lang (one c rest) (b ∷ bs) = go (c.holds b) refl (near_lang rest bs)
  where
    go : (test : Bool) → c.holds b ≡ test → Lang rest (near rest bs) → Lang (one c rest) (cond test (b ∷ near rest bs) (example (one c rest)))
    go true q h = (q, h)
    go false q h = (c.inside, example_lang rest)
near_lang (either f g) text = go (leb (reach g text) (reach f text)) (near_lang f text) (near_lang g text)
  where
    go : (test : Bool) → Lang f (near f text) → Lang g (near g text) → Lang f (cond test (near f text) (near g text)) ⊎ Lang g (cond test (near f text) (near g text))
    go true h k = inl h
    go false h k = inr k

near_shares : (f : Form) (text : List ℕ) → reach f text ≤ length text → shared text (near f text) ≡ reach f text
near_shares end [] h = omega arith
near_shares end (b ∷ bs) h = refl
near_shares (one c rest) [] h = refl
near_shares (one c rest) (b ∷ bs) h = go (c.holds b) refl h (near_shares rest bs)
  where
    go : (test : Bool) → c.holds b ≡ test → cond test (suc (reach rest bs)) 0 ≤ suc (length bs) → (reach rest bs ≤ length bs → shared bs (near rest bs) ≡ reach rest bs) → shared (b ∷ bs) (cond test (b ∷ near rest bs) (example (one c rest))) ≡ cond test (suc (reach rest bs)) 0
    go true q le k = rw (eq-eqb b b refl) (ap suc (k (omega arith)))
    go false q le k = rw (ne_eqb b c.sample (λ e. both_ways (c.holds b) q (ap c.holds e ∙ c.inside)))
near_shares (either f g) text h = go (leb (reach g text) (reach f text)) refl (near_shares f text) (near_shares g text)
  where
    go : (test : Bool) → leb (reach g text) (reach f text) ≡ test → (reach f text ≤ length text → shared text (near f text) ≡ reach f text) → (reach g text ≤ length text → shared text (near g text) ≡ reach g text) → shared text (cond test (near f text) (near g text)) ≡ max (reach f text) (reach g text)
    go true q k l = omega (arith, leb-true (reach g text) (reach f text) q, k (omega arith))
    go false q k l = omega (arith, leb-false (reach g text) (reach f text) q, l (omega arith))

-- a text that reaches no further than its length is refused there
pub astray : (f : Form) (text : List ℕ) (place : ℕ) → reach f text ≡ place → place ≤ length text → Astray f text place
astray f text place e h =
    record {
      none = λ l. omega (arith, lang_reach f text l);
      most = λ t l. omega (arith, shared_le f text t l);
      nearest = near f text;
      is_form = near_lang f text;
      shares = near_shares f text (omega arith) ∙ e;
    }
