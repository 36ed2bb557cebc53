-- Forms of text, the texts of a form, and how far a text goes along a form.
use Rattle.std.specs.Prelude.{◌≡◌, ℕ, suc, ◌≤◌, max, Bool, true, cond, ◌⊎◌, List, [], ◌∷◌, ◌==◌}

-- a class of bytes, with a byte that is in it
pub record Class : Type 0 where
  pub holds : ℕ → Bool
  pub sample : ℕ
  pub inside : holds sample ≡ true

-- nothing more; one byte of a class and then the rest; one form or another
pub data Form : Type 0 where
  end : Form
  one : Class → Form → Form
  either : Form → Form → Form

-- the text is of the form
abbrev pub Lang : Form → List ℕ → Type 0
Lang end [] = Unit {0}
Lang end (b ∷ bs) = ⊥
Lang (one c rest) [] = ⊥
Lang (one c rest) (b ∷ bs) = (c.holds b ≡ true) × Lang rest bs
Lang (either f g) text = Lang f text ⊎ Lang g text

-- how many leading bytes two texts share
abbrev pub shared : List ℕ → List ℕ → ℕ
shared [] t = 0
shared (b ∷ bs) [] = 0
shared (b ∷ bs) (d ∷ ds) = cond (b == d) (suc (shared bs ds)) 0

-- the text is not of the form; no text of the form shares more leading bytes with it than `place`, and one shares that many
pub record Astray (form : Form) (text : List ℕ) (place : ℕ) : Type 0 where
  pub none : Lang form text → ⊥
  pub most : (t : List ℕ) → Lang form t → shared text t ≤ place
  pub nearest : List ℕ
  pub is_form : Lang form nearest
  pub shares : shared text nearest ≡ place

-- the most bytes that a text goes along a form, and one more than its length where it is of the form
abbrev pub reach : Form → List ℕ → ℕ
reach end [] = 1
reach end (b ∷ bs) = 0
reach (one c rest) [] = 0
reach (one c rest) (b ∷ bs) = cond (c.holds b) (suc (reach rest bs)) 0
reach (either f g) text = max (reach f text) (reach g text)
