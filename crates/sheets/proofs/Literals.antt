-- Texts that begin with given bytes. Assumes nothing.
use Rattle.std.proofs.Common.{◌≡◌, ℕ, suc, ◌+◌, ◌<◌, ◌≤◌, max, Bool, true, false, cond, eqb, List, [], ◌∷◌, ◌++◌, length, drop, codes, refl, ap, arith}
use Rattle.std.proofs.lemmas.Bool.{eqb-true}
use Rattle.std.specs.List.{prefix_len, zip}
use Rattle.sheets.specs.Forms.{Form, reach, shared}
use Rattle.sheets.specs.Shapes.{literal, pair_shape, line_shape}

-- the shared bytes are the equal pairs at the front
pub shared_pairs : (s t : List ℕ) → shared s t ≡ prefix_len (λ p. eqb p.0 p.1) (zip s t)
shared_pairs [] t = refl
shared_pairs (b ∷ bs) [] = refl
shared_pairs (b ∷ bs) (d ∷ ds) = rw (shared_pairs bs ds) (ap (λ n. cond (eqb b d) n 0) (omega arith))

pub shared-within : (s t : List ℕ) → (shared s t ≤ length s) × (shared s t ≤ length t)
shared-within [] t = (omega arith, omega arith)
shared-within (b ∷ bs) [] = (omega arith, omega arith)
shared-within (b ∷ bs) (d ∷ ds) = go (eqb b d) (shared-within bs ds)
  where
    go : (test : Bool) → (shared bs ds ≤ length bs) × (shared bs ds ≤ length ds) → (cond test (suc (shared bs ds)) 0 ≤ suc (length bs)) × (cond test (suc (shared bs ds)) 0 ≤ suc (length ds))
    go true h = (omega arith, omega arith)
    go false h = (omega arith, omega arith)

-- the bytes of a literal: all of them and then the rest, or as many as are shared
pub literal-all : (line text : List ℕ) (rest : Form) → shared line text ≡ length text → (reach (literal text rest) line ≡ length text + reach rest (drop (length text) line)) × (line ≡ text ++ drop (length text) line)
literal-all line [] rest e = (omega arith, refl)
literal-all [] (d ∷ ds) rest e = absurd (omega arith)
literal-all (b ∷ bs) (d ∷ ds) rest e = go (eqb b d) refl e (literal-all bs ds rest)
  where
    go : (test : Bool) → eqb b d ≡ test → cond test (suc (shared bs ds)) 0 ≡ suc (length ds) → (shared bs ds ≡ length ds → (reach (literal ds rest) bs ≡ length ds + reach rest (drop (length ds) bs)) × (bs ≡ ds ++ drop (length ds) bs)) → (cond test (suc (reach (literal ds rest) bs)) 0 ≡ suc (length ds) + reach rest (drop (length ds) bs)) × (b ∷ bs ≡ d ∷ (ds ++ drop (length ds) bs))
    go true q e k =
        let h = k (omega arith) in
        let same : b ≡ d = eqb-true b d q in
        let tail = h.1 in
        (omega (arith, h.0), cc)
    go false q e k = absurd (omega arith)

pub literal-some : (line text : List ℕ) (rest : Form) → shared line text < length text → reach (literal text rest) line ≡ shared line text
literal-some line [] rest h = absurd (omega arith)
literal-some [] (d ∷ ds) rest h = refl
literal-some (b ∷ bs) (d ∷ ds) rest h = go (eqb b d) h (literal-some bs ds rest)
  where
    go : (test : Bool) → cond test (suc (shared bs ds)) 0 < suc (length ds) → (shared bs ds < length ds → reach (literal ds rest) bs ≡ shared bs ds) → cond test (suc (reach (literal ds rest) bs)) 0 ≡ cond test (suc (shared bs ds)) 0
    go true h k = ap suc (k (omega arith))
    go false h k = refl

-- the word of a line
pub word_add : (line : List ℕ) → shared line (codes "add\t") ≡ 4 → (line ≡ codes "add" ++ (9 ∷ drop 4 line)) × (reach line_shape line ≡ 4 + reach pair_shape (drop 4 line))
unfolding line_shape
word_add line e =
    let h = literal-all line (codes "add\t") pair_shape e in
    let other : reach (literal (codes "sub\t") pair_shape) line ≡ 0 = ap (reach (literal (codes "sub\t") pair_shape)) h.1 in
    (h.1, omega (arith, h.0))

pub word_sub : (line : List ℕ) → shared line (codes "sub\t") ≡ 4 → (line ≡ codes "sub" ++ (9 ∷ drop 4 line)) × (reach line_shape line ≡ 4 + reach pair_shape (drop 4 line))
unfolding line_shape
word_sub line e =
    let h = literal-all line (codes "sub\t") pair_shape e in
    let other : reach (literal (codes "add\t") pair_shape) line ≡ 0 = ap (reach (literal (codes "add\t") pair_shape)) h.1 in
    (h.1, omega (arith, h.0))

pub no_word : (line : List ℕ) → (shared line (codes "add\t") ≡ 4 → ⊥) → (shared line (codes "sub\t") ≡ 4 → ⊥) → reach line_shape line ≡ max (shared line (codes "add\t")) (shared line (codes "sub\t"))
unfolding line_shape
no_word line p q =
    let a = shared-within line (codes "add\t") in
    let b = shared-within line (codes "sub\t") in
    let c : reach (literal (codes "add\t") pair_shape) line ≡ shared line (codes "add\t") = literal-some line (codes "add\t") pair_shape (omega arith) in
    let d : reach (literal (codes "sub\t") pair_shape) line ≡ shared line (codes "sub\t") = literal-some line (codes "sub\t") pair_shape (omega arith) in
    omega arith
