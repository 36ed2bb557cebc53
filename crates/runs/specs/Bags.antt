-- The bag of a run: the products entered, each by its exact value in units, with a net count for every number.
use Rattle.std.specs.Prelude.{Bool, true, false, cond, ◌||◌, List, [], ◌∷◌, map, ℤ, pos, negsuc, ◌+ℤ◌, ◌*ℤ◌, neg_ℤ, ◌==◌}

-- a product that was entered: its exact value, and whether it was withdrawn
pub record Entry : Type 0 where
  pub value : ℤ
  pub withdrawn : Bool

-- whether two integers are equal
abbrev pub same_ℤ : ℤ → ℤ → Bool
same_ℤ (pos a) (pos b) = a == b
same_ℤ (pos a) (negsuc b) = false
same_ℤ (negsuc a) (pos b) = false
same_ℤ (negsuc a) (negsuc b) = a == b

-- the net count of a number: how many of the products with this value were taken less how many were withdrawn
abbrev pub change : Bool → ℤ
change false = pos 1
change true = negsuc 0

unfoldable pub net_count : List Entry → ℤ → ℤ
net_count [] v = pos 0
net_count (e ∷ bag) v = cond (same_ℤ e.value v) (net_count bag v +ℤ change e.withdrawn) (net_count bag v)

-- each value of a list, once
unfoldable pub occurs : ℤ → List ℤ → Bool
occurs v [] = false
occurs v (w ∷ ws) = same_ℤ v w || occurs v ws

unfoldable pub distinct : List ℤ → List ℤ
distinct [] = []
distinct (v ∷ vs) = cond (occurs v vs) (distinct vs) (v ∷ distinct vs)

-- what the values of a list, each times its net count, add up to
unfoldable pub weighted : List Entry → List ℤ → ℤ
weighted bag [] = pos 0
weighted bag (v ∷ vs) = v *ℤ net_count bag v +ℤ weighted bag vs

-- the exact sum of a bag: each value times its net count
abbrev pub exact_sum : List Entry → ℤ
exact_sum bag = weighted bag (distinct (map (λ e. e.value) bag))

-- what an entry adds to a total: its value, or less its value where it was withdrawn
abbrev pub entry_units : Entry → ℤ
entry_units e = cond e.withdrawn (neg_ℤ e.value) e.value

-- what the entries add up to, one by one
unfoldable pub entry_sum : List Entry → ℤ
entry_sum [] = pos 0
entry_sum (e ∷ bag) = entry_units e +ℤ entry_sum bag
