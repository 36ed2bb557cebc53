-- What a call on a run answers, and what it enters, from the capacity, the count and the call's elements alone. An element stands for its value in units, none where it has no finite one.
use Rattle.std.specs.Prelude.{◌≡◌, ℕ, suc, ◌+◌, ◌-◌, Bool, cond, List, [], ◌∷◌, length, ℤ, pos, ◌+ℤ◌, ◌*ℤ◌, Some, None, Ok, Err, Option, Result, ◌==◌, int_div, nat_lt}
use Rattle.condensers.specs.declared.condenser.Condenser.{Ghosts as Condenser}
use Rattle.numbers.specs.declared.factor.Factor.{Factor}
use Rattle.numbers.specs.declared.piece.Piece.{Piece}
use Rattle.numbers.specs.declared.refusal.Refusal.{Refusal}
use Rattle.numbers.specs.Acceptance.{element_code}
use Rattle.numbers.specs.Products.{factor_units, piece_units, one_units}
use Rattle.numbers.specs.Refusals.{Refused}
use Rattle.runs.specs.Bags.{Entry, entry_sum}

-- what a call answers: nothing, or the code, the place and the side of a refusal
pub data Outcome : Type 0 where
  accepted : Outcome
  refused : ℕ → ℕ → ℕ → Outcome

-- the result says the outcome
abbrev pub Says : Outcome → Result (Unit {0}) Refusal → Type 0
Says accepted (Ok _) = Unit {0}
Says accepted (Err e) = ⊥
Says (refused code place side) (Ok _) = ⊥
Says (refused code place side) (Err e) = Refused e code place side

-- two tests, the second made only where the first accepts
infixr 30 ◌and_then◌
abbrev pub ◌and_then◌ : Outcome → Outcome → Outcome
accepted and_then b = b
(refused code place side) and_then b = refused code place side

-- two lengths that differ: the shorter one, and its side
abbrev pub lengths_outcome : ℕ → ℕ → Outcome
lengths_outcome m n = cond (nat_lt m n) (refused 3 m 1) (cond (nat_lt n m) (refused 3 n 2) accepted)

-- more products than fit: how many still do
abbrev pub room_outcome : ℕ → ℕ → ℕ → Outcome
room_outcome capacity count n = cond (nat_lt (capacity - count) n) (refused 4 (capacity - count) 0) accepted

-- an element at a place and a side
abbrev pub element_outcome : Option ℤ → ℕ → ℕ → Outcome
element_outcome x place side = cond (element_code x == 0) accepted (refused (element_code x) place side)

-- two elements, the first at place p and the second at place q
abbrev pub pair_outcome : Option ℤ → ℕ → Option ℤ → ℕ → Outcome
pair_outcome x p y q = element_outcome x p 1 and_then element_outcome y q 2

-- elements from the index i on of two slices
unfoldable pub elements_outcome : ℕ → List (Option ℤ) → List (Option ℤ) → Outcome
elements_outcome i [] ys = accepted
elements_outcome i (x ∷ xs) [] = accepted
elements_outcome i (x ∷ xs) (y ∷ ys) = pair_outcome x i y i and_then elements_outcome (suc i) xs ys

-- two slices: their lengths are tested first, then the room, then the elements
abbrev pub slices_outcome : ℕ → ℕ → List (Option ℤ) → List (Option ℤ) → Outcome
slices_outcome capacity count xs ys = lengths_outcome (length xs) (length ys) and_then room_outcome capacity count (length xs) and_then elements_outcome 0 xs ys

-- the exact product of two values, in units
unfoldable pub product_value : Option ℤ → Option ℤ → ℤ
product_value (Some x) (Some y) = int_div (x *ℤ y) one_units
product_value (Some x) None = pos 0
product_value None y = pos 0

-- an element at a place and a side, made a factor
abbrev pub FactorAt : Option ℤ → ℕ → ℕ → Result Factor Refusal → Type 0
FactorAt x place side (Ok f) = (element_outcome x place side ≡ accepted) × (x ≡ Some (factor_units f))
FactorAt x place side (Err e) = Says (element_outcome x place side) (Err e)

-- two elements made a piece
abbrev pub PieceOf : Option ℤ → ℕ → Option ℤ → ℕ → Result Piece Refusal → Type 0
PieceOf x p y q (Ok piece) = (pair_outcome x p y q ≡ accepted) × (piece_units piece ≡ product_value x y)
PieceOf x p y q (Err e) = Says (pair_outcome x p y q) (Err e)

-- the products of two slices, in order of the index
unfoldable pub product_entries : Bool → List (Option ℤ) → List (Option ℤ) → List Entry
product_entries withdrawn [] ys = []
product_entries withdrawn (x ∷ xs) [] = []
product_entries withdrawn (x ∷ xs) (y ∷ ys) = record { value = product_value x y; withdrawn = withdrawn } ∷ product_entries withdrawn xs ys

-- what the text of a line says: the refusal that it gets, or a product, withdrawn where the flag is set, of two elements with their places
pub data LineReading : Type 0 where
  misread : ℕ → ℕ → ℕ → LineReading
  product : Bool → Option ℤ → ℕ → Option ℤ → ℕ → LineReading

-- a call on an open run, by values: two slices, withdrawn where the flag is set, or a line
pub data ValueCall : Type 0 where
  slices : Bool → List (Option ℤ) → List (Option ℤ) → ValueCall
  sheet_line : LineReading → ValueCall

-- a line's text is tested first, then the room, then its elements
abbrev pub line_outcome : ℕ → ℕ → LineReading → Outcome
line_outcome capacity count (misread code place side) = refused code place side
line_outcome capacity count (product withdrawn x p y q) = room_outcome capacity count 1 and_then pair_outcome x p y q

abbrev pub call_outcome : ℕ → ℕ → ValueCall → Outcome
call_outcome capacity count (slices withdrawn xs ys) = slices_outcome capacity count xs ys
call_outcome capacity count (sheet_line reading) = line_outcome capacity count reading

-- the products that a call enters where it is accepted
abbrev pub line_entries : LineReading → List Entry
line_entries (misread code place side) = []
line_entries (product withdrawn x p y q) = product_entries withdrawn (x ∷ []) (y ∷ [])

abbrev pub offered : ValueCall → List Entry
offered (slices withdrawn xs ys) = product_entries withdrawn xs ys
offered (sheet_line reading) = line_entries reading

-- a condenser before and after a call: an accepted one adds its products to total and count, a refused one changes nothing
abbrev pub After : {C : Type 0} → Condenser C → C → C → Outcome → List Entry → Type 0
After m before after accepted es = (m.total after ≡ m.total before +ℤ entry_sum es) × (m.count after ≡ m.count before + length es)
After m before after (refused code place side) es = after ≡ before

-- a call on a run over a condenser: what it answers and what it leaves
pub record Made {C : Type 0} (m : Condenser C) (before after : C) (call : ValueCall) (r : Result (Unit {0}) Refusal) : Type 0 where
  pub answer : Says (call_outcome m.capacity (m.count before) call) r
  pub after_is : After m before after (call_outcome m.capacity (m.count before) call) (offered call)
