-- The numbers that stand for a refusal: its code, its place and its side.
use Rattle.std.specs.Prelude.{◌≡◌, ℕ, List, ◌∷◌, ◌++◌, decimal}
use Rattle.numbers.specs.declared.refusal.Reason.{Reason}
use Rattle.numbers.specs.declared.refusal.Reason.TheVariants.{NotFinite, NotFactor, LengthsDiffer, Full, Shape, CountRange, OutputShort, ShortRange}
use Rattle.numbers.specs.declared.refusal.Side.{Side}
use Rattle.numbers.specs.declared.refusal.Side.TheVariants.{Neither, First, Second}
use Rattle.numbers.specs.declared.refusal.Refusal.{Refusal}

abbrev pub code_of : Reason → ℕ
code_of NotFinite = 1
code_of NotFactor = 2
code_of LengthsDiffer = 3
code_of Full = 4
code_of Shape = 5
code_of CountRange = 6
code_of OutputShort = 7
code_of ShortRange = 8

abbrev pub side_of : Side → ℕ
side_of Neither = 0
side_of First = 1
side_of Second = 2

-- the refusal r says code, place and side
abbrev pub Refused : Refusal → ℕ → ℕ → ℕ → Type 0
Refused r code place side = (code_of r.reason ≡ code) × (r.place ≡ place) × (side_of r.side ≡ side)

-- the three numbers in decimal, parted by spaces
abbrev pub refusal_text : Refusal → List ℕ
refusal_text r = decimal (code_of r.reason) ++ 32 ∷ (decimal r.place ++ 32 ∷ decimal (side_of r.side))
