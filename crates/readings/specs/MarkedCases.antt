-- A table of worked cases, and what it is for the definitions to yield each line of it.
use Rattle.std.specs.Prelude.{◌≡◌, ℕ, Bool, true, false, cond, List, [], ◌∷◌, ℤ, pos, negsuc, ◌+ℤ◌, ◌*ℤ◌, neg_ℤ, Some, None, Option}
use Rattle.std.specs.Float.{binary64}
use Rattle.numbers.specs.declared.factor.Factor.{Factor}
use Rattle.numbers.specs.declared.piece.Piece.{Piece}
use Rattle.numbers.specs.Acceptance.{element_code}
use Rattle.numbers.specs.Counts.{count_value, CountFactor}
use Rattle.numbers.specs.Patterns.{pattern_value}
use Rattle.numbers.specs.Products.{one_units, IsProduct}
use Rattle.readings.specs.declared.forms.Direction.{Direction}
use Rattle.readings.specs.declared.forms.Direction.TheVariants.{Nearest, Up, Down}
use Rattle.readings.specs.Rounding.{Rounds}

-- an element of either kind
pub data Element : Type 0 where
  pattern : ℕ → Element
  count : ℤ → Element

abbrev pub value_of : Element → Option ℤ
value_of (pattern b) = pattern_value b
value_of (count z) = count_value z

-- a product of two elements, taken or withdrawn
pub record Product : Type 0 where
  pub withdrawn : Bool
  pub first : Element
  pub second : Element

abbrev pub take : Element → Element → Product
take a b = record { withdrawn = false; first = a; second = b }

abbrev pub withdraw : Element → Element → Product
withdraw a b = record { withdrawn = true; first = a; second = b }

-- the number p of units is the product of two values, which count in units of their own
abbrev pub ProductOf : Option ℤ → Option ℤ → ℤ → Type 0
ProductOf (Some v) (Some w) p = p *ℤ one_units ≡ v *ℤ w
ProductOf (Some v) None p = ⊥
ProductOf None w p = ⊥

-- x is the exact sum of the products
abbrev pub SumOf : List Product → ℤ → Type 0
SumOf [] x = x ≡ pos 0
SumOf (p ∷ ps) x = (u : ℤ) × ((y : ℤ) × ((ProductOf (value_of p.first) (value_of p.second) u) × (SumOf ps y) × (x ≡ cond p.withdrawn (neg_ℤ u) u +ℤ y)))

pub data Line : Type 0 where
  -- the element gets the code, 0 where it is accepted
  code : Element → ℕ → Line
  -- the count gives the factor with this significand and exponent
  factor : ℤ → ℕ → ℤ → Line
  -- a factor by itself gives the piece: the significand and exponent of the factor, and those of the piece
  square : ℕ → ℤ → ℕ → ℤ → Line
  -- the long reading of the products' sum in the direction
  reading : List Product → Direction → ℕ → Line

abbrev pub Yields : Line → Type 0
Yields (code e n) = element_code (value_of e) ≡ n
Yields (factor z m e) = (element_code (count_value z) ≡ 0) × ((f : Factor) → CountFactor z f → (f.significand ≡ m) × (f.exponent ≡ e))
Yields (square m e p x) = (f : Factor) (r : Piece) → f.significand ≡ m → f.exponent ≡ e → IsProduct f f r → (r.significand ≡ p) × (r.exponent ≡ x)
Yields (reading ps d b) = (x : ℤ) × ((SumOf ps x) × Rounds binary64 d x b)

abbrev pub YieldsAll : List Line → Type 0
YieldsAll [] = Unit {0}
YieldsAll (l ∷ ls) = Yields l × YieldsAll ls

-- 2^53 and 1; then the square of 2^-484 taken off
abbrev pub halfway : List Product
halfway = take (pattern 0x4340000000000000) (count (pos 1)) ∷ (take (count (pos 1)) (count (pos 1)) ∷ [])

-- the square of 2^-484, and a square that lies far below its last place
abbrev pub squares : List Product
squares = take (pattern 0x21b0000000000000) (pattern 0x21b0000000000000) ∷ (take (pattern 0x2000000008000000) (pattern 0x2000000008000000) ∷ [])

abbrev pub table : List Line
table =
    code (pattern 0x2000000000000000) 0
    ∷ (code (pattern 0x5e2ffffff8000000) 0
    ∷ (code (pattern 0x1ffffffff8000000) 2
    ∷ (code (pattern 0x5e30000000000000) 2
    ∷ (code (pattern 0x3ff0000004000000) 2
    ∷ (code (pattern 0x7ff8000000000000) 1
    ∷ (square 67108863 (pos 0) 4503599493152769 (pos 0)
    ∷ (code (count (pos 67108865)) 2
    ∷ (factor (pos 67108864) 33554432 (pos 1)
    ∷ (reading (take (pattern 0x43b0000000000000) (count (pos 1)) ∷ (take (count (pos 1)) (count (pos 1)) ∷ (take (pattern 0xc3b0000000000000) (count (pos 1)) ∷ []))) Nearest 0x3ff0000000000000
    ∷ (reading halfway Nearest 0x4340000000000001
    ∷ (reading halfway Up 0x4340000000000001
    ∷ (reading halfway Down 0x4340000000000000
    ∷ (reading (take (pattern 0xa1b0000000000000) (pattern 0x21b0000000000000) ∷ halfway) Nearest 0x4340000000000000
    ∷ (reading squares Nearest 0x0370000000000000
    ∷ (reading squares Up 0x0370000000000001
    ∷ (reading (withdraw (pattern 0x21b0000000000000) (pattern 0x21b0000000000000) ∷ (withdraw (pattern 0x2000000000000000) (pattern 0x2000000010000000) ∷ squares)) Nearest 0x0000000000000004
    ∷ (reading (take (count (negsuc 2147483647)) (count (negsuc 2147483647)) ∷ []) Nearest 0x43d0000000000000
    ∷ (reading [] Nearest 0x0000000000000000
    ∷ []))))))))))))))))))

-- the definitions yield each line of the table
abbrev pub MarkedCases : Type 0
MarkedCases = YieldsAll table
