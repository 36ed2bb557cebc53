-- What a pairing table holds at each place, and how a binary64 number finds its place in it.
use Rattle.std.specs.Prelude.{◌≡◌, ℕ, suc, ◌+◌, ◌%◌, ◌^◌, Bool, true, not, ◌&&◌, ◌||◌, T, ◌≢◌, List, [], ◌∷◌, replicate, ℤ, pos, ◌+ℤ◌, Some, Ok, Err, Result, ◌==◌, from_bits, nat_lt, slice_index_or, slice_set, to_bits, unsigned_abs, Float}
use Rattle.std.specs.Float.{nan, inf, fin, binary64}
use Rattle.std.specs.Float.Ieee.{add, fits}
use Rattle.numbers.specs.declared.refusal.Refusal.{Refusal}
use Rattle.numbers.specs.declared.piece.Piece.{Piece}
use Rattle.numbers.specs.declared.piece.Summand.{Summand}
use Rattle.numbers.specs.Products.{piece_units}
use Rattle.numbers.specs.Units.{units, float_value}
use Rattle.numbers.specs.Patterns.{sign_of, field_of}
use Rattle.condensers.specs.Fields.{significand_of, height_of, place}
use Rattle.condensers.specs.Handed.{summand_at}

-- a finite float's value in units
unfoldable pub float_units : Float → ℤ
float_units nan = pos 0
float_units (inf s) = pos 0
float_units (fin s m e) = units s m e

-- an empty place holds +0
unfoldable pub empty : Float
empty = from_bits binary64 0

-- where a number belongs
abbrev pub place_of : Float → ℕ
place_of x = place (to_bits binary64 x)

-- The number x enters the table t, which then is u: `Enters x t u`.
pub data Enters : Float → List Float → List Float → Type 0 where
  -- zero is not stored
  vanished : {x : Float} {t : List Float} → float_units x ≡ pos 0 → Enters x t t
  -- a number whose place is empty is stored there
  stored : {x : Float} {t : List Float} → float_units x ≢ pos 0 → slice_index_or t (place_of x) nan ≡ empty → Enters x t (slice_set t (place_of x) x)
  -- a number whose place is occupied leaves that place empty, and its sum with what stood there goes on
  paired : {x : Float} {t u : List Float} → float_units x ≢ pos 0 → slice_index_or t (place_of x) nan ≢ empty
      → Enters (add binary64 x (slice_index_or t (place_of x) nan)) (slice_set t (place_of x) empty) u → Enters x t u

-- A piece enters as the binary64 number of its value.
abbrev pub PieceEnters : Piece → List Float → List Float → Type 0
PieceEnters p t u = (x : Float) × T (fits binary64 x) × (float_value x ≡ Some (piece_units p)) × Enters x t u

-- What a put leaves at the places: an accepted piece entered, a refused one changed nothing.
abbrev pub PutEnters : Piece → List Float → List Float → Result (Unit {0}) Refusal → Type 0
PutEnters p t u (Ok _) = PieceEnters p t u
PutEnters p t u (Err _) = u ≡ t

-- 4,096 empty places
unfoldable pub empty_table : List Float
empty_table = replicate 4096 empty

-- the sum of all numbers of a table
unfoldable pub total_of : List Float → ℤ
total_of [] = pos 0
total_of (x ∷ xs) = float_units x +ℤ total_of xs

-- what f says of the numbers of a table, added up
unfoldable pub sum_of : (Float → ℕ) → List Float → ℕ
sum_of f [] = 0
sum_of f (x ∷ xs) = f x + sum_of f xs

abbrev pub size : Float → ℕ
size x = unsigned_abs (float_units x)

-- x may stand at place k: nothing, or a finite number other than zero that belongs there
unfoldable pub stands : ℕ → Float → Bool
stands k x =
    fits binary64 x
    && (to_bits binary64 x == 0 || (not (to_bits binary64 x % 2 ^ 63 == 0) && (nat_lt (field_of (to_bits binary64 x)) 2047 && place_of x == k)))

-- so does each number of the list at its own place, the first at k
unfoldable pub stand_from : ℕ → List Float → Bool
stand_from k [] = true
stand_from k (x ∷ xs) = stands k x && stand_from (suc k) xs

-- the largest size of a piece, 2^968, in units
unfoldable pub piece_limit : ℕ
piece_limit = 2 ^ 2042

-- the size from which on no binary64 number is finite, 2^1024, in units
unfoldable pub range_limit : ℕ
range_limit = 2 ^ 2098

-- what a place hands out: its number's sign, significand and exponent
unfoldable pub summand_of : Float → Summand
summand_of x = let b = to_bits binary64 x in summand_at (sign_of b) (significand_of b) (height_of b)
