-- The number that a list of 64-bit limbs stands for, the lowest limb first, and how large a summand can be.
use Rattle.std.specs.Prelude.{◌≡◌, ℕ, ◌+◌, ◌*◌, ◌^◌, ◌<◌, List, [], ◌∷◌, length, slice_index, pos}
use Rattle.numbers.specs.Units.{rank}

unfoldable pub natural : List ℕ → ℕ
natural [] = 0
natural (x ∷ xs) = x + 2 ^ 64 * natural xs

-- the list has k limbs
abbrev pub AreLimbs : ℕ → List ℕ → Type 0
AreLimbs k xs = (length xs ≡ k) × ((i : ℕ) → slice_index xs i < 2 ^ 64)

-- the largest size of a summand, in units
abbrev pub summand_limit : ℕ
summand_limit = 2 ^ rank (pos 1006)
