-- What a condenser means to its callers: how a put is answered and what it changes, and what the summands handed out add up to.
use Rattle.std.specs.Prelude.{◌≡◌, ℕ, ◌+◌, ◌<◌, ◌≤◌, false, List, [], ◌∷◌, length, ℤ, pos, ◌+ℤ◌, Ok, Err, Result, slice_index_or}
use Rattle.numbers.specs.declared.piece.Piece.{Piece}
use Rattle.numbers.specs.declared.piece.Summand.{Summand}
use Rattle.numbers.specs.declared.refusal.Refusal.{Refusal}
use Rattle.numbers.specs.Products.{piece_units, summand_units}
use Rattle.numbers.specs.Refusals.{Refused}

-- what the summands of a list add up to, in units
abbrev pub sum_units : List Summand → ℤ
sum_units [] = pos 0
sum_units (s ∷ ss) = summand_units s +ℤ sum_units ss

-- r stands at k in the list, and past its end is the zero summand
pub record StandsAt (ss : List Summand) (k : ℕ) (r : Summand) : Type 0 where
  pub within : k < length ss → r ≡ slice_index_or ss k r
  pub past_size : length ss ≤ k → r.significand ≡ 0
  pub past_sign : length ss ≤ k → r.negative ≡ false
  pub past_exponent : length ss ≤ k → r.exponent ≡ pos 0

-- a put is refused, with code 4, place 0 and side 0, exactly when the count is the capacity
abbrev pub PutAnswer : ℕ → ℕ → Result (Unit {0}) Refusal → Type 0
PutAnswer capacity count (Ok _) = count < capacity
PutAnswer capacity count (Err e) = (count ≡ capacity) × Refused e 4 0 0

-- an accepted put adds the piece's value to the total and one to the count; a refused one changes nothing
abbrev pub PutAfter : {C : Type 0} → (C → ℤ) → (C → ℕ) → Piece → C → C → Result (Unit {0}) Refusal → Type 0
PutAfter total count piece before after (Ok _) = (total after ≡ total before +ℤ piece_units piece) × (count after ≡ count before + 1)
PutAfter total count piece before after (Err _) = after ≡ before
