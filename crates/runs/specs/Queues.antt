-- Queues of calls, by the values of their elements: what each call answers, and the bag that they leave.
use Rattle.std.specs.Prelude.{◌≡◌, ℕ, ◌+◌, true, false, List, [], ◌∷◌, ◌++◌, map, length, ℤ, Ok, Err, Option, Result, slice_set}
use Rattle.condensers.specs.declared.condenser.Condenser.{Ghosts as Condenser}
use Rattle.numbers.specs.Counts.{count_value}
use Rattle.numbers.specs.Patterns.{pattern_value}
use Rattle.numbers.specs.Refusals.{code_of, side_of}
use Rattle.numbers.specs.declared.refusal.Refusal.{Refusal}
use Rattle.runs.specs.declared.queue.Answer.{Answer}
use Rattle.runs.specs.declared.queue.Call.{Call}
use Rattle.runs.specs.declared.queue.Call.TheVariants.{Take, Withdraw, SheetLine}
use Rattle.runs.specs.declared.queue.Elements.{Elements}
use Rattle.runs.specs.declared.queue.Elements.TheVariants.{Patterns, Counts}
use Rattle.runs.specs.declared.queue.Leg.{Leg}
use Rattle.runs.specs.Bags.{Entry, entry_sum}
use Rattle.runs.specs.Lines.{line_reading}
use Rattle.runs.specs.Calls.{Outcome, accepted, refused, ValueCall, slices, sheet_line, call_outcome, offered}

-- what a call enters: its products where it is accepted, and else nothing
abbrev pub entered : Outcome → List Entry → List Entry
entered accepted es = es
entered (refused code place side) es = []

-- The bag after a call: a call that the rules refuse, with the number of products entered as the count, changes nothing.
abbrev pub bag_after : ℕ → List Entry → ValueCall → List Entry
bag_after capacity bag call = entered (call_outcome capacity (length bag) call) (offered call) ++ bag

unfoldable pub bag_from : ℕ → List Entry → List ValueCall → List Entry
bag_from capacity bag [] = bag
bag_from capacity bag (call ∷ calls) = bag_from capacity (bag_after capacity bag call) calls

-- the bag of a queue, from the capacity and the calls alone
abbrev pub bag_of : ℕ → List ValueCall → List Entry
bag_of capacity calls = bag_from capacity [] calls

-- the numbers that a call's result tells
abbrev pub told : Result (Unit {0}) Refusal → Answer
told (Ok _) = record { code = 0; place = 0; side = 0 }
told (Err e) = record { code = code_of e.reason; place = e.place; side = side_of e.side }

-- results with the same numbers are the same result
abbrev pub ToldOnce : Type 0
ToldOnce = (r s : Result (Unit {0}) Refusal) → told r ≡ told s → r ≡ s

-- the numbers of an outcome
abbrev pub answer_of : Outcome → Answer
answer_of accepted = record { code = 0; place = 0; side = 0 }
answer_of (refused code place side) = record { code = code; place = place; side = side }

-- what the calls answer, by the same rules
unfoldable pub answers_from : ℕ → List Entry → List ValueCall → List Answer
answers_from capacity bag [] = []
answers_from capacity bag (call ∷ calls) = answer_of (call_outcome capacity (length bag) call) ∷ answers_from capacity (bag_after capacity bag call) calls

abbrev pub answers_of : ℕ → List ValueCall → List Answer
answers_of capacity calls = answers_from capacity [] calls

-- the values of a slice's elements
abbrev pub values_of : Elements → List (Option ℤ)
values_of (Patterns xs) = map pattern_value xs.now
values_of (Counts xs) = map count_value xs.now

abbrev pub value_call : Call → ValueCall
value_call (Take xs ys) = slices false (values_of xs) (values_of ys)
value_call (Withdraw xs ys) = slices true (values_of xs) (values_of ys)
value_call (SheetLine bytes) = sheet_line (line_reading bytes.now)

-- the calls of the legs, one after the other
unfoldable pub calls_of : List Leg → List ValueCall
calls_of [] = []
calls_of (leg ∷ legs) = map value_call leg.calls.now ++ calls_of legs

-- answers written into a buffer from the place k on, one after the other; what does not fit is left out
unfoldable pub written : List Answer → ℕ → List Answer → List Answer
written buffer k [] = buffer
written buffer k (a ∷ more) = written (slice_set buffer k a) (k + 1) more

-- a condenser that holds a bag: its total is the sum of the entries, its count their number
pub record Holds {C : Type 0} (m : Condenser C) (c : C) (bag : List Entry) : Type 0 where
  pub total_is : m.total c ≡ entry_sum bag
  pub count_is : m.count c ≡ length bag

-- What is left to be played, from one condenser, buffer and place on, gives what the whole gives from another: the same bag and the same answers.
pub record Resumes {C : Type 0} (m : Condenser C) (whole : List ValueCall) (bag : List Entry) (buffer : List Answer) (place : ℕ)
    (left : List ValueCall) (c : C) (noted : List Answer) (next : ℕ) : Type 0 where
  pub now_in : List Entry
  pub holds : Holds m c now_in
  pub same_bag : bag_from m.capacity bag whole ≡ bag_from m.capacity now_in left
  pub same_answers : written buffer place (answers_from m.capacity bag whole) ≡ written noted next (answers_from m.capacity now_in left)
