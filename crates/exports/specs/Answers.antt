-- What the exported calls answer: numbers for forms, results and refusals.
use Rattle.std.specs.Prelude.{◌≡◌, ℕ, ◌≤◌, false, ◌⊎◌, List, ℤ, Some, None, Ok, Err, Option, Result}
use Rattle.numbers.specs.declared.refusal.Refusal.{Refusal}
use Rattle.numbers.specs.Refusals.{code_of, side_of, Refused}
use Rattle.readings.specs.declared.forms.Form.{Form}
use Rattle.readings.specs.Names.{direction_number, width_number}
use Rattle.readings.specs.Readings.{Reads}
use Rattle.runs.specs.Bags.{exact_sum}
use Rattle.runs.specs.Calls.{Outcome, accepted, refused, slices_outcome, product_entries}
use Rattle.reports.specs.InMemory.{SheetWritten}
use Rattle.exports.specs.declared.answer.Answer.{Answer}

-- the form with those numbers; there is none for a direction of 4 or more, or a width of 2 or more
abbrev pub FormOf : ℕ → ℕ → Option Form → Type 0
FormOf d w (Some form) = (direction_number form.direction ≡ d) × (width_number form.width ≡ w)
FormOf d w None = (4 ≤ d) ⊎ (2 ≤ w)

-- the numbers of a result
abbrev pub told : Result ℕ Refusal → Answer
told (Ok v) = record { code = 0; place = 0; side = 0; value = v }
told (Err e) = record { code = code_of e.reason; place = e.place; side = side_of e.side; value = 0 }

-- the answer to numbers that stand for no form
abbrev pub unformed : Answer
unformed = record { code = 255; place = 0; side = 0; value = 0 }

-- The sum of the products of two slices, by the values of their elements, read in a form: a refusal of the slices by the rules of a run of capacity 67,108,864 that has
-- no products yet, or the reading of the exact sum.
abbrev pub ReadsProducts : Form → Outcome → List (Option ℤ) → List (Option ℤ) → Result ℕ Refusal → Type 0
ReadsProducts form accepted xs ys r = Reads form (exact_sum (product_entries false xs ys)) r
ReadsProducts form (refused code place side) xs ys (Ok v) = ⊥
ReadsProducts form (refused code place side) xs ys (Err e) = Refused e code place side

abbrev pub DotInForm : Form → List (Option ℤ) → List (Option ℤ) → Result ℕ Refusal → Type 0
DotInForm form xs ys r = ReadsProducts form (slices_outcome 67108864 0 xs ys) xs ys r

-- the answer of a dot product in the form with those numbers
pub record InForm (xs ys : List (Option ℤ)) (d w : ℕ) (r : Answer) : Type 0 where
  pub form : Form
  pub direction_is : direction_number form.direction ≡ d
  pub width_is : width_number form.width ≡ w
  pub result : Result ℕ Refusal
  pub reads : DotInForm form xs ys result
  pub told_is : r ≡ told result

abbrev pub Dot : List (Option ℤ) → List (Option ℤ) → ℕ → ℕ → Answer → Type 0
Dot xs ys d w r = InForm xs ys d w r ⊎ (((4 ≤ d) ⊎ (2 ≤ w)) × (r ≡ unformed))

-- the report of a sheet, written into a slice
pub record Report (sheet before after : List ℕ) (r : Answer) : Type 0 where
  pub result : Result ℕ Refusal
  pub written : SheetWritten 67108864 sheet before after result
  pub told_is : r ≡ told result
