-- The cases are proved in `Marked`.
use Rattle.readings.proofs.Marked.{marked_cases_lem}
use Rattle.readings.proofs.laws.marked_cases.Goals as goal

pub returns : goal.returns
returns c = record { law = marked_cases_lem }
