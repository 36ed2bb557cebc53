-- How a product enters a run.
use Rattle.std.specs.Prelude.{Bool, true, false}
use Rattle.runs.specs.declared.entering.Entering.{Entering}
use Rattle.runs.specs.declared.entering.Entering.TheVariants.{Taken, Withdrawn}

abbrev pub is_withdrawn : Entering → Bool
is_withdrawn Taken = false
is_withdrawn Withdrawn = true
