-- The summands that a condenser of at most two pieces keeps.
use Rattle.std.specs.Prelude.{List, [], ◌∷◌}
use Rattle.numbers.specs.declared.piece.Summand.{Summand}
use Rattle.run_trials.specs.declared.duo.Duo.{Duo}
use Rattle.run_trials.specs.declared.duo.Duo.TheVariants.{Empty, One, Two}

abbrev pub kept : Duo → List Summand
kept Empty = []
kept (One a) = a ∷ []
kept (Two a b) = a ∷ (b ∷ [])
