-- The laws of a condenser, for one that keeps at most two pieces. Assumes nothing.
use Rattle.std.specs.Prelude.{◌≤◌, length}
use Rattle.std.proofs.Common.{le_trans, lit≤}
use Rattle.run_trials.specs.declared.duo.Duo.{Duo}
use Rattle.run_trials.specs.declared.duo.Duo.TheVariants.{Empty, One, Two}
use Rattle.run_trials.specs.Duo.{kept}

pub kept_within : (d : Duo) → length (kept d) ≤ 2
kept_within Empty = lit≤ tt
kept_within (One a) = lit≤ tt
kept_within (Two a b) = lit≤ tt

pub kept_few : (d : Duo) → length (kept d) ≤ 4096
kept_few d = le_trans (kept_within d) (lit≤ tt)
