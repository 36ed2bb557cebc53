-- The condenser below a run that is played, the run's state, and the steps that change one or the other.
use Rattle.std.specs.Prelude.{Bool, true, false}
use Rattle.player.specs.declared.player.Run.{Run}
use Rattle.player.specs.declared.player.Run.TheVariants as run
use Rattle.player.specs.declared.step.Step.{Step}
use Rattle.player.specs.declared.step.Step.TheVariants as step

abbrev pub condenser_of : {C : Type 0} → Run C → C
condenser_of (run.Open r) = r.condenser
condenser_of (run.Sealed r) = r.condenser

abbrev pub is_open : {C : Type 0} → Run C → Bool
is_open (run.Open r) = true
is_open (run.Sealed r) = false

-- the steps by what they ask of a run
pub data Sort : Type 0 where
  entering : Sort
  sealing : Sort
  resuming : Sort
  asking : Sort

abbrev pub sort_of : Step → Sort
sort_of (step.Open table) = asking
sort_of (step.Take firsts seconds) = entering
sort_of (step.Withdraw firsts seconds) = entering
sort_of (step.SheetLine line) = entering
sort_of step.Seal = sealing
sort_of step.Resume = resuming
sort_of (step.Read form) = asking
sort_of step.Count = asking

-- whether products may enter an open run
abbrev pub enters : Sort → Bool
enters entering = true
enters sealing = false
enters resuming = false
enters asking = false

-- whether an open run stays open
abbrev pub stays_open : Sort → Bool
stays_open entering = true
stays_open sealing = false
stays_open resuming = true
stays_open asking = true

-- whether a sealed run is opened
abbrev pub opens : Sort → Bool
opens entering = false
opens sealing = false
opens resuming = true
opens asking = false
