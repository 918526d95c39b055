-- In which phases runs end. This project's own.
use Rattle.std.specs.Prelude.{Bool, true, false}
use Rattle.driver_progress.specs.declared.phase.Phase.{Phase}
use Rattle.driver_progress.specs.declared.phase.Phase.TheVariants.{Playing, Drained, NothingRouted, Late, Malformed}
use Rattle.driver_progress.specs.declared.phase.Phase.TheVariants.{Failed}

-- whether a run that plays can end in a phase: some pin has a route, all graphs are well-formed, and no driver fails
abbrev pub play_can_end : Phase → Bool
play_can_end NothingRouted = false
play_can_end (Malformed codec fault) = false
play_can_end Failed = false
play_can_end phase = true

-- whether a walk can, which plays nothing
abbrev pub walk_can_end : Phase → Bool
walk_can_end Playing = false
walk_can_end Drained = false
walk_can_end (Late from to limit) = false
walk_can_end phase = play_can_end phase
