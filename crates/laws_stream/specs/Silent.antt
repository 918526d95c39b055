-- Stretches in which no sound is played. This project's own.
use Rattle.std.specs.Prelude.{◌&&◌, Bool, true, false, Option}
use Rattle.std.specs.Option.{is_some}
use Rattle.driver_progress.specs.declared.phase.Phase.{Phase}
use Rattle.driver_progress.specs.declared.phase.Phase.TheVariants.{Ready, Playing}
use Rattle.driver_progress.specs.Tasks.{Task, DriverLine}

-- whether sound is played in a stretch of a line, or in the closing one, that begins in a phase
abbrev pub plays_in : Task → Option DriverLine → Phase → Bool
plays_in task turn Ready = task.plays && is_some turn
plays_in task turn Playing = true
plays_in task turn phase = false
