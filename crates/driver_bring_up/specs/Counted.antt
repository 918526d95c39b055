-- What counters have counted. This project's own.
use Rattle.std.specs.Prelude.{◌≡◌, List, length}
use Rattle.command_engine.specs.declared.answers.Event.{Event}
use Rattle.driver_bring_up.specs.declared.jacks.Jacks.{Jacks}
use Rattle.driver_bring_up.specs.Jacks.{AreTimes}

-- the counters are those of the events
pub record IsCount (events : List Event) (jacks : Jacks) : Type 0 where
  pub times : AreTimes events jacks.times
  pub taken : jacks.taken ≡ length events
