-- What is left of a driver that switched and was closed. This project's own.
use Rattle.std.specs.Prelude.{◌≡◌, List, All, Option}
use Rattle.hda_world.specs.Tellings.{Telling}
use Rattle.dma_pool.specs.Pools.{PoolState}
use Rattle.command_engine.specs.declared.answers.Event as told
use Rattle.period_writer.specs.Writers.{periods_of}
use Rattle.driver_bring_up.specs.Counted.{IsCount}
use Rattle.driver_bring_up.specs.Jacks.{IsOfPin, Counts}
use Rattle.driver_bring_up.specs.declared.jacks.Jacks.{Jacks}
use Rattle.audio_driver.specs.declared.driver.closing.Closed.{Closed}
use Rattle.audio_driver.specs.Closing.{GivesBack}
use Rattle.jack_switch.specs.SwitchRules.{SwitchState}
use Rattle.jack_switch.specs.JackDrivers.{JackDriverState, phase_by}
use Rattle.jack_switch.specs.JackCalls.{EndsAny}

-- what it recorded and counted, as the last call leaves it, and what the bring-up left of the codecs
pub record ClosesSwitching (driver : JackDriverState) (closed : Closed) (before after : Option Telling) : Type 0 where
  pub ended : SwitchState
  pub counters : Jacks
  pub ends : EndsAny driver ended counters before after
  pub phase : closed.phase ≡ phase_by ended
  pub sent : closed.sent ≡ driver.sent
  pub graphs : closed.graphs.items ≡ driver.graphs
  pub plans : closed.plans.items ≡ driver.plans
  pub jacks : (events : List told.Event) → IsCount events counters → All IsOfPin events
      → Counts events closed.jacks.items
  pub runs : closed.runs.items ≡ ended.tally.runs
  pub silences : closed.silences.items ≡ ended.tally.silences

-- all its blocks were given back to its pool
abbrev pub GivesSwitchingBack : JackDriverState → PoolState → Type 0
GivesSwitchingBack driver pool =
    GivesBack driver.writer.geometry driver.pool driver.engine.corb.address driver.engine.rirb.address
    driver.writer.list.address (periods_of driver.writer) pool
