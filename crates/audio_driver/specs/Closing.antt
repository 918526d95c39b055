-- How a driver is closed: the blocks that it gives back, and what is left of it. This project's own.
use Rattle.std.specs.Prelude.{◌≡◌, ◌≤◌, true, false, ℕ, Bool, List, All, Option}
use Rattle.route_setup.specs.Means.{Means}
use Rattle.dma_pool.specs.Pools.{PoolState}
use Rattle.hda_world.specs.Tellings.{Telling}
use Rattle.command_engine.specs.declared.answers.Event as told
use Rattle.command_engine.specs.Opening as of_engine
use Rattle.period_writer.specs.declared.geometry.Geometry.{Geometry}
use Rattle.period_writer.specs.Opening as of_writer
use Rattle.driver_bring_up.specs.Counted.{IsCount}
use Rattle.driver_bring_up.specs.Jacks.{IsOfPin, Counts}
use Rattle.driver_bring_up.specs.declared.bringing.BringUp.{BringUp}
use Rattle.driver_bring_up.specs.Calls.{Ends}
use Rattle.period_writer.specs.Runs.{Tally}
use Rattle.driver_progress.specs.Phases.{is_ready}
use Rattle.period_writer.specs.Writers.{WriterState, tally_of}
use Rattle.audio_driver.specs.States.{plays_now, phase_with}
use Rattle.audio_driver.specs.Sounding.{EndsSound}
use Rattle.audio_driver.specs.declared.driver.closing.Closed.{Closed}

-- CORB and RIRB were given back, and then the periods and the list of buffers
pub record GivesBack (geometry : Geometry) (pool : PoolState) (corb rirb list : ℕ) (periods : List ℕ)
    (pool' : PoolState) : Type 0 where
  pub middle : PoolState
  pub engine : of_engine.GivesBack pool corb rirb middle
  pub writer : of_writer.GivesBack geometry middle list periods pool'

-- what is left: the bring-up as the last call leaves it, and what the writer recorded. Where calls play that is one for
-- the sound, else it is the last call of the bring-up, and nothing more is recorded
pub record Closes (means : Means) (play : Bool) (bring_up : BringUp) (writer : WriterState) (supply : List ℕ)
    (closed : Closed) (before after : Option Telling) : Type 0 where
  pub ended : BringUp
  pub tally : Tally
  pub ends : plays_now play bring_up ≡ false → Ends means bring_up ended before after
  pub recorded : plays_now play bring_up ≡ false → tally ≡ tally_of writer
  pub sounds : plays_now play bring_up ≡ true → EndsSound bring_up ended writer tally supply before after
  pub grows : writer.course.used ≤ tally.course.used
  -- runs were made only where all codecs are set up
  pub ready : tally.course.started ≡ true → is_ready ended.phase ≡ true
  pub phase : closed.phase ≡ phase_with ended tally
  pub sent : closed.sent ≡ ended.sent
  pub graphs : closed.graphs ≡ ended.agenda.graphs
  pub plans : closed.plans ≡ ended.agenda.plans
  pub jacks : (events : List told.Event) → IsCount events ended.jacks → All IsOfPin events
      → Counts events closed.jacks.items
  pub runs : closed.runs.items ≡ tally.runs
  pub silences : closed.silences.items ≡ tally.silences
