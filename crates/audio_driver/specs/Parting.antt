-- The parts of a driver whose codecs are set up and that has not played. This project's own.
use Rattle.std.specs.Prelude.{◌≡◌, ◌+◌, true, ℕ, List, [], All, Contains, None}
use Rattle.dma_pool.specs.Blocks.{run_at}
use Rattle.command_engine.specs.Blocks.{corb_bytes, rirb_bytes}
use Rattle.command_engine.specs.declared.answers.Event as told
use Rattle.period_writer.specs.Rings.{period_bytes, list_bytes}
use Rattle.period_writer.specs.Blocks.{are_apart, IsBesideAll}
use Rattle.period_writer.specs.Runs.{tally_opened}
use Rattle.period_writer.specs.Writers.{WriterState, OwnsBlocks, periods_of, tally_of}
use Rattle.driver_progress.specs.declared.phase.Phase.TheVariants.{Ready}
use Rattle.driver_bring_up.specs.Counted.{IsCount}
use Rattle.driver_bring_up.specs.Jacks.{IsOfPin, Counts}
use Rattle.audio_driver.specs.declared.driver.parting.Parts.{Parts}
use Rattle.audio_driver.specs.Drivers.{DriverState}
use Rattle.audio_driver.specs.States.{phase_of}

-- a block of so many bytes has no byte in common with those of a ring of sound
pub record IsBesideRing (address bytes : ℕ) (writer : WriterState) : Type 0 where
  pub list : are_apart address bytes writer.list.address (list_bytes writer.geometry.periods) ≡ true
  pub periods : IsBesideAll address bytes (period_bytes writer.geometry.period) (periods_of writer)

-- the engine was started, no command is outstanding, and it has no event left
pub record IsEngineIdle (parts : Parts) : Type 0 where
  pub started : parts.engine.rings.started ≡ true
  pub idle : parts.engine.rings.outstanding ≡ None
  pub quiet : parts.engine.events ≡ []

-- the blocks of both are taken runs of the pool, apart from one another
pub record HasItsBlocks (parts : Parts) : Type 0 where
  pub owns_corb : Contains parts.pool.taken (run_at parts.engine.corb.address corb_bytes)
  pub owns_rirb : Contains parts.pool.taken (run_at parts.engine.rirb.address rirb_bytes)
  pub owns_ring : OwnsBlocks parts.pool.taken parts.writer
  pub beside_corb : IsBesideRing parts.engine.corb.address corb_bytes parts.writer
  pub beside_rirb : IsBesideRing parts.engine.rirb.address rirb_bytes parts.writer

module _ {T : Type 0} where
  -- they are those of the driver, which was ready
  pub record ArePartsOf (driver : DriverState T) (parts : Parts) : Type 0 where
    pub ready : phase_of driver.bring_up driver.writer ≡ Ready
    pub engine : parts.engine ≡ driver.bring_up.engine
    pub writer : parts.writer ≡ driver.writer
    pub supply : parts.supply ≡ driver.supply
    pub pool : parts.pool ≡ driver.pool
    pub graphs : parts.graphs ≡ driver.bring_up.agenda.graphs
    pub plans : parts.plans ≡ driver.bring_up.agenda.plans
    pub sent : parts.sent ≡ driver.bring_up.sent
    pub jacks : (events : List told.Event) → IsCount events driver.bring_up.jacks → All IsOfPin events
        → Counts events parts.jacks.items
    pub engine_idle : IsEngineIdle parts
    -- nothing was played or recorded, and there is room to record a run of each call of the driver and one more
    pub fresh : tally_of parts.writer ≡ tally_opened
    pub records : parts.writer.records ≡ driver.runs + 1
    pub blocks : HasItsBlocks parts
