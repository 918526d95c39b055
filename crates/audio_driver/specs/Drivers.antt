-- What contracts see of a driver. This project's own.
use Rattle.std.specs.Prelude.{◌≡◌, ◌≤◌, ◌+◌, ℕ, Bool, true, false, Contains, length}
use Rattle.dma_pool.specs.Blocks.{run_at}
use Rattle.dma_pool.specs.Pools.{PoolState}
use Rattle.wav_reader.specs.Supplies.{Supplied}
use Rattle.command_engine.specs.Blocks.{corb_bytes, rirb_bytes}
use Rattle.period_writer.specs.declared.geometry.Geometry.{Geometry}
use Rattle.period_writer.specs.Runs.{tally_opened}
use Rattle.period_writer.specs.Writers.{WriterState, OwnsBlocks, tally_of, periods_of}
use Rattle.driver_bring_up.specs.declared.bringing.BringUp.{BringUp}
use Rattle.audio_driver.specs.States.{plays_now}
use Rattle.audio_driver.specs.Opening as opening
use Rattle.audio_driver.specs.Closing as closing

-- a driver: the bring-up of its codecs, its writer, the sound that is still to come, the pool that its blocks were
-- taken from, how codecs are set up, whether sound is played then, how many calls there may be, and how many there were
pub record DriverState (T : Type 0) : Type 0 where
  pub bring_up : BringUp
  pub writer : WriterState
  pub supply : Supplied
  pub pool : PoolState
  pub setter : T
  pub play : Bool
  pub runs : ℕ
  pub calls : ℕ

-- ---- what is true of every driver

-- its blocks are taken, both play the same format, there is room to record a run of each call and one more, and nothing
-- is recorded before the codecs are set up
pub record IsDriver (bring_up : BringUp) (writer : WriterState) (pool : PoolState) (play : Bool) (runs calls : ℕ)
    : Type 0 where
  pub owns_corb : Contains pool.taken (run_at bring_up.engine.corb.address corb_bytes)
  pub owns_rirb : Contains pool.taken (run_at bring_up.engine.rirb.address rirb_bytes)
  pub owns_ring : OwnsBlocks pool.taken writer
  pub formats : bring_up.format ≡ writer.geometry.format
  pub records : writer.records ≡ runs + 1
  pub few_runs : runs ≤ 1000000
  pub few_calls : calls ≤ runs
  pub few_looks : bring_up.looks ≤ calls
  pub few_recorded : length writer.runs ≤ calls
  pub fresh : writer.course.started ≡ false → tally_of writer ≡ tally_opened
  pub begun : writer.course.started ≡ true → plays_now play bring_up ≡ true

module _ {T : Type 0} where
  -- ---- what a call does to it

  -- the ring's geometry, the pool, how codecs are set up and what was asked for stay as they are
  pub record KeepsTerms (old new : DriverState T) : Type 0 where
    pub geometry : new.writer.geometry ≡ old.writer.geometry
    pub pool : new.pool ≡ old.pool
    pub setter : new.setter ≡ old.setter
    pub play : new.play ≡ old.play
    pub runs : new.runs ≡ old.runs

  -- all but the supply stays as it is
  pub record KeepsAllElse (old new : DriverState T) : Type 0 where
    pub bring_up : new.bring_up ≡ old.bring_up
    pub writer : new.writer ≡ old.writer
    pub pool : new.pool ≡ old.pool
    pub setter : new.setter ≡ old.setter
    pub play : new.play ≡ old.play
    pub runs : new.runs ≡ old.runs
    pub calls : new.calls ≡ old.calls

  -- ---- its blocks

  -- a driver for a ring of this geometry took them from a pool
  abbrev pub TakesBlocks : Geometry → PoolState → DriverState T → Type 0
  TakesBlocks geometry pool driver =
      opening.OpensDriver geometry pool driver.bring_up.engine.corb.address driver.bring_up.engine.rirb.address
      driver.writer.list.address
      (periods_of driver.writer) driver.pool

  -- all of them were given back to its pool
  abbrev pub GivesBlocks : DriverState T → PoolState → Type 0
  GivesBlocks driver pool =
      closing.GivesBack driver.writer.geometry driver.pool driver.bring_up.engine.corb.address
      driver.bring_up.engine.rirb.address
      driver.writer.list.address (periods_of driver.writer) pool
