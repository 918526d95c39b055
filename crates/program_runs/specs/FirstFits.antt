-- Where the blocks of a driver lie that runs over a machine. This project's own.
use Rattle.std.specs.Prelude.{◌≡◌, ◌%◌}
use Rattle.dma_pool.specs.Pools.{PoolState}
use Rattle.period_writer.specs.declared.geometry.Geometry.{Geometry}
use Rattle.driver_progress.specs.Tasks.{Blocks}
use Rattle.audio_driver.specs.Opening.{OpensDriver}
use Rattle.laws_start.specs.Starting.{IsAllFree}

-- they are the first fits in turn in a region of which nothing was taken: CORB and RIRB, and then the list of buffers
-- and the ring's periods
pub record AreFirstFits (geometry : Geometry) (blocks : Blocks) : Type 0 where
  pub free : PoolState
  pub taken : PoolState
  pub all_free : IsAllFree free
  pub opens : OpensDriver geometry free blocks.corb blocks.rirb blocks.list blocks.periods taken
  -- both rings of commands begin at a multiple of 128
  pub corb_aligned : blocks.corb % 128 ≡ 0
  pub rirb_aligned : blocks.rirb % 128 ≡ 0
