-- How a driver is opened: the blocks that it takes, and where it begins. This project's own.
use Rattle.std.specs.Prelude.{◌≡◌, ◌⊎◌, ◌+◌, ℕ, List, []}
use Rattle.dma_pool.specs.Pools.{PoolState}
use Rattle.hda_world.specs.declared.world.TheConstants.{REGION_BYTES}
use Rattle.command_engine.specs.Fetchings.{HasBlocks}
use Rattle.command_engine.specs.Opening as of_engine
use Rattle.period_writer.specs.declared.geometry.Geometry.{Geometry}
use Rattle.period_writer.specs.Writers.{WriterState}
use Rattle.period_writer.specs.Opening as of_writer
use Rattle.period_writer.specs.Runs.{course_opened}
use Rattle.driver_progress.specs.declared.phase.Phase.TheVariants.{Reset}
use Rattle.driver_bring_up.specs.Counted.{IsCount}
use Rattle.driver_bring_up.specs.declared.bringing.BringUp.{BringUp}

-- CORB and RIRB were taken, and then the list of buffers and the periods
pub record OpensDriver (geometry : Geometry) (pool : PoolState) (corb rirb list : ℕ) (periods : List ℕ)
    (pool' : PoolState) : Type 0 where
  pub middle : PoolState
  pub engine : of_engine.OpensEngine pool corb rirb middle
  pub writer : of_writer.OpensWriter geometry middle list periods pool'

-- there are runs for CORB and RIRB, and after them none for the list of buffers or one of the periods
pub record HasNoRing (geometry : Geometry) (pool : PoolState) : Type 0 where
  pub corb : ℕ
  pub rirb : ℕ
  pub middle : PoolState
  pub engine : of_engine.OpensEngine pool corb rirb middle
  pub none : of_writer.HasNoRuns geometry middle

-- one of the takes meets no run
abbrev pub HasNoRuns : Geometry → PoolState → Type 0
HasNoRuns geometry pool = of_engine.HasNoRuns pool ⊎ HasNoRing geometry pool

-- all of them meet one
abbrev pub HasRuns : Geometry → PoolState → Type 0
HasRuns geometry pool =
    (corb : ℕ) × (rirb : ℕ) × (list : ℕ) × (periods : List ℕ) × (pool' : PoolState)
    × OpensDriver geometry pool corb rirb list periods pool'

-- where a driver begins: nothing was done yet, and nothing was played
pub record IsOpened (geometry : Geometry) (most : ℕ) (bring_up : BringUp) (writer : WriterState) : Type 0 where
  pub phase : bring_up.phase ≡ Reset
  pub blocks : HasBlocks bring_up.engine.corb.address bring_up.engine.rirb.address REGION_BYTES
  pub rings : bring_up.engine.rings ≡ of_engine.rings_opened
  pub format : bring_up.format ≡ geometry.format
  pub kept : bring_up.kept ≡ 0
  pub sent : bring_up.sent ≡ 0
  pub looks : bring_up.looks ≡ 0
  pub jacks : IsCount [] bring_up.jacks
  pub graphs : bring_up.agenda.graphs.items ≡ []
  pub plans : bring_up.agenda.plans.items ≡ []
  pub geometry_is : writer.geometry ≡ geometry
  pub records : writer.records ≡ most + 1
  pub runs : writer.runs ≡ []
  pub silences : writer.silences ≡ []
  pub course : writer.course ≡ course_opened
