-- The blocks that an engine takes from a pool and gives back. This project's own.
use Rattle.std.specs.Prelude.{◌≡◌, ◌⊎◌, ℕ, ◌/◌, List, false, None}
use Rattle.hda_registers.specs.declared.shapes.RingSize.TheVariants.{Full}
use Rattle.dma_pool.specs.declared.runs.Run.{Run}
use Rattle.dma_pool.specs.Pools.{PoolState, IsFirstFit, HasNoRun, AddsRun, granules_for}
use Rattle.dma_pool.specs.Blocks.{run_at}
use Rattle.command_engine.specs.Blocks.{corb_bytes, rirb_bytes}
use Rattle.command_engine.specs.declared.ring_places.RingPlaces.{RingPlaces}

-- so many bytes were taken at this address, the lowest place for them
pub record TakesFirst (granules : ℕ) (taken : List Run) (address bytes : ℕ) (taken' : List Run) : Type 0 where
  pub fits : IsFirstFit granules taken (address / 128) (granules_for bytes)
  pub adds : AddsRun taken (run_at address bytes) taken'

-- both blocks were taken, CORB's first
pub record OpensEngine (pool : PoolState) (corb rirb : ℕ) (pool' : PoolState) : Type 0 where
  pub middle : List Run
  pub corb_taken : TakesFirst pool.granules pool.taken corb corb_bytes middle
  pub rirb_taken : TakesFirst pool.granules middle rirb rirb_bytes pool'.taken
  pub granules : pool'.granules ≡ pool.granules

-- there is no run for CORB
abbrev pub HasNoFirst : PoolState → Type 0
HasNoFirst pool = HasNoRun pool.granules pool.taken (granules_for corb_bytes)

-- there is one for CORB, and after it none for RIRB
pub record HasNoSecond (pool : PoolState) : Type 0 where
  pub corb : ℕ
  pub middle : List Run
  pub corb_taken : TakesFirst pool.granules pool.taken corb corb_bytes middle
  pub none : HasNoRun pool.granules middle (granules_for rirb_bytes)

-- one of the takes meets no run
abbrev pub HasNoRuns : PoolState → Type 0
HasNoRuns pool = HasNoFirst pool ⊎ HasNoSecond pool

-- both meet one
abbrev pub HasRuns : PoolState → Type 0
HasRuns pool = (corb : ℕ) × (rirb : ℕ) × (pool' : PoolState) × OpensEngine pool corb rirb pool'

-- both rings before the engine was started
abbrev pub rings_opened : RingPlaces
rings_opened = record { corb = Full; rirb = Full; submitted = 0; read = 0; started = false; outstanding = None }

-- both blocks were given back
pub record GivesBack (pool : PoolState) (corb rirb : ℕ) (pool' : PoolState) : Type 0 where
  pub middle : List Run
  pub corb_given : AddsRun middle (run_at corb corb_bytes) pool.taken
  pub rirb_given : AddsRun pool'.taken (run_at rirb rirb_bytes) middle
  pub granules : pool'.granules ≡ pool.granules
