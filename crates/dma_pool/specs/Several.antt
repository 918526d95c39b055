-- Blocks that are taken from a pool one after another. This project's own.
use Rattle.std.specs.Prelude.{◌≡◌, ◌<◌, ◌/◌, ℕ, List, [], ◌∷◌, length, map, Option, Some, None}
use Rattle.dma_pool.specs.declared.blocks.Block.{Block}
use Rattle.dma_pool.specs.declared.runs.Run.{Run}
use Rattle.dma_pool.specs.Pools.{IsFirstFit, HasNoRun, AddsRun, granules_for}
use Rattle.dma_pool.specs.Blocks.{run_at}

-- so many bytes were taken at this address, the lowest place for them
pub record TakesFirst (granules bytes : ℕ) (taken : List Run) (address : ℕ) (taken' : List Run) : Type 0 where
  pub fits : IsFirstFit granules taken (address / 128) (granules_for bytes)
  pub adds : AddsRun taken (run_at address bytes) taken'

-- so many bytes were taken at each of these addresses, one after another
abbrev pub TakesAll : (granules bytes : ℕ) → List Run → List ℕ → List Run → Type 0
TakesAll granules bytes taken [] taken' = taken' ≡ taken
TakesAll granules bytes taken (address ∷ addresses) taken' =
    (middle : List Run) × TakesFirst granules bytes taken address middle
    × TakesAll granules bytes middle addresses taken'

-- of so many takes in a row one meets no run
pub record MeetsNoRun (granules bytes count : ℕ) (taken : List Run) : Type 0 where
  pub addresses : List ℕ
  pub middle : List Run
  pub before : TakesAll granules bytes taken addresses middle
  pub few : length addresses < count
  pub none : HasNoRun granules middle (granules_for bytes)

-- the address of a block at a place
abbrev pub address_in : Option Block → ℕ
address_in None = 0
address_in (Some block) = block.address

abbrev pub addresses_in : List (Option Block) → List ℕ
addresses_in places = map address_in places

-- a place has a block of so many bytes
abbrev pub HasBlock : ℕ → Option Block → Type 0
HasBlock bytes None = ⊥
HasBlock bytes (Some block) = block.bytes ≡ bytes
