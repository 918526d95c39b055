-- Where a run that is taken comes in the list of runs.
use Rattle.std.specs.Prelude.{◌≤◌, ℕ, List, ◌∷◌, ◌++◌, take, drop, length}
use Rattle.dma_pool.specs.declared.runs.Run.{Run}
use Rattle.dma_pool.specs.Pools.{IsFirstFit, IsLaidOut}

-- a run of so many granules may stand at this place of the list, and is the first fit
pub record IsGap (granules : ℕ) (taken : List Run) (index first count : ℕ) : Type 0 where
  pub fits : IsFirstFit granules taken first count
  pub laid_out : IsLaidOut 0 granules (take index taken ++ record { first = first; count = count } ∷ drop index taken)
  pub within : index ≤ length taken
