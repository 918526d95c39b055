-- Pools of granules, and where a run of them is free. This project's own.
use Rattle.std.specs.Prelude.{◌≡◌, ◌≤◌, ◌+◌, ◌⊎◌, ℕ, List, [], ◌∷◌, ◌++◌, All}
use Rattle.std.specs.Int.{div_ceil}
use Rattle.dma_pool.specs.declared.runs.Run.{Run}

-- a pool: how many granules it has, and the runs that are taken, ascending
pub record PoolState : Type 0 where
  pub granules : ℕ
  pub taken : List Run

-- the granule after the run
abbrev pub end_of : Run → ℕ
end_of run = run.first + run.count

-- the run has none of the `count` granules from `first` on
abbrev pub IsApart : ℕ → ℕ → Run → Type 0
IsApart first count run = (end_of run ≤ first) ⊎ (first + count ≤ run.first)

-- so many granules stand together from `first` on, and none of them is taken
pub record IsFree (granules : ℕ) (taken : List Run) (first count : ℕ) : Type 0 where
  pub within : first + count ≤ granules
  pub apart : All (IsApart first count) taken

-- the lowest place where so many free granules stand together
pub record IsFirstFit (granules : ℕ) (taken : List Run) (first count : ℕ) : Type 0 where
  pub free : IsFree granules taken first count
  pub lowest : (place : ℕ) → IsFree granules taken place count → first ≤ place

-- so many free granules stand together nowhere
abbrev pub HasNoRun : ℕ → List Run → ℕ → Type 0
HasNoRun granules taken count = (place : ℕ) → IsFree granules taken place count → ⊥

-- the runs ascend from a granule on, are not empty, do not overlap, and lie in the pool
abbrev pub IsLaidOut : ℕ → ℕ → List Run → Type 0
IsLaidOut from granules [] = from ≤ granules
IsLaidOut from granules (run ∷ runs) = (from ≤ run.first) × (1 ≤ run.count) × IsLaidOut (end_of run) granules runs

-- the new runs are the old ones and one more
pub record AddsRun (old : List Run) (run : Run) (new : List Run) : Type 0 where
  pub front : List Run
  pub back : List Run
  pub was : old ≡ front ++ back
  pub becomes : new ≡ front ++ run ∷ back

-- how many granules the runs have
abbrev pub granules_of : List Run → ℕ
granules_of [] = 0
granules_of (run ∷ runs) = run.count + granules_of runs

-- how many granules so many bytes need
abbrev pub granules_for : ℕ → ℕ
granules_for bytes = div_ceil bytes 128
