-- The granules of a block, and the addresses of a run. This project's own.
use Rattle.std.specs.Prelude.{◌≤◌, ◌+◌, ◌*◌, ◌/◌, ◌⊎◌, ℕ}
use Rattle.dma_pool.specs.declared.runs.Run.{Run}
use Rattle.dma_pool.specs.Pools.{end_of, granules_for}

-- the run of granules of a block with this address and so many bytes
abbrev pub run_at : ℕ → ℕ → Run
run_at address bytes = record { first = address / 128; count = granules_for bytes }

-- a block at this address, of so many bytes, has none of the addresses of the run
abbrev pub IsElsewhere : ℕ → ℕ → Run → Type 0
IsElsewhere address bytes run = (128 * end_of run ≤ address) ⊎ (address + bytes ≤ 128 * run.first)
