use Rattle.std.proofs.Common.{◌≡◌, ◌+◌, take}
use Rattle.dma_pool.specs.Pools.{granules_of}
use Rattle.dma_pool.proofs.runs.free_granules.Given as goal

abbrev pub invariant-loop-run : goal.invariant-loop-run
invariant-loop-run l = l.free + granules_of (take l.run-index l.taken) ≡ l.granules
