use Rattle.dma_pool.proofs.LaidOut.{IsSplit}
use Rattle.dma_pool.proofs.runs.first_gap.Given as goal

-- the runs so far end before the gap, those left begin after it, and no gap before has room
abbrev pub invariant-loop-index : goal.invariant-loop-index
invariant-loop-index l = IsSplit l.granules l.count l.taken l.index l.first
