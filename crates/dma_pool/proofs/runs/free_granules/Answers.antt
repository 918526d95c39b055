use Rattle.std.proofs.Common.{arith}
use Rattle.dma_pool.specs.declared.runs.Run.{Run}
use Rattle.dma_pool.proofs.LaidOut.{laid_out-sum, granules_of-more, granules_of-part}
use Rattle.dma_pool.proofs.runs.free_granules.Goals as goal

abbrev nothing : Run
nothing = record { first = 0; count = 0 }

pub overflow_sub-free : goal.overflow_sub-free
overflow_sub-free c =
    let sum = laid_out-sum 0 c.args.granules c.args.taken.now c.requires in
    let part = granules_of-part c.args.taken.now c.loop-run.run-index nothing (omega arith) in
    omega (arith, sum, part, c.loop-run.invariant)

pub loop-run-preserved : goal.loop-run-preserved
loop-run-preserved c =
    let sum = laid_out-sum 0 c.args.granules c.args.taken.now c.requires in
    let part = granules_of-part c.args.taken.now c.loop-run.run-index nothing (omega arith) in
    let more = granules_of-more c.args.taken.now c.loop-run.run-index nothing (omega arith) in
    omega (arith, sum, part, more, c.loop-run.invariant)
