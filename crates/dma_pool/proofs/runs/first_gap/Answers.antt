use Rattle.std.proofs.Common.{arith}
use Rattle.dma_pool.specs.declared.runs.Run.{Run}
use Rattle.dma_pool.proofs.LaidOut.{split-room, split-end, split-more, split-none}
use Rattle.dma_pool.proofs.runs.first_gap.Goals as goal

abbrev nothing : Run
nothing = record { first = 0; count = 0 }

pub returns-then-count-run : goal.returns-then-count-run
returns-then-count-run c =
    split-room c.args.granules c.args.count c.args.taken.now c.loop-index.index c.loop-index.first nothing c.requires.some (omega arith) c.if-count-run.true c.loop-index.invariant

pub overflow_add-first : goal.overflow_add-first
overflow_add-first c =
    let end = split-end c.args.granules c.args.count c.args.taken.now c.loop-index.index c.loop-index.first nothing (omega arith) c.loop-index.invariant in
    omega (arith, end)

pub loop-index-preserved : goal.loop-index-preserved
loop-index-preserved c =
    split-more c.args.granules c.args.count c.args.taken.now c.loop-index.index c.loop-index.first nothing (omega arith) c.if-count-run.false c.loop-index.invariant

pub returns : goal.returns
returns c = split-none c.args.granules c.args.count c.args.taken.now c.loop-index.index c.loop-index.first c.if-count-granules.false c.loop-index.invariant
