use Rattle.std.proofs.Common.{Contains, ◌≢◌, subst}
use Rattle.dma_pool.specs.Blocks.{run_at}
use Rattle.writer_tests.proofs.pools.+make_holes.Goals as goal

-- a block that was taken later has another run
pub returns-else-contains : goal.returns-else-contains
returns-else-contains g t c = record {
  kept = λ run held.
      let other : run ≢ run_at c.take_some-block.result.address c.take_some-block.result.bytes = λ e. c.take_some-block.ensures.fresh (subst (Contains c.args.pool.now.taken) e held) in
      c.give.ensures.kept run (c.make_holes.ensures.kept run (c.take_some-block.ensures.kept run held)) other;
}
