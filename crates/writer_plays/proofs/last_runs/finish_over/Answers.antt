use Rattle.period_writer.proofs.Callers.{owns_on}
use Rattle.writer_plays.proofs.last_runs.finish_over.Goals as goal

-- the blocks are still the pool's
pub close-requires : goal.close-requires
close-requires c = owns_on _ _ _ c.finish_all-outcome.ensures.keeps c.in-Ok.ensures.owns
