use Rattle.period_writer.proofs.RingRows.{start_within, run_within, finish_within, stop_within}
use Rattle.period_writer.proofs.ring_laws.runs_write_their_ring.Goals as goal

pub returns-clause-start : goal.returns-clause-start
returns-clause-start c = start_within

pub returns-clause-run : goal.returns-clause-run
returns-clause-run c = run_within

pub returns-clause-finish : goal.returns-clause-finish
returns-clause-finish c = finish_within

pub returns-clause-stop : goal.returns-clause-stop
returns-clause-stop c = stop_within
