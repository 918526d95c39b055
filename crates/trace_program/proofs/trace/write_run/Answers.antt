use Rattle.hda_program.specs.Meanings.{run_meant}
use Rattle.hda_program.proofs.Callers.{has_written}
use Rattle.trace_program.specs.Traced.{trace_of}
use Rattle.trace_program.proofs.trace.write_run.Goals as goal

pub returns-clause-written : goal.returns-clause-written
returns-clause-written g c =
    rw (c.written_status.ensures, c.status_of.ensures)
    (has_written _ (run_meant c.args.played.now (trace_of c.args.form c.args.played.now)) c.write_trace.result (rw (c.walk_total-walks.ensures, c.as_slice.ensures) at c.write_trace.ensures.all) (rw (c.walk_total-walks.ensures, c.as_slice.ensures) at c.write_trace.ensures.front) c.write_trace.ensures.failed)
