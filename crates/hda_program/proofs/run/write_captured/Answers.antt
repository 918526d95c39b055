use Rattle.hda_program.specs.Meanings.{of_capture}
use Rattle.hda_program.proofs.WriteLemmas.{has_written}
use Rattle.hda_program.proofs.run.write_captured.Goals as goal

pub returns-clause-written : goal.returns-clause-written
returns-clause-written g c =
    rw (c.written_status.ensures, c.capture_status.ensures)
    (has_written _ (of_capture c.args.captured.now) c.write_capture.result c.write_capture.ensures.all c.write_capture.ensures.front c.write_capture.ensures.failed)
