use Rattle.hda_program.specs.Meanings.{of_run}
use Rattle.hda_program.proofs.WriteLemmas.{has_written}
use Rattle.hda_program.proofs.run.write_run.Goals as goal

pub returns-clause-written : goal.returns-clause-written
returns-clause-written g c =
    rw (c.written_status.ensures, c.status_of.ensures)
    (has_written _ (of_run c.args.played.now) c.write_report.result c.write_report.ensures.all c.write_report.ensures.front c.write_report.ensures.failed)
