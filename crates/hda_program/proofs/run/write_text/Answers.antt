use Rattle.hda_program.specs.Meanings.{telling}
use Rattle.hda_program.proofs.WriteLemmas.{has_written}
use Rattle.hda_program.proofs.run.write_text.Goals as goal

pub returns-clause-written : goal.returns-clause-written
returns-clause-written g c =
    rw c.written_status.ensures
    (has_written _ (telling c.args.status c.args.text.now) c.write_all.result c.write_all.ensures.all c.write_all.ensures.front c.write_all.ensures.failed)
