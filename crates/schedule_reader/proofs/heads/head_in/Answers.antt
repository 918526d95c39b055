use Rattle.std.proofs.Common.{sym, ap, ◌∙◌}
use Rattle.schedule_reader.specs.Cuts.{words}
use Rattle.schedule_reader.specs.Readers as readers
use Rattle.schedule_reader.proofs.HeadLemmas.{head_of-reads}
use Rattle.schedule_reader.proofs.heads.head_in.Goals as goal

pub returns : goal.returns
returns c = c.read_head.ensures ∙ ap readers.head_of c.new.ensures ∙ sym (head_of-reads (words c.args.text.now))
