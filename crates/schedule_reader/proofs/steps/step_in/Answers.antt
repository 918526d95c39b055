use Rattle.std.proofs.Common.{sym, ap, ◌∙◌}
use Rattle.schedule_reader.specs.Cuts.{words}
use Rattle.schedule_reader.specs.Readers as readers
use Rattle.schedule_reader.proofs.HeadLemmas.{step_of-reads}
use Rattle.schedule_reader.proofs.steps.step_in.Goals as goal

pub returns : goal.returns
returns c = c.read_step.ensures ∙ ap readers.step_of c.new.ensures ∙ sym (step_of-reads (words c.args.text.now))
