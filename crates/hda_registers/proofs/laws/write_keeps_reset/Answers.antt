use Rattle.hda_registers.proofs.Apart.{keeps-reset, keeps-left}
use Rattle.hda_registers.proofs.laws.write_keeps_reset.Goals as goal

pub returns-clause-reset : goal.returns-clause-reset
returns-clause-reset c = keeps-reset

pub returns-clause-left : goal.returns-clause-left
returns-clause-left c = keeps-left
