use Rattle.hda_registers.proofs.Keeping.{changes-input, changes-output}
use Rattle.hda_registers.proofs.laws.write_leaves_others.Goals as goal

pub returns-clause-input : goal.returns-clause-input
returns-clause-input c = λ fields at width value. changes-input fields at width value

pub returns-clause-output : goal.returns-clause-output
returns-clause-output c = λ fields at width value. changes-output fields at width value
