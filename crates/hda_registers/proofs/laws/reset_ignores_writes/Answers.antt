use Rattle.hda_registers.proofs.Keeping.{ignored}
use Rattle.hda_registers.proofs.laws.reset_ignores_writes.Goals as goal

pub returns : goal.returns
returns c = λ fields at width value. ignored fields at width value
