use Rattle.hda_registers.proofs.Keeping.{stays-held}
use Rattle.hda_registers.proofs.laws.reset_holds_values.Goals as goal

pub returns-clause-write : goal.returns-clause-write
returns-clause-write c = λ fields at width value. stays-held fields at width value
