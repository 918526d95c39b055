use Rattle.hda_registers.proofs.Keeping.{keeps-status, keeps-shape}
use Rattle.hda_registers.proofs.laws.reset_keeps_state_status.Goals as goal

pub returns-clause-status : goal.returns-clause-status
returns-clause-status c = λ fields at width value. keeps-status fields at width value

pub returns-clause-shape : goal.returns-clause-shape
returns-clause-shape c = λ fields at width value. keeps-shape fields at width value
