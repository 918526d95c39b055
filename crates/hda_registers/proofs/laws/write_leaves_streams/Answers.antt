use Rattle.hda_registers.proofs.Keeping.{leaves-streams}
use Rattle.hda_registers.proofs.laws.write_leaves_streams.Goals as goal

pub returns : goal.returns
returns c = λ fields at width value. leaves-streams fields at width value
