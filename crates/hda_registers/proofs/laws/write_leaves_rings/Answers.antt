use Rattle.hda_registers.proofs.Apart.{leaves-rings}
use Rattle.hda_registers.proofs.laws.write_leaves_rings.Goals as goal

pub returns : goal.returns
returns c = leaves-rings
