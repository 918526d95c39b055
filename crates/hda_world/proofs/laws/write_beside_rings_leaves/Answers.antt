use Rattle.hda_world.proofs.Leaving.{beside_write, beside_rings}
use Rattle.hda_world.proofs.laws.write_beside_rings_leaves.Goals as goal

pub returns : goal.returns
returns c = record { world = beside_write; rings = beside_rings }
