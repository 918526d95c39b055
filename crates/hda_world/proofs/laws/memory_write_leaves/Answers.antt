use Rattle.std.proofs.Common.{refl}
use Rattle.world_rings.proofs.Callers.{piece_is_stored}
use Rattle.hda_world.proofs.laws.memory_write_leaves.Goals as goal

pub returns : goal.returns
returns c = record {
  rest = λ world at piece. refl;
  piece = λ world at piece fits. piece_is_stored at piece world.memory fits;
}
