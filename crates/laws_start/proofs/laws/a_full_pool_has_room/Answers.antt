use Rattle.laws_start.proofs.Room.{full_pool}
use Rattle.laws_start.proofs.laws.a_full_pool_has_room.Goals as goal

pub returns : goal.returns
returns c = full_pool
