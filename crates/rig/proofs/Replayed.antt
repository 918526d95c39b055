-- Every rig is where its journal leads.
use Rattle.std.proofs.Common.{refl}
use Rattle.std.proofs.Math.Logic.{∥∥₁_map}
use Rattle.rig.specs.declared.rig.Rig.{Rig}
use Rattle.rig.specs.Rigs.{IsReplayed}
use Rattle.rig.proofs.Where.{heard_there, came_there, marks_there, passed_there}

pub replayed : (rig : Rig) → IsReplayed rig
replayed rig = record {
  world = _;
  replays = record { honest = rig.recording.honest; leads = refl };
  stands = ∥∥₁_map rig.recording.stands (λ here. here.stands);
  heard = heard_there rig.recording.stands;
  marked = marks_there rig.recording.stands;
  passed = passed_there rig.recording.stands;
  taken = came_there rig.recording.stands;
  pins = rig.recording.pins;
}
