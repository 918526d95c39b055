use Rattle.std.proofs.Common.{refl}
use Rattle.std.proofs.Math.Logic.{∥∥₁_map}
use Rattle.hda_world.specs.Events.{Begin}
use Rattle.rig.proofs.Where.{honest_more, where_seen}
use Rattle.rig.proofs.recording.Recording.begin.Goals as goal

pub invariant_of-self : goal.invariant_of-self
invariant_of-self c = record {
  whole = c.args.self.now.whole;
  honest = honest_more _ _ _ _ c.args.self.now.honest c.note_begin.ensures.events tt;
  stands = ∥∥₁_map c.args.self.now.stands (λ was. where_seen _ _ _ _ _ _ _ _ Begin was c.note_begin.ensures.events refl);
  pins = c.args.self.now.pins;
}
