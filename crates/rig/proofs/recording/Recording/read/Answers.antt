use Rattle.std.proofs.Common.{refl}
use Rattle.std.proofs.Math.Logic.{∥∥₁_map}
use Rattle.hda_world.specs.Events.{Read}
use Rattle.rig.proofs.Where.{honest_more, where_seen, went_one, value_there}
use Rattle.rig.proofs.recording.Recording.read.Goals as goal

pub invariant_of-self : goal.invariant_of-self
invariant_of-self c = record {
  whole = c.args.self.now.whole;
  honest = honest_more _ _ _ _ c.args.self.now.honest c.note_read.ensures.events (value_there _ _ _ c.args.self.now.stands c.read-value.ensures);
  stands = ∥∥₁_map c.args.self.now.stands (λ was. where_seen _ _ _ _ _ _ _ _ (Read c.args.at c.args.width c.read-value.result) was c.note_read.ensures.events refl);
  pins = c.args.self.now.pins;
}

pub returns-clause-told : goal.returns-clause-told
returns-clause-told c = went_one _ _ _ _ c.note_read.ensures.events (value_there _ _ _ c.args.self.now.stands c.read-value.ensures)
