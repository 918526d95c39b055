use Rattle.std.proofs.Common.{[], sym}
use Rattle.std.proofs.Math.Logic.{∥∥₁_map}
use Rattle.rig.proofs.Where.{honest_same, where_given, where_same, where_sounded}
use Rattle.rig.proofs.recording.Recording.give.Goals as goal

pub invariant_of-self : goal.invariant_of-self
invariant_of-self c = record {
  whole = c.args.self.now.whole;
  honest = honest_same _ [] _ c.requires tt;
  stands = ∥∥₁_map c.args.self.now.stands (λ was.
      where_given _ 4194304 c.args.self.now.machine c.args.sound.items _ _ _ _ _ _ c.give.ensures.given
      (where_same _ _ [] _ _ _ _ _ c.requires (where_sounded _ _ _ _ _ _ _ _ _ _ c.give.ensures.stands c.give.ensures.lists c.give.ensures.kind (where_same _ _ _ [] _ _ _ _ (sym c.requires) was))));
  pins = c.args.self.now.pins;
}
