use Rattle.std.proofs.Math.Logic.{∥∥₁_map}
use Rattle.rig.proofs.Where.{honest_more, honest_given, where_given, where_written}
use Rattle.rig.proofs.recording.Recording.write.Goals as goal

pub invariant_of-self : goal.invariant_of-self
invariant_of-self c = record {
  whole = c.args.self.now.whole;
  honest = honest_given 4194304 c.args.self.now.machine c.args.self.now.controller.device.input.given _ _ c.write.ensures.given (honest_more _ _ _ _ c.args.self.now.honest c.note_write.ensures.events tt);
  stands = ∥∥₁_map c.args.self.now.stands (λ was.
      where_given _ 4194304 c.args.self.now.machine c.args.self.now.controller.device.input.given _ _ _ _ _ _ c.write.ensures.given
      (where_written _ _ _ _ _ _ _ _ c.args.at c.args.width c.args.value c.write.new.self c.keep_marks.new.came.items was c.note_write.ensures.events c.write.ensures.stands c.write.ensures.lists c.write.ensures.kind
      c.keep_marks.ensures.came));
  pins = c.args.self.now.pins;
}
