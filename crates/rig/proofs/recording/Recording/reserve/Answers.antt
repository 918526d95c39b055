use Rattle.std.proofs.Math.Logic.{∥∥₁_map}
use Rattle.rig.proofs.Where.{honest_same, where_same, where_reserved, listed_reserved}
use Rattle.rig.proofs.recording.Recording.reserve.Goals as goal

pub invariant_of-self-2 : goal.invariant_of-self-2
invariant_of-self-2 c =
    let same = c.reserve.ensures.events in
    record {
      whole = c.args.self.now.whole;
      honest = honest_same _ _ _ same c.args.self.now.honest;
      stands = ∥∥₁_map c.args.self.now.stands (λ was. where_same _ _ _ _ _ _ _ _ same (where_reserved _ _ _ _ _ _ _ _ _ c.reserve-3.ensures.lists c.reserve-3.ensures.marks c.reserve-2.ensures.items was));
      pins = ∥∥₁_map c.args.self.now.pins (λ are. listed_reserved _ _ _ _ c.reserve-3.ensures.lists are);
    }
