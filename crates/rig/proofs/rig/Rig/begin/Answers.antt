use Rattle.std.proofs.Common.{◌≡◌, ◌+◌, true, false, ap, arith}
use Rattle.rig.specs.Rooms.{step_count, item_count}
use Rattle.rig.proofs.Rooming.{less_room}
use Rattle.rig.proofs.Weaving.{began, began_count}
use Rattle.rig.proofs.rig.Rig.begin.Goals as goal

pub invariant_of-self-2 : goal.invariant_of-self-2
invariant_of-self-2 c =
    let same : c.in_ok-copies.copies ≡ c.args.groups.now = c.in_ok-copies.ensures in
    let steps : step_count c.in_ok-copies.copies ≡ step_count c.args.groups.now = ap step_count same in
    let items : item_count c.in_ok-copies.copies ≡ item_count c.args.groups.now = ap item_count same in
    let asked = c.in-Some.ensures.entries in
    let heard = c.in-Some.ensures.items in
    record {
      closed = λ never. (let no : true ≡ false = never in cc);
      counts = omega (arith, c.ranges.accesses);
      laid = λ _. began c.entry_count-self.result c.in_ok-copies.copies _ _ c.entry_count-self.ensures c.begin.ensures.told.journal;
      numbered = λ _. began_count c.entry_count-self.result c.in_ok-copies.copies _ _ c.entry_count-self.ensures c.begin.ensures.told.journal;
      room = λ _. c.begin.ensures.room _ _ _ (less_room _ _ _ (1 + (c.args.accesses + 1 + step_count c.in_ok-copies.copies)) c.args.bytes (item_count c.in_ok-copies.copies) _ _ _
          (omega (arith, steps, asked)) (omega arith) (omega (arith, items, heard)) c.in_ok-reserve.ensures.room);
    }
