use Rattle.std.proofs.Common.{subst, arith}
use Rattle.std.proofs.lemmas.Bool.Decides.{nat_tests}
use Rattle.std.proofs.lemmas.Result.{on_ok_weaker}
use Rattle.heard_lists.specs.Listings.{HasRoom}
use Rattle.heard_lists.proofs.Growing.{HasRoom-fewer}
use Rattle.heard_lists.proofs.Pieced.{has-room}
use Rattle.heard_lists.proofs.item_lists.ItemLists.reserve.Goals as goal

pub returns-then-blocks-self-clause-room : goal.returns-then-blocks-self-clause-room
returns-then-blocks-self-clause-room c =
    let h = c.self.inside in
    let test = c.if-blocks-self.true in
    subst (HasRoom c.args.blocks) c.self.view_is (has-room h.pieces.items h.bytes.items h.holes h.room c.args.blocks
    h.lists.items (grind (arith, nat_tests, test)))

pub returns-clause-room : goal.returns-clause-room
returns-clause-room c =
    on_ok_weaker c.make_room.result
    (HasRoom-fewer c.args.blocks c.max.result c.make_room.new.self (let most = c.max.ensures in omega (arith, most)))
    c.make_room.ensures.room
