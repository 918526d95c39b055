use Rattle.std.proofs.Common.{◌≡◌, ◌++◌, sym, subst}
use Rattle.std.specs.Prelude.{OnOk}
use Rattle.heard_lists.specs.declared.pin_list.PinHeard.{PinHeard}
use Rattle.heard_lists.proofs.Placed.{any_list, handed_at}
use Rattle.heard_lists.proofs.heard_pins.HeardPins.push_list.Goals as goal

pub returns : goal.returns
returns c pin =
    subst (λ (heard : PinHeard). OnOk c.push_list.result (c.push_list.new.items.items ≡ c.args.items.now.items ++ heard.list))
    (sym (handed_at c.self.inside.lists c.args.self.now c.args.place pin c.self.view_is c.requires)) (c.push_list.ensures any_list)
