use Rattle.std.proofs.Common.{sym, ap, ◌∙◌}
use Rattle.heard_lists.specs.declared.pin_list.PinHeard.{PinHeard}
use Rattle.heard_lists.proofs.Placed.{any_list, handed_at}
use Rattle.heard_lists.proofs.heard_pins.HeardPins.head.Goals as goal

pub returns : goal.returns
returns c pin =
    c.head.ensures any_list
    ∙ ap (λ (heard : PinHeard). (heard.codec, heard.pin)) (sym (handed_at c.self.inside.lists c.args.self.now c.args.place pin c.self.view_is c.requires))
