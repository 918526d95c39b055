use Rattle.std.proofs.Common.{◌≡◌, sym, subst}
use Rattle.std.specs.Prelude.{OnOk}
use Rattle.std.specs.List.{flat_map}
use Rattle.heard_lists.specs.declared.pin_list.PinHeard.{PinHeard}
use Rattle.heard_lists.specs.Stretches.{sound_bytes, stretches_of}
use Rattle.heard_lists.proofs.Placed.{any_list, handed_at}
use Rattle.heard_lists.proofs.heard_pins.HeardPins.put_stretches.Goals as goal

pub returns-clause-stretches : goal.returns-clause-stretches
returns-clause-stretches c pin =
    subst (λ (heard : PinHeard). OnOk c.put_stretches.result (c.put_stretches.new.stretches.items ≡ stretches_of heard.list))
    (sym (handed_at c.self.inside.lists c.args.self.now c.args.place pin c.self.view_is c.requires)) (c.put_stretches.ensures.stretches any_list)

pub returns-clause-sound : goal.returns-clause-sound
returns-clause-sound c pin =
    subst (λ (heard : PinHeard). OnOk c.put_stretches.result (c.put_stretches.new.sound.items ≡ flat_map (sound_bytes c.args.bits) heard.list))
    (sym (handed_at c.self.inside.lists c.args.self.now c.args.place pin c.self.view_is c.requires)) (c.put_stretches.ensures.sound any_list)
