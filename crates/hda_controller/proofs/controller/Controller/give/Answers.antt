use Rattle.std.proofs.Common.{List, sym, subst}
use Rattle.codec_graph.specs.CodecStates.{CodecState}
use Rattle.device_core.specs.Devices.{IsWorld}
use Rattle.hda_controller.specs.Controllers.{ControllerState}
use Rattle.hda_controller.specs.Hearing.{AreHeardAs}
use Rattle.hda_controller.proofs.Keeping.{device_stays, keeps_same, sound_same}
use Rattle.hda_controller.proofs.controller.Controller.give.Goals as goal

pub invariant_of-self : goal.invariant_of-self
invariant_of-self c =
    device_stays c.self.inside.kind c.self.inside.device c.give.new.self c.self.inside.kept.items (keeps_same c.self.inside.device.codecs c.give.new.self.codecs c.give.ensures.codecs)
    (sound_same c.self.inside.device.registers c.give.new.self.registers c.give.ensures.registers) c.self.invariant

pub returns-clause-stands : goal.returns-clause-stands
returns-clause-stands c memory world is =
    c.give.ensures.stands memory world (subst (λ (state : ControllerState). IsWorld memory state.device world) (sym c.self.view_is) is)

pub returns-clause-lists : goal.returns-clause-lists
returns-clause-lists c lists are =
    subst (λ (codecs : List CodecState). AreHeardAs c.self.inside.kind codecs lists) (sym c.give.ensures.codecs)
    (subst (λ (state : ControllerState). AreHeardAs state.kind state.device.codecs lists) (sym c.self.view_is) are)
