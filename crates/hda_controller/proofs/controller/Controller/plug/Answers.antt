use Rattle.std.proofs.Common.{sym, subst}
use Rattle.device_core.specs.Devices.{IsWorld}
use Rattle.hda_controller.specs.Controllers.{ControllerState}
use Rattle.hda_controller.proofs.Keeping.{device_stays, sound_same}
use Rattle.hda_controller.proofs.controller.Controller.plug.Goals as goal

pub invariant_of-self : goal.invariant_of-self
invariant_of-self c =
    device_stays c.self.inside.kind c.self.inside.device c.plug.new.self c.self.inside.kept.items c.plug.ensures.codecs (sound_same c.self.inside.device.registers c.plug.new.self.registers c.plug.ensures.registers) c.self.invariant

pub returns-clause-stands : goal.returns-clause-stands
returns-clause-stands c memory world is =
    c.plug.ensures.stands memory world (subst (λ (state : ControllerState). IsWorld memory state.device world) (sym c.self.view_is) is)
