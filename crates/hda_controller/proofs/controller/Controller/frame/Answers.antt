use Rattle.std.proofs.Common.{sym, subst, arith}
use Rattle.stream_descriptor.specs.Taking.{marks_in}
use Rattle.device_core.specs.Devices.{IsWorld}
use Rattle.hda_controller.specs.Controllers.{ControllerState}
use Rattle.hda_controller.proofs.Keeping.{device_stays, keeps_same}
use Rattle.hda_controller.proofs.controller.Controller.frame.Goals as goal

pub invariant_of-self : goal.invariant_of-self
invariant_of-self c =
    device_stays c.self.inside.kind c.self.inside.device c.frame-frame.new.self c.self.inside.kept.items (keeps_same c.self.inside.device.codecs c.frame-frame.new.self.codecs c.frame-frame.ensures.codecs) c.frame-frame.ensures.sound c.self.invariant

pub returns-clause-stands : goal.returns-clause-stands
returns-clause-stands c memory world is =
    c.frame-frame.ensures.stands memory world (subst (λ (state : ControllerState). IsWorld memory state.device world) (sym c.self.view_is) is)

pub returns-clause-answer : goal.returns-clause-answer
returns-clause-answer c memory world is =
    c.frame-frame.ensures.answer memory world (subst (λ (state : ControllerState). IsWorld memory state.device world) (sym c.self.view_is) is)

pub note_arrived-requires : goal.note_arrived-requires
note_arrived-requires c = omega (arith, c.requires, c.frame-frame.ensures.few)

pub returns-clause-came : goal.returns-clause-came
returns-clause-came c memory world is = record {
  added = marks_in c.frame-frame.result.came;
  came = c.frame-frame.ensures.came memory world (subst (λ (state : ControllerState). IsWorld memory state.device world) (sym c.self.view_is) is);
  marks = c.note_arrived.ensures.items;
}

pub returns-clause-space : goal.returns-clause-space
returns-clause-space c more fits = omega (arith, fits, c.frame-frame.ensures.few, c.note_arrived.ensures.length, c.note_arrived.ensures.capacity)
