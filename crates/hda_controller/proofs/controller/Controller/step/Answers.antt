use Rattle.std.proofs.Common.{[], ◌∷◌, sym, ap, subst, ◌∙◌}
use Rattle.hda_world.specs.Events.{Stepped}
use Rattle.device_core.specs.Devices.{IsWorld}
use Rattle.codec_graph.specs.declared.pin_kind.PinKind.{PinKind}
use Rattle.hda_controller.specs.Controllers.{ControllerState}
use Rattle.hda_controller.specs.Hearing.{AreHeardAs}
use Rattle.hda_controller.proofs.Listed.{heard_after, addresses_after}
use Rattle.hda_controller.proofs.controller.Controller.step.Goals as goal

pub returns-clause-lists : goal.returns-clause-lists
returns-clause-lists c =
    subst (λ (kind : PinKind). AreHeardAs kind c.make.new.self.device.codecs c.make.new.heard) (sym c.make.ensures.kind)
    (heard_after c.args.self.now.kind c.args.memory.now c.make.new.memory c.self.inside.device c.args.self.now c.make.new.self c.args.step.now c.args.heard.now c.make.new.heard
    (ap (λ (state : ControllerState). state.device) c.self.view_is) c.is_some_world.ensures c.make.ensures.stands c.make.ensures.heard c.requires.lists)

pub returns-clause-addresses : goal.returns-clause-addresses
returns-clause-addresses c =
    addresses_after c.args.memory.now c.make.new.memory c.self.inside.device c.args.self.now c.make.new.self c.args.step.now
    (ap (λ (state : ControllerState). state.device) c.self.view_is) c.is_some_world.ensures c.make.ensures.stands

pub returns-clause-given : goal.returns-clause-given
returns-clause-given c =
    let some = c.is_some_world.ensures c.args.memory.now in
    let is = subst (λ (state : ControllerState). IsWorld c.args.memory.now state.device some.0) c.self.view_is some.1 in
    let now = c.make.ensures.stands some.0 is in
    sym now.captured.given_is ∙ (c.the_given_sound_stays.ensures (Stepped c.args.step.now ∷ []) some.0 ∙ is.captured.given_is)
