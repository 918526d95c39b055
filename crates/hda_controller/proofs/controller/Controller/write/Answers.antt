use Rattle.std.proofs.Common.{◌≡◌, List, [], ◌∷◌, map, ap, sym, subst, refl, ◌∙◌}
use Rattle.hda_world.specs.Events.{Write}
use Rattle.std.specs.Vec.{with_items}
use Rattle.codec_sound.specs.Keeping.{KeptSignals}
use Rattle.device_core.specs.Sound.{touches_sound}
use Rattle.device_core.specs.Devices.{IsWorld}
use Rattle.hda_controller.specs.Controllers.{ControllerState, IsController, renewals_of, renewals_written}
use Rattle.hda_controller.specs.Renewing.{renewed_if}
use Rattle.hda_controller.specs.Hearing.{AreHeardAs}
use Rattle.device_core.specs.Codecs.{addresses_of}
use Rattle.hda_controller.proofs.Listed.{heard_by, addresses_by}
use Rattle.hda_controller.proofs.Writing.{written_fits, written_renewals, kept_back}
use Rattle.hda_controller.proofs.controller.Controller.write.Goals.{After-self-1}
use Rattle.hda_controller.proofs.controller.Controller.write.Goals as goal

back : (c : After-self-1) → (with_items c.self.inside.kept c.renew_if.new.kept).items ≡ renewed_if c.self.inside.kind (touches_sound c.args.at c.args.width) c.write.new.self c.self.inside.kept.items
back c = kept_back c.self.inside.kind c.self.inside.kept c.renew_if.new.kept _ _ c.write.new.self (c.renew_if.ensures ∙ rw (c.touches_sound.ensures, c.as_mut_slice.ensures.value) refl) c.self.invariant.count c.write.ensures.codecs

pub invariant_of-self : goal.invariant_of-self
invariant_of-self c =
    subst (λ (kept : List KeptSignals). IsController (record { device = c.write.new.self; kept = kept; kind = c.self.inside.kind })) (sym (back c))
    (written_fits c.self.inside.kind (touches_sound c.args.at c.args.width) c.self.inside.device c.write.new.self c.self.inside.kept.items c.write.ensures.codecs c.write.ensures.sound c.self.invariant)

pub returns-clause-stands : goal.returns-clause-stands
returns-clause-stands c memory world is =
    c.write.ensures.stands memory world (subst (λ (state : ControllerState). IsWorld memory state.device world) (sym c.self.view_is) is)

pub returns-clause-renewals : goal.returns-clause-renewals
returns-clause-renewals c =
    subst (λ (state : ControllerState). map (λ one. one.renewals) (with_items c.self.inside.kept c.renew_if.new.kept).items ≡ renewals_written c.args.at c.args.width (renewals_of state)) c.self.view_is
    (ap (map (λ (one : KeptSignals). one.renewals)) (back c)
    ∙ written_renewals c.self.inside.kind (touches_sound c.args.at c.args.width) c.self.inside.device c.write.new.self c.self.inside.kept.items c.write.ensures.codecs c.self.invariant.count)

pub returns-clause-lists : goal.returns-clause-lists
returns-clause-lists c lists are =
    heard_by c.self.inside.kind c.self.inside.device.codecs c.write.new.self.codecs lists c.write.ensures.codecs.graphs
    (subst (λ (state : ControllerState). AreHeardAs state.kind state.device.codecs lists) (sym c.self.view_is) are)

pub returns-clause-addresses : goal.returns-clause-addresses
returns-clause-addresses c =
    addresses_by c.self.inside.device.codecs c.write.new.self.codecs c.write.ensures.codecs.graphs
    ∙ ap (λ (state : ControllerState). addresses_of state.device.codecs) c.self.view_is

pub returns-clause-given : goal.returns-clause-given
returns-clause-given c =
    let some = c.is_some_world.ensures [] in
    let now = c.write.ensures.stands [] some.0 some.1 in
    sym now.captured.given_is
    ∙ (c.the_given_sound_stays.ensures (Write c.args.at c.args.width c.args.value ∷ []) some.0
    ∙ (some.1.captured.given_is ∙ ap (λ (state : ControllerState). state.device.input.given) c.self.view_is))
