use Rattle.std.proofs.Common.{◌≡◌, List, map, Option, ap, sym, subst, ◌∙◌}
use Rattle.std.specs.Vec.{with_items}
use Rattle.world_rings.specs.Engines.{next_word}
use Rattle.codec_sound.specs.Keeping.{KeptSignals}
use Rattle.device_core.specs.declared.codecs.Handed.{Handed}
use Rattle.device_core.specs.Codecs.{handed_now}
use Rattle.device_core.specs.Devices.{IsWorld}
use Rattle.hda_controller.specs.Controllers.{ControllerState, IsController, renewals_of, renewals_handed}
use Rattle.hda_controller.specs.Renewing.{renewed_after}
use Rattle.hda_controller.proofs.Taking.{handed_fits, handed_renewals, handed_back, none_or_there}
use Rattle.hda_controller.proofs.controller.Controller.corb.Goals.{After-self-1}
use Rattle.hda_controller.proofs.controller.Controller.corb.Goals as goal

back : (c : After-self-1) → (with_items c.self.inside.kept c.renew_handed.new.kept).items ≡ renewed_after c.self.inside.kind c.corb-handed.result c.corb-handed.new.self c.self.inside.kept.items
back c =
    handed_back c.self.inside.kind c.self.inside.kept c.renew_handed.new.kept c.corb-handed.result c.self.inside.device c.corb-handed.new.self
    (c.renew_handed.ensures ∙ ap (renewed_after c.self.inside.kind c.corb-handed.result c.corb-handed.new.self) c.as_mut_slice.ensures.value) c.self.invariant.count c.corb-handed.ensures.codecs

pub invariant_of-self : goal.invariant_of-self
invariant_of-self c =
    subst (λ (kept : List KeptSignals). IsController (record { device = c.corb-handed.new.self; kept = kept; kind = c.self.inside.kind })) (sym (back c))
    (handed_fits c.self.inside.kind c.self.inside.device c.corb-handed.new.self c.self.inside.kept.items c.self.invariant.count c.corb-handed.result
    (none_or_there c.corb-handed.result (next_word c.self.inside.device.registers c.args.memory.now) c.self.inside.device.codecs c.corb-handed.ensures.handed)
    c.codecs.ensures.addresses c.corb-handed.ensures.sound c.corb-handed.ensures.codecs c.self.invariant)

pub returns-clause-stands : goal.returns-clause-stands
returns-clause-stands c world is =
    c.corb-handed.ensures.stands world (subst (λ (state : ControllerState). IsWorld c.args.memory.now state.device world) (sym c.self.view_is) is)

pub returns-clause-renewals : goal.returns-clause-renewals
returns-clause-renewals c =
    subst (λ (state : ControllerState). map (λ one. one.renewals) (with_items c.self.inside.kept c.renew_handed.new.kept).items
    ≡ renewals_handed (handed_now state.device.registers c.args.memory.now state.device.codecs) (renewals_of state)) c.self.view_is
    (ap (map (λ (one : KeptSignals). one.renewals)) (back c)
    ∙ (handed_renewals c.self.inside.kind c.self.inside.device c.corb-handed.new.self c.self.inside.kept.items c.self.invariant.count c.corb-handed.result c.corb-handed.ensures.codecs
    ∙ ap (λ (o : Option Handed). renewals_handed o (map (λ one. one.renewals) c.self.inside.kept.items)) c.corb-handed.ensures.handed))
