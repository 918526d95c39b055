use Rattle.std.proofs.Common.{List, refl, ap, sym, subst, ◌∙◌}
use Rattle.std.specs.Vec.{with_items}
use Rattle.codec_graph.specs.CodecStates.{CodecState, without_answer}
use Rattle.hda_world.specs.Worlds.{with_codec}
use Rattle.device_core.specs.Codecs.{KeepCodecs, addresses_of}
use Rattle.device_core.specs.Devices.{DeviceState, IsWorld}
use Rattle.device_core.proofs.Moves.{keeps_queues, lose_lost}
use Rattle.device_core.proofs.Places.{keeps-with_codec, put_back}
use Rattle.device_core.proofs.device.Device.lose.Goals as goal
use Rattle.hda_world.proofs.Callers.{addresses-with_codec}

pub invariant_of-self : goal.invariant_of-self
invariant_of-self c =
    let before : DeviceState = record { registers = c.self.inside.registers; codecs = c.self.inside.codecs.items; waiting = c.self.inside.rings; frames = c.self.inside.frames; input = c.self.inside.input; output = c.self.inside.output } in
    let back = put_back c.args.codec without_answer c.self.inside.codecs c.lose.new.codecs (c.lose.ensures ∙ ap (with_codec c.args.codec without_answer) c.as_mut_slice.ensures.value) in
    keeps_queues before _ before.waiting c.self.invariant (ap addresses_of back ∙ addresses-with_codec c.args.codec without_answer (λ codec. refl) before.codecs)
    (subst (λ (codecs : List CodecState). KeepCodecs before.codecs codecs) (sym back) (keeps-with_codec c.args.codec without_answer (λ codec. refl) (λ codec. refl) before.codecs))

pub returns-then-is_out_of_reset-clause-stands : goal.returns-then-is_out_of_reset-clause-stands
returns-then-is_out_of_reset-clause-stands c memory world is =
    let before : DeviceState = record { registers = c.self.inside.registers; codecs = c.self.inside.codecs.items; waiting = c.self.inside.rings; frames = c.self.inside.frames; input = c.self.inside.input; output = c.self.inside.output } in
    let here : IsWorld memory before world = subst (λ (device : DeviceState). IsWorld memory device world) (sym c.self.view_is) is in
    let back = put_back c.args.codec without_answer c.self.inside.codecs c.lose.new.codecs (c.lose.ensures ∙ ap (with_codec c.args.codec without_answer) c.as_mut_slice.ensures.value) in
    lose_lost memory before world here c.args.codec _ (sym c.is_out_of_reset.ensures ∙ c.if-is_out_of_reset.true) back

pub returns-then-is_out_of_reset-clause-codecs : goal.returns-then-is_out_of_reset-clause-codecs
returns-then-is_out_of_reset-clause-codecs c =
    let back = put_back c.args.codec without_answer c.self.inside.codecs c.lose.new.codecs (c.lose.ensures ∙ ap (with_codec c.args.codec without_answer) c.as_mut_slice.ensures.value) in
    subst (λ (device : DeviceState). KeepCodecs device.codecs (with_items c.self.inside.codecs c.lose.new.codecs).items) c.self.view_is
    (subst (λ (codecs : List CodecState). KeepCodecs c.self.inside.codecs.items codecs) (sym back) (keeps-with_codec c.args.codec without_answer (λ codec. refl) (λ codec. refl) c.self.inside.codecs.items))
