use Rattle.std.proofs.Common.{List, refl, ap, sym, subst, ◌∙◌}
use Rattle.std.specs.Prelude.{slice_get}
use Rattle.std.specs.Vec.{with_items}
use Rattle.std.specs.Option.{option_map}
use Rattle.codec_graph.specs.CodecStates.{CodecState, without_first}
use Rattle.codec_nodes.specs.Queues.{marked}
use Rattle.hda_world.specs.Worlds.{codec_at, with_codec}
use Rattle.hda_world.specs.Steps.{waiting_of, answer_step}
use Rattle.device_core.specs.Codecs.{KeepCodecs, addresses_of}
use Rattle.device_core.specs.Devices.{DeviceState, IsWorld}
use Rattle.device_core.proofs.Moves.{keeps_queues, answer_none, answer_sent}
use Rattle.device_core.proofs.Places.{keeps-with_codec, put_back, put_same}
use Rattle.device_core.proofs.device.Device.answer.Goals as goal
use Rattle.hda_world.proofs.Callers.{addresses-with_codec}

pub invariant_of-self : goal.invariant_of-self
invariant_of-self c =
    let before : DeviceState = record { registers = c.self.inside.registers; codecs = c.self.inside.codecs.items; waiting = c.self.inside.rings; frames = c.self.inside.frames; input = c.self.inside.input; output = c.self.inside.output } in
    let back = put_back c.args.codec without_first c.self.inside.codecs c.pop.new.codecs (c.pop.ensures.codecs ∙ ap (with_codec c.args.codec without_first) c.as_mut_slice.ensures.value) in
    keeps_queues before _ _ c.self.invariant (ap addresses_of back ∙ addresses-with_codec c.args.codec without_first (λ codec. refl) before.codecs)
    (subst (λ (codecs : List CodecState). KeepCodecs before.codecs codecs) (sym back) (keeps-with_codec c.args.codec without_first (λ codec. refl) (λ codec. refl) before.codecs))

pub returns-in-Some-clause-stands : goal.returns-in-Some-clause-stands
returns-in-Some-clause-stands c memory world is =
    let before : DeviceState = record { registers = c.self.inside.registers; codecs = c.self.inside.codecs.items; waiting = c.self.inside.rings; frames = c.self.inside.frames; input = c.self.inside.input; output = c.self.inside.output } in
    let here : IsWorld memory before world = subst (λ (device : DeviceState). IsWorld memory device world) (sym c.self.view_is) is in
    let back = put_back c.args.codec without_first c.self.inside.codecs c.pop.new.codecs (c.pop.ensures.codecs ∙ ap (with_codec c.args.codec without_first) c.as_mut_slice.ensures.value) in
    let first = ap (λ (codecs : List CodecState). option_map marked (slice_get (waiting_of (codec_at c.args.codec codecs)) 0)) (sym c.as_mut_slice.ensures.value) in
    answer_sent memory before world here c.args.codec _ c.receive.new.rings c.in-Some.answer c.in-Some.unsolicited back c.receive.ensures (sym c.can_receive.ensures ∙ c.if-not-can_receive.false)
    (first ∙ (sym c.pop.ensures.item ∙ c.in-Some.is))

pub returns-in-Some-clause-codecs : goal.returns-in-Some-clause-codecs
returns-in-Some-clause-codecs c =
    let back = put_back c.args.codec without_first c.self.inside.codecs c.pop.new.codecs (c.pop.ensures.codecs ∙ ap (with_codec c.args.codec without_first) c.as_mut_slice.ensures.value) in
    subst (λ (device : DeviceState). KeepCodecs device.codecs (with_items c.self.inside.codecs c.pop.new.codecs).items) c.self.view_is
    (subst (λ (codecs : List CodecState). KeepCodecs c.self.inside.codecs.items codecs) (sym back) (keeps-with_codec c.args.codec without_first (λ codec. refl) (λ codec. refl) c.self.inside.codecs.items))

pub returns-in_default-clause-stands : goal.returns-in_default-clause-stands
returns-in_default-clause-stands c memory world is =
    let before : DeviceState = record { registers = c.self.inside.registers; codecs = c.self.inside.codecs.items; waiting = c.self.inside.rings; frames = c.self.inside.frames; input = c.self.inside.input; output = c.self.inside.output } in
    let here : IsWorld memory before world = subst (λ (device : DeviceState). IsWorld memory device world) (sym c.self.view_is) is in
    let same = put_same c.self.inside.codecs c.pop.new.codecs (c.pop.ensures.unchanged c.in_default.is ∙ c.as_mut_slice.ensures.value) in
    let first = ap (λ (codecs : List CodecState). option_map marked (slice_get (waiting_of (codec_at c.args.codec codecs)) 0)) (sym c.as_mut_slice.ensures.value) in
    subst (λ (codecs : List CodecState). IsWorld memory (record before { codecs = codecs }) (answer_step c.args.codec world)) (sym same)
    (answer_none memory before world here c.args.codec (sym c.can_receive.ensures ∙ c.if-not-can_receive.false) (first ∙ (sym c.pop.ensures.item ∙ c.in_default.is)))
