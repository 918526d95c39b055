use Rattle.std.proofs.Common.{List, ap, sym, subst, ◌∙◌}
use Rattle.std.specs.Vec.{with_items}
use Rattle.codec_graph.specs.CodecStates.{CodecState, plugged}
use Rattle.codec_graph.proofs.Callers.{graph-plugged, settings-plugged}
use Rattle.hda_world.specs.Worlds.{with_codec}
use Rattle.device_core.specs.Codecs.{KeepCodecs, addresses_of}
use Rattle.device_core.specs.Devices.{DeviceState, IsWorld}
use Rattle.device_core.proofs.Moves.{keeps_queues, plug_plugged}
use Rattle.device_core.proofs.Places.{keeps-with_codec, put_back}
use Rattle.device_core.proofs.device.Device.plug.Goals as goal
use Rattle.hda_world.proofs.Callers.{addresses-with_codec}

pub invariant_of-self : goal.invariant_of-self
invariant_of-self c =
    let before : DeviceState = record { registers = c.self.inside.registers; codecs = c.self.inside.codecs.items; waiting = c.self.inside.rings; frames = c.self.inside.frames; input = c.self.inside.input; output = c.self.inside.output } in
    let back = put_back c.args.codec (λ codec. plugged codec c.args.nid c.args.present) c.self.inside.codecs c.plug.new.codecs (c.plug.ensures ∙ ap (with_codec c.args.codec (λ codec. plugged codec c.args.nid c.args.present)) c.as_mut_slice.ensures.value) in
    keeps_queues before _ before.waiting c.self.invariant (ap addresses_of back ∙ addresses-with_codec c.args.codec (λ codec. plugged codec c.args.nid c.args.present) (graph-plugged c.args.nid c.args.present) before.codecs)
    (subst (λ (codecs : List CodecState). KeepCodecs before.codecs codecs) (sym back)
    (keeps-with_codec c.args.codec (λ codec. plugged codec c.args.nid c.args.present) (graph-plugged c.args.nid c.args.present) (settings-plugged c.args.nid c.args.present) before.codecs))

pub returns-clause-stands : goal.returns-clause-stands
returns-clause-stands c memory world is =
    let before : DeviceState = record { registers = c.self.inside.registers; codecs = c.self.inside.codecs.items; waiting = c.self.inside.rings; frames = c.self.inside.frames; input = c.self.inside.input; output = c.self.inside.output } in
    let here : IsWorld memory before world = subst (λ (device : DeviceState). IsWorld memory device world) (sym c.self.view_is) is in
    let back = put_back c.args.codec (λ codec. plugged codec c.args.nid c.args.present) c.self.inside.codecs c.plug.new.codecs (c.plug.ensures ∙ ap (with_codec c.args.codec (λ codec. plugged codec c.args.nid c.args.present)) c.as_mut_slice.ensures.value) in
    plug_plugged memory before world here c.args.codec c.args.nid c.args.present _ back

pub returns-clause-codecs : goal.returns-clause-codecs
returns-clause-codecs c =
    let back = put_back c.args.codec (λ codec. plugged codec c.args.nid c.args.present) c.self.inside.codecs c.plug.new.codecs (c.plug.ensures ∙ ap (with_codec c.args.codec (λ codec. plugged codec c.args.nid c.args.present)) c.as_mut_slice.ensures.value) in
    subst (λ (device : DeviceState). KeepCodecs device.codecs (with_items c.self.inside.codecs c.plug.new.codecs).items) c.self.view_is
    (subst (λ (codecs : List CodecState). KeepCodecs c.self.inside.codecs.items codecs) (sym back) (keeps-with_codec c.args.codec (λ codec. plugged codec c.args.nid c.args.present) (graph-plugged c.args.nid c.args.present) (settings-plugged c.args.nid c.args.present) c.self.inside.codecs.items))
