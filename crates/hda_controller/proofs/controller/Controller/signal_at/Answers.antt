use Rattle.std.proofs.Common.{◌≡◌, ◌<◌, ℕ, true, List, length, refl, sym, ap, subst, arith}
use Rattle.std.specs.Prelude.{Some, Contains}
use Rattle.std.proofs.lemmas.Option.{slice_get_read}
use Rattle.codec_graph.specs.CodecStates.{CodecState}
use Rattle.codec_sound.specs.Keeping.{KeptSignals}
use Rattle.device_core.specs.Codecs.{addresses_of, place_of}
use Rattle.hda_controller.specs.Controllers.{ControllerState, is_candidate_of_kind, signal_now}
use Rattle.hda_controller.proofs.Start.{candidate_there}
use Rattle.hda_controller.proofs.Hearing.{IsHeard, heard_there}
use Rattle.hda_controller.proofs.controller.Controller.signal_at.Goals.{After-index}
use Rattle.hda_controller.proofs.controller.Controller.signal_at.Goals as goal

pub place_of-place-requires : goal.place_of-place-requires
place_of-place-requires c =
    subst (λ (list : List CodecState). Contains (addresses_of list) c.args.codec) (sym c.codecs.ensures.value)
    (candidate_there c.self.inside.kind c.self.inside.device.codecs c.args.codec c.args.pin
    (subst (λ (state : ControllerState). is_candidate_of_kind state.kind state.device.codecs c.args.codec c.args.pin ≡ true) (sym c.self.view_is) c.requires))

heard : (c : After-index)
    → IsHeard c.self.inside.kind c.self.inside.device.codecs c.self.inside.device.registers.output.tag c.self.inside.device.registers.output.format c.args.codec c.args.pin c.index.result.now
heard c =
    let device = c.self.inside.device in
    let kept : List KeptSignals = c.self.inside.kept.items in
    let place : ℕ = c.place_of-place.result in
    let size = ap length c.codecs.ensures.value in
    let within : place < length device.codecs = omega (arith, c.place_of-place.ensures.within, size) in
    let inside : place < length kept = omega (arith, within, c.self.invariant.count) in
    heard_there c.self.inside.kind device.codecs device.registers.output.tag device.registers.output.format c.args.codec c.args.pin c.index.result.now kept place c.self.invariant
    (subst (λ (list : List CodecState). place_of c.args.codec list ≡ Some place) c.codecs.ensures.value c.place_of-place.ensures.place) within
    (slice_get_read kept (length kept) place c.index.result.now refl inside c.index.ensures)
    (subst (λ (state : ControllerState). is_candidate_of_kind state.kind state.device.codecs c.args.codec c.args.pin ≡ true) (sym c.self.view_is) c.requires)

pub hear-requires : goal.hear-requires
hear-requires c = (heard c).kept

pub returns : goal.returns
returns c =
    subst (λ (state : ControllerState). c.hear.result ≡ signal_now state.kind state.device c.args.codec c.args.pin) c.self.view_is ((heard c.before).signal c.hear.result c.hear.ensures.worked_out)
