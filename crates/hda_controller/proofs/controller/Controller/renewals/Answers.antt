use Rattle.std.proofs.Common.{◌≡◌, ◌<◌, ℕ, List, Option, Some, map, length, refl, sym, ap, subst, ◌∙◌, arith}
use Rattle.std.specs.Prelude.{option_map}
use Rattle.std.proofs.lemmas.Option.{slice_get-map, slice_get_read}
use Rattle.codec_graph.specs.CodecStates.{CodecState}
use Rattle.codec_sound.specs.Keeping.{KeptSignals}
use Rattle.device_core.specs.Codecs.{place_of}
use Rattle.hda_controller.specs.Controllers.{ControllerState, renewals_of, renewals_at}
use Rattle.hda_controller.proofs.controller.Controller.renewals.Goals as goal

pub returns : goal.returns
returns c =
    let place : ℕ = c.place_of-place.result in
    let kept : List KeptSignals = c.self.inside.kept.items in
    let size = ap length c.codecs.ensures.value in
    let within : place < length kept = omega (arith, c.place_of-place.ensures.within, size, c.self.invariant.count) in
    subst (λ (state : ControllerState). renewals_at (place_of c.args.codec state.device.codecs) (renewals_of state) ≡ Some c.renewals.result) c.self.view_is
    (ap (λ (o : Option ℕ). renewals_at o (map (λ one. one.renewals) kept)) (subst (λ (list : List CodecState). place_of c.args.codec list ≡ Some place) c.codecs.ensures.value c.place_of-place.ensures.place)
    ∙ (slice_get-map (λ (one : KeptSignals). one.renewals) kept place
    ∙ (ap (option_map (λ (one : KeptSignals). one.renewals)) (slice_get_read kept (length kept) place c.index.result.now refl within c.index.ensures)
    ∙ ap Some (sym c.renewals.ensures))))
