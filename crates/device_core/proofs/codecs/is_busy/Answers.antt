use Rattle.std.proofs.Common.{ℕ, sym, ap, ◌∙◌}
use Rattle.codec_graph.specs.CodecStates.{is_full}
use Rattle.hda_world.specs.Steps as steps
use Rattle.device_core.specs.Codecs.{place_of}
use Rattle.device_core.proofs.Places.{codec_is, none_there}
use Rattle.device_core.proofs.codecs.is_busy.Goals as goal

pub returns-in-Some : goal.returns-in-Some
returns-in-Some c =
    let found = ap (λ (address : ℕ). place_of address c.args.codecs.now) (sym c.address_in.ensures) ∙ (sym c.find.ensures ∙ c.in-Some.is) in
    (c.full.ensures ∙ ap is_full c.index-codecs-place.is) ∙ ap steps.is_busy (sym (codec_is (steps.address_of c.args.word) c.args.codecs.now c.in-Some.place c.index-codecs-place.result found))

pub returns-in-None : goal.returns-in-None
returns-in-None c =
    let found = ap (λ (address : ℕ). place_of address c.args.codecs.now) (sym c.address_in.ensures) ∙ (sym c.find.ensures ∙ c.in-None.is) in
    ap steps.is_busy (sym (none_there (steps.address_of c.args.word) c.args.codecs.now found))
