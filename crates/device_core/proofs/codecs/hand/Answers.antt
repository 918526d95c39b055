use Rattle.std.proofs.Common.{ℕ, set, sym, ap, ◌∙◌}
use Rattle.codec_graph.specs.CodecStates.{CodecState, taken}
use Rattle.hda_world.specs.Steps as steps
use Rattle.device_core.specs.Codecs.{place_of}
use Rattle.device_core.proofs.Places.{codec_is, changed_here, changed_none}
use Rattle.device_core.proofs.Steps.{free_hands}
use Rattle.device_core.proofs.codecs.hand.Goals as goal

pub returns-in_default-clause-codecs : goal.returns-in_default-clause-codecs
returns-in_default-clause-codecs c =
    let found = ap (λ (address : ℕ). place_of address c.args.codecs.now) (sym c.address_in.ensures) ∙ (sym c.find.ensures ∙ c.in_default.is) in
    sym (changed_none (steps.address_of c.args.word) (λ codec. taken codec c.args.word) c.args.codecs.now found)

pub take-answer-requires : goal.take-answer-requires
take-answer-requires c =
    let found = ap (λ (address : ℕ). place_of address c.args.codecs.now) (sym c.address_in.ensures) ∙ (sym c.find.ensures ∙ c.in-Some.is) in
    ap steps.is_busy (sym (codec_is (steps.address_of c.args.word) c.args.codecs.now c.in-Some.place c.index-codecs-place.result found)) ∙ c.requires.free

pub returns-clause-handed : goal.returns-clause-handed
returns-clause-handed c =
    let found = ap (λ (address : ℕ). place_of address c.args.codecs.now) (sym c.address_in.ensures) ∙ (sym c.find.ensures ∙ c.in-Some.is) in
    sym (free_hands c.args.word c.args.codecs.now c.in-Some.place c.index-codecs-place.result found c.requires.free)

pub returns-clause-codecs : goal.returns-clause-codecs
returns-clause-codecs c =
    let found = ap (λ (address : ℕ). place_of address c.args.codecs.now) (sym c.address_in.ensures) ∙ (sym c.find.ensures ∙ c.in-Some.is) in
    ap (λ (codec : CodecState). set c.args.codecs.now c.in-Some.place codec) c.take-answer.ensures.after
    ∙ sym (changed_here (steps.address_of c.args.word) (λ codec. taken codec c.args.word) c.args.codecs.now c.in-Some.place c.index-codecs-place.result c.requires.addresses.ascend found)

pub returns-clause-exactly : goal.returns-clause-exactly
returns-clause-exactly c =
    let found = ap (λ (address : ℕ). place_of address c.args.codecs.now) (sym c.address_in.ensures) ∙ (sym c.find.ensures ∙ c.in-Some.is) in
    ap (λ (codec : CodecState). set c.args.codecs.now c.in-Some.place codec) c.take-answer.ensures.after
    ∙ sym (changed_here (steps.address_of c.args.word) (λ codec. taken codec c.args.word) c.args.codecs.now c.in-Some.place c.index-codecs-place.result c.requires.addresses.ascend found)
