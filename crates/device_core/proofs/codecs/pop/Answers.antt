use Rattle.std.proofs.Common.{set, Option, sym, ap, ◌∙◌}
use Rattle.std.specs.Prelude.{slice_get}
use Rattle.std.specs.Option.{option_map}
use Rattle.std.proofs.lemmas.List.{set-get_or}
use Rattle.codec_graph.specs.CodecStates.{CodecState, without_first}
use Rattle.codec_nodes.specs.Queues.{marked}
use Rattle.hda_world.specs.Steps.{waiting_of}
use Rattle.device_core.proofs.Places.{changed_none, changed_here, none_there, codec_is, few_there, some_few, nothing_taken}
use Rattle.device_core.proofs.codecs.pop.Goals as goal

pub returns-in_default-clause-item : goal.returns-in_default-clause-item
returns-in_default-clause-item c =
    ap (λ (codec : Option CodecState). option_map marked (slice_get (waiting_of codec) 0)) (sym (none_there c.args.wanted c.args.codecs.now (sym c.find.ensures ∙ c.in_default.is)))

pub returns-in_default-clause-codecs : goal.returns-in_default-clause-codecs
returns-in_default-clause-codecs c = sym (changed_none c.args.wanted without_first c.args.codecs.now (sym c.find.ensures ∙ c.in_default.is))

pub returns-clause-item : goal.returns-clause-item
returns-clause-item c =
    c.next_answer.ensures.value
    ∙ ap (λ (codec : Option CodecState). option_map marked (slice_get (waiting_of codec) 0)) (sym (codec_is c.args.wanted c.args.codecs.now c.in-Some.place c.index-codecs-place.result (sym c.find.ensures ∙ c.in-Some.is)))

pub returns-clause-codecs : goal.returns-clause-codecs
returns-clause-codecs c =
    ap (λ (codec : CodecState). set c.args.codecs.now c.in-Some.place codec) c.next_answer.ensures.after
    ∙ sym (changed_here c.args.wanted without_first c.args.codecs.now c.in-Some.place c.index-codecs-place.result c.requires.ascend (sym c.find.ensures ∙ c.in-Some.is))

pub returns-clause-unchanged : goal.returns-clause-unchanged
returns-clause-unchanged c none =
    ap (λ (codec : CodecState). set c.args.codecs.now c.in-Some.place codec) (c.next_answer.ensures.after ∙ nothing_taken _ (sym c.next_answer.ensures.value ∙ none))
    ∙ set-get_or c.args.codecs.now c.in-Some.place c.index-codecs-place.result

pub returns-clause-few : goal.returns-clause-few
returns-clause-few c =
    some_few c.next_answer.result c.args.wanted (few_there c.args.wanted c.args.codecs.now c.in-Some.place c.index-codecs-place.result c.requires (sym c.find.ensures ∙ c.in-Some.is))
