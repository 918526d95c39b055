use Rattle.std.proofs.Common.{List, [], ◌∷◌, ◌++◌, map}
use Rattle.std.specs.Prelude.{All}
use Rattle.std.proofs.lemmas.List.Elements.{All-append, All-cons, All-nil}
use Rattle.world_steps.specs.declared.Step.{Step}
use Rattle.hda_world.specs.Events.{Event, Stepped, Begin, End}
use Rattle.laws_stream.proofs.Rows.{all_map}
use Rattle.laws_stream.proofs.Beside.{Laws, IsBeside, sounds_on}
use Rattle.laws_stream.proofs.Calls.{call_sounds}
use Rattle.laws_stream.proofs.played.the_stream_goes_on.Goals as goal

steps_beside : (steps : List Step) → All IsBeside (map Stepped steps)
steps_beside steps = all_map IsBeside Stepped (λ step. tt {0}) steps

mark_beside : (steps : List Step) (mark : Event) → IsBeside mark → All IsBeside (map Stepped steps ++ mark ∷ [])
mark_beside steps mark is = All-append IsBeside (map Stepped steps) (mark ∷ []) (steps_beside steps) (All-cons IsBeside mark [] is (All-nil IsBeside))

pub returns-clause-steps : goal.returns-clause-steps
returns-clause-steps c = λ codecs ring pcm tally steps old new went sounds.
    let laws : Laws = record {
      steps = c.steps_keep_the_ring.ensures;
      events = c.events_between_runs_keep_the_ring.ensures;
      steady = c.accesses_beside_keep_it_steady.ensures.steady;
      sent = c.accesses_beside_keep_it_steady.ensures.sent;
    } in
    sounds_on laws codecs ring pcm tally old new (map Stepped steps) went (steps_beside steps) sounds

pub returns-clause-begin : goal.returns-clause-begin
returns-clause-begin c = λ codecs ring pcm tally old new accessed sounds.
    let laws : Laws = record {
      steps = c.steps_keep_the_ring.ensures;
      events = c.events_between_runs_keep_the_ring.ensures;
      steady = c.accesses_beside_keep_it_steady.ensures.steady;
      sent = c.accesses_beside_keep_it_steady.ensures.sent;
    } in
    sounds_on laws codecs ring pcm tally old new (map Stepped accessed.steps ++ Begin ∷ []) accessed.went (mark_beside accessed.steps Begin (tt {0})) sounds

pub returns-clause-end : goal.returns-clause-end
returns-clause-end c = λ codecs ring pcm tally old new accessed sounds.
    let laws : Laws = record {
      steps = c.steps_keep_the_ring.ensures;
      events = c.events_between_runs_keep_the_ring.ensures;
      steady = c.accesses_beside_keep_it_steady.ensures.steady;
      sent = c.accesses_beside_keep_it_steady.ensures.sent;
    } in
    sounds_on laws codecs ring pcm tally old new (map Stepped accessed.steps ++ End ∷ []) accessed.went (mark_beside accessed.steps End (tt {0})) sounds

pub returns-clause-calls : goal.returns-clause-calls
returns-clause-calls c = λ codecs pcm irq budget old new writer writer' supply made before after task found tells makes stretch stays left small sounds.
    let laws : Laws = record {
      steps = c.steps_keep_the_ring.ensures;
      events = c.events_between_runs_keep_the_ring.ensures;
      steady = c.accesses_beside_keep_it_steady.ensures.steady;
      sent = c.accesses_beside_keep_it_steady.ensures.sent;
    } in
    call_sounds laws codecs pcm irq budget old new writer writer' supply made before after task found tells makes stretch stays left small sounds
