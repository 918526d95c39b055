use Rattle.std.proofs.Common.{◌∷◌, [], ◌++◌, map}
use Rattle.hda_world.specs.Events.{Stepped, Begin, End}
use Rattle.laws_stream.proofs.StreamOn.{OnLaws, goes_on, row_goes_on, steps_alone, mark_alone}
use Rattle.laws_stream.proofs.StreamRuns.{RowLaws, BeginLaws, first_goes, run_goes}
use Rattle.laws_stream.proofs.commands.the_stream_goes_on_beside_commands.Goals as goal

pub returns-clause-first : goal.returns-clause-first
returns-clause-first c = λ ring pcm budget tally tally' old new tells along.
    let begins : BeginLaws = record { streams = c.streams_go_on.ensures.begins; sent = c.a_started_stream_is_steady.ensures.sent } in
    let rows : RowLaws = record { streams = c.streams_go_on.ensures.events; sent = c.streams_go_on.ensures.sent } in
    first_goes begins rows ring pcm budget tally tally' old new tells along

pub returns-clause-runs : goal.returns-clause-runs
returns-clause-runs c = λ ring pcm budget tally tally' answer old new tells is plays small goes.
    let rows : RowLaws = record { streams = c.streams_go_on.ensures.events; sent = c.streams_go_on.ensures.sent } in
    run_goes rows ring pcm budget tally tally' old new goes plays answer tells is small

pub returns-clause-steps : goal.returns-clause-steps
returns-clause-steps c = λ given_up ring pcm tally steps old new went goes.
    let laws : OnLaws = record {
      steps = c.steps_keep_the_ring.ensures;
      events = c.events_between_runs_keep_the_ring.ensures;
      streams = c.streams_go_on.ensures.events;
      sent = c.streams_go_on.ensures.sent;
    } in
    goes_on laws ring pcm tally given_up old new (map Stepped steps) went (steps_alone ring steps) goes

pub returns-clause-begin : goal.returns-clause-begin
returns-clause-begin c = λ given_up ring pcm tally old new accessed goes.
    let laws : OnLaws = record {
      steps = c.steps_keep_the_ring.ensures;
      events = c.events_between_runs_keep_the_ring.ensures;
      streams = c.streams_go_on.ensures.events;
      sent = c.streams_go_on.ensures.sent;
    } in
    goes_on laws ring pcm tally given_up old new (map Stepped accessed.steps ++ Begin ∷ []) accessed.went (mark_alone ring accessed.steps Begin (tt {0})) goes

pub returns-clause-end : goal.returns-clause-end
returns-clause-end c = λ given_up ring pcm tally old new accessed goes.
    let laws : OnLaws = record {
      steps = c.steps_keep_the_ring.ensures;
      events = c.events_between_runs_keep_the_ring.ensures;
      streams = c.streams_go_on.ensures.events;
      sent = c.streams_go_on.ensures.sent;
    } in
    goes_on laws ring pcm tally given_up old new (map Stepped accessed.steps ++ End ∷ []) accessed.went (mark_alone ring accessed.steps End (tt {0})) goes

pub returns-clause-rows : goal.returns-clause-rows
returns-clause-rows c = λ given_up ring pcm tally made old new makes all goes.
    let laws : OnLaws = record {
      steps = c.steps_keep_the_ring.ensures;
      events = c.events_between_runs_keep_the_ring.ensures;
      streams = c.streams_go_on.ensures.events;
      sent = c.streams_go_on.ensures.sent;
    } in
    row_goes_on laws ring pcm tally given_up made old new makes all goes
