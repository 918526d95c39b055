use Rattle.laws_stream.proofs.StreamOn.{OnLaws}
use Rattle.laws_stream.proofs.StreamRuns.{RowLaws, given_up_goes}
use Rattle.laws_stream.proofs.commands.a_bare_stop_gives_the_stream_up.Goals as goal

pub returns : goal.returns
returns c =
    let on : OnLaws = record {
      steps = c.steps_keep_the_ring.ensures;
      events = c.events_between_runs_keep_the_ring.ensures;
      streams = c.streams_go_on.ensures.events;
      sent = c.streams_go_on.ensures.sent;
    } in
    let rows : RowLaws = record { streams = c.streams_go_on.ensures.events; sent = c.streams_go_on.ensures.sent } in
    given_up_goes on rows c.a_bare_stop_ends_the_stream.ensures.stopped
