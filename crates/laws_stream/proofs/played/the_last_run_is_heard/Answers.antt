use Rattle.laws_stream.proofs.Beside.{Laws}
use Rattle.laws_stream.proofs.Ended.{HearLaws, call_ends}
use Rattle.laws_stream.proofs.played.the_last_run_is_heard.Goals as goal

pub returns : goal.returns
returns c = λ codecs pcm old ended writer tally supply made last before after tells makes went small left sounds.
    let on : Laws = record {
      steps = c.steps_keep_the_ring.ensures;
      events = c.events_between_runs_keep_the_ring.ensures;
      steady = c.accesses_beside_keep_it_steady.ensures.steady;
      sent = c.accesses_beside_keep_it_steady.ensures.sent;
    } in
    let laws : HearLaws = record {
      playing = c.the_line_is_heard.ensures.playing;
      drained = c.the_line_is_heard.ensures.drained;
      stopped = c.the_line_is_heard.ensures.stopped;
      count = c.all_that_was_sent_is_heard.ensures;
      longer = c.longer_lines_are_heard.ensures;
      sent_alone = c.routed_pins_hear_what_was_sent.ensures;
      silent = c.silent_pins_hear_nothing.ensures;
      grows = c.runs_append_to_the_line.ensures.grows;
    } in
    call_ends on laws codecs pcm old ended writer tally supply made last before after went small left sounds tells makes
