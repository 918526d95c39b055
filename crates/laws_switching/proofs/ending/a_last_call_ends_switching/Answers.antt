use Rattle.laws_switching.proofs.Taken.{TookLaws}
use Rattle.laws_switching.proofs.Given.{StreamLaws, Given}
use Rattle.laws_switching.proofs.LastClosing.{OverLaws}
use Rattle.laws_switching.proofs.LastCalls.{LastLaws, last_gone}
use Rattle.laws_switching.proofs.ending.a_last_call_ends_switching.Goals as goal

pub returns : goal.returns
returns c = λ format verbs graphs plans task of.
    let took : TookLaws = record {
      playing = c.commands_tell_whether_the_stream_runs.ensures.playing;
      over = c.commands_tell_whether_the_stream_runs.ensures.over;
    } in
    let stream : StreamLaws = record {
      steps = c.the_stream_goes_on_beside_commands.ensures.steps;
      begin = c.the_stream_goes_on_beside_commands.ensures.begin;
      end = c.the_stream_goes_on_beside_commands.ensures.end;
      rows = c.the_stream_goes_on_beside_commands.ensures.rows;
    } in
    let given : Given format graphs plans task = record {
      well = of.of.right.well_formed;
      planned = of.planned;
      silent = of.silent;
      set_up = c.turned_codecs_are_set_up.ensures;
      took = took;
      grows = c.answers_agree.ensures.grows;
      stream = stream;
      rest_steps = c.streams_rest_before_sound.ensures.steps;
      looks = c.accesses_of_commands_leave_the_stream_alone.ensures.looks;
      rest_rows = c.streams_rest_before_sound.ensures.rows;
      rest_events = c.streams_rest_before_sound.ensures.events;
      beside = c.sense_answers_are_known.ensures.beside;
      poll_alone = c.accesses_of_commands_leave_the_stream_alone.ensures.polls;
      poll_senses = c.sense_answers_are_known.ensures.polls;
      found = c.answers_agree.ensures.found;
      polled = c.answers_agree.ensures.polled;
      none = c.answers_agree.ensures.none;
      takes_up = c.switch_rules_take_runs_up.ensures.takes task graphs plans;
    } in
    let over : OverLaws = record {
      stays = c.the_last_run_is_heard_by_signals.ensures.stays;
      ended = c.a_stopped_stream_is_over.ensures.end;
      heard = c.switched_pins_are_heard.ensures;
    } in
    let laws : LastLaws = record {
      over = over;
      heard = c.the_last_run_is_heard_by_signals.ensures.over;
      writes = c.runs_write_their_ring.ensures.finish;
      stop = c.runs_write_their_ring.ensures.stop;
      finish = c.the_last_run_is_heard_by_signals.ensures.finish;
      given_up = c.a_bare_stop_gives_the_stream_up.ensures;
    } in
    last_gone format graphs plans task given laws of.format_is
