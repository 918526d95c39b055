use Rattle.laws_switching.proofs.Taken.{TookLaws}
use Rattle.laws_switching.proofs.Given.{StreamLaws, Given}
use Rattle.laws_switching.proofs.GivenUp.{StopLaws}
use Rattle.laws_switching.proofs.CallLaws.{CallLaws}
use Rattle.laws_switching.proofs.FirstCalls.{begins_call}
use Rattle.laws_switching.proofs.LaterCalls.{goes_call}
use Rattle.laws_switching.proofs.CallCases.{calls_on}
use Rattle.laws_switching.proofs.calling.switching_goes_on_over_calls.Goals as goal

pub returns : goal.returns
returns c = λ format verbs graphs plans task of.
    let took : TookLaws = record {
      playing = c.commands_tell_whether_the_stream_runs.ensures.playing;
      over = c.commands_tell_whether_the_stream_runs.ensures.over;
    } in
    let stream : StreamLaws = record {
      steps = c.the_stream_goes_on_beside_commands.ensures.steps;
      begin = c.the_stream_goes_on_beside_commands.ensures.begin;
      end = c.the_stream_goes_on_beside_commands.ensures.end;
      rows = c.the_stream_goes_on_beside_commands.ensures.rows;
    } in
    let given : Given format graphs plans task = record {
      well = of.of.right.well_formed;
      planned = of.planned;
      silent = of.silent;
      set_up = c.turned_codecs_are_set_up.ensures;
      took = took;
      grows = c.answers_agree.ensures.grows;
      stream = stream;
      rest_steps = c.streams_rest_before_sound.ensures.steps;
      looks = c.accesses_of_commands_leave_the_stream_alone.ensures.looks;
      rest_rows = c.streams_rest_before_sound.ensures.rows;
      rest_events = c.streams_rest_before_sound.ensures.events;
      beside = c.sense_answers_are_known.ensures.beside;
      poll_alone = c.accesses_of_commands_leave_the_stream_alone.ensures.polls;
      poll_senses = c.sense_answers_are_known.ensures.polls;
      found = c.answers_agree.ensures.found;
      polled = c.answers_agree.ensures.polled;
      none = c.answers_agree.ensures.none;
      takes_up = c.switch_rules_take_runs_up.ensures.takes task graphs plans;
    } in
    let calls : CallLaws = record {
      first = c.the_stream_goes_on_beside_commands.ensures.first;
      runs = c.the_stream_goes_on_beside_commands.ensures.runs;
      stop = c.a_bare_stop_gives_the_stream_up.ensures;
      can_begin = c.a_first_run_can_begin.ensures;
      submissions = c.accesses_of_commands_leave_the_stream_alone.ensures.submissions;
      submitted = c.answers_agree.ensures.submitted;
      starts_of = c.runs_write_their_ring.ensures.start;
      run_of = c.runs_write_their_ring.ensures.run;
      stop_of = c.runs_write_their_ring.ensures.stop;
      chosen = c.commands_are_words.ensures.chosen;
      reaches = c.commands_are_words.ensures.stays;
      told = c.choices_are_commands.ensures.told;
    } in
    let stops : StopLaws = record { given_up = c.a_bare_stop_gives_the_stream_up.ensures; of_ring = c.runs_write_their_ring.ensures.stop } in
    calls_on format graphs plans task given stops (begins_call format graphs plans task given calls) (goes_call format graphs plans task given calls)
