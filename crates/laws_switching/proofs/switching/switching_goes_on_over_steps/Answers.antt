use Rattle.laws_switching.proofs.Taken.{TookLaws}
use Rattle.laws_switching.proofs.Given.{StreamLaws, Given}
use Rattle.laws_switching.proofs.SwitchSteps.{switch_steps}
use Rattle.laws_switching.proofs.switching.switching_goes_on_over_steps.Goals as goal

pub returns : goal.returns
returns c = λ format verbs graphs plans task of lines left supply driver steps old new went on.
    let took : TookLaws = record {
      playing = c.commands_tell_whether_the_stream_runs.ensures.playing;
      over = c.commands_tell_whether_the_stream_runs.ensures.over;
    } in
    let stream : StreamLaws = record {
      steps = c.the_stream_goes_on_beside_commands.ensures.steps;
      begin = c.the_stream_goes_on_beside_commands.ensures.begin;
      end = c.the_stream_goes_on_beside_commands.ensures.end;
      rows = c.the_stream_goes_on_beside_commands.ensures.rows;
    } in
    let given : Given format graphs plans task = record {
      well = of.of.right.well_formed;
      planned = of.planned;
      silent = of.silent;
      set_up = c.turned_codecs_are_set_up.ensures;
      took = took;
      grows = c.answers_agree.ensures.grows;
      stream = stream;
      rest_steps = c.streams_rest_before_sound.ensures.steps;
      looks = c.accesses_of_commands_leave_the_stream_alone.ensures.looks;
      rest_rows = c.streams_rest_before_sound.ensures.rows;
      rest_events = c.streams_rest_before_sound.ensures.events;
      beside = c.sense_answers_are_known.ensures.beside;
      poll_alone = c.accesses_of_commands_leave_the_stream_alone.ensures.polls;
      poll_senses = c.sense_answers_are_known.ensures.polls;
      found = c.answers_agree.ensures.found;
      polled = c.answers_agree.ensures.polled;
      none = c.answers_agree.ensures.none;
      takes_up = c.switch_rules_take_runs_up.ensures.takes task graphs plans;
    } in
    switch_steps format graphs plans task given lines left supply driver steps old new went on
