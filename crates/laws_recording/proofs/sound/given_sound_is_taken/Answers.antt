use Rattle.laws_recording.specs.Filling.{recorder_ring}
use Rattle.laws_recording.proofs.EndedStays.{events_stay, stop_stays}
use Rattle.laws_recording.proofs.Sounding.{first_given, steps_given, events_given, rows_given, later_given, took_ended}
use Rattle.laws_recording.proofs.sound.given_sound_is_taken.Goals as goal

pub returns-clause-first : goal.returns-clause-first
returns-clause-first c = λ nid. first_given nid (c.steps_keep_taken_sound.ensures nid)

pub returns-clause-steps : goal.returns-clause-steps
returns-clause-steps c = λ nid recorder steps world recording hears took. steps_given nid (c.steps_keep_taken_sound.ensures nid) (recorder_ring recorder) steps world recording.fills (hears, took)

pub returns-clause-events : goal.returns-clause-events
returns-clause-events c = λ nid recorder events world leave recording hears took. events_given nid (c.steps_keep_taken_sound.ensures nid) (recorder_ring recorder) events world leave recording.fills (hears, took)

pub returns-clause-later : goal.returns-clause-later
returns-clause-later c = λ nid old new answer before after run recording hears took. later_given nid (c.steps_keep_taken_sound.ensures nid) old new answer before after run recording (hears, took)

pub returns-clause-ended : goal.returns-clause-ended
returns-clause-ended c = λ format events world recorder leave ended took.
    took_ended format world _ (events_stay c.steps_leave_stopped_inputs.ensures c.the_given_sound_stays.ensures events world leave ended.stopped).ended took

pub returns-clause-rows : goal.returns-clause-rows
returns-clause-rows c = λ nid recorder made old new makes leave recording hears took.
    rows_given nid (c.steps_keep_taken_sound.ensures nid) (recorder_ring recorder) made old new makes leave recording.fills (hears, took)

pub returns-clause-stop : goal.returns-clause-stop
returns-clause-stop c = λ recorder world recording took. took_ended recorder.geometry.format world _ (stop_stays world recording.fills.set.out).ended took
