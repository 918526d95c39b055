use Rattle.laws_recording.specs.Recording.{HasRecorded}
use Rattle.laws_recording.specs.Beside.{LeavesStoppedInput}
use Rattle.laws_recording.proofs.PollRows.{row_keeps}
use Rattle.laws_recording.proofs.EndedStays.{ended_steps, ended_events, completed_events, histories_stay}
use Rattle.laws_recording.proofs.ended.a_stopped_recording_is_over.Goals as goal

pub returns-clause-steps : goal.returns-clause-steps
returns-clause-steps c = ended_steps c.steps_leave_stopped_inputs.ensures c.the_given_sound_stays.ensures

pub returns-clause-events : goal.returns-clause-events
returns-clause-events c = ended_events c.steps_leave_stopped_inputs.ensures c.the_given_sound_stays.ensures

pub returns-clause-completed : goal.returns-clause-completed
returns-clause-completed c = completed_events c.steps_leave_stopped_inputs.ensures c.the_given_sound_stays.ensures

pub returns-clause-histories : goal.returns-clause-histories
returns-clause-histories c = histories_stay c.steps_leave_stopped_inputs.ensures c.the_given_sound_stays.ensures

pub returns-clause-rows : goal.returns-clause-rows
returns-clause-rows c = λ recorder made old new makes leave ended.
    row_keeps LeavesStoppedInput (λ step. tt) (HasRecorded recorder) (ended_events c.steps_leave_stopped_inputs.ensures c.the_given_sound_stays.ensures recorder) made old new makes leave ended
