use Rattle.laws_recording.specs.Filling.{recorder_ring}
use Rattle.laws_recording.specs.Recording.{IsRecording}
use Rattle.laws_recording.specs.Beside.{LeavesFilling}
use Rattle.laws_recording.proofs.EventsBeside.{events_keep_recording, fillings_keep_recording}
use Rattle.laws_recording.proofs.PollRows.{row_keeps, polls_leave}
use Rattle.laws_recording.proofs.recording.events_beside_keep_recording.Goals as goal

pub returns-clause-events : goal.returns-clause-events
returns-clause-events c = events_keep_recording

pub returns-clause-fillings : goal.returns-clause-fillings
returns-clause-fillings c = fillings_keep_recording

pub returns-clause-rows : goal.returns-clause-rows
returns-clause-rows c = λ recorder made old new makes leave recording.
    row_keeps (LeavesFilling (recorder_ring recorder)) (λ step. tt) (IsRecording recorder) (fillings_keep_recording recorder) made old new makes leave recording

pub returns-clause-polls : goal.returns-clause-polls
returns-clause-polls c = polls_leave
