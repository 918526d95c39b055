use Rattle.laws_recording.proofs.GoingOn.{run_recorded, pieces_are, late_is, on_time_is}
use Rattle.laws_recording.proofs.recording.recordings_go_on.Goals as goal

pub returns-clause-answer : goal.returns-clause-answer
returns-clause-answer c = run_recorded

pub returns-clause-pieces : goal.returns-clause-pieces
returns-clause-pieces c = λ old new answer before after is keeps run recording few in_time. pieces_are old new answer before after run recording is keeps few in_time

pub returns-clause-late : goal.returns-clause-late
returns-clause-late c = λ old new answer before after run recording few more. late_is old new answer before after run recording few more

pub returns-clause-on_time : goal.returns-clause-on_time
returns-clause-on_time c = λ old new answer before after run recording few within. on_time_is old new answer before after run recording few within
