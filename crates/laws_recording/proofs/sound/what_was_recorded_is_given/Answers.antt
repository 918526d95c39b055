use Rattle.laws_recording.proofs.Sounding.{recorded_given}
use Rattle.laws_recording.proofs.sound.what_was_recorded_is_given.Goals as goal

pub returns-clause-recording : goal.returns-clause-recording
returns-clause-recording c = λ recorder world recording took. recorded_given recorder.geometry.format recorder.bytes world recording.first took

pub returns-clause-ended : goal.returns-clause-ended
returns-clause-ended c = λ recorder world ended took. recorded_given recorder.geometry.format recorder.bytes world ended.first took
