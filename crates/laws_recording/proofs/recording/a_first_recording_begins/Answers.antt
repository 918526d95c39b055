use Rattle.laws_recording.proofs.FirstRecording.{first_records}
use Rattle.laws_recording.proofs.recording.a_first_recording_begins.Goals as goal

pub returns : goal.returns
returns c = λ old new before after is keeps fresh starts region can few. first_records old new before after is starts region can keeps fresh few
