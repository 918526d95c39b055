use Rattle.laws_recording.proofs.Steps.{steps_keep}
use Rattle.laws_recording.proofs.recording.steps_keep_recording.Goals as goal

pub returns : goal.returns
returns c = steps_keep
