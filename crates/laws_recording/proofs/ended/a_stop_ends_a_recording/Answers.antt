use Rattle.laws_recording.proofs.EndedStays.{stop_ends}
use Rattle.laws_recording.proofs.ended.a_stop_ends_a_recording.Goals as goal

pub returns : goal.returns
returns c = stop_ends
