use Rattle.laws_recording.specs.Filling.{recorder_ring}
use Rattle.laws_recording.proofs.LyingApart.{filling_apart}
use Rattle.laws_recording.proofs.beside.recordings_lie_apart.Goals as goal

pub returns : goal.returns
returns c = λ corb rirb recorder world beside recording runs. filling_apart (recorder_ring recorder) world recording.fills corb rirb beside
