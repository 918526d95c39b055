use Rattle.stream_format.proofs.Bounds.{most-bounds}
use Rattle.stream_format.proofs.laws.most_bounds_every_frame.Goals as goal

pub returns : goal.returns
returns c = most-bounds
