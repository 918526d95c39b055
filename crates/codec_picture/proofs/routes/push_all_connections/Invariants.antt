use Rattle.std.proofs.Common.{◌≡◌, ◌++◌}
use Rattle.codec_picture.specs.Codecs.{connections_at}
use Rattle.codec_picture.specs.Repeats.{each}
use Rattle.codec_picture.proofs.routes.push_all_connections.Given as goal

abbrev pub invariant-loop-place : goal.invariant-loop-place
invariant-loop-place l = l.shapes ≡ l.initial.shapes ++ each (connections_at l.codec l.top) l.place
