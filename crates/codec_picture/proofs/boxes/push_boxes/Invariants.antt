use Rattle.std.proofs.Common.{◌≡◌, ◌++◌}
use Rattle.codec_picture.specs.Codecs.{box_at}
use Rattle.codec_picture.specs.Repeats.{each}
use Rattle.codec_picture.proofs.boxes.push_boxes.Given as goal

abbrev pub invariant-loop-place : goal.invariant-loop-place
invariant-loop-place l = l.shapes ≡ l.initial.shapes ++ each (box_at l.codec l.top) l.place
