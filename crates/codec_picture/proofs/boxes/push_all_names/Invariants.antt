use Rattle.std.proofs.Common.{◌≡◌, ◌++◌}
use Rattle.codec_picture.specs.Codecs.{names_at}
use Rattle.codec_picture.specs.Repeats.{each}
use Rattle.codec_picture.proofs.boxes.push_all_names.Given as goal

abbrev pub invariant-loop-place : goal.invariant-loop-place
invariant-loop-place l = l.shapes ≡ l.initial.shapes ++ each (names_at l.codec l.top) l.place
