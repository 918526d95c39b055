use Rattle.std.proofs.Common.{◌≡◌, ◌≤◌, ◌+◌, ◌*◌, ◌++◌, drop}
use Rattle.codec_picture.specs.Repeats.{numbered}
use Rattle.codec_picture.specs.Wholes.{part_at, top_of}
use Rattle.codec_picture.proofs.whole.push_codecs.Given as goal

-- the parts of the codecs so far are pushed, and the next one begins below them
abbrev pub invariant-loop-place : goal.invariant-loop-place
invariant-loop-place l =
    record {
      shapes : l.initial.shapes ++ numbered (part_at l.codecs l.plans) 0 l.codecs
          ≡ l.shapes ++ numbered (part_at l.codecs l.plans) l.place (drop l.place l.codecs);
      top : l.top ≡ top_of l.codecs l.place;
      down : l.top ≤ 64 + 6000 * l.place;
    }
