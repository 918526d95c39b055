use Rattle.std.proofs.Common.{◌≡◌, ◌++◌, drop}
use Rattle.codec_picture.specs.Codecs.{mark_of}
use Rattle.codec_picture.specs.Repeats.{numbered}
use Rattle.codec_picture.proofs.marks.push_marks.Given as goal

abbrev pub invariant-loop-number : goal.invariant-loop-number
invariant-loop-number l =
    l.initial.shapes ++ numbered (mark_of l.codec l.top) 0 l.pins ≡ l.shapes ++ numbered (mark_of l.codec l.top) l.number (drop l.number l.pins)
