use Rattle.std.proofs.Common.{◌≡◌, ◌++◌, drop}
use Rattle.codec_picture.specs.Codecs.{route_lines}
use Rattle.codec_picture.specs.Repeats.{numbered}
use Rattle.codec_picture.proofs.routes.push_routes.Given as goal

abbrev pub invariant-loop-number : goal.invariant-loop-number
invariant-loop-number l =
    l.initial.shapes ++ numbered (route_lines l.codec l.top) 0 l.pins ≡ l.shapes ++ numbered (route_lines l.codec l.top) l.number (drop l.number l.pins)
