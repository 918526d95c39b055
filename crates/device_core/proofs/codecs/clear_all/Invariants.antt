use Rattle.std.proofs.Common.{◌≡◌, ◌++◌, map, take, drop}
use Rattle.codec_graph.specs.CodecStates.{cleared}
use Rattle.device_core.proofs.codecs.clear_all.Given as goal

-- the codecs before the place are cleared
abbrev pub invariant-loop-place : goal.invariant-loop-place
invariant-loop-place l = l.codecs ≡ map cleared (take l.place l.fn.codecs) ++ drop l.place l.fn.codecs
