use Rattle.std.proofs.Common.{◌≡◌, ◌<◌, ◌==◌, ℕ, false, get_or}
use Rattle.codec_graph.specs.CodecStates.{CodecState}
use Rattle.device_core.proofs.codecs.find.Given as goal

-- no codec before the place has the address
abbrev pub invariant-loop-place : goal.invariant-loop-place
invariant-loop-place l = (k : ℕ) (d : CodecState) → k < l.place → ((get_or l.codecs k d).graph.address == l.wanted) ≡ false
