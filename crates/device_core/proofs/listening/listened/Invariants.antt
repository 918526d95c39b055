use Rattle.std.proofs.Common.{◌≡◌, take}
use Rattle.hda_world.specs.Arriving.{brought_by}
use Rattle.device_core.specs.Captures.{takers_of}
use Rattle.device_core.proofs.listening.listened.Given as goal

-- the takers among the codecs before the place
abbrev pub invariant-loop-codec : goal.invariant-loop-codec
invariant-loop-codec l = l.takers ≡ takers_of (brought_by l.tag l.word (take l.codec-index l.codecs))
