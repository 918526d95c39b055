use Rattle.std.proofs.Common.{◌≡◌, List}
use Rattle.codec_sound.specs.declared.in_heard.InHeard.{InHeard}
use Rattle.device_core.specs.Captures.{takers_of}
use Rattle.device_core.proofs.Takers.{takers_below}
use Rattle.device_core.proofs.listening.and_of_codec.Given as goal

-- with those among the nodes before this one
abbrev pub invariant-loop-nid : goal.invariant-loop-nid
invariant-loop-nid l = (before : List InHeard) → l.fn.takers ≡ takers_of before → l.takers ≡ takers_below before l.tag l.word l.codec l.nid
