use Rattle.std.proofs.Common.{◌≡◌, take}
use Rattle.hda_world.specs.Steps.{discovered}
use Rattle.device_core.proofs.codecs.discover.Given as goal

-- the codecs before the place are discovered
abbrev pub invariant-loop-codec : goal.invariant-loop-codec
invariant-loop-codec l = l.regs ≡ discovered (take l.codec-index l.codecs) l.fn.regs
