use Rattle.std.proofs.Common.{◌≡◌, take}
use Rattle.device_core.specs.Codecs.{codec_bits}
use Rattle.hda_controller.proofs.opening.bits_of.Given as goal

abbrev pub invariant-loop-codec : goal.invariant-loop-codec
invariant-loop-codec l = l.bits ≡ codec_bits (take l.codec-index l.codecs)
