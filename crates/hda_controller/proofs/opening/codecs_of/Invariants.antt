use Rattle.std.proofs.Common.{◌≡◌, take}
use Rattle.hda_controller.specs.Openings.{codecs_in}
use Rattle.hda_controller.proofs.opening.codecs_of.Given as goal

abbrev pub invariant-loop-file : goal.invariant-loop-file
invariant-loop-file l = l.codecs.items ≡ codecs_in (take l.file-index l.files)
