use Rattle.std.proofs.Common.{take}
use Rattle.hda_controller.specs.Openings.{AreFresh, codecs_in}
use Rattle.hda_controller.proofs.opening.all_signals_of.Given as goal

abbrev pub invariant-loop-file : goal.invariant-loop-file
invariant-loop-file l = AreFresh l.kind (codecs_in (take l.file-index l.files)) l.kept.items
