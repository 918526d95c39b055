use Rattle.std.proofs.Common.{◌≡◌, ◌++◌}
use Rattle.made_inputs.specs.MadeSound.{first_frames}
use Rattle.made_inputs.proofs.sound.push_frames.Given as goal

abbrev pub invariant-loop-frame : goal.invariant-loop-frame
invariant-loop-frame l = l.pcm.items ≡ l.initial.pcm.items ++ first_frames l.number l.frame
