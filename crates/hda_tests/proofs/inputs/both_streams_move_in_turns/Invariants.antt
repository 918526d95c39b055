use Rattle.std.specs.Prelude.{◌≡◌, false}
use Rattle.rig.specs.Rigs.{setting_of}
use Rattle.hda_tests.proofs.inputs.both_streams_move_in_turns.Given as goal

-- no run is open
abbrev pub invariant-loop-at : goal.invariant-loop-at
invariant-loop-at g l = (setting_of l.rig).in_run ≡ false
