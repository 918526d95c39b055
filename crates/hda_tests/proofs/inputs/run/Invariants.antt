use Rattle.std.specs.Prelude.{◌≡◌, false}
use Rattle.rig.specs.Rigs.{setting_of}
use Rattle.hda_tests.proofs.inputs.run.Given as goal

-- no run is open, and the block is the same
abbrev pub invariant-loop-at : goal.invariant-loop-at
invariant-loop-at l = ((setting_of l.rig).in_run ≡ false) × (l.lent ≡ l.fn.lent)

abbrev pub invariant-loop-at-2 : goal.invariant-loop-at-2
invariant-loop-at-2 l = ((setting_of l.rig).in_run ≡ false) × (l.lent ≡ l.fn.lent)

abbrev pub invariant-loop-step : goal.invariant-loop-step
invariant-loop-step l = ((setting_of l.rig).in_run ≡ false) × (l.lent ≡ l.fn.lent)
