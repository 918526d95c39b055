use Rattle.std.proofs.Common.{◌≡◌, take}
use Rattle.run_picture.specs.Scales.{heights}
use Rattle.run_picture.proofs.scales.heights.Given as goal

abbrev pub invariant-loop-column : goal.invariant-loop-column
invariant-loop-column l =
    l.list.items ≡ heights l.series l.measure.unit l.measure.height (take l.column-index l.columns)
