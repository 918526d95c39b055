use Rattle.std.proofs.Common.{◌≡◌, take}
use Rattle.run_picture.specs.Scales.{greatest}
use Rattle.run_picture.proofs.scales.greatest.Given as goal

abbrev pub invariant-loop-column : goal.invariant-loop-column
invariant-loop-column l = l.most ≡ greatest l.series (take l.column-index l.columns)
