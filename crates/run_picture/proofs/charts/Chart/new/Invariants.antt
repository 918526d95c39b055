use Rattle.std.proofs.Common.{◌≡◌, replicate}
use Rattle.run_picture.specs.Columns.{column_empty}
use Rattle.run_picture.proofs.charts.Chart.new.Given as goal

abbrev pub invariant-loop-column : goal.invariant-loop-column
invariant-loop-column l = l.columns.items ≡ replicate l._column column_empty
