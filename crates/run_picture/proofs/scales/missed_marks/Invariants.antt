use Rattle.std.proofs.Common.{◌≡◌, take, map}
use Rattle.run_picture.specs.declared.columns.Column.{Column}
use Rattle.run_picture.specs.Scales.{height_if}
use Rattle.run_picture.proofs.scales.missed_marks.Given as goal

abbrev pub invariant-loop-column : goal.invariant-loop-column
invariant-loop-column l =
    l.list.items ≡ map (λ (column : Column). height_if l.height column.missed) (take l.column-index l.columns)
