use Rattle.std.proofs.Common.{◌≡◌, ◌≤◌, ◌++◌, drop, length}
use Rattle.run_picture.specs.Bands.{kind_marks}
use Rattle.run_picture.proofs.bands.kind_marks.Given as goal

-- the marks so far, and those of the columns that are left
abbrev pub invariant-loop-column : goal.invariant-loop-column
invariant-loop-column l =
    record {
      len : length l.list.items ≡ l.column-index;
      within : l.from ≤ length l.items;
      left : kind_marks l.kind l.items 0 l.columns
          ≡ l.list.items ++ kind_marks l.kind l.items l.from (drop l.column-index l.columns);
    }
