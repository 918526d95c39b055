use Rattle.std.proofs.Common.{◌≡◌, ◌++◌, drop, length}
use Rattle.run_picture.specs.Scales.{silence_marks}
use Rattle.run_picture.proofs.scales.silence_marks.Given as goal

-- the marks so far, and those of the columns that are left
abbrev pub invariant-loop-column : goal.invariant-loop-column
invariant-loop-column l =
    record {
      len : length l.list.items ≡ l.column-index;
      left : silence_marks l.silences l.height 0 l.columns
          ≡ l.list.items ++ silence_marks l.silences l.height l.from (drop l.column-index l.columns);
    }
