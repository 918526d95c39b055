use Rattle.std.proofs.Common.{◌≡◌, ◌++◌, drop, length}
use Rattle.run_picture.specs.Series.{corners}
use Rattle.run_picture.proofs.series.push_corners.Given as goal

-- the corners so far, and those of the heights that are left
abbrev pub invariant-loop-column : goal.invariant-loop-column
invariant-loop-column l =
    l.initial.points.items ++ corners (length l.heights) l.base 0 l.from l.heights
    ≡ l.points.items ++ corners (length l.heights) l.base l.column l.last (drop l.column l.heights)
