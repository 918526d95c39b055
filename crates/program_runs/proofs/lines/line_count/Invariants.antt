use Rattle.std.proofs.Common.{◌≡◌, take}
use Rattle.std.specs.Prelude.{sum_by}
use Rattle.program_runs.proofs.Counting.{part_lines}
use Rattle.program_runs.proofs.lines.line_count.Given as goal

-- those of the first parts are counted
abbrev pub invariant-loop-part : goal.invariant-loop-part
invariant-loop-part l = l.count ≡ sum_by part_lines (take l.part-index l.part-items)
