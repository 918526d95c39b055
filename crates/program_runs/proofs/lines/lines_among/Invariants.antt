use Rattle.std.proofs.Common.{◌≡◌, ◌≤◌, length, take}
use Rattle.program_runs.specs.Lines.{lines_in}
use Rattle.program_runs.proofs.lines.lines_among.Given as goal

-- those among the first items are counted
abbrev pub invariant-loop-item : goal.invariant-loop-item
invariant-loop-item l = record {
  count : l.count ≡ length (lines_in (take l.item-index l.items));
  few : l.count ≤ l.item-index;
}
