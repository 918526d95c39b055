use Rattle.std.proofs.Common.{◌≡◌, ◌++◌, ◌≤◌, true, length}
use Rattle.schedule_reader.specs.Parts.{items_ahead, parts_of}
use Rattle.schedule_reader.specs.Left.{lines_left, rows_left}
use Rattle.schedule_reader.proofs.parts.items_ahead.Given as goal

-- the items so far and those of the lines that are left are all; the lines that are left make the parts that all make
abbrev pub invariant-loop-line : goal.invariant-loop-line
invariant-loop-line l = record {
  items : l.items.items ++ items_ahead (rows_left l.lines) ≡ l.fn.items.items ++ items_ahead (rows_left l.initial.lines);
  rest : parts_of true (rows_left l.lines) ≡ parts_of true (rows_left l.initial.lines);
  shorter : length (lines_left l.lines) ≤ length (lines_left l.initial.lines);
}
