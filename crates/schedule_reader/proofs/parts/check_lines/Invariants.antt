use Rattle.std.proofs.Common.{◌≡◌, ◌+◌, ◌≤◌, length}
use Rattle.schedule_reader.specs.Faults.{first_fault, fault_from}
use Rattle.schedule_reader.specs.Schedules.{rows}
use Rattle.schedule_reader.specs.Left.{lines_left, rows_left}
use Rattle.schedule_reader.proofs.parts.check_lines.Given as goal

-- the first fault of the lines that are left is that of all
abbrev pub invariant-loop-line : goal.invariant-loop-line
invariant-loop-line l = record {
  can : (goal.iterator-loop-line).can_next l.line-iterator;
  finite : (goal.iterator-loop-line).is_finite l.line-iterator;
  rest : fault_from l.number l.inside (rows_left l.line-iterator) ≡ first_fault (rows l.fn.bytes);
  few : l.number + length (lines_left l.line-iterator) ≤ 4194306;
}
