use Rattle.std.proofs.Common.{◌≡◌, ◌+◌, ◌≤◌, length}
use Rattle.std.specs.Str.Lines.{lines}
use Rattle.dump_reader.specs.Reading.{read_from, nothing_read}
use Rattle.dump_reader.specs.Left.{lines_left}
use Rattle.dump_reader.proofs.reading.read_dump.Given as goal

-- the lines that are left, behind what was read so far, mean what all mean
abbrev pub invariant-loop-line : goal.invariant-loop-line
invariant-loop-line l = record {
  can : (goal.iterator-loop-line).can_next l.line-iterator;
  finite : (goal.iterator-loop-line).is_finite l.line-iterator;
  rest : read_from l.number l.reading (lines_left l.line-iterator) ≡ read_from 1 nothing_read (lines l.fn.bytes);
  few : l.number + length (lines_left l.line-iterator) ≤ 262146;
}
