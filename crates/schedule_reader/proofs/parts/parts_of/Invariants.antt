use Rattle.std.proofs.Common.{◌≡◌, ◌++◌, false}
use Rattle.schedule_reader.specs.Parts.{parts, parts_of}
use Rattle.schedule_reader.specs.Schedules.{rows}
use Rattle.schedule_reader.specs.Left.{rows_left}
use Rattle.schedule_reader.proofs.parts.parts_of.Given as goal

-- the parts so far and those of the lines that are left are all
abbrev pub invariant-loop-line : goal.invariant-loop-line
invariant-loop-line l = l.parts.items ++ parts_of false (rows_left l.lines) ≡ parts (rows l.fn.bytes)
