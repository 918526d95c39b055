use Rattle.std.proofs.Common.{◌≡◌, ◌++◌, take}
use Rattle.std.specs.List.{flat_map}
use Rattle.trace_lines.specs.Names.{row_text}
use Rattle.trace_lines.proofs.bits.push_set.Given as goal

abbrev pub invariant-loop-row : goal.invariant-loop-row
invariant-loop-row l = l.out.items ≡ l.initial.out.items ++ flat_map (row_text l.at l.bytes l.value) (take l.row-index l.rows)
