use Rattle.std.proofs.Common.{◌≡◌, ◌==◌, drop, find}
use Rattle.trace_lines.specs.declared.names.RegisterName.{RegisterName}
use Rattle.trace_lines.proofs.names.row_at.Given as goal

-- the first is among those that are left
abbrev pub invariant-loop-row : goal.invariant-loop-row
invariant-loop-row l =
    find (λ (row : RegisterName). row.0 == l.at) l.rows ≡ find (λ (row : RegisterName). row.0 == l.at) (drop l.row-index l.rows)
