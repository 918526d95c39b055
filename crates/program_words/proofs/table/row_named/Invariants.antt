use Rattle.std.proofs.Common.{◌≡◌, drop, find}
use Rattle.std.specs.Str.{bytes_eq}
use Rattle.program_words.specs.declared.table.CommandRow.{CommandRow}
use Rattle.program_words.proofs.table.row_named.Given as goal

-- the first is among those that are left
abbrev pub invariant-loop-row : goal.invariant-loop-row
invariant-loop-row l = find (λ (row : CommandRow). bytes_eq row.name.now l.name) l.rows ≡ find (λ (row : CommandRow). bytes_eq row.name.now l.name) (drop l.row-index l.rows)
