use Rattle.std.proofs.Common.{◌≡◌, drop, find}
use Rattle.trace_lines.specs.Purposes.{holds}
use Rattle.trace_lines.proofs.purposes.buffer_with.Given as goal

-- the first is among those that are left
abbrev pub invariant-loop-listed : goal.invariant-loop-listed
invariant-loop-listed l = find (holds l.at l.len) l.buffers ≡ find (holds l.at l.len) (drop l.listed-index l.buffers)
