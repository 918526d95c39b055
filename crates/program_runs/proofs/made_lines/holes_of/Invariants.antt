use Rattle.std.proofs.Common.{◌≡◌, ◌≤◌, ◌*◌, take}
use Rattle.program_runs.specs.MadeLines.{holes_of}
use Rattle.program_runs.proofs.made_lines.holes_of.Given as goal

abbrev pub invariant-loop-place : goal.invariant-loop-place
invariant-loop-place l = (l.holes ≡ holes_of (take l.place l.heard)) × (l.holes ≤ 0xFFFFFFFFFFFFFFFF * l.place)
