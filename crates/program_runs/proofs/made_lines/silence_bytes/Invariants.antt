use Rattle.std.proofs.Common.{◌≡◌, ◌≤◌, ◌*◌, take}
use Rattle.program_runs.specs.MadeLines.{silence_bytes}
use Rattle.program_runs.proofs.made_lines.silence_bytes.Given as goal

abbrev pub invariant-loop-span : goal.invariant-loop-span
invariant-loop-span l = (l.bytes ≡ silence_bytes (take l.span-index l.silences)) × (l.bytes ≤ 0xFFFFFFFFFFFFFFFF * l.span-index)
