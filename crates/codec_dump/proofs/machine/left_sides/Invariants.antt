use Rattle.std.proofs.Common.{◌≡◌, map, take}
use Rattle.codec_dump.specs.Machines.{one_side}
use Rattle.codec_dump.proofs.machine.left_sides.Given as goal

-- the sides so far
abbrev pub invariant-loop-gain : goal.invariant-loop-gain
invariant-loop-gain l = l.sides.items ≡ map one_side (take l.gain-index l.gains)
