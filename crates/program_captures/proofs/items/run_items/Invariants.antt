use Rattle.std.proofs.Common.{take}
use Rattle.program_captures.specs.Capturing.{CaptureRan}
use Rattle.program_captures.proofs.items.run_items.Given as goal

-- the first of them were run
abbrev pub invariant-loop-item : goal.invariant-loop-item
invariant-loop-item l = CaptureRan l.terms (take l.item-index l.items) l.fn.capturer l.capturer l.fn.rig l.rig
