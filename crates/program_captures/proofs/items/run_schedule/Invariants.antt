use Rattle.std.proofs.Common.{take}
use Rattle.std.specs.List.{flat_map}
use Rattle.schedule_reader.specs.Counts.{items_in}
use Rattle.program_captures.specs.Capturing.{CaptureRan}
use Rattle.program_captures.proofs.items.run_schedule.Given as goal

-- the items of the first parts were run
abbrev pub invariant-loop-part : goal.invariant-loop-part
invariant-loop-part l = CaptureRan l.terms (flat_map items_in (take l.part-index l.part-items)) l.fn.capturer l.capturer l.fn.rig l.rig
