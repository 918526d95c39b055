use Rattle.std.proofs.Common.{◌≡◌, ◌++◌, take, string_bytes}
use Rattle.std.specs.List.{flat_map}
use Rattle.capture_report.specs.CaptureLines.{entry_line_of}
use Rattle.capture_report.proofs.inputs.push_plan.Given as goal

abbrev pub invariant-loop-entry : goal.invariant-loop-entry
invariant-loop-entry l = string_bytes l.out ≡ string_bytes l.initial.out ++ flat_map (entry_line_of l.address) (take l.entry-index l.plan.pins)
