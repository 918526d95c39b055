use Rattle.std.proofs.Common.{◌≡◌, ◌++◌, take, string_bytes}
use Rattle.std.specs.List.{flat_map}
use Rattle.sound_report.specs.PlanLines.{entry_line}
use Rattle.sound_report.proofs.plans.push_plan.Given as goal

abbrev pub invariant-loop-entry : goal.invariant-loop-entry
invariant-loop-entry l = string_bytes l.out ≡ string_bytes l.initial.out ++ flat_map (entry_line l.address) (take l.entry-index l.plan.pins)
