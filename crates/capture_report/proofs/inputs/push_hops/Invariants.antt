use Rattle.std.proofs.Common.{◌≡◌, ◌++◌, take, string_bytes}
use Rattle.std.specs.List.{flat_map}
use Rattle.sound_report.specs.PlanLines.{hop_text}
use Rattle.capture_report.proofs.inputs.push_hops.Given as goal

abbrev pub invariant-loop-hop : goal.invariant-loop-hop
invariant-loop-hop l = string_bytes l.out ≡ string_bytes l.initial.out ++ flat_map hop_text (take l.hop-index l.hops)
