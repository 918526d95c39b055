use Rattle.std.proofs.Common.{◌≡◌, ◌++◌, take, length, string_bytes}
use Rattle.std.specs.List.{flat_map, zip}
use Rattle.sound_report.specs.PlanLines.{codec_lines}
use Rattle.sound_report.proofs.plans.push_plans.Given as goal

abbrev pub invariant-loop-codec : goal.invariant-loop-codec
invariant-loop-codec l =
    string_bytes l.out ≡ string_bytes l.initial.out ++ flat_map codec_lines (take (length l.yielded) (zip l.codecs l.plans))
