use Rattle.std.proofs.Common.{◌≡◌, ◌++◌, take, length, string_bytes}
use Rattle.std.specs.List.{flat_map, zip}
use Rattle.capture_report.specs.CaptureLines.{inputs_in}
use Rattle.capture_report.proofs.inputs.push_inputs.Given as goal

abbrev pub invariant-loop-codec : goal.invariant-loop-codec
invariant-loop-codec l =
    string_bytes l.out ≡ string_bytes l.initial.out ++ flat_map inputs_in (take (length l.yielded) (zip l.codecs l.plans))
