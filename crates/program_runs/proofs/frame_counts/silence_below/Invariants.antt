use Rattle.std.proofs.Common.{◌≡◌, ◌≤◌, ◌*◌, take}
use Rattle.std.specs.Prelude.{sum_by}
use Rattle.program_runs.specs.FrameCounts as spec
use Rattle.program_runs.proofs.frame_counts.silence_below.Given as goal

-- those of the first silences are counted, each below a number of 64 bits
abbrev pub invariant-loop-span : goal.invariant-loop-span
invariant-loop-span l = record {
  count : l.bytes ≡ sum_by (spec.silent_below l.at) (take l.span-index l.silences);
  few : l.bytes ≤ l.span-index * 0xFFFFFFFFFFFFFFFF;
}
