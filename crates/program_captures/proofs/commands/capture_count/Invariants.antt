use Rattle.std.proofs.Common.{◌≡◌, ◌≤◌, ◌*◌, take}
use Rattle.program_captures.specs.Inputs.{capture_total}
use Rattle.program_captures.proofs.commands.capture_count.Given as goal

-- the commands of the codecs so far were counted
abbrev pub invariant-loop-index : goal.invariant-loop-index
invariant-loop-index l = record {
  value : l.count ≡ capture_total l.input.codec l.format (take l.index l.codecs) (take l.index l.plans);
  few : l.count ≤ 50000 * l.index;
}
