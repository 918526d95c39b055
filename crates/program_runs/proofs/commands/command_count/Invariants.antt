use Rattle.std.proofs.Common.{◌≡◌, ◌≤◌, ◌*◌, take, length}
use Rattle.program_runs.specs.Outputs.{commands_as}
use Rattle.program_runs.proofs.commands.command_count.Given as goal

-- the commands of the codecs so far were counted
abbrev pub invariant-loop-index : goal.invariant-loop-index
invariant-loop-index l = record {
  value : l.count ≡ length (commands_as l.kind l.format (take l.index l.codecs) (take l.index l.plans));
  few : l.count ≤ 50000 * l.index;
}
