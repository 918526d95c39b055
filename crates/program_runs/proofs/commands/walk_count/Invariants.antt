use Rattle.std.proofs.Common.{◌≡◌, ◌≤◌, ◌+◌, ◌*◌, take}
use Rattle.std.specs.Prelude.{sum_by}
use Rattle.codec_walk.specs.Commands.{node_count}
use Rattle.program_runs.proofs.commands.walk_count.Given as goal

-- the commands of the root, of the function group and of the widgets so far were counted
abbrev pub invariant-loop-node : goal.invariant-loop-node
invariant-loop-node l = record {
  value : l.count ≡ 10 + sum_by node_count (take l.node-index l.node-items);
  few : l.count ≤ 10 + 73 * l.node-index;
}
