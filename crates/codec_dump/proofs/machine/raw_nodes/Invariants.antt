use Rattle.std.proofs.Common.{◌≡◌, map, take}
use Rattle.codec_dump.specs.Machines.{raw_node}
use Rattle.codec_dump.proofs.machine.raw_nodes.Given as goal

-- the widgets so far
abbrev pub invariant-loop-node : goal.invariant-loop-node
invariant-loop-node l = l.widgets ≡ map raw_node (take l.node-index l.nodes)
