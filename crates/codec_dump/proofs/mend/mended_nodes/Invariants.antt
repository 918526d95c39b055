use Rattle.std.proofs.Common.{◌≡◌, map, take}
use Rattle.codec_dump.specs.Mending.{mended_node}
use Rattle.codec_dump.proofs.mend.mended_nodes.Given as goal

-- the widgets so far
abbrev pub invariant-loop-node : goal.invariant-loop-node
invariant-loop-node l = l.after ≡ map (mended_node l.group) (take l.node-index l.nodes)
