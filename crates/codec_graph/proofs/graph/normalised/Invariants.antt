use Rattle.std.proofs.Common.{◌≡◌, ◌++◌, map, take, drop}
use Rattle.std.specs.Prelude.{All}
use Rattle.codec_graph.specs.Widget as widget
use Rattle.codec_graph.specs.Widths.{HasNodeWords}
use Rattle.codec_graph.proofs.graph.normalised.Given as goal

-- the widgets so far are normal, and their words have their widths
abbrev pub invariant-loop-node : goal.invariant-loop-node
invariant-loop-node l = record {
  value : l.node-items ≡ map widget.normal_node (take l.node-index l.initial.node-items) ++ drop l.node-index l.initial.node-items;
  words : All HasNodeWords (take l.node-index l.node-items);
}
