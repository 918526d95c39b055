use Rattle.std.proofs.Common.{◌≡◌, ◌++◌, map, filter, take}
use Rattle.std.specs.List.{range_with_len}
use Rattle.hda_files.specs.Codecs.{widget_at, is_outside}
use Rattle.hda_files.proofs.codec.lay_out.Given as goal

abbrev pub invariant-loop-node : goal.invariant-loop-node
invariant-loop-node l =
    l.widgets.items ≡ map (widget_at l.nodes) (range_with_len l.first l.count) ++ map (λ node. widget_at l.nodes node.nid) (filter (is_outside l.first l.count) (take l.node-index l.nodes))
