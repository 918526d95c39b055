use Rattle.std.proofs.Common.{◌≡◌, ◌-◌, map}
use Rattle.std.specs.List.{range_with_len}
use Rattle.hda_files.specs.Codecs.{widget_at}
use Rattle.hda_files.proofs.codec.widgets_inside.Given as goal

abbrev pub invariant-loop-nid : goal.invariant-loop-nid
invariant-loop-nid l = l.widgets.items ≡ map (widget_at l.nodes) (range_with_len l.first (l.nid - l.first))
