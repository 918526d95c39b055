-- What is plugged in leaves the graph and the settings of its codec.
use Rattle.std.proofs.Common.{◌≡◌, ℕ, Bool, true, false, refl, Option, Some, None, if◌then◌else◌}
use Rattle.codec_graph.specs.CodecStates.{CodecState, plugged, pin_plugged, node_plugged}
use Rattle.codec_graph.specs.declared.raw.RawNode.{RawNode}
use Rattle.codec_graph.specs.Widget.{node_at, is_pin}

pin_graph : (codec : CodecState) (nid : ℕ) (present : Bool) (node : RawNode) (pin : Bool) → (if pin then pin_plugged codec nid present node else codec).graph ≡ codec.graph
pin_graph codec nid present node true = refl
pin_graph codec nid present node false = refl

node_graph : (codec : CodecState) (nid : ℕ) (present : Bool) (node : Option RawNode) → (node_plugged codec nid present node).graph ≡ codec.graph
node_graph codec nid present None = refl
node_graph codec nid present (Some node) = pin_graph codec nid present node (is_pin node)

-- the graph stays
pub graph-plugged : (nid : ℕ) (present : Bool) (codec : CodecState) → (plugged codec nid present).graph ≡ codec.graph
graph-plugged nid present codec = node_graph codec nid present (node_at codec.graph nid)

-- and so do the settings
pub settings-plugged : (nid : ℕ) (present : Bool) (codec : CodecState) → (plugged codec nid present).settings ≡ codec.settings
settings-plugged nid present codec = by (node_at codec.graph nid)
  where
    pin : (node : RawNode) (is : Bool) → (if is then pin_plugged codec nid present node else codec).settings ≡ codec.settings
    pin node true = refl
    pin node false = refl

    by : (node : Option RawNode) → (node_plugged codec nid present node).settings ≡ codec.settings
    by None = refl
    by (Some node) = pin node (is_pin node)
