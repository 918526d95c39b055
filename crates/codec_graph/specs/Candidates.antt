-- The pins that can get a route. Pin capabilities: High Definition Audio 1.0a, 7.3.4.9. Configuration default:
-- 7.3.3.31. That these pins are the candidates, and their order, is this project's own.
use Rattle.std.specs.Prelude.{ℕ, Bool, false, ◌==◌, ◌&&◌, not, Option, Some, None, nat_le}
use Rattle.codec_graph.specs.declared.raw.RawNode.{RawNode}
use Rattle.codec_graph.specs.declared.raw.RawCodec.{RawCodec}
use Rattle.verb_codes.specs.Words.{has_bit, bits_of}
use Rattle.codec_graph.specs.Widget.{node_at, is_pin, is_stereo, is_digital}

abbrev pub connectivity : RawNode → ℕ
connectivity node = bits_of node.default 30 2

abbrev pub device : RawNode → ℕ
device node = bits_of node.default 20 4

abbrev pub association : RawNode → ℕ
association node = bits_of node.default 4 4

abbrev pub sequence : RawNode → ℕ
sequence node = bits_of node.default 0 4

-- a stereo analog pin that can drive an output, is connected to something, is a line out, speaker or headphone (devices
-- 0 to 2) and belongs to an association
abbrev pub is_candidate_node : RawNode → Bool
is_candidate_node node =
    is_pin node && is_stereo node && not (is_digital node) && has_bit node.pin_caps 4
    && not (connectivity node == 1) && nat_le (device node) 2 && not (association node == 0)

abbrev pub is_candidate_at : Option RawNode → Bool
is_candidate_at None = false
is_candidate_at (Some node) = is_candidate_node node

-- whether the node identifier is that of a candidate pin
abbrev pub is_candidate : RawCodec → ℕ → Bool
is_candidate codec nid = is_candidate_at (node_at codec nid)
