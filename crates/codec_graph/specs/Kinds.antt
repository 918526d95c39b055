-- The candidate pins of each kind. Default devices: High Definition Audio 1.0a, 7.3.3.31. That these digital pins are
-- candidates is this project's own.
use Rattle.std.specs.Prelude.{ℕ, Bool, false, ◌==◌, ◌&&◌, not, Option, Some, None}
use Rattle.codec_graph.specs.declared.raw.RawNode.{RawNode}
use Rattle.codec_graph.specs.declared.raw.RawCodec.{RawCodec}
use Rattle.verb_codes.specs.Words.{has_bit}
use Rattle.codec_graph.specs.Widget.{node_at, is_pin, is_stereo, is_digital}
use Rattle.codec_graph.specs.Candidates.{connectivity, device, association, is_candidate_node, is_candidate_at}
use Rattle.codec_graph.specs.declared.pin_kind.PinKind.{PinKind}
use Rattle.codec_graph.specs.declared.pin_kind.PinKind.TheVariants.{Analog, Digital}

-- the default device of an S/PDIF output: SPDIF Out
abbrev pub digital_device : ℕ
digital_device = 4

-- a stereo digital pin that can drive an output, is connected to something, is an S/PDIF output and belongs to an
-- association
abbrev pub is_digital_candidate_node : RawNode → Bool
is_digital_candidate_node node =
    is_pin node && is_stereo node && is_digital node && has_bit node.pin_caps 4
    && not (connectivity node == 1) && device node == digital_device && not (association node == 0)

abbrev pub is_candidate_node_as : PinKind → RawNode → Bool
is_candidate_node_as Analog node = is_candidate_node node
is_candidate_node_as Digital node = is_digital_candidate_node node

abbrev pub is_candidate_at_as : PinKind → Option RawNode → Bool
is_candidate_at_as Analog found = is_candidate_at found
is_candidate_at_as Digital None = false
is_candidate_at_as Digital (Some node) = is_digital_candidate_node node

-- whether the node identifier is that of a candidate pin of the kind
abbrev pub is_candidate_as : PinKind → RawCodec → ℕ → Bool
is_candidate_as kind codec nid = is_candidate_at_as kind (node_at codec nid)
