-- The faults of a codec's tables. The rules and their order are this project's own.
use Rattle.std.specs.Prelude.{ℕ, Bool, ◌==◌, ◌||◌, not, List, [], ◌∷◌, ◌++◌, length, if◌then◌else◌, nat_lt, nat_le, ◌+◌}
use Rattle.std.specs.Prelude.{Option, Some, None}
use Rattle.std.specs.List.{list_all}
use Rattle.codec_graph.specs.declared.raw.RawNode.{RawNode}
use Rattle.codec_graph.specs.declared.raw.RawCodec.{RawCodec}
use Rattle.codec_graph.specs.declared.fault.GraphFault.{GraphFault}
use Rattle.codec_graph.specs.declared.fault.GraphFault.TheVariants.{NoAudioGroup, BadCount, ConnectionOutside}
use Rattle.codec_graph.specs.declared.fault.GraphFault.TheVariants.{ListTooLong, AmpOffset}
use Rattle.verb_codes.specs.Words.{bits_of}
use Rattle.codec_graph.specs.Widget.{node_identifiers, most_amplified, is_mixer, is_widget, amplifier_offset}
use Rattle.codec_graph.specs.Widget.{amplifier_steps}

-- the fault where the test holds
abbrev pub fault_if : Bool → GraphFault → List GraphFault
fault_if holds fault = if holds then fault ∷ [] else []

-- the function group is of another type than audio (7.3.4.4)
abbrev pub is_no_audio_group : RawCodec → Bool
is_no_audio_group codec = not (bits_of codec.group_type 0 8 == 1)

-- the widgets are none, begin at the root, end above the last node identifier or are not as many as the nodes,
-- or the function group has no identifier of its own
abbrev pub has_bad_count : RawCodec → Bool
has_bad_count codec =
    codec.count == 0 || codec.first == 0 || nat_lt node_identifiers (codec.first + codec.count) || not
    (length codec.nodes == codec.count)
    || codec.group == 0 || nat_le node_identifiers codec.group || is_widget codec codec.group

-- the amplifier's 0 dB step is above its steps
abbrev pub has_bad_offset : ℕ → Bool
has_bad_offset word = nat_lt (amplifier_steps word) (amplifier_offset word)

-- how many connections a widget may list, and a mixer, each of whose inputs can have an amplifier
abbrev pub most_listed : ℕ
most_listed = 64

abbrev pub most_connections : RawNode → ℕ
most_connections node = if is_mixer node then most_amplified else most_listed

-- the faults of one widget, in the order in which they count
abbrev pub node_faults : RawCodec → ℕ → RawNode → List GraphFault
node_faults codec nid node =
    fault_if (not (list_all (is_widget codec) node.list)) (ConnectionOutside nid)
    ++ (fault_if (nat_lt (most_connections node) (length node.list)) (ListTooLong nid)
    ++ fault_if (has_bad_offset node.amp_in || has_bad_offset node.amp_out) (AmpOffset nid))

-- the faults of the widgets from this node identifier on, ascending
abbrev pub nodes_faults : RawCodec → ℕ → List RawNode → List GraphFault
nodes_faults codec nid [] = []
nodes_faults codec nid (node ∷ nodes) = node_faults codec nid node ++ nodes_faults codec (nid + 1) nodes

-- all faults of a codec's tables, in the order in which they count: the group's type, the count, the group's own words,
-- the widgets
abbrev pub table_faults : RawCodec → List GraphFault
table_faults codec =
    fault_if (is_no_audio_group codec) (NoAudioGroup codec.group)
    ++ (fault_if (has_bad_count codec) (BadCount 0)
    ++ (fault_if (has_bad_offset codec.group_words.amp_in || has_bad_offset codec.group_words.amp_out)
    (AmpOffset codec.group)
    ++ nodes_faults codec codec.first codec.nodes))

-- the first of some faults
abbrev pub first_fault : List GraphFault → Option GraphFault
first_fault [] = None
first_fault (fault ∷ faults) = Some fault
