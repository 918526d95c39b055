-- The words in a picture of codecs. This project's own.
use Rattle.std.specs.Prelude.{ℕ, Bool, List, ◌==◌, ◌++◌, codes, decimal, if◌then◌else◌}
use Rattle.std.specs.Int.{to_be_bytes, w32}
use Rattle.hex.specs.Hex.{encode_lower}
use Rattle.codec_graph.specs.declared.raw.RawCodec.{RawCodec}
use Rattle.codec_graph.specs.declared.raw.RawNode.{RawNode}
use Rattle.codec_graph.specs.Widget.{is_pin, is_stereo, is_digital}
use Rattle.verb_codes.specs.Words.{bits_of}
use Rattle.sound_report.specs.PlanLines.{nid_text}
use Rattle.codec_picture.specs.Names.{widget_word, device_word, chassis_word, location_word, colour_word}

-- the name of a widget: its node identifier, and what a pin is or else the widget's type
abbrev pub name_of : (nid : ℕ) → RawNode → List ℕ
name_of nid node = nid_text nid ++ codes " " ++ (if is_pin node then device_word node else widget_word node)

-- whether a pin's port leads to no jack and no device: bits 31:30 of the configuration default (7.3.3.31)
abbrev pub is_unconnected : RawNode → Bool
is_unconnected node = bits_of node.default 30 2 == 1

-- where a pin's jack is, and in which colour
abbrev pub jack_text : RawNode → List ℕ
jack_text node = chassis_word node ++ codes ", " ++ location_word node ++ codes ", " ++ colour_word node

-- what a widget carries
abbrev pub carried : RawNode → List ℕ
carried node =
    (if is_stereo node then codes "stereo" else codes "mono") ++ (if is_digital node then codes ", digital" else codes
    "")

-- what else there is to say of a widget
abbrev pub detail_of : RawNode → List ℕ
detail_of node =
    if is_pin node then (if is_unconnected node then codes "no physical connection" else jack_text node)
    else carried node

-- eight digits of a word
abbrev pub digits : ℕ → List ℕ
digits word = encode_lower (to_be_bytes w32 word)

-- the words of a widget's type and its capabilities
abbrev pub hint_of : RawNode → List ℕ
hint_of node = widget_word node ++ codes ", capabilities " ++ digits node.caps

abbrev pub pair_text : ℕ → List ℕ
pair_text pair = codes "pair " ++ decimal pair

abbrev pub heading_of : RawCodec → List ℕ
heading_of codec = codes "Codec " ++ decimal codec.address ++ codes ", vendor " ++ digits codec.vendor
