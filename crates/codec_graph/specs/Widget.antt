-- What the words of one widget say. Bits of the audio widget capabilities: High Definition Audio 1.0a, 7.3.4.6.
use Rattle.std.specs.Prelude.{ℕ, Bool, false, ◌==◌, ◌&&◌, ◌||◌, [], map, Option, None, if◌then◌else◌, nat_lt, nat_le}
use Rattle.std.specs.Prelude.{◌-◌, ◌+◌, slice_get}
use Rattle.codec_graph.specs.declared.raw.RawNode.{RawNode}
use Rattle.codec_graph.specs.declared.raw.RawCodec.{RawCodec}
use Rattle.verb_codes.specs.Words.{has_bit, bits_of}

-- how many node identifiers there are: they have seven bits (7.1.2)
abbrev pub node_identifiers : ℕ
node_identifiers = 128

-- how many inputs of a widget can have an amplifier each: their place has four bits (7.3.3.7)
abbrev pub most_amplified : ℕ
most_amplified = 16

-- a word where it applies, and 0 where it does not
abbrev pub kept_word : Bool → ℕ → ℕ
kept_word applies word = if applies then word else 0

-- a widget with these capabilities of which nothing else is known yet
abbrev pub plain_node : ℕ → RawNode
plain_node caps = record {
  caps = caps;
  pcm = 0;
  formats = 0;
  pin_caps = 0;
  amp_in = 0;
  amp_out = 0;
  power = 0;
  default = 0;
  long = false;
  entries = [];
  list = [];
}

-- bits 23:20 are the widget's type
abbrev pub is_output_converter : RawNode → Bool
is_output_converter node = bits_of node.caps 20 4 == 0

abbrev pub is_input_converter : RawNode → Bool
is_input_converter node = bits_of node.caps 20 4 == 1

abbrev pub is_mixer : RawNode → Bool
is_mixer node = bits_of node.caps 20 4 == 2

abbrev pub is_selector : RawNode → Bool
is_selector node = bits_of node.caps 20 4 == 3

abbrev pub is_pin : RawNode → Bool
is_pin node = bits_of node.caps 20 4 == 4

abbrev pub is_converter : RawNode → Bool
is_converter node = is_output_converter node || is_input_converter node

-- a signal can pass through mixers and selectors alone
abbrev pub is_inner : RawNode → Bool
is_inner node = is_mixer node || is_selector node

abbrev pub is_stereo : RawNode → Bool
is_stereo node = has_bit node.caps 0

abbrev pub has_input_amplifier : RawNode → Bool
has_input_amplifier node = has_bit node.caps 1

abbrev pub has_output_amplifier : RawNode → Bool
has_output_amplifier node = has_bit node.caps 2

-- its amplifier words are its own, and not the function group's
abbrev pub overrides_amplifiers : RawNode → Bool
overrides_amplifiers node = has_bit node.caps 3

-- its PCM and stream format words are its own, and not the function group's
abbrev pub overrides_formats : RawNode → Bool
overrides_formats node = has_bit node.caps 4

abbrev pub has_list : RawNode → Bool
has_list node = has_bit node.caps 8

abbrev pub is_digital : RawNode → Bool
is_digital node = has_bit node.caps 9

abbrev pub has_power_control : RawNode → Bool
has_power_control node = has_bit node.caps 10

-- the words that apply to the widget, each other word 0; without a connection list both its forms are empty
abbrev pub normal_node : RawNode → RawNode
normal_node node = record {
  caps = node.caps;
  pcm = kept_word (is_converter node && overrides_formats node) node.pcm;
  formats = kept_word (is_converter node && overrides_formats node) node.formats;
  pin_caps = kept_word (is_pin node) node.pin_caps;
  amp_in = kept_word (overrides_amplifiers node && has_input_amplifier node) node.amp_in;
  amp_out = kept_word (overrides_amplifiers node && has_output_amplifier node) node.amp_out;
  power = kept_word (has_power_control node) node.power;
  default = kept_word (is_pin node) node.default;
  long = has_list node && node.long;
  entries = if has_list node then node.entries else [];
  list = if has_list node then node.list else [];
}

-- the codec with the words of its widgets that apply; those of the root and of the function group all do
abbrev pub normal : RawCodec → RawCodec
normal codec = record codec { nodes = map normal_node codec.nodes }

-- whether the node identifier is that of a widget of the function group
abbrev pub is_widget : RawCodec → ℕ → Bool
is_widget codec nid = nat_le codec.first nid && nat_lt nid (codec.first + codec.count)

-- the widget with this node identifier: the list begins at the first one
abbrev pub node_at : RawCodec → ℕ → Option RawNode
node_at codec nid = if nat_lt nid codec.first then None else slice_get codec.nodes (nid - codec.first)

-- the amplifier, PCM and stream format words that hold at a widget: its own where it overrides the group's (7.3.4.6)
abbrev pub input_amplifier_word : RawCodec → RawNode → ℕ
input_amplifier_word codec node = if overrides_amplifiers node then node.amp_in else codec.group_words.amp_in

abbrev pub output_amplifier_word : RawCodec → RawNode → ℕ
output_amplifier_word codec node = if overrides_amplifiers node then node.amp_out else codec.group_words.amp_out

abbrev pub pcm_word : RawCodec → RawNode → ℕ
pcm_word codec node = if overrides_formats node then node.pcm else codec.group_words.pcm

abbrev pub formats_word : RawCodec → RawNode → ℕ
formats_word codec node = if overrides_formats node then node.formats else codec.group_words.formats

-- amplifier capabilities (7.3.4.10): the gain step at 0 dB, the number of steps less one, and whether it can mute
abbrev pub amplifier_offset : ℕ → ℕ
amplifier_offset word = bits_of word 0 7

abbrev pub amplifier_steps : ℕ → ℕ
amplifier_steps word = bits_of word 8 7

abbrev pub can_mute : ℕ → Bool
can_mute word = has_bit word 31
