-- The machine that the facts of a codec are. What the dump does not say is as in a codec file that does not say it; the
-- two words that old kernels leave out are the usual ones. Words: High Definition Audio 1.0a, 7.3.4; verbs: 7.3.3.
use Rattle.std.specs.Prelude.{ℕ, false, List, [], ◌∷◌, map, fold, length, replicate, Option, None}
use Rattle.std.specs.Prelude.{Some, unwrap_or, if◌then◌else◌, take}
use Rattle.std.specs.Option.{option_map}
use Rattle.verb_codes.specs.Words.{has_bit}
use Rattle.verb_codes.specs.declared.verbs.Verb.{Verb}
use Rattle.verb_codes.specs.declared.verbs.Verb.TheVariants.{SetSelect, SetPower, SetStream, SetPin, SetUnsol, SetEapd}
use Rattle.verb_codes.specs.declared.verbs.Verb.TheVariants.{SetDigital}
use Rattle.codec_graph.specs.declared.raw.RawNode.{RawNode}
use Rattle.codec_graph.specs.declared.raw.RawCodec.{RawCodec}
use Rattle.codec_graph.specs.Widget.{plain_node, normal, node_identifiers, most_amplified}
use Rattle.codec_graph.specs.Settings.{Entries, opening}
use Rattle.hda_files.specs.declared.machine.Machine.{Machine}
use Rattle.hda_files.specs.declared.machine.CodecFile.{CodecFile}
use Rattle.hda_files.specs.declared.top.RingSize.TheVariants.{Full}
use Rattle.hda_files.specs.Starts.{set_given, set_all, output_gain, gain_verbs}
use Rattle.dump_reader.specs.declared.facts.Gain.{Gain}
use Rattle.dump_reader.specs.declared.facts.NodeFacts.{NodeFacts}
use Rattle.dump_reader.specs.declared.facts.CodecFacts.{CodecFacts}

-- the supported power states, usually D0 to D3 of a widget with power control
abbrev pub power_word : NodeFacts → ℕ
power_word facts = unwrap_or facts.power (if has_bit facts.caps 10 then 15 else 0)

-- the connection list, of a widget that has one
abbrev pub list_word : NodeFacts → List ℕ
list_word facts = if has_bit facts.caps 8 then unwrap_or facts.list [] else []

-- a widget
abbrev pub raw_node : NodeFacts → RawNode
raw_node facts = record (plain_node facts.caps) {
  pcm = unwrap_or facts.pcm 0;
  formats = unwrap_or facts.formats 0;
  pin_caps = unwrap_or facts.pin_caps 0;
  amp_in = unwrap_or facts.amp_in 0;
  amp_out = unwrap_or facts.amp_out 0;
  power = power_word facts;
  default = unwrap_or facts.default 0;
  entries = list_word facts;
  list = list_word facts;
}

-- the node identifier of the first widget
abbrev pub first_nid : List NodeFacts → ℕ
first_nid [] = 0
first_nid (node ∷ nodes) = node.nid

-- the words of the codec
abbrev pub raw_codec : CodecFacts → RawCodec
raw_codec codec = record {
  address = unwrap_or codec.address 0;
  vendor = unwrap_or codec.vendor 0;
  revision = unwrap_or codec.revision 0;
  group = unwrap_or codec.group_nid 1;
  group_type = unwrap_or codec.group_type 1;
  group_words = record {
    pcm = unwrap_or codec.group.pcm 0x00020040;
    formats = unwrap_or codec.group.formats 1;
    amp_in = unwrap_or codec.group.amp_in 0;
    amp_out = unwrap_or codec.group.amp_out 0;
    power = unwrap_or codec.group.power 0;
  };
  first = first_nid codec.nodes;
  count = length codec.nodes;
  nodes = map raw_node codec.nodes;
}

-- mute and gain of both sides: the left one
abbrev pub one_side : Gain → ℕ
one_side gain = gain.left

-- the verb that sets the output amplifier so
abbrev pub gain_out_verb : Gain → Verb
gain_out_verb gain = output_gain (one_side gain)

-- those of the input amplifiers, of which at most 16 have a place in a command
abbrev pub first_sides : List Gain → List ℕ
first_sides gains = map one_side (take most_amplified gains)

abbrev pub gains_word : Option (List Gain) → List ℕ
gains_word None = []
gains_word (Some gains) = first_sides gains

-- the verbs that set a widget as the dump says
abbrev pub control_verbs : NodeFacts → List (Option Verb)
control_verbs facts =
    option_map SetSelect facts.select ∷ option_map SetPower facts.power_state ∷ option_map SetStream facts.stream
    ∷ option_map SetPin facts.control ∷ option_map SetUnsol facts.unsol ∷ option_map SetEapd facts.eapd
    ∷ option_map SetDigital facts.digital ∷ option_map gain_out_verb facts.gain_out ∷ []

-- the settings after them
abbrev pub set_node : RawCodec → Entries → NodeFacts → Entries
set_node codec settings facts =
    set_all codec facts.nid (set_all codec facts.nid settings (control_verbs facts)) (gain_verbs
    (gains_word facts.gains_in))

-- the settings of a codec with these words: those of the opening, then the function group's power state, then widget by
-- widget
abbrev pub settings_of : RawCodec → CodecFacts → Entries
settings_of words codec = fold (set_node words) (set_given words words.group (opening words)
    (Some (SetPower (unwrap_or codec.group.power_state 0)))) codec.nodes

-- the codec: its normalised words and its settings; nothing is plugged in
abbrev pub codec_of : CodecFacts → CodecFile
codec_of codec = record {
  graph = normal (raw_codec codec);
  settings = settings_of (normal (raw_codec codec)) codec;
  present = replicate node_identifiers false;
}

-- the machine with this codec alone: a FIFO of 192 bytes and rings of 256 entries, as where a codec file does not say
abbrev pub machine_with : CodecFile → Machine
machine_with file = record { fifo = 192; corb = Full; rirb = Full; codecs = file ∷ [] }

abbrev pub machine_of : CodecFacts → Machine
machine_of codec = machine_with (codec_of codec)
