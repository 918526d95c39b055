-- The words of a codec that a walk asks for. Parameters: High Definition Audio 1.0a, 7.3.4; the configuration default:
-- 7.3.3.31; entries of connection lists: 7.3.3.3. The order, and that only words that apply are asked for, is this
-- project's own.
use Rattle.std.specs.Prelude.{ℕ, Bool, ◌+◌, ◌-◌, ◌/◌, ◌&&◌, List, [], ◌∷◌}
use Rattle.codec_graph.specs.declared.raw.RawNode.{RawNode}
use Rattle.codec_graph.specs.declared.raw.RawCodec.{RawCodec}
use Rattle.verb_codes.specs.declared.verbs.Command.{Command}
use Rattle.verb_codes.specs.declared.verbs.Verb.{Verb}
use Rattle.verb_codes.specs.declared.verbs.Verb.TheVariants.{GetParam, GetList, GetDefault}
use Rattle.verb_codes.specs.declared.parameters.Parameter.{Parameter}
use Rattle.verb_codes.specs.declared.parameters.Parameter.TheVariants as parameter
use Rattle.verb_codes.specs.Parameters.{number_of}
use Rattle.verb_codes.specs.Words.{bits_of, has_bit}
use Rattle.verb_codes.specs.Lists.{entries_per_word}
use Rattle.codec_graph.specs.Widget.{is_converter, is_pin, overrides_formats, overrides_amplifiers, has_input_amplifier}
use Rattle.codec_graph.specs.Widget.{has_output_amplifier}
use Rattle.codec_walk.specs.declared.words.CodecWord.{CodecWord}
use Rattle.codec_walk.specs.declared.words.CodecWord.TheVariants.{Vendor, Revision, Groups, GroupType, Widgets}
use Rattle.codec_walk.specs.declared.words.CodecWord.TheVariants.{GroupPcm, GroupFormats, GroupAmpIn, GroupAmpOut}
use Rattle.codec_walk.specs.declared.words.CodecWord.TheVariants.{GroupPower}
use Rattle.codec_walk.specs.declared.words.NodeWord.{NodeWord}
use Rattle.codec_walk.specs.declared.words.NodeWord.TheVariants.{Pcm, Formats, PinCaps, Default, AmpIn, AmpOut}

abbrev pub command_to : ℕ → ℕ → Verb → Command
command_to address nid verb = record { codec = address; nid = nid; verb = verb }

-- asks a node for a parameter
abbrev pub parameter_command : ℕ → ℕ → Parameter → Command
parameter_command address nid wanted = command_to address nid (GetParam (number_of wanted))

-- asks a node for a word of its connection list, from this place on
abbrev pub list_command : ℕ → ℕ → ℕ → Command
list_command address nid place = command_to address nid (GetList place)

-- ---- the root and the function group

-- the words of the root and then those of the function group, in order: those that come after one of them
abbrev pub later_codec : CodecWord → List CodecWord
later_codec Vendor = Revision ∷ Groups ∷ GroupType ∷ Widgets ∷ GroupPcm ∷ GroupFormats ∷ GroupAmpIn ∷ GroupAmpOut ∷
    GroupPower ∷ []
later_codec Revision = Groups ∷ GroupType ∷ Widgets ∷ GroupPcm ∷ GroupFormats ∷ GroupAmpIn ∷ GroupAmpOut ∷ GroupPower ∷
    []
later_codec Groups = GroupType ∷ Widgets ∷ GroupPcm ∷ GroupFormats ∷ GroupAmpIn ∷ GroupAmpOut ∷ GroupPower ∷ []
later_codec GroupType = Widgets ∷ GroupPcm ∷ GroupFormats ∷ GroupAmpIn ∷ GroupAmpOut ∷ GroupPower ∷ []
later_codec Widgets = GroupPcm ∷ GroupFormats ∷ GroupAmpIn ∷ GroupAmpOut ∷ GroupPower ∷ []
later_codec GroupPcm = GroupFormats ∷ GroupAmpIn ∷ GroupAmpOut ∷ GroupPower ∷ []
later_codec GroupFormats = GroupAmpIn ∷ GroupAmpOut ∷ GroupPower ∷ []
later_codec GroupAmpIn = GroupAmpOut ∷ GroupPower ∷ []
later_codec GroupAmpOut = GroupPower ∷ []
later_codec GroupPower = []

abbrev pub codec_words : List CodecWord
codec_words = Vendor ∷ later_codec Vendor

-- the node that has the word: the root is node 0 (7.1.2)
abbrev pub codec_node : RawCodec → CodecWord → ℕ
codec_node codec Vendor = 0
codec_node codec Revision = 0
codec_node codec Groups = 0
codec_node codec GroupType = codec.group
codec_node codec Widgets = codec.group
codec_node codec GroupPcm = codec.group
codec_node codec GroupFormats = codec.group
codec_node codec GroupAmpIn = codec.group
codec_node codec GroupAmpOut = codec.group
codec_node codec GroupPower = codec.group

abbrev pub codec_parameter : CodecWord → Parameter
codec_parameter Vendor = parameter.Vendor
codec_parameter Revision = parameter.Revision
codec_parameter Groups = parameter.Nodes
codec_parameter GroupType = parameter.GroupType
codec_parameter Widgets = parameter.Nodes
codec_parameter GroupPcm = parameter.PcmSizesAndRates
codec_parameter GroupFormats = parameter.StreamFormats
codec_parameter GroupAmpIn = parameter.InputAmplifier
codec_parameter GroupAmpOut = parameter.OutputAmplifier
codec_parameter GroupPower = parameter.PowerStates

abbrev pub codec_command : RawCodec → CodecWord → Command
codec_command codec word = parameter_command codec.address (codec_node codec word) (codec_parameter word)

-- a Subordinate Node Count (7.3.4.3) has the first node below in bits 23:16 and how many in 7:0; of the function groups
-- only the first counts, by the seven bits of a node identifier
abbrev pub with_codec_word : RawCodec → CodecWord → ℕ → RawCodec
with_codec_word codec Vendor answer = record codec { vendor = answer }
with_codec_word codec Revision answer = record codec { revision = answer }
with_codec_word codec Groups answer = record codec { group = bits_of answer 16 7 }
with_codec_word codec GroupType answer = record codec { group_type = answer }
with_codec_word codec Widgets answer = record codec { first = bits_of answer 16 8; count = bits_of answer 0 8 }
with_codec_word codec GroupPcm answer = record codec { group_words = record codec.group_words { pcm = answer } }
with_codec_word codec GroupFormats answer = record codec { group_words = record codec.group_words { formats = answer } }
with_codec_word codec GroupAmpIn answer = record codec { group_words = record codec.group_words { amp_in = answer } }
with_codec_word codec GroupAmpOut answer = record codec { group_words = record codec.group_words { amp_out = answer } }
with_codec_word codec GroupPower answer = record codec { group_words = record codec.group_words { power = answer } }

-- ---- a widget, between its capabilities and its connection list

-- those of these words that come after one of them, in order
abbrev pub later : NodeWord → List NodeWord
later Pcm = Formats ∷ PinCaps ∷ Default ∷ AmpIn ∷ AmpOut ∷ []
later Formats = PinCaps ∷ Default ∷ AmpIn ∷ AmpOut ∷ []
later PinCaps = Default ∷ AmpIn ∷ AmpOut ∷ []
later Default = AmpIn ∷ AmpOut ∷ []
later AmpIn = AmpOut ∷ []
later AmpOut = []

abbrev pub node_words : List NodeWord
node_words = Pcm ∷ later Pcm

-- whether the word applies to the widget, by its capabilities (7.3.4.6)
abbrev pub applies : RawNode → NodeWord → Bool
applies node Pcm = is_converter node && overrides_formats node
applies node Formats = is_converter node && overrides_formats node
applies node PinCaps = is_pin node
applies node Default = is_pin node
applies node AmpIn = overrides_amplifiers node && has_input_amplifier node
applies node AmpOut = overrides_amplifiers node && has_output_amplifier node

abbrev pub word_verb : NodeWord → Verb
word_verb Pcm = GetParam (number_of parameter.PcmSizesAndRates)
word_verb Formats = GetParam (number_of parameter.StreamFormats)
word_verb PinCaps = GetParam (number_of parameter.PinCapabilities)
word_verb Default = GetDefault
word_verb AmpIn = GetParam (number_of parameter.InputAmplifier)
word_verb AmpOut = GetParam (number_of parameter.OutputAmplifier)

abbrev pub word_command : ℕ → ℕ → NodeWord → Command
word_command address nid word = command_to address nid (word_verb word)

abbrev pub with_word : RawNode → NodeWord → ℕ → RawNode
with_word node Pcm answer = record node { pcm = answer }
with_word node Formats answer = record node { formats = answer }
with_word node PinCaps answer = record node { pin_caps = answer }
with_word node Default answer = record node { default = answer }
with_word node AmpIn answer = record node { amp_in = answer }
with_word node AmpOut answer = record node { amp_out = answer }

-- ---- the connection list of a widget

-- a Connection List Length (7.3.4.11) has the number of entries in bits 6:0 and the long form in bit 7
abbrev pub entries_told : ℕ → ℕ
entries_told answer = bits_of answer 0 7

abbrev pub is_long : ℕ → Bool
is_long answer = has_bit answer 7

-- how many words have so many entries
abbrev pub words_for : Bool → ℕ → ℕ
words_for long entries = (entries + (entries_per_word long - 1)) / entries_per_word long
