-- What a codec does with a command: one row for each verb. Verbs: High Definition Audio 1.0a, 7.3.3; parameters: 7.3.4.
-- The answer to a verb that a node doesn't have, the power state kept modulo 4 and the answer 11h times it, the gain
-- kept at most at the steps, the select that stays at a place past the list, and the place of GetList rounded down are
-- this project's own.
use Rattle.std.specs.Prelude.{◌+◌, ◌-◌, ◌*◌, ◌/◌, ◌%◌, ◌^◌, ℕ, Bool, true, false, ◌==◌, ◌&&◌, List, [], ◌∷◌, ◌++◌}
use Rattle.std.specs.Prelude.{length, min, nat_lt, if◌then◌else◌, Option, Some, None, bit_and, slice_index}
use Rattle.std.specs.Prelude.{slice_index_or}
use Rattle.codec_graph.specs.declared.raw.RawNode.{RawNode}
use Rattle.codec_graph.specs.declared.raw.RawCodec.{RawCodec}
use Rattle.codec_graph.specs.declared.controls.Control.{Control}
use Rattle.codec_graph.specs.declared.controls.Control.TheVariants.{Select, Power, Stream, Pin, Unsol, Eapd, Digital}
use Rattle.codec_graph.specs.declared.controls.Control.TheVariants.{Default, Format, OutLeft, OutRight, InLeft, InRight}
use Rattle.codec_graph.specs.Widget.{node_at, input_amplifier_word, output_amplifier_word, amplifier_steps, can_mute}
use Rattle.codec_graph.specs.Settings.{Entries, key, mute, setting_of, put_all, has_control, detects_presence}
use Rattle.verb_codes.specs.declared.verbs.Command.{Command}
use Rattle.verb_codes.specs.declared.verbs.Verb.{Verb}
use Rattle.verb_codes.specs.declared.verbs.Verb.TheVariants.{GetParam, GetSelect, SetSelect, GetList, GetPower}
use Rattle.verb_codes.specs.declared.verbs.Verb.TheVariants.{SetPower, GetStream, SetStream, GetPin, SetPin, GetUnsol}
use Rattle.verb_codes.specs.declared.verbs.Verb.TheVariants.{SetUnsol, GetSense, GetEapd, SetEapd, GetDigital}
use Rattle.verb_codes.specs.declared.verbs.Verb.TheVariants.{SetDigital, GetDefault, SetDefault, GetFormat, SetFormat}
use Rattle.verb_codes.specs.declared.verbs.Verb.TheVariants.{GetAmp, SetAmp}
use Rattle.verb_codes.specs.declared.parameters.Parameter.{Parameter}
use Rattle.verb_codes.specs.declared.parameters.Parameter.TheVariants.{Vendor, Revision, Nodes, GroupType}
use Rattle.verb_codes.specs.declared.parameters.Parameter.TheVariants.{WidgetCapabilities, PcmSizesAndRates}
use Rattle.verb_codes.specs.declared.parameters.Parameter.TheVariants.{StreamFormats, PinCapabilities, InputAmplifier}
use Rattle.verb_codes.specs.declared.parameters.Parameter.TheVariants.{ListLength, PowerStates, OutputAmplifier}
use Rattle.verb_codes.specs.declared.amplifiers.AmpSetting.{AmpSetting}
use Rattle.verb_codes.specs.declared.amplifiers.AmpSide.{AmpSide}
use Rattle.verb_codes.specs.Lists.{entries_per_word}
use Rattle.verb_codes.specs.Parameters.{parameter_of}
use Rattle.verb_codes.specs.Amplifiers as amplifiers

-- the parameters of the root; its first node below, in 23:16, is the only function group
abbrev pub root_parameter : RawCodec → Parameter → ℕ
-- Vendor ID (7.3.4.1)
root_parameter codec Vendor = codec.vendor
-- Revision ID (7.3.4.2)
root_parameter codec Revision = codec.revision
-- Subordinate Node Count (7.3.4.3)
root_parameter codec Nodes = codec.group * 2 ^ 16 + 1
-- Function Group Type (7.3.4.4)
root_parameter codec GroupType = 0
-- Audio Widget Capabilities (7.3.4.6)
root_parameter codec WidgetCapabilities = 0
-- Supported PCM Size, Rates (7.3.4.7)
root_parameter codec PcmSizesAndRates = 0
-- Supported Stream Formats (7.3.4.8)
root_parameter codec StreamFormats = 0
-- Pin Capabilities (7.3.4.9)
root_parameter codec PinCapabilities = 0
-- Amplifier Capabilities, of the input amplifier (7.3.4.10)
root_parameter codec InputAmplifier = 0
-- Connection List Length (7.3.4.11)
root_parameter codec ListLength = 0
-- Supported Power States (7.3.4.12)
root_parameter codec PowerStates = 0
-- Amplifier Capabilities, of the output amplifier (7.3.4.10)
root_parameter codec OutputAmplifier = 0

-- the parameters of the function group; its nodes below are the widgets: the first in 23:16, how many in 7:0
abbrev pub group_parameter : RawCodec → Parameter → ℕ
-- Vendor ID (7.3.4.1)
group_parameter codec Vendor = 0
-- Revision ID (7.3.4.2)
group_parameter codec Revision = 0
-- Subordinate Node Count (7.3.4.3)
group_parameter codec Nodes = codec.first * 2 ^ 16 + codec.count
-- Function Group Type (7.3.4.4)
group_parameter codec GroupType = codec.group_type
-- Audio Widget Capabilities (7.3.4.6)
group_parameter codec WidgetCapabilities = 0
-- Supported PCM Size, Rates (7.3.4.7)
group_parameter codec PcmSizesAndRates = codec.group_words.pcm
-- Supported Stream Formats (7.3.4.8)
group_parameter codec StreamFormats = codec.group_words.formats
-- Pin Capabilities (7.3.4.9)
group_parameter codec PinCapabilities = 0
-- Amplifier Capabilities, of the input amplifier (7.3.4.10)
group_parameter codec InputAmplifier = codec.group_words.amp_in
-- Connection List Length (7.3.4.11)
group_parameter codec ListLength = 0
-- Supported Power States (7.3.4.12)
group_parameter codec PowerStates = codec.group_words.power
-- Amplifier Capabilities, of the output amplifier (7.3.4.10)
group_parameter codec OutputAmplifier = codec.group_words.amp_out

-- the length of a connection list: the number of its entries in 6:0, bit 7 for the long form (7.3.4.11)
abbrev pub list_length : RawNode → ℕ
list_length node = length node.entries + (if node.long then 2 ^ 7 else 0)

-- the parameters of a widget: its own words, which are 0 where they do not apply
abbrev pub widget_parameter : RawNode → Parameter → ℕ
-- Vendor ID (7.3.4.1)
widget_parameter node Vendor = 0
-- Revision ID (7.3.4.2)
widget_parameter node Revision = 0
-- Subordinate Node Count (7.3.4.3)
widget_parameter node Nodes = 0
-- Function Group Type (7.3.4.4)
widget_parameter node GroupType = 0
-- Audio Widget Capabilities (7.3.4.6)
widget_parameter node WidgetCapabilities = node.caps
-- Supported PCM Size, Rates (7.3.4.7)
widget_parameter node PcmSizesAndRates = node.pcm
-- Supported Stream Formats (7.3.4.8)
widget_parameter node StreamFormats = node.formats
-- Pin Capabilities (7.3.4.9)
widget_parameter node PinCapabilities = node.pin_caps
-- Amplifier Capabilities, of the input amplifier (7.3.4.10)
widget_parameter node InputAmplifier = node.amp_in
-- Connection List Length (7.3.4.11)
widget_parameter node ListLength = list_length node
-- Supported Power States (7.3.4.12)
widget_parameter node PowerStates = node.power
-- Amplifier Capabilities, of the output amplifier (7.3.4.10)
widget_parameter node OutputAmplifier = node.amp_out

abbrev pub node_parameter : Option RawNode → Parameter → ℕ
node_parameter None parameter = 0
node_parameter (Some node) parameter = widget_parameter node parameter

-- a parameter of the root, the function group or a widget
abbrev pub known_parameter : RawCodec → ℕ → Parameter → ℕ
known_parameter codec nid parameter =
    if nid == 0 then root_parameter codec parameter
    else (if nid == codec.group then group_parameter codec parameter else node_parameter (node_at codec nid) parameter)

-- the parameter of this number, and 0 where there is no such
abbrev pub numbered_parameter : RawCodec → ℕ → Option Parameter → ℕ
numbered_parameter codec nid None = 0
numbered_parameter codec nid (Some parameter) = known_parameter codec nid parameter

abbrev pub parameter_at : RawCodec → ℕ → ℕ → ℕ
parameter_at codec nid number = numbered_parameter codec nid (parameter_of number)

-- a word of a connection list: the entries from this place on, two of 16 bits or four of 8, lowest bits first, zeros
-- past the end
abbrev pub list_word : Bool → List ℕ → ℕ → ℕ
list_word true entries place = slice_index entries place + slice_index entries (place + 1) * 2 ^ 16
list_word false entries place =
    slice_index entries place + slice_index entries (place + 1) * 2 ^ 8
    + slice_index entries (place + 2) * 2 ^ 16 + slice_index entries (place + 3) * 2 ^ 24

abbrev pub node_list_word : Option RawNode → ℕ → ℕ
node_list_word None place = 0
node_list_word (Some node) place = list_word node.long node.entries (place - place % entries_per_word node.long)

-- a pin that can detect presence answers in bit 31
abbrev pub node_sense : Option RawNode → Bool → ℕ
node_sense None plugged = 0
node_sense (Some node) plugged = if detects_presence node && plugged then 2 ^ 31 else 0

-- whether something is plugged in at the node
abbrev pub is_present : List Bool → ℕ → Bool
is_present present nid = slice_index_or present nid false

-- the side of the amplifier that GetAmp asks for
abbrev pub side_control : AmpSide → Control
side_control side =
    if side.output then (if side.left then OutLeft else OutRight)
    else (if side.left then InLeft side.place else InRight side.place)

-- what GetPower answers for each step of the power state: the state that is, in 7:4, and the state that was set, in 3:0
abbrev pub power_answer : ℕ
power_answer = 0x11

-- the answer to a verb; a set verb is answered with 0, and so is a verb at a node that doesn't have its control
abbrev pub verb_answer : RawCodec → Entries → List Bool → ℕ → Verb → ℕ
-- Get Parameter (7.3.3.1)
verb_answer codec settings present nid (GetParam number) = parameter_at codec nid number
-- Connection Select Control (7.3.3.2)
verb_answer codec settings present nid GetSelect = setting_of settings nid Select
verb_answer codec settings present nid (SetSelect place) = 0
-- Connection List Entry Control (7.3.3.3)
verb_answer codec settings present nid (GetList place) = node_list_word (node_at codec nid) place
-- Power State (7.3.3.10)
verb_answer codec settings present nid GetPower = power_answer * setting_of settings nid Power
verb_answer codec settings present nid (SetPower state) = 0
-- Converter Stream, Channel (7.3.3.11)
verb_answer codec settings present nid GetStream = setting_of settings nid Stream
verb_answer codec settings present nid (SetStream stream) = 0
-- Pin Widget Control (7.3.3.13)
verb_answer codec settings present nid GetPin = setting_of settings nid Pin
verb_answer codec settings present nid (SetPin control) = 0
-- Unsolicited Response (7.3.3.14)
verb_answer codec settings present nid GetUnsol = setting_of settings nid Unsol
verb_answer codec settings present nid (SetUnsol control) = 0
-- Pin Sense (7.3.3.15)
verb_answer codec settings present nid GetSense = node_sense (node_at codec nid) (is_present present nid)
-- EAPD/BTL Enable (7.3.3.16)
verb_answer codec settings present nid GetEapd = setting_of settings nid Eapd
verb_answer codec settings present nid (SetEapd control) = 0
-- Digital Converter Control (7.3.3.9)
verb_answer codec settings present nid GetDigital = setting_of settings nid Digital
verb_answer codec settings present nid (SetDigital control) = 0
-- Configuration Default (7.3.3.31)
verb_answer codec settings present nid GetDefault = setting_of settings nid Default
verb_answer codec settings present nid (SetDefault place byte) = 0
-- Converter Format (7.3.3.8)
verb_answer codec settings present nid GetFormat = setting_of settings nid Format
verb_answer codec settings present nid (SetFormat format) = 0
-- Amplifier Gain/Mute (7.3.3.7)
verb_answer codec settings present nid (GetAmp side) = setting_of settings nid (side_control (amplifiers.side_of side))
verb_answer codec settings present nid (SetAmp setting) = 0

-- the answer to a command; the codec that it names is not looked at
unfoldable pub answer_of : RawCodec → Entries → List Bool → Command → ℕ
answer_of codec settings present command = verb_answer codec settings present command.nid command.verb

-- a control and what it is set to, where the node has it
abbrev pub written : RawCodec → ℕ → Control → ℕ → Entries
written codec nid control value = if has_control codec nid control then (key nid control, value) ∷ [] else []

-- how many connections a node has, and the capabilities of its amplifiers
abbrev pub node_connections : Option RawNode → ℕ
node_connections None = 0
node_connections (Some node) = length node.list

abbrev pub node_output_word : RawCodec → Option RawNode → ℕ
node_output_word codec None = 0
node_output_word codec (Some node) = output_amplifier_word codec node

abbrev pub node_input_word : RawCodec → Option RawNode → ℕ
node_input_word codec None = 0
node_input_word codec (Some node) = input_amplifier_word codec node

-- what an amplifier keeps: the gain up to its steps in 6:0, and in bit 7 the mute where it can mute
abbrev pub kept_amplifier : ℕ → AmpSetting → ℕ
kept_amplifier word setting =
    min setting.gain (amplifier_steps word) + (if setting.mute && can_mute word then mute else 0)

abbrev pub written_side : RawCodec → ℕ → Bool → Control → ℕ → Entries
written_side codec nid named control value = if named then written codec nid control value else []

-- what SetAmp sets: each named side of the output amplifier and of the input amplifier at the place
abbrev pub amplifier_writes : RawCodec → ℕ → AmpSetting → Entries
amplifier_writes codec nid setting =
    written_side codec nid (setting.output && setting.left) OutLeft
    (kept_amplifier (node_output_word codec (node_at codec nid)) setting)
    ++ (written_side codec nid (setting.output && setting.right) OutRight
    (kept_amplifier (node_output_word codec (node_at codec nid)) setting)
    ++ (written_side codec nid (setting.input && setting.left) (InLeft setting.place)
    (kept_amplifier (node_input_word codec (node_at codec nid)) setting)
    ++ written_side codec nid (setting.input && setting.right) (InRight setting.place)
    (kept_amplifier (node_input_word codec (node_at codec nid)) setting)))

-- a word with another byte at this place, from the lowest
abbrev pub with_byte : ℕ → ℕ → ℕ → ℕ
with_byte word place byte = (word / 2 ^ (8 * place) / 2 ^ 8 * 2 ^ 8 + byte) * 2 ^ (8 * place) + word % 2 ^ (8 * place)

-- the bits that are kept of the pin control, 7 headphone, 6 out and 5 in, of the control of unsolicited responses, 7
-- enable and 5:0 tag, and of the external amplifier's, 1
abbrev pub pin_bits : ℕ
pin_bits = 0xE0

abbrev pub unsolicited_bits : ℕ
unsolicited_bits = 0xBF

abbrev pub eapd_bits : ℕ
eapd_bits = 0x02

-- what a verb sets; a get verb sets nothing
abbrev pub verb_writes : RawCodec → Entries → ℕ → Verb → Entries
-- Get Parameter (7.3.3.1)
verb_writes codec settings nid (GetParam number) = []
-- Connection Select Control (7.3.3.2)
verb_writes codec settings nid GetSelect = []
verb_writes codec settings nid (SetSelect place) =
    if nat_lt place (node_connections (node_at codec nid)) then written codec nid Select place else []
-- Connection List Entry Control (7.3.3.3)
verb_writes codec settings nid (GetList place) = []
-- Power State (7.3.3.10)
verb_writes codec settings nid GetPower = []
verb_writes codec settings nid (SetPower state) = written codec nid Power (state % 4)
-- Converter Stream, Channel (7.3.3.11)
verb_writes codec settings nid GetStream = []
verb_writes codec settings nid (SetStream stream) = written codec nid Stream stream
-- Pin Widget Control (7.3.3.13)
verb_writes codec settings nid GetPin = []
verb_writes codec settings nid (SetPin control) = written codec nid Pin (bit_and control pin_bits)
-- Unsolicited Response (7.3.3.14)
verb_writes codec settings nid GetUnsol = []
verb_writes codec settings nid (SetUnsol control) = written codec nid Unsol (bit_and control unsolicited_bits)
-- Pin Sense (7.3.3.15)
verb_writes codec settings nid GetSense = []
-- EAPD/BTL Enable (7.3.3.16)
verb_writes codec settings nid GetEapd = []
verb_writes codec settings nid (SetEapd control) = written codec nid Eapd (bit_and control eapd_bits)
-- Digital Converter Control (7.3.3.9)
verb_writes codec settings nid GetDigital = []
verb_writes codec settings nid (SetDigital control) = written codec nid Digital control
-- Configuration Default (7.3.3.31)
verb_writes codec settings nid GetDefault = []
verb_writes codec settings nid (SetDefault place byte) =
    written codec nid Default (with_byte (setting_of settings nid Default) place byte)
-- Converter Format (7.3.3.8)
verb_writes codec settings nid GetFormat = []
verb_writes codec settings nid (SetFormat format) = written codec nid Format format
-- Amplifier Gain/Mute (7.3.3.7)
verb_writes codec settings nid (GetAmp side) = []
verb_writes codec settings nid (SetAmp setting) = amplifier_writes codec nid (amplifiers.setting_of setting)

-- which settings a command changes, and to what
unfoldable pub writes_of : RawCodec → Entries → Command → Entries
writes_of codec settings command = verb_writes codec settings command.nid command.verb

-- the settings after a command
unfoldable pub after : RawCodec → Entries → Command → Entries
after codec settings command = put_all settings (writes_of codec settings command)
