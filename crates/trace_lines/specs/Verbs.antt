-- Commands of codecs in words: the names of the verbs (High Definition Audio 1.0a, 7.3.3) and of the parameters
-- (7.3.4). The forms of the text are this project's own.
use Rattle.std.specs.Prelude.{ℕ, List, [], ◌++◌, Option, Some, None, codes, decimal}
use Rattle.std.specs.Int.{to_be_bytes, w16, w32}
use Rattle.hex.specs.Hex.{encode_lower}
use Rattle.verb_codes.specs.declared.parameters.Parameter.{Parameter}
use Rattle.verb_codes.specs.declared.parameters.Parameter.TheVariants as parameter
use Rattle.verb_codes.specs.declared.verbs.Command.{Command}
use Rattle.verb_codes.specs.declared.verbs.Verb.{Verb}
use Rattle.verb_codes.specs.declared.verbs.Verb.TheVariants.{GetParam, GetSelect, SetSelect, GetList, GetPower}
use Rattle.verb_codes.specs.declared.verbs.Verb.TheVariants.{SetPower, GetStream, SetStream, GetPin, SetPin, GetUnsol}
use Rattle.verb_codes.specs.declared.verbs.Verb.TheVariants.{SetUnsol, GetSense, GetEapd, SetEapd, GetDigital}
use Rattle.verb_codes.specs.declared.verbs.Verb.TheVariants.{SetDigital, GetDefault, SetDefault, GetFormat, SetFormat}
use Rattle.verb_codes.specs.declared.verbs.Verb.TheVariants.{GetAmp, SetAmp}
use Rattle.verb_codes.specs.Parameters.{parameter_of}
use Rattle.verb_codes.specs.Verbs.{reading_of}
use Rattle.sound_report.specs.PlanLines.{nid_text}

-- the name of a parameter; one of another number has none
abbrev pub parameter_word : Option Parameter → List ℕ
parameter_word None = []
parameter_word (Some parameter.Vendor) = codes " Vendor ID"  -- 7.3.4.1
parameter_word (Some parameter.Revision) = codes " Revision ID"  -- 7.3.4.2
parameter_word (Some parameter.Nodes) = codes " Subordinate Node Count"  -- 7.3.4.3
parameter_word (Some parameter.GroupType) = codes " Function Group Type"  -- 7.3.4.4
parameter_word (Some parameter.WidgetCapabilities) = codes " Audio Widget Capabilities"  -- 7.3.4.6
parameter_word (Some parameter.PcmSizesAndRates) = codes " Supported PCM Size, Rates"  -- 7.3.4.7
parameter_word (Some parameter.StreamFormats) = codes " Supported Stream Formats"  -- 7.3.4.8
parameter_word (Some parameter.PinCapabilities) = codes " Pin Capabilities"  -- 7.3.4.9
parameter_word (Some parameter.InputAmplifier) = codes " Input Amplifier Capabilities"  -- 7.3.4.10
parameter_word (Some parameter.ListLength) = codes " Connection List Length"  -- 7.3.4.11
parameter_word (Some parameter.PowerStates) = codes " Supported Power States"  -- 7.3.4.12
parameter_word (Some parameter.OutputAmplifier) = codes " Output Amplifier Capabilities"  -- 7.3.4.10

-- an argument of 8 bits behind a name: two digits; and one of 16 bits: four
abbrev pub with_byte : List ℕ → ℕ → List ℕ
with_byte name byte = name ++ codes " " ++ nid_text byte

abbrev pub with_half : List ℕ → ℕ → List ℕ
with_half name half = name ++ codes " " ++ encode_lower (to_be_bytes w16 half)

-- a question for a parameter, and a byte of the configuration default at its place
abbrev pub parameter_text : ℕ → List ℕ
parameter_text number = with_byte (codes "get Parameter") number ++ parameter_word (parameter_of number)

abbrev pub default_text : (place byte : ℕ) → List ℕ
default_text place byte = with_byte (codes "set Configuration Default") place ++ codes " " ++ nid_text byte

abbrev pub verb_text : Verb → List ℕ
-- 7.3.3.1
verb_text (GetParam number) = parameter_text number
-- 7.3.3.2
verb_text GetSelect = codes "get Connection Select Control"
verb_text (SetSelect place) = with_byte (codes "set Connection Select Control") place
-- 7.3.3.3
verb_text (GetList place) = with_byte (codes "get Connection List Entry") place
-- 7.3.3.10
verb_text GetPower = codes "get Power State"
verb_text (SetPower state) = with_byte (codes "set Power State") state
-- 7.3.3.11
verb_text GetStream = codes "get Converter Stream, Channel"
verb_text (SetStream stream) = with_byte (codes "set Converter Stream, Channel") stream
-- 7.3.3.13
verb_text GetPin = codes "get Pin Widget Control"
verb_text (SetPin control) = with_byte (codes "set Pin Widget Control") control
-- 7.3.3.14
verb_text GetUnsol = codes "get Unsolicited Response"
verb_text (SetUnsol control) = with_byte (codes "set Unsolicited Response") control
-- 7.3.3.15
verb_text GetSense = codes "get Pin Sense"
-- 7.3.3.16
verb_text GetEapd = codes "get EAPD/BTL Enable"
verb_text (SetEapd control) = with_byte (codes "set EAPD/BTL Enable") control
-- 7.3.3.9
verb_text GetDigital = codes "get Digital Converter Control"
verb_text (SetDigital control) = with_byte (codes "set Digital Converter Control") control
-- 7.3.3.31: the byte's place, and the byte
verb_text GetDefault = codes "get Configuration Default"
verb_text (SetDefault place byte) = default_text place byte
-- 7.3.3.8
verb_text GetFormat = codes "get Converter Format"
verb_text (SetFormat format) = with_half (codes "set Converter Format") format
-- 7.3.3.7
verb_text (GetAmp side) = with_half (codes "get Amplifier Gain/Mute") side
verb_text (SetAmp setting) = with_half (codes "set Amplifier Gain/Mute") setting

-- a command: the codec, the node and the verb (7.3)
abbrev pub command_text : Option Command → List ℕ
command_text None = codes " no command"
command_text (Some command) =
    codes " codec " ++ decimal command.codec ++ codes " node " ++ nid_text command.nid ++ codes " "
    ++ verb_text command.verb

-- a word in eight digits
abbrev pub word_text : ℕ → List ℕ
word_text word = encode_lower (to_be_bytes w32 word)

-- the word of a command, and what it reads as
abbrev pub order_text : ℕ → List ℕ
order_text word = word_text word ++ command_text (reading_of word)
