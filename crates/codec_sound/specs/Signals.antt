-- The signal that each widget gives and each pin hears while a stream plays, as analog pins hear it and as digital ones
-- do: nothing, one pair of the stream's channels, or something that is not followed. On the way in what each widget
-- gives of the sound that pins take in: a signal has the number of a pin in place of that of a pair. Connections: High
-- Definition Audio 1.0a, 7.1.2; widgets: 7.2.3. That two signals together, a mono widget and one of the other kind make
-- a signal that is not followed, and that no digital stream passes a mixer, is this project's own.
use Rattle.std.specs.Prelude.{ℕ, zero, suc, Bool, ◌==◌, ◌&&◌, ◌||◌, not, ◌+◌, ◌*◌, ◌/◌, ◌%◌, ◌<◌, List, [], ◌∷◌, length}
use Rattle.std.specs.Prelude.{Option, Some, None, nat_lt, slice_get, if◌then◌else◌}
use Rattle.codec_graph.specs.declared.raw.RawNode.{RawNode}
use Rattle.codec_graph.specs.declared.raw.RawCodec.{RawCodec}
use Rattle.codec_graph.specs.declared.controls.Control.TheVariants as control
use Rattle.verb_codes.specs.Words.{has_bit, bits_of}
use Rattle.codec_graph.specs.Widget.{node_at, is_output_converter, is_mixer, is_selector, is_pin, is_stereo, is_digital}
use Rattle.codec_graph.specs.Widget.{has_power_control}
use Rattle.codec_graph.specs.Settings.{Entries, setting_of, has_eapd}
use Rattle.stream_format.specs.declared.format.Format.{Format}
use Rattle.codec_graph.specs.declared.pin_kind.PinKind.{PinKind}
use Rattle.codec_graph.specs.declared.pin_kind.PinKind.TheVariants.{Analog, Digital}
use Rattle.stream_format.specs.Words.{format_word}
use Rattle.codec_sound.specs.declared.signals.Signal.{Signal}
use Rattle.codec_sound.specs.declared.signals.Signal.TheVariants.{Silence, Pair, Altered}
use Rattle.codec_sound.specs.declared.streams.LinkStream.{LinkStream}
use Rattle.codec_sound.specs.declared.sources.Sources.{Sources}
use Rattle.codec_sound.specs.declared.sources.Sources.TheVariants.{Converters, Pins}
use Rattle.codec_sound.specs.Amplifiers.{changed_if, after_output, after_input}

-- the stream with this tag and format
abbrev pub stream_of : ℕ → Format → LinkStream
stream_of tag format = record { tag = tag; word = format_word format; channels = format.channels }

-- if the signal is a pair, both its channels are among so many
abbrev pub IsAmong : ℕ → Signal → Type 0
IsAmong channels Silence = Unit {0}
IsAmong channels (Pair pair) = 2 * pair + 1 < channels
IsAmong channels Altered = Unit {0}

-- ---- one widget

-- the function group or the widget is in another power state than 0, fully on (7.3.3.10)
abbrev pub is_off : RawCodec → Entries → ℕ → RawNode → Bool
is_off codec settings nid node =
    not (setting_of settings codec.group control.Power == 0)
    || (has_power_control node && not (setting_of settings nid control.Power == 0))

-- an output converter's control (7.3.3.11): the stream's tag in bits 7:4, of which 0 is none, and the lowest channel in
-- 3:0
abbrev pub tag_at : Entries → ℕ → ℕ
tag_at settings nid = bits_of (setting_of settings nid control.Stream) 4 4

abbrev pub channel_at : Entries → ℕ → ℕ
channel_at settings nid = bits_of (setting_of settings nid control.Stream) 0 4

-- the converter takes this stream
abbrev pub takes : Entries → LinkStream → ℕ → Bool
takes settings stream nid = not (tag_at settings nid == 0) && (tag_at settings nid == stream.tag)

-- digital output is enabled: bit 0 of a digital converter's control, DigEn (7.3.3.9)
abbrev pub is_enabled : Entries → ℕ → Bool
is_enabled settings nid = has_bit (setting_of settings nid control.Digital) 0

-- so does one for digital pins, only while its digital output is enabled
abbrev pub takes_as : PinKind → Entries → LinkStream → ℕ → Bool
takes_as Analog settings stream nid = takes settings stream nid
takes_as Digital settings stream nid = takes settings stream nid && is_enabled settings nid

-- a widget of the other kind: a digital one for analog pins, and an analog one for digital pins
abbrev pub is_foreign : PinKind → RawNode → Bool
is_foreign Analog node = is_digital node
is_foreign Digital node = not (is_digital node)

-- it is set to another format, is of the other kind or mono, or begins between the two channels of a pair
abbrev pub converts_otherwise : PinKind → Entries → LinkStream → ℕ → RawNode → Bool
converts_otherwise kind settings stream nid node =
    not (setting_of settings nid control.Format == stream.word) || is_foreign kind node || not (is_stereo node)
    || (channel_at settings nid % 2 == 1 && nat_lt (channel_at settings nid) stream.channels)

-- the pair that begins at the channel, if the stream has it
abbrev pub pair_from : LinkStream → ℕ → Signal
pair_from stream channel = if nat_lt channel stream.channels then Pair (channel / 2) else Silence

-- what an output converter makes of the stream
abbrev pub converted : PinKind → Entries → LinkStream → ℕ → RawNode → Signal
converted kind settings stream nid node =
    if takes_as kind settings stream nid
    then (if converts_otherwise kind settings stream nid node then Altered else pair_from stream
    (channel_at settings nid))
    else Silence

-- two signals together: silence adds nothing, and two others are not followed
abbrev pub sum_of : Signal → Signal → Signal
sum_of Silence other = other
sum_of (Pair pair) Silence = Pair pair
sum_of (Pair pair) (Pair other) = Altered
sum_of (Pair pair) Altered = Altered
sum_of Altered other = Altered

-- what a mixer makes of the connections from this place on, of what their nodes give
abbrev pub mixed : RawCodec → Entries → (ℕ → Signal) → ℕ → RawNode → ℕ → List ℕ → Signal
mixed codec settings out nid node place [] = Silence
mixed codec settings out nid node place (from ∷ list) =
    sum_of (after_input codec settings nid node place (out from)) (mixed codec settings out nid node (place + 1) list)

-- the place that is selected (7.3.3.2): a single connection always is
abbrev pub selected_place : Entries → ℕ → RawNode → ℕ
selected_place settings nid node = if length node.list == 1 then 0 else setting_of settings nid control.Select

-- the node that is selected: none where the list is empty or ends before the place
abbrev pub selected : Entries → ℕ → RawNode → Option ℕ
selected settings nid node = slice_get node.list (selected_place settings nid node)

-- what a selector makes of what the selected node gives
abbrev pub passed_on : RawCodec → Entries → (ℕ → Signal) → ℕ → RawNode → Option ℕ → Signal
passed_on codec settings out nid node None = Silence
passed_on codec settings out nid node (Some from) = after_input codec settings nid node
    (selected_place settings nid node) (out from)

-- what a mixer makes: a mono one changes what it adds, and no digital stream passes one
abbrev pub mixed_as : PinKind → RawCodec → Entries → (ℕ → Signal) → ℕ → RawNode → Signal
mixed_as Analog codec settings out nid node = changed_if (not (is_stereo node))
    (mixed codec settings out nid node 0 node.list)
mixed_as Digital codec settings out nid node = Silence

-- ---- pins on the way in

-- a pin takes sound in where its input is enabled (control bit 5, 7.3.3.13) and it has one (capability bit 5, 7.3.4.9)
abbrev pub is_listening_pin : Entries → ℕ → RawNode → Bool
is_listening_pin settings nid node = has_bit (setting_of settings nid control.Pin) 5 && has_bit node.pin_caps 5

-- what a pin makes of the sound that it takes in: its own, through its first input amplifier; mono and digital pins
-- change it
abbrev pub taken_in : RawCodec → Entries → ℕ → RawNode → Signal
taken_in codec settings nid node =
    if is_listening_pin settings nid node
    then changed_if (not (is_stereo node) || is_digital node) (after_input codec settings nid node 0 (Pair nid))
    else Silence

-- ---- where sound begins

-- a signal begins at the output converters, or on the way in at the pins
abbrev pub is_source : Sources → RawNode → Bool
is_source (Converters kind stream) node = is_output_converter node
is_source Pins node = is_pin node

-- the signal that begins there
abbrev pub source_signal : Sources → RawCodec → Entries → ℕ → RawNode → Signal
source_signal (Converters kind stream) codec settings nid node = converted kind settings stream nid node
source_signal Pins codec settings nid node = taken_in codec settings nid node

-- mixers add it as for pins of this kind: on the way in as for analog ones
abbrev pub source_kind : Sources → PinKind
source_kind (Converters kind stream) = kind
source_kind Pins = Analog

-- what a widget makes of it and of what the nodes give that it lists: sources, mixers and selectors make a signal, and
-- mono mixers and selectors change it
abbrev pub made_from : Sources → RawCodec → Entries → (ℕ → Signal) → ℕ → RawNode → Signal
made_from sources codec settings out nid node =
    if is_source sources node then source_signal sources codec settings nid node
    else (if is_mixer node then mixed_as (source_kind sources) codec settings out nid node
    else (if is_selector node then changed_if (not (is_stereo node))
    (passed_on codec settings out nid node (selected settings nid node))
    else Silence))

-- what it gives: nothing while it is off, else what it makes, through its output amplifier
abbrev pub given_from : Sources → RawCodec → Entries → (ℕ → Signal) → ℕ → RawNode → Signal
given_from sources codec settings out nid node =
    if is_off codec settings nid node then Silence else after_output codec settings nid node
    (made_from sources codec settings out nid node)

abbrev pub given_from_at : Sources → RawCodec → Entries → (ℕ → Signal) → ℕ → Option RawNode → Signal
given_from_at sources codec settings out nid None = Silence
given_from_at sources codec settings out nid (Some node) = given_from sources codec settings out nid node

-- ---- all widgets

-- the step: what each node gives, if the nodes give what `out` says
unfoldable pub gives_from : Sources → RawCodec → Entries → (ℕ → Signal) → ℕ → Signal
gives_from sources codec settings out nid = given_from_at sources codec settings out nid (node_at codec nid)

-- what each node gives of what comes over less than so many connections
abbrev pub within_from : Sources → RawCodec → Entries → ℕ → ℕ → Signal
within_from sources codec settings zero nid = Silence
within_from sources codec settings (suc connections) nid =
    gives_from sources codec settings (within_from sources codec settings connections) nid

-- what each node gives: no way through the mixers and selectors of a well-formed graph is as long. It is the one that
-- fits the step at every node, as the laws say.
unfoldable pub out_from : Sources → RawCodec → Entries → ℕ → Signal
out_from sources codec settings nid = within_from sources codec settings 256 nid

-- ---- while a stream plays, for pins of a kind

abbrev pub made : PinKind → RawCodec → Entries → LinkStream → (ℕ → Signal) → ℕ → RawNode → Signal
made kind codec settings stream = made_from (Converters kind stream) codec settings

abbrev pub given : PinKind → RawCodec → Entries → LinkStream → (ℕ → Signal) → ℕ → RawNode → Signal
given kind codec settings stream = given_from (Converters kind stream) codec settings

abbrev pub given_at : PinKind → RawCodec → Entries → LinkStream → (ℕ → Signal) → ℕ → Option RawNode → Signal
given_at kind codec settings stream = given_from_at (Converters kind stream) codec settings

abbrev pub gives_as : PinKind → RawCodec → Entries → LinkStream → (ℕ → Signal) → ℕ → Signal
gives_as kind codec settings stream = gives_from (Converters kind stream) codec settings

abbrev pub within : PinKind → RawCodec → Entries → LinkStream → ℕ → ℕ → Signal
within kind codec settings stream = within_from (Converters kind stream) codec settings

abbrev pub out_as : PinKind → RawCodec → Entries → LinkStream → ℕ → Signal
out_as kind codec settings stream = out_from (Converters kind stream) codec settings

-- for analog pins
abbrev pub gives : RawCodec → Entries → LinkStream → (ℕ → Signal) → ℕ → Signal
gives = gives_as Analog

abbrev pub out : RawCodec → Entries → LinkStream → ℕ → Signal
out = out_as Analog

-- ---- pins

-- a pin is silent while it is off, where its output is not enabled (control bit 6, 7.3.3.13), where it can't drive one
-- (capability bit 4, 7.3.4.9), and where it has an external amplifier that is not powered (bit 1, 7.3.3.16)
abbrev pub is_silent_pin : RawCodec → Entries → ℕ → RawNode → Bool
is_silent_pin codec settings nid node =
    is_off codec settings nid node || not (has_bit (setting_of settings nid control.Pin) 6) || not
    (has_bit node.pin_caps 4)
    || (has_eapd node && not (has_bit (setting_of settings nid control.Eapd) 1))

-- what the selected node gives: nothing where none is selected
abbrev pub comes_from : (ℕ → Signal) → Option ℕ → Signal
comes_from out None = Silence
comes_from out (Some from) = out from

-- what a pin hears: what its selected node gives, through its output amplifier; mono pins and those of the other kind
-- change it
abbrev pub pin_hears : PinKind → RawCodec → Entries → (ℕ → Signal) → ℕ → RawNode → Signal
pin_hears kind codec settings out nid node =
    if is_silent_pin codec settings nid node
    then Silence
    else changed_if (not (is_stereo node) || is_foreign kind node)
    (after_output codec settings nid node (comes_from out (selected settings nid node)))

-- what a node hears: a node that is no pin hears nothing
abbrev pub hears : PinKind → RawCodec → Entries → (ℕ → Signal) → ℕ → Option RawNode → Signal
hears kind codec settings out nid None = Silence
hears kind codec settings out nid (Some node) =
    if is_pin node then pin_hears kind codec settings out nid node else Silence

abbrev pub hears_at : PinKind → RawCodec → Entries → (ℕ → Signal) → ℕ → Signal
hears_at kind codec settings out nid = hears kind codec settings out nid (node_at codec nid)

-- the signal of a pin, of each kind
abbrev pub signal_as : PinKind → RawCodec → Entries → LinkStream → ℕ → Signal
signal_as kind codec settings stream pin = hears_at kind codec settings (out_as kind codec settings stream) pin

abbrev pub signal_of : RawCodec → Entries → LinkStream → ℕ → Signal
signal_of = signal_as Analog

abbrev pub digital_signal_of : RawCodec → Entries → LinkStream → ℕ → Signal
digital_signal_of = signal_as Digital
