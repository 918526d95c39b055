-- What an input converter hears: nothing, one pin, or something that is not followed. Sound passes the same mixers,
-- selectors and amplifiers as on the way out, and begins at the pins: High Definition Audio 1.0a, 7.2.3. What is not
-- followed is this project's own.
use Rattle.std.specs.Prelude.{◌≡◌, ℕ, Bool, true, false, ◌==◌, ◌&&◌, not, Option, Some, None, if◌then◌else◌}
use Rattle.codec_graph.specs.declared.raw.RawNode.{RawNode}
use Rattle.codec_graph.specs.declared.raw.RawCodec.{RawCodec}
use Rattle.codec_graph.specs.declared.controls.Control.TheVariants as control
use Rattle.codec_graph.specs.Widget.{node_at, is_input_converter, is_pin, is_stereo, is_digital}
use Rattle.codec_graph.specs.Settings.{Entries, setting_of}
use Rattle.codec_sound.specs.declared.signals.Signal.{Signal}
use Rattle.codec_sound.specs.declared.signals.Signal.TheVariants as signal
use Rattle.codec_sound.specs.declared.sources.Sources.TheVariants.{Pins}
use Rattle.codec_sound.specs.declared.in_heard.InHeard.{InHeard}
use Rattle.codec_sound.specs.declared.in_heard.InHeard.TheVariants.{Silence, Pin, Altered}
use Rattle.codec_sound.specs.Amplifiers.{after_output}
use Rattle.codec_sound.specs.Signals.{is_off, tag_at, is_listening_pin, selected, passed_on, gives_from, out_from}

-- the step on the way in: what each node gives, if the nodes give what `out` says
abbrev pub in_gives : RawCodec → Entries → (ℕ → Signal) → ℕ → Signal
in_gives = gives_from Pins

-- what each node gives on the way in
abbrev pub in_out : RawCodec → Entries → ℕ → Signal
in_out = out_from Pins

-- ---- input converters

-- what an input converter makes of what the nodes give: what is selected, through its input amplifier of that place and
-- its output amplifier, while it is on
abbrev pub converter_hears : RawCodec → Entries → (ℕ → Signal) → ℕ → RawNode → Signal
converter_hears codec settings out nid node =
    if is_off codec settings nid node then signal.Silence else after_output codec settings nid node
    (passed_on codec settings out nid node (selected settings nid node))

-- what a node hears: a node that is no input converter hears nothing
abbrev pub hears_in : RawCodec → Entries → (ℕ → Signal) → ℕ → Option RawNode → Signal
hears_in codec settings out nid None = signal.Silence
hears_in codec settings out nid (Some node) =
    if is_input_converter node then converter_hears codec settings out nid node else signal.Silence

abbrev pub hears_in_at : RawCodec → Entries → (ℕ → Signal) → ℕ → Signal
hears_in_at codec settings out nid = hears_in codec settings out nid (node_at codec nid)

-- a signal on the way in, as what is heard
abbrev pub in_heard_of : Signal → InHeard
in_heard_of signal.Silence = Silence
in_heard_of (signal.Pair nid) = Pin nid
in_heard_of signal.Altered = Altered

-- what an input converter hears
abbrev pub in_signal_of : RawCodec → Entries → ℕ → InHeard
in_signal_of codec settings converter = in_heard_of (hears_in_at codec settings (in_out codec settings) converter)

-- ---- what is heard of a pin

-- the node is an analog pin of two channels that is on and takes sound in
pub record IsListening (codec : RawCodec) (settings : Entries) (nid : ℕ) : Type 0 where
  pub node : RawNode
  pub there : node_at codec nid ≡ Some node
  pub pin : is_pin node ≡ true
  pub stereo : is_stereo node ≡ true
  pub analog : is_digital node ≡ false
  pub on : is_off codec settings nid node ≡ false
  pub enabled : is_listening_pin settings nid node ≡ true

-- the node is an input converter that is on
pub record IsHearing (codec : RawCodec) (settings : Entries) (nid : ℕ) : Type 0 where
  pub node : RawNode
  pub there : node_at codec nid ≡ Some node
  pub converter : is_input_converter node ≡ true
  pub on : is_off codec settings nid node ≡ false

-- ---- which input converters take a stream

-- the tag, of which 0 is none, and the format word (7.3.3.8) are those of the stream
abbrev pub takes_in : Entries → (tag word nid : ℕ) → Bool
takes_in settings tag word nid =
    not (tag_at settings nid == 0) && (tag_at settings nid == tag) && (setting_of settings nid control.Format == word)

abbrev pub is_taking : Entries → (tag word nid : ℕ) → Option RawNode → Bool
is_taking settings tag word nid None = false
is_taking settings tag word nid (Some node) = is_input_converter node && takes_in settings tag word nid
