-- The signals that a controller keeps: those of each codec's candidate pins of its kind, by the settings of the codec
-- and the tag and the format word of the output stream. This project's own.
use Rattle.std.specs.Prelude.{◌≡◌, ◌==◌, ℕ, List, length, Option, Some, None, slice_get}
use Rattle.std.specs.List.{list_any}
use Rattle.codec_graph.specs.declared.raw.RawCodec.{RawCodec}
use Rattle.codec_graph.specs.Settings.{Entries}
use Rattle.codec_graph.specs.declared.pin_kind.PinKind.{PinKind}
use Rattle.codec_graph.specs.Kinds.{is_candidate_as}
use Rattle.codec_graph.specs.CodecStates.{CodecState}
use Rattle.stream_format.specs.Layouts.{Layout, layout_of}
use Rattle.codec_sound.specs.declared.signals.Signal.{Signal}
use Rattle.codec_sound.specs.declared.signals.Signal.TheVariants.{Silence}
use Rattle.codec_sound.specs.Signals.{signal_as}
use Rattle.codec_sound.specs.Keeping.{KeptSignals, AreKept, kept_pins}

-- the signal of a pin of a codec with this graph and these settings, while the stream with this tag and format word
-- plays: silence where the word has no meaning
abbrev pub signal_laid : PinKind → RawCodec → Entries → ℕ → ℕ → Option Layout → ℕ → Signal
signal_laid kind graph settings tag word None pin = Silence
signal_laid kind graph settings tag word (Some layout) pin =
    signal_as kind graph settings (record { tag = tag; word = word; channels = layout.channels }) pin

unfoldable pub signal_set : PinKind → RawCodec → Entries → ℕ → ℕ → ℕ → Signal
signal_set kind graph settings tag word pin = signal_laid kind graph settings tag word (layout_of word) pin

-- the kept pins are the graph's candidates of the kind, each with its signal
pub record IsKeptFor (kind : PinKind) (tag word : ℕ) (graph : RawCodec) (settings : Entries) (kept : KeptSignals) : Type
    0 where
  pub pins : (pin : ℕ) → list_any (λ other. pin == other) (kept_pins kept.pins) ≡ is_candidate_as kind graph pin
  pub signals : AreKept (signal_set kind graph settings tag word) kept.pins

-- so it is for each codec, at the same place
pub record AreKeptFor (kind : PinKind) (tag word : ℕ) (codecs : List CodecState) (kept : List KeptSignals) : Type 0
  where
    pub count : length kept ≡ length codecs
    pub each : (place : ℕ) (codec : CodecState) (one : KeptSignals) → slice_get codecs place ≡ Some codec
        → slice_get kept place ≡ Some one
        → IsKeptFor kind tag word codec.graph codec.settings one
