-- Signals that are kept until something changes on which they depend. This project's own.
use Rattle.std.specs.Prelude.{◌≡◌, ℕ, ◌+◌, ◌-◌, ◌^◌, List, map, min, Option, Some, None, All}
use Rattle.codec_graph.specs.declared.raw.RawCodec.{RawCodec}
use Rattle.codec_graph.specs.Settings.{Entries}
use Rattle.stream_format.specs.declared.format.Format.{Format}
use Rattle.codec_graph.specs.declared.pin_kind.PinKind.{PinKind}
use Rattle.codec_graph.specs.declared.pin_kind.PinKind.TheVariants.{Analog}
use Rattle.codec_sound.specs.declared.signals.Signal.{Signal}
use Rattle.codec_sound.specs.declared.signals.Signal.TheVariants.{Silence}
use Rattle.codec_sound.specs.Signals.{stream_of, signal_as}

-- pins, each with its signal, and how often they were renewed
pub record KeptSignals : Type 0 where
  pub pins : List (ℕ × Signal)
  pub renewals : ℕ

-- the signal of a pin while a stream with this tag and format plays: without a format nothing is heard
abbrev pub signal_by_as : PinKind → RawCodec → Entries → ℕ → Option Format → ℕ → Signal
signal_by_as kind codec settings tag None pin = Silence
signal_by_as kind codec settings tag (Some format) pin = signal_as kind codec settings (stream_of tag format) pin

abbrev pub signal_by : RawCodec → Entries → ℕ → Option Format → ℕ → Signal
signal_by = signal_by_as Analog

-- some pins, each with the signal that this gives it
abbrev pub with_signals : (ℕ → Signal) → List ℕ → List (ℕ × Signal)
with_signals signal pins = map (λ pin. (pin, signal pin)) pins

-- kept pins, each with the signal that this gives it now
abbrev pub renewed : (ℕ → Signal) → List (ℕ × Signal) → List (ℕ × Signal)
renewed signal signals = map (λ kept. (kept.0, signal kept.0)) signals

-- the pins that are kept
abbrev pub kept_pins : List (ℕ × Signal) → List ℕ
kept_pins signals = map (λ kept. kept.0) signals

-- each kept signal is what this gives its pin
abbrev pub AreKept : (ℕ → Signal) → List (ℕ × Signal) → Type 0
AreKept signal signals = All (λ kept. kept.1 ≡ signal kept.0) signals

-- a count of 64 bits that stays at its greatest number
abbrev pub counted_on : ℕ → ℕ
counted_on count = min (count + 1) (2 ^ 64 - 1)
