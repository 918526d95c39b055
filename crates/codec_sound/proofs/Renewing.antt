-- Kept signals that are worked out anew.
use Rattle.std.proofs.Common.{◌≡◌, ℕ, List, [], ◌∷◌, Option, Some, refl}
use Rattle.std.proofs.lemmas.List.Elements.{All-map}
use Rattle.codec_graph.specs.declared.raw.RawCodec.{RawCodec}
use Rattle.codec_graph.specs.Settings.{Entries}
use Rattle.stream_format.specs.declared.format.Format.{Format}
use Rattle.codec_graph.specs.declared.pin_kind.PinKind.{PinKind}
use Rattle.codec_sound.specs.declared.signals.Signal.{Signal}
use Rattle.codec_sound.specs.declared.streams.LinkStream.{LinkStream}
use Rattle.codec_sound.specs.Signals.{stream_of, signal_as}
use Rattle.codec_sound.specs.Keeping.{signal_by_as, with_signals, renewed, kept_pins, AreKept}

-- signals that agree are renewed alike
pub renewed-agree : (f g : ℕ → Signal) (signals : List (ℕ × Signal)) → ((pin : ℕ) → f pin ≡ g pin) → renewed f signals ≡ renewed g signals
renewed-agree f g [] same = refl
renewed-agree f g (kept ∷ signals) same = rw (same kept.0, renewed-agree f g signals same) refl

-- silent pins, renewed, have the new signals
pub renewed-with_signals : (f g : ℕ → Signal) (pins : List ℕ) → renewed f (with_signals g pins) ≡ with_signals f pins
renewed-with_signals f g [] = refl
renewed-with_signals f g (pin ∷ pins) = rw (renewed-with_signals f g pins) refl

-- the signal by a format that is there
pub signal_by-some : (kind : PinKind) (codec : RawCodec) (settings : Entries) (tag : ℕ) (option : Option Format) (format : Format) (stream : LinkStream) → option ≡ Some format → stream ≡ stream_of tag format → (pin : ℕ) → signal_as kind codec settings stream pin ≡ signal_by_as kind codec settings tag option pin
signal_by-some kind codec settings tag option format stream is e pin = rw (is, e) refl

-- the kept pins stay the same
pub pins_of_renewed : (f : ℕ → Signal) (signals : List (ℕ × Signal)) → kept_pins (renewed f signals) ≡ kept_pins signals
pins_of_renewed f [] = refl
pins_of_renewed f (kept ∷ signals) = rw (pins_of_renewed f signals) refl

pub kept_pins-with_signals : (f : ℕ → Signal) (pins : List ℕ) → kept_pins (with_signals f pins) ≡ pins
kept_pins-with_signals f [] = refl
kept_pins-with_signals f (pin ∷ pins) = rw (kept_pins-with_signals f pins) refl

-- renewed signals are the new ones, and so are those of pins that are kept anew
pub AreKept-renewed : (f : ℕ → Signal) (signals : List (ℕ × Signal)) → AreKept f (renewed f signals)
AreKept-renewed f signals = All-map (λ (kept : ℕ × Signal). kept.1 ≡ f kept.0) (λ (kept : ℕ × Signal). (kept.0, f kept.0)) signals (λ k d within. refl)

pub AreKept-with_signals : (f : ℕ → Signal) (pins : List ℕ) → AreKept f (with_signals f pins)
AreKept-with_signals f pins = All-map (λ (kept : ℕ × Signal). kept.1 ≡ f kept.0) (λ (pin : ℕ). (pin, f pin)) pins (λ k d within. refl)
