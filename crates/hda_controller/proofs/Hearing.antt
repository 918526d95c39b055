-- The kept signal of a pin is its signal now.
use Rattle.codec_graph.specs.declared.pin_kind.PinKind.{PinKind}
use Rattle.std.proofs.Common.{◌≡◌, ◌<◌, ◌==◌, inl, inr, ℕ, true, List, length, Option, Some, sym, ap, ◌∙◌, arith}
use Rattle.std.specs.Prelude.{Contains, slice_get}
use Rattle.std.proofs.lemmas.Bool.{eqb-true}
use Rattle.std.proofs.lemmas.Map.Views.{Contains-from_any}
use Rattle.std.proofs.lemmas.Option.{slice_get_cases}
use Rattle.codec_graph.specs.CodecStates.{CodecState}
use Rattle.stream_format.specs.Layouts.{layout_of}
use Rattle.codec_sound.specs.declared.signals.Signal.{Signal}
use Rattle.heard_frames.specs.HeardLists.{signal_with_as}
use Rattle.codec_sound.specs.Keeping.{KeptSignals, AreKept, kept_pins}
use Rattle.hda_world.specs.Worlds.{codec_at}
use Rattle.device_core.specs.Codecs.{place_of}
use Rattle.device_core.proofs.Callers.{codec_is}
use Rattle.hda_controller.specs.Keeping.{signal_set, IsKeptFor, AreKeptFor}
use Rattle.hda_controller.specs.Controllers.{is_candidate_in, is_candidate_of_kind}
use Rattle.hda_controller.proofs.Renewed.{set-with}

module _ (kind : PinKind) (codecs : List CodecState) (tag word address pin : ℕ) (one : KeptSignals) where
  -- the pin is kept, and whatever its kept signal is, is its signal now
  pub record IsHeard : Type 0 where
    pub kept : Contains (kept_pins one.pins) pin
    pub signal : (result : Signal) → ((signal : ℕ → Signal) → AreKept signal one.pins → result ≡ signal pin) → result ≡ signal_with_as kind (codec_at address codecs) tag word (layout_of word) pin

  heard_of : (codec : CodecState) → codec_at address codecs ≡ Some codec → IsKeptFor kind tag word codec.graph codec.settings one → is_candidate_of_kind kind codecs address pin ≡ true → IsHeard
  heard_of codec at fits candidate = record {
    kept = Contains-from_any {eq = λ (a b : ℕ). a == b} (λ x y e. eqb-true x y e) pin (kept_pins one.pins) (fits.pins pin ∙ (ap (λ (o : Option CodecState). is_candidate_in kind o pin) (sym at) ∙ candidate));
    signal = λ result worked. worked (signal_set kind codec.graph codec.settings tag word) fits.signals
        ∙ (set-with kind codec tag word pin ∙ ap (λ (o : Option CodecState). signal_with_as kind o tag word (layout_of word) pin) (sym at));
  }

  pub heard_there : (kept : List KeptSignals) (place : ℕ) → AreKeptFor kind tag word codecs kept → place_of address codecs ≡ Some place → place < length codecs → slice_get kept place ≡ Some one
      → is_candidate_of_kind kind codecs address pin ≡ true → IsHeard
  heard_there kept place are found within there candidate = elim (slice_get_cases codecs place).1 [
    | inl here ↦ heard_of here.0 (codec_is address codecs place here.0 found ∙ ap Some here.3) (are.each place here.0 one here.2 there) candidate
    | inr past ↦ absurd (let end = past.0 in omega (arith, end, within))
  ]
