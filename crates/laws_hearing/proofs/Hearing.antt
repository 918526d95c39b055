-- What a routed pin heard of the link frames of a steady stream is what they carried.
use Rattle.std.proofs.Common.{◌≡◌, ◌==◌, ℕ, Bool, true, false, List, [], ◌∷◌, Option, Some, refl, ap, subst, ◌∙◌, if◌then◌else◌}
use Rattle.codec_graph.specs.declared.pin_kind.PinKind.{PinKind}
use Rattle.codec_graph.specs.declared.raw.RawCodec.{RawCodec}
use Rattle.codec_graph.specs.CodecStates.{CodecState}
use Rattle.codec_graph.specs.Settings.{Entries}
use Rattle.stream_format.specs.Layouts.{Layout, layout_of}
use Rattle.hda_world.specs.Worlds.{CarriedFrame, codec_at}
use Rattle.codec_sound.specs.declared.signals.Signal.{Signal}
use Rattle.heard_frames.specs.HeardLists.{block_size, heard_in, signal_with_as, signal_in_as, frame_items_as}
use Rattle.laws_hearing.specs.Steady.{settings_of, IsSteadyFrame}

-- ---- signals

-- codecs with the same graphs and settings give the same signals
signal_here : (kind : PinKind) (one other : CodecState) (rest rest' : List CodecState) (address tag word pin : ℕ) (layout : Layout) → one.graph ≡ other.graph → one.settings ≡ other.settings
    → signal_with_as kind (codec_at address rest) tag word (Some layout) pin ≡ signal_with_as kind (codec_at address rest') tag word (Some layout) pin
    → signal_with_as kind (codec_at address (one ∷ rest)) tag word (Some layout) pin ≡ signal_with_as kind (codec_at address (other ∷ rest')) tag word (Some layout) pin
signal_here kind one other rest rest' address tag word pin layout graph settings more =
    subst (λ (g : RawCodec). signal_with_as kind (codec_at address (one ∷ rest)) tag word (Some layout) pin ≡ signal_with_as kind (if g.address == address then Some other else codec_at address rest') tag word (Some layout) pin) graph
    (by (one.graph.address == address)) where
      by : (test : Bool) → signal_with_as kind (if test then Some one else codec_at address rest) tag word (Some layout) pin ≡ signal_with_as kind (if test then Some other else codec_at address rest') tag word (Some layout) pin
      by true = rw (graph, settings) refl
      by false = more

abbrev first_of : CodecState → List (RawCodec × Entries) → RawCodec
first_of codec [] = codec.graph
first_of codec (pair ∷ pairs) = pair.0

abbrev second_of : CodecState → List (RawCodec × Entries) → Entries
second_of codec [] = codec.settings
second_of codec (pair ∷ pairs) = pair.1

pub signal_same : (kind : PinKind) (one other : List CodecState) (address tag word pin : ℕ) (layout : Layout) → settings_of one ≡ settings_of other
    → signal_with_as kind (codec_at address one) tag word (Some layout) pin ≡ signal_with_as kind (codec_at address other) tag word (Some layout) pin
signal_same kind [] [] address tag word pin layout same = refl
signal_same kind [] (other ∷ others) address tag word pin layout same = cc
signal_same kind (one ∷ ones) [] address tag word pin layout same = cc
signal_same kind (one ∷ ones) (other ∷ others) address tag word pin layout same =
    let graph : one.graph ≡ other.graph = ap (first_of one) same in
    let settings : one.settings ≡ other.settings = ap (second_of one) same in
    let rest : settings_of ones ≡ settings_of others = cc in
    signal_here kind one other ones others address tag word pin layout graph settings (signal_same kind ones others address tag word pin layout rest)

-- ---- one link frame

module _ (kind : PinKind) (codecs : List CodecState) (tag word : ℕ) (layout : Layout) (known : layout_of word ≡ Some layout) where
  pub frame_is : (address pin : ℕ) (signal : Signal) (frame : CarriedFrame) → IsSteadyFrame codecs tag word (block_size layout) frame → signal_with_as kind (codec_at address codecs) tag word (Some layout) pin ≡ signal
      → frame_items_as kind address pin frame ≡ heard_in (Some layout) signal frame.carriage
  frame_is address pin signal frame steady is =
      let format : layout_of frame.format ≡ Some layout = ap layout_of steady.word_is ∙ known in
      let there : signal_in_as kind address pin frame ≡ signal =
      ap (λ (l : Option Layout). signal_with_as kind (codec_at address frame.codecs) frame.tag frame.format l pin) format
      ∙ ap (λ (t : ℕ). signal_with_as kind (codec_at address frame.codecs) t frame.format (Some layout) pin) steady.tag_is
      ∙ ap (λ (w : ℕ). signal_with_as kind (codec_at address frame.codecs) tag w (Some layout) pin) steady.word_is
      ∙ signal_same kind frame.codecs codecs address tag word pin layout steady.settings
      ∙ is in
      ap (λ (l : Option Layout). heard_in l (signal_in_as kind address pin frame) frame.carriage) format ∙ ap (λ (s : Signal). heard_in (Some layout) s frame.carriage) there
