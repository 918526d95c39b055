-- What pins hear once speakers are switched: each by the signals that its marks make.
use Rattle.std.proofs.Common.{◌≡◌, ℕ, Bool, false, List, [], ◌∷◌, map, Option, None, Some, refl, sym, subst}
use Rattle.std.specs.Prelude.{All}
use Rattle.std.proofs.lemmas.List.Elements.{All-cons, All-head, All-nil, All-tail}
use Rattle.codec_graph.specs.declared.raw.RawCodec.{RawCodec}
use Rattle.codec_graph.specs.Cycles.{IsWellFormed}
use Rattle.codec_graph.specs.Settings.{IsSettingsOf}
use Rattle.codec_graph.specs.CodecStates.{CodecState}
use Rattle.codec_graph.specs.declared.pin_kind.PinKind.{PinKind}
use Rattle.codec_sound.specs.declared.signals.Signal.{Signal}
use Rattle.codec_sound.specs.declared.signals.Signal.TheVariants.{Pair, Silence}
use Rattle.stream_format.specs.declared.format.Format.{Format}
use Rattle.stream_format.specs.Words.{format_word}
use Rattle.stream_format.specs.Layouts.{Layout, layout_of, layout}
use Rattle.route_planner.specs.declared.routes.Plan.{Plan}
use Rattle.hda_world.specs.Worlds.{World, codec_at}
use Rattle.hda_world.proofs.Callers.{found_address, found_all}
use Rattle.heard_frames.specs.declared.heard.Heard.{Heard}
use Rattle.heard_frames.specs.HeardLists.{block_size, heard_as, signal_with_as}
use Rattle.heard_frames.specs.Marks.{marks_of_as, switched_signals}
use Rattle.period_writer.specs.Runs.{Tally}
use Rattle.laws_settings.specs.Histories.{Remembers}
use Rattle.laws_settings.specs.Frames.{RemembersFrames}
use Rattle.laws_hearing.specs.Plays.{IsSilent}
use Rattle.laws_hearing.specs.BySignals.{AreBySignals, IsSignalAlong}
use Rattle.laws_hearing.specs.Streams.{Streams}
use Rattle.laws_stream.specs.Signalled.{HearBySignals}
use Rattle.laws_speakers.specs.SwitchWords.{AreSwitching}
use Rattle.laws_switching.specs.Speakers.{is_switched}
use Rattle.laws_switching.specs.Hearing.{HearSwitched}
use Rattle.laws_switching.specs.Turned.{HasTurned}

-- the laws that this goes by
pub record MarkLaws : Type 0 where
  pub pair : (is_speaker : ℕ → ℕ → Bool) (kind : PinKind) (start : List CodecState) (from : ℕ) (world : World) (first : CodecState) (tag word block : ℕ) (layout : Layout) (pin pair : ℕ)
      → Remembers start from world → RemembersFrames start from 0 world → AreSwitching is_speaker from world → Streams tag word block 0 world → layout_of word ≡ Some layout
      → codec_at first.graph.address start ≡ Some first → IsWellFormed first.graph → IsSettingsOf first.graph first.settings
      → signal_with_as kind (Some first) tag word (Some layout) pin ≡ Pair pair
      → IsSignalAlong kind first.graph.address pin (switched_signals (Pair pair) (marks_of_as kind first.graph.address pin world.commands world.carried)) world.carried
  pub others : (is_speaker : ℕ → ℕ → Bool) (kind : PinKind) (start : List CodecState) (from : ℕ) (world : World) (tag word block : ℕ) (layout : Layout) (address pin : ℕ) (signal : Signal)
      → Remembers start from world → RemembersFrames start from 0 world → AreSwitching is_speaker from world → Streams tag word block 0 world → layout_of word ≡ Some layout → is_speaker address pin ≡ false
      → signal_with_as kind (codec_at address start) tag word (Some layout) pin ≡ signal → IsSignalAlong kind address pin (λ place. signal) world.carried
  pub unmarked : (is_speaker : ℕ → ℕ → Bool) (kind : PinKind) (start : List CodecState) (from : ℕ) (world : World) (address pin : ℕ) → Remembers start from world → AreSwitching is_speaker from world
      → is_speaker address pin ≡ false → marks_of_as kind address pin world.commands world.carried ≡ []
  pub silent : (list : List Heard) → AreBySignals (λ place. Silence) list → All IsSilent list

-- of the graphs of codecs what holds of all
pub graphs_all : (P : RawCodec → Type 0) (codecs : List CodecState) → All P (map (λ (codec : CodecState). codec.graph) codecs) → All (λ (codec : CodecState). P codec.graph) codecs
graphs_all P [] all = All-nil (λ (codec : CodecState). P codec.graph)
graphs_all P (first ∷ codecs) all =
    All-cons (λ (codec : CodecState). P codec.graph) first codecs (All-head P first.graph (map (λ (codec : CodecState). codec.graph) codecs) all)
    (graphs_all P codecs (All-tail P first.graph (map (λ (codec : CodecState). codec.graph) codecs) all))

module _ (laws : MarkLaws) (known : (format : Format) → layout_of (format_word format) ≡ Some (layout format)) (format : Format) (graphs : List RawCodec) (plans : List Plan) (pcm : List ℕ) (given_up : Bool) (tally : Tally) (world : World)
    (turned : HasTurned format graphs plans world) (well : All IsWellFormed graphs) (streams : Streams 1 (format_word format) (block_size (layout format)) 0 world) (hear : HearBySignals given_up format pcm tally world.carried) where
  abbrev Comes : (kind : PinKind) (address pin : ℕ) → Option CodecState → Signal → Type 0
  Comes kind address pin found signal = signal_with_as kind found 1 (format_word format) (Some (layout format)) pin ≡ signal

  abbrev Along : (kind : PinKind) (address pin : ℕ) → Signal → Type 0
  Along kind address pin signal = IsSignalAlong kind address pin (switched_signals signal (marks_of_as kind address pin world.commands world.carried)) world.carried

  -- the signal of a pin to which a pair comes
  pair_along : (kind : PinKind) (address pin pair : ℕ) (found : Option CodecState) → codec_at address turned.start ≡ found → Comes kind address pin found (Pair pair) → Along kind address pin (Pair pair)
  pair_along kind address pin pair None at comes = cc
  pair_along kind address pin pair (Some first) at comes =
      let same : first.graph.address ≡ address = found_address address turned.start first at in
      let graph_well = found_all (λ (codec : CodecState). IsWellFormed codec.graph) address turned.start first at (graphs_all IsWellFormed turned.start (subst (All IsWellFormed) (sym turned.graphs_are) well)) in
      let of = found_all (λ (codec : CodecState). IsSettingsOf codec.graph codec.settings) address turned.start first at turned.settings in
      subst (λ (address : ℕ). Along kind address pin (Pair pair)) same
      (laws.pair (is_switched graphs plans) kind turned.start turned.from world first 1 (format_word format) (block_size (layout format)) (layout format) pin pair
      turned.remembers turned.frames turned.switching streams (known format) (subst (λ (address : ℕ). codec_at address turned.start ≡ Some first) (sym same) at) graph_well of comes)

  pub heard_switched : HearSwitched (is_switched graphs plans) turned.start format pcm given_up tally world.commands world.carried
  heard_switched = record {
    plays = λ kind address pin pair comes.
        hear.plays kind address pin (switched_signals (Pair pair) (marks_of_as kind address pin world.commands world.carried)) (pair_along kind address pin pair (codec_at address turned.start) refl comes);
    made = λ kind address pin pair comes.
        hear.made kind address pin (switched_signals (Pair pair) (marks_of_as kind address pin world.commands world.carried)) (pair_along kind address pin pair (codec_at address turned.start) refl comes);
    all_sent = λ kept drained kind address pin pair comes.
        hear.all_sent kept drained kind address pin (switched_signals (Pair pair) (marks_of_as kind address pin world.commands world.carried)) (pair_along kind address pin pair (codec_at address turned.start) refl comes);
    unmarked = λ kind address pin none. laws.unmarked (is_switched graphs plans) kind turned.start turned.from world address pin turned.remembers turned.switching none;
    silent = λ kind address pin none comes.
        laws.silent (heard_as kind address pin world.carried)
        (hear.made kind address pin (λ place. Silence)
        (laws.others (is_switched graphs plans) kind turned.start turned.from world 1 (format_word format) (block_size (layout format)) (layout format) address pin Silence
        turned.remembers turned.frames turned.switching streams (known format) none comes));
  }
