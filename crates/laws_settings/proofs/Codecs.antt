-- Codecs that stand in the place of others, and a change of one among them.
use Rattle.std.proofs.Common.{◌≡◌, ◌==◌, ℕ, Bool, true, false, List, [], ◌∷◌, ◌++◌, map, Some, refl, sym, ap, ◌∙◌, arith, if◌then◌else◌}
use Rattle.std.proofs.lemmas.Bool.Decides.{nat_tests}
use Rattle.verb_codes.specs.Verbs.{reading_of}
use Rattle.codec_graph.specs.declared.raw.RawCodec.{RawCodec}
use Rattle.codec_graph.specs.Settings.{Entries}
use Rattle.codec_graph.specs.CodecStates.{CodecState, taken}
use Rattle.hda_world.specs.Worlds.{TakenCommand, codec_at, with_codec}
use Rattle.laws_settings.specs.Histories.{after_reading, settings_since, FoundTaken}
use Rattle.laws_settings.proofs.Words.{made_of, settings_since-push}

-- a part that the change keeps is kept of all codecs
pub part-with_codec : {A : Type 0} (part : CodecState → A) (address : ℕ) (change : CodecState → CodecState) → ((codec : CodecState) → part (change codec) ≡ part codec)
    → (codecs : List CodecState) → map part (with_codec address change codecs) ≡ map part codecs
part-with_codec {A} part address change keeps [] = refl
part-with_codec {A} part address change keeps (codec ∷ codecs) =
    ap (λ (x : A). x ∷ map part (with_codec address change codecs)) (by (codec.graph.address == address))
    ∙ ap (λ (xs : List A). part codec ∷ xs) (part-with_codec part address change keeps codecs)
  where
    by : (named : Bool) → part (if named then change codec else codec) ≡ part codec
    by true = keeps codec
    by false = refl

-- ---- codecs that came of others

abbrev pub AreGraphs : List CodecState → List CodecState → Type 0
AreGraphs start codecs = map (λ (codec : CodecState). codec.graph) codecs ≡ map (λ (codec : CodecState). codec.graph) start

abbrev pub AreSettings : List TakenCommand → List CodecState → List CodecState → Type 0
AreSettings commands start codecs = map (λ (codec : CodecState). codec.settings) codecs ≡ map (settings_since commands) start

-- what is found at an address came of what was found there
pub found_taken : (commands : List TakenCommand) (address : ℕ) (start codecs : List CodecState) → AreGraphs start codecs → AreSettings commands start codecs
    → FoundTaken commands (codec_at address start) (codec_at address codecs)
found_taken commands address [] [] graphs settings = tt
found_taken commands address [] (now ∷ codecs) graphs settings = cc
found_taken commands address (first ∷ start) [] graphs settings = cc
found_taken commands address (first ∷ start) (now ∷ codecs) graphs settings =
    let graphs_after : AreGraphs start codecs = cc in
    let settings_after : AreSettings commands start codecs = cc in
    by (first.graph.address == address) (now.graph.address == address) (ap (λ (graph : RawCodec). graph.address == address) same)
    (found_taken commands address start codecs graphs_after settings_after)
  where
    same : now.graph ≡ first.graph
    same = cc

    set : now.settings ≡ settings_since commands first
    set = cc

    by : (before after : Bool) → after ≡ before → FoundTaken commands (codec_at address start) (codec_at address codecs)
        → FoundTaken commands (if before then Some first else codec_at address start) (if after then Some now else codec_at address codecs)
    by true true e later = record { graph = same; settings = set }
    by false false e later = later
    by true false e later = cc
    by false true e later = cc

turned : (taker first now address : ℕ) (here : Bool) → taker ≡ address → now ≡ first → (now == address) ≡ here → (taker == first) ≡ here
turned taker first now address true at same is = grind (arith, nat_tests)
turned taker first now address false at same is = grind (arith, nat_tests)

module _ (commands : List TakenCommand) (address : ℕ) (one : TakenCommand) (at : one.codec.graph.address ≡ address) where
  -- a codec that came of another, after one command more
  pub one_handed : (first now : CodecState) → now.graph ≡ first.graph → now.settings ≡ settings_since commands first
      → (if now.graph.address == address then taken now one.word else now).settings ≡ settings_since (commands ++ one ∷ []) first
  one_handed first now same set = by (now.graph.address == address) refl
    where
      turn : (here : Bool) → (now.graph.address == address) ≡ here → (one.codec.graph.address == first.graph.address) ≡ here
      turn here is = turned one.codec.graph.address first.graph.address now.graph.address address here at (ap (λ (graph : RawCodec). graph.address) same) is

      by : (here : Bool) → (now.graph.address == address) ≡ here → (if here then taken now one.word else now).settings ≡ settings_since (commands ++ one ∷ []) first
      by true is =
          made_of now (reading_of one.word)
          ∙ ap (λ (graph : RawCodec). after_reading graph now.settings (reading_of one.word)) same
          ∙ ap (λ (entries : Entries). after_reading first.graph entries (reading_of one.word)) set
          ∙ sym (settings_since-push commands one first true (turn true is))
      by false is = set ∙ sym (settings_since-push commands one first false (turn false is))

  -- and all of them
  pub all_handed : (start codecs : List CodecState) → AreGraphs start codecs → AreSettings commands start codecs
      → AreSettings (commands ++ one ∷ []) start (with_codec address (λ codec. taken codec one.word) codecs)
  all_handed [] [] graphs settings = refl
  all_handed [] (now ∷ codecs) graphs settings = cc
  all_handed (first ∷ start) [] graphs settings = cc
  all_handed (first ∷ start) (now ∷ codecs) graphs settings =
      let same : now.graph ≡ first.graph = cc in
      let set : now.settings ≡ settings_since commands first = cc in
      let graphs_after : AreGraphs start codecs = cc in
      let settings_after : AreSettings commands start codecs = cc in
      ap (λ (entries : Entries). entries ∷ map (λ (codec : CodecState). codec.settings) (with_codec address (λ codec. taken codec one.word) codecs)) (one_handed first now same set)
      ∙ ap (λ (rest : List Entries). settings_since (commands ++ one ∷ []) first ∷ rest) (all_handed start codecs graphs_after settings_after)
