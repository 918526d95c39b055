-- Settings after words, one after the other.
use Rattle.std.proofs.Common.{◌≡◌, ◌==◌, ℕ, Bool, true, false, List, [], ◌∷◌, ◌++◌, append-nil, Option, None, Some, refl, ap, ◌∙◌, if◌then◌else◌}
use Rattle.std.specs.Prelude.{filter}
use Rattle.std.proofs.lemmas.List.{map-append}
use Rattle.std.proofs.lemmas.List.Elements.{filter-append}
use Rattle.std.proofs.lemmas.List.Sums.{fold-append}
use Rattle.verb_codes.specs.declared.verbs.Command.{Command}
use Rattle.verb_codes.specs.Verbs.{reading_of}
use Rattle.codec_graph.specs.declared.raw.RawCodec.{RawCodec}
use Rattle.codec_graph.specs.Settings.{Entries}
use Rattle.codec_graph.specs.CodecStates.{CodecState, reading_settings}
use Rattle.hda_world.specs.Worlds.{TakenCommand}
use Rattle.laws_settings.specs.Histories.{after_reading, settings_by, words_of, words_to, settings_since}
-- the word of a command in range reads as it
pub use Rattle.verb_codes.proofs.Callers.{reading_of-complete}

-- what a codec makes of a reading
pub made_of : (codec : CodecState) (command : Option Command) → reading_settings codec command ≡ after_reading codec.graph codec.settings command
made_of codec None = refl
made_of codec (Some command) = refl

-- words, and then others
pub settings_by-append : (graph : RawCodec) (settings : Entries) (front back : List ℕ) → settings_by graph settings (front ++ back) ≡ settings_by graph (settings_by graph settings front) back
settings_by-append graph settings front back = fold-append (λ entries word. after_reading graph entries (reading_of word)) settings front back

pub words_to-append : (address : ℕ) (front back : List TakenCommand) → words_to address (front ++ back) ≡ words_to address front ++ words_to address back
words_to-append address front back =
    ap words_of (filter-append (λ (one : TakenCommand). one.codec.graph.address == address) front back)
    ∙ map-append (λ (one : TakenCommand). one.word) (filter (λ (one : TakenCommand). one.codec.graph.address == address) front) (filter (λ (one : TakenCommand). one.codec.graph.address == address) back)

-- the word of one command more, where it went to the address or elsewhere
words_to-one : (address : ℕ) (one : TakenCommand) (here : Bool) → (one.codec.graph.address == address) ≡ here → words_to address (one ∷ []) ≡ (if here then one.word ∷ [] else [])
words_to-one address one true is = rw is refl
words_to-one address one false is = rw is refl

words_to-push : (address : ℕ) (commands : List TakenCommand) (one : TakenCommand) (here : Bool) → (one.codec.graph.address == address) ≡ here
    → words_to address (commands ++ one ∷ []) ≡ words_to address commands ++ (if here then one.word ∷ [] else [])
words_to-push address commands one here is =
    words_to-append address commands (one ∷ []) ∙ ap (λ (more : List ℕ). words_to address commands ++ more) (words_to-one address one here is)

-- settings after one command more
pub settings_since-push : (commands : List TakenCommand) (one : TakenCommand) (first : CodecState) (here : Bool) → (one.codec.graph.address == first.graph.address) ≡ here
    → settings_since (commands ++ one ∷ []) first ≡ (if here then after_reading first.graph (settings_since commands first) (reading_of one.word) else settings_since commands first)
settings_since-push commands one first true is =
    ap (settings_by first.graph first.settings) (words_to-push first.graph.address commands one true is)
    ∙ settings_by-append first.graph first.settings (words_to first.graph.address commands) (one.word ∷ [])
settings_since-push commands one first false is =
    ap (settings_by first.graph first.settings) (words_to-push first.graph.address commands one false is ∙ append-nil (words_to first.graph.address commands))
