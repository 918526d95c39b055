-- Words that only ask leave settings as they are.
use Rattle.std.proofs.Common.{◌≡◌, ◌==◌, ℕ, Bool, true, false, List, [], ◌∷◌, map, take, drop, Some, refl, sym, ap, subst, ◌∙◌, if◌then◌else◌}
use Rattle.std.specs.Prelude.{All, slice_get, filter}
use Rattle.std.proofs.lemmas.List.Elements.{All-nil, All-cons, All-head, All-tail}
use Rattle.verb_codes.specs.declared.verbs.Command.{Command}
use Rattle.verb_codes.specs.Verbs.{reading_of}
use Rattle.codec_graph.specs.declared.raw.RawCodec.{RawCodec}
use Rattle.codec_graph.specs.Settings.{Entries, IsSettingsOf}
use Rattle.codec_graph.specs.CodecStates.{CodecState, reading_answer, answer_to}
use Rattle.codec_walk.specs.Replies.{HasDefaults, CanAnswer}
use Rattle.hda_world.specs.Worlds.{World, TakenCommand}
use Rattle.laws_settings.specs.Histories.{settings_by, words_of, words_to, settings_since, Remembers}
use Rattle.laws_settings.specs.Readings.{IsReading, KeepsDefaults}
use Rattle.hda_world.proofs.Callers.{found_all}

pub readings_keep : (graph : RawCodec) (settings : Entries) (words : List ℕ) → All IsReading words → settings_by graph settings words ≡ settings
readings_keep graph settings [] all = refl
readings_keep graph settings (word ∷ words) all =
    ap (λ (entries : Entries). settings_by graph entries words) (All-head IsReading word words all graph settings)
    ∙ readings_keep graph settings words (All-tail IsReading word words all)

-- where all words only ask, so do those that went to one address
pub readings_to : (address : ℕ) (commands : List TakenCommand) → All IsReading (words_of commands) → All IsReading (words_to address commands)
readings_to address [] all = All-nil IsReading
readings_to address (one ∷ commands) all = by (one.codec.graph.address == address) (readings_to address commands (All-tail IsReading one.word (words_of commands) all))
  where
    by : (here : Bool) → All IsReading (words_to address commands)
        → All IsReading (words_of (if here then one ∷ filter (λ (one : TakenCommand). one.codec.graph.address == address) commands else filter (λ (one : TakenCommand). one.codec.graph.address == address) commands))
    by true rest = All-cons IsReading one.word (words_to address commands) (All-head IsReading one.word (words_of commands) all) rest
    by false rest = rest

since_readings : (commands : List TakenCommand) → All IsReading (words_of commands) → (codecs : List CodecState) → map (settings_since commands) codecs ≡ map (λ (codec : CodecState). codec.settings) codecs
since_readings commands all [] = refl
since_readings commands all (codec ∷ codecs) =
    ap (λ (entries : Entries). entries ∷ map (settings_since commands) codecs)
    (readings_keep codec.graph codec.settings (words_to codec.graph.address commands) (readings_to codec.graph.address commands all))
    ∙ ap (λ (rest : List Entries). codec.settings ∷ rest) (since_readings commands all codecs)

-- while codecs were only asked, settings are as they were
pub only_asked : (start : List CodecState) (from : ℕ) (world : World) → Remembers start from world → All IsReading (words_of (drop from world.commands))
    → map (λ (codec : CodecState). codec.settings) world.codecs ≡ map (λ (codec : CodecState). codec.settings) start
only_asked start from world is all = is.settings ∙ since_readings (drop from world.commands) all start

-- ---- an answer

of_same : (P : RawCodec → Entries → Type 0) (graph other : RawCodec) (settings more : Entries) → other ≡ graph → more ≡ settings → P graph settings → P other more
of_same P graph other settings more same kept is = subst (λ (g : RawCodec). P g more) (sym same) (subst (P graph) (sym kept) is)

-- what a codec answers that was only asked before is a reply
pub reply_to : (start : List CodecState) (from : ℕ) (world : World) (place : ℕ) (one : TakenCommand) (command : Command) → Remembers start from world → All KeepsDefaults start
    → slice_get (drop from world.commands) place ≡ Some one → All IsReading (words_to one.codec.graph.address (take place (drop from world.commands)))
    → reading_of one.word ≡ Some command → CanAnswer one.codec.graph command (answer_to one.codec one.word)
reply_to start from world place one command is all there asked reads =
    let before = take place (drop from world.commands) in
    let was = is.taken place one there in
    let first = was.first in
    let begun = found_all KeepsDefaults _ start first was.there all in
    let to_it : All IsReading (words_to first.graph.address before) = subst (λ (graph : RawCodec). All IsReading (words_to graph.address before)) was.codec.graph asked in
    let kept : one.codec.settings ≡ first.settings = was.codec.settings ∙ readings_keep first.graph first.settings (words_to first.graph.address before) to_it in
    record {
      settings = one.codec.settings;
      present = one.codec.present;
      are_settings = of_same IsSettingsOf first.graph one.codec.graph first.settings one.codec.settings was.codec.graph kept begun.settings;
      defaults = of_same HasDefaults first.graph one.codec.graph first.settings one.codec.settings was.codec.graph kept begun.defaults;
      is_answer = ap (reading_answer one.codec) reads;
    }

pub reply_after : (start : List CodecState) (from : ℕ) (world : World) (place : ℕ) (one : TakenCommand) (command : Command) → Remembers start from world → All KeepsDefaults start
    → slice_get (drop from world.commands) place ≡ Some one → All IsReading (words_of (take place (drop from world.commands)))
    → reading_of one.word ≡ Some command → CanAnswer one.codec.graph command (answer_to one.codec one.word)
reply_after start from world place one command is all there asked reads =
    reply_to start from world place one command is all there (readings_to one.codec.graph.address (take place (drop from world.commands)) asked) reads
