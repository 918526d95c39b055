-- The words of commands do what the commands do, and those of the set-up verbs set a codec up.
use Rattle.codec_graph.specs.declared.pin_kind.PinKind.TheVariants.{Analog}
use Rattle.std.proofs.Common.{◌≡◌, ◌≤◌, ℕ, List, [], ◌∷◌, ◌++◌, map, drop, Option, Some, refl, sym, ap, subst, ◌∙◌}
use Rattle.std.specs.Prelude.{All}
use Rattle.std.proofs.lemmas.List.Elements.{All-head, All-tail, All-weaker}
use Rattle.verb_codes.specs.declared.verbs.Command.{Command}
use Rattle.verb_codes.specs.Verbs.{IsInRange, word_of}
use Rattle.codec_graph.specs.declared.raw.RawCodec.{RawCodec}
use Rattle.codec_graph.specs.Settings.{Entries, IsSettingsOf}
use Rattle.codec_graph.specs.VerbMeaning.{after}
use Rattle.codec_graph.specs.Cycles.{IsWellFormed}
use Rattle.codec_graph.specs.CodecStates.{CodecState}
use Rattle.stream_format.specs.declared.format.Format.{Format}
use Rattle.route_planner.specs.declared.routes.Plan.{Plan}
use Rattle.route_planner.specs.Plans.{IsPlan}
use Rattle.setup_verbs.specs.VerbList.{setup_verbs}
use Rattle.setup_verbs.specs.SetUp.{IsSetUp, settings_after, IsCommandOf}
use Rattle.setup_verbs.proofs.Callers.{lead_to_set_up, all_commands_of}
use Rattle.hda_world.specs.Worlds.{World, codec_at}
use Rattle.laws_settings.specs.Histories.{after_reading, settings_by, words_to, FoundTaken, Remembers}
use Rattle.laws_settings.specs.Readings.{IsReading, then_set_up}
use Rattle.laws_settings.specs.Addressed.{IsSetBy}
use Rattle.laws_settings.proofs.Words.{reading_of-complete, settings_by-append}
use Rattle.laws_settings.proofs.Readings.{readings_keep}
use Rattle.laws_settings.proofs.Remembering.{found_by}

pub by_words : (graph : RawCodec) (settings : Entries) (commands : List Command) → All IsInRange commands → settings_by graph settings (map word_of commands) ≡ settings_after graph settings commands
by_words graph settings [] all = refl
by_words graph settings (command ∷ commands) all =
    ap (λ reading. settings_by graph (after_reading graph settings reading) (map word_of commands)) (reading_of-complete command (All-head IsInRange command commands all))
    ∙ by_words graph (after graph settings command) commands (All-tail IsInRange command commands all)

-- after words that only ask
pub after_readings : (graph : RawCodec) (settings : Entries) (readings : List ℕ) (commands : List Command) → All IsReading readings → All IsInRange commands
    → settings_by graph settings (readings ++ map word_of commands) ≡ settings_after graph settings commands
after_readings graph settings readings commands asked ranged =
    settings_by-append graph settings readings (map word_of commands)
    ∙ ap (λ (entries : Entries). settings_by graph entries (map word_of commands)) (readings_keep graph settings readings asked)
    ∙ by_words graph settings commands ranged

-- a codec of the world that took such words
pub codec_set : (start : List CodecState) (from : ℕ) (world : World) (first now : CodecState) (readings : List ℕ) (commands : List Command) → Remembers start from world
    → codec_at first.graph.address start ≡ Some first → codec_at first.graph.address world.codecs ≡ Some now → All IsReading readings → All IsInRange commands
    → words_to first.graph.address (drop from world.commands) ≡ readings ++ map word_of commands → IsSetBy commands first now
codec_set start from world first now readings commands is before after asked ranged words =
    let since = drop from world.commands in
    let found = found_by start from world first.graph.address is in
    let has = subst (FoundTaken since (Some first)) after (subst (λ (old : Option CodecState). FoundTaken since old (codec_at first.graph.address world.codecs)) before found) in
    record {
      graph = has.graph;
      settings = has.settings ∙ ap (settings_by first.graph first.settings) words ∙ after_readings first.graph first.settings readings commands asked ranged;
    }

-- ---- the set-up verbs

module _ (graph : RawCodec) (plan : Plan) (format : Format) (tag : ℕ) (well : IsWellFormed graph) (is : IsPlan graph format plan) (low : graph.address ≤ 14) (some : 1 ≤ tag) (few : tag ≤ 15) where
  in_range : All IsInRange (setup_verbs graph plan format tag)
  in_range = All-weaker (IsCommandOf graph) IsInRange (λ command of. of.in_range low) (setup_verbs graph plan format tag) (all_commands_of Analog graph plan format tag well is few)

  pub set_up_by : (settings : Entries) (readings : List ℕ) → IsSettingsOf graph settings → All IsReading readings
      → IsSetUp graph (settings_by graph settings (then_set_up readings graph plan format tag)) plan format tag
  set_up_by settings readings of asked =
      subst (λ (entries : Entries). IsSetUp graph entries plan format tag) (sym (after_readings graph settings readings (setup_verbs graph plan format tag) asked in_range))
      (lead_to_set_up graph plan format tag well is some few settings of)

-- a codec that the set-up verbs set is set up
pub set_up_at : (first now : CodecState) (plan : Plan) (format : Format) (tag : ℕ) → IsWellFormed first.graph → IsPlan first.graph format plan → 1 ≤ tag → tag ≤ 15
    → IsSettingsOf first.graph first.settings → IsSetBy (setup_verbs first.graph plan format tag) first now → IsSetUp now.graph now.settings plan format tag
set_up_at first now plan format tag well is some few of set =
    subst (λ (graph : RawCodec). IsSetUp graph now.settings plan format tag) (sym set.graph)
    (subst (λ (entries : Entries). IsSetUp first.graph entries plan format tag) (sym set.settings) (lead_to_set_up first.graph plan format tag well is some few first.settings of))

pub codec_set_up : (start : List CodecState) (from : ℕ) (world : World) (first now : CodecState) (plan : Plan) (format : Format) (tag : ℕ) (readings : List ℕ) → Remembers start from world
    → codec_at first.graph.address start ≡ Some first → codec_at first.graph.address world.codecs ≡ Some now → IsWellFormed first.graph → IsSettingsOf first.graph first.settings
    → IsPlan first.graph format plan → first.graph.address ≤ 14 → 1 ≤ tag → tag ≤ 15 → All IsReading readings
    → words_to first.graph.address (drop from world.commands) ≡ then_set_up readings first.graph plan format tag → IsSetUp now.graph now.settings plan format tag
codec_set_up start from world first now plan format tag readings is before after well of planned low some few asked words =
    set_up_at first now plan format tag well planned some few of
    (codec_set start from world first now readings (setup_verbs first.graph plan format tag) is before after asked (in_range first.graph plan format tag well planned low some few) words)
