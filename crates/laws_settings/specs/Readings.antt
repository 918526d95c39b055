-- Words that only ask: they change no setting. This project's own.
use Rattle.std.specs.Prelude.{◌≡◌, ℕ, List, ◌++◌, map}
use Rattle.verb_codes.specs.Verbs.{word_of, reading_of}
use Rattle.codec_graph.specs.declared.raw.RawCodec.{RawCodec}
use Rattle.codec_graph.specs.Settings.{Entries, IsSettingsOf}
use Rattle.codec_graph.specs.CodecStates.{CodecState}
use Rattle.codec_walk.specs.Replies.{HasDefaults}
use Rattle.stream_format.specs.declared.format.Format.{Format}
use Rattle.route_planner.specs.declared.routes.Plan.{Plan}
use Rattle.setup_verbs.specs.VerbList.{setup_verbs}
use Rattle.laws_settings.specs.Histories.{after_reading}

-- a word changes no setting of any graph
abbrev pub IsReading : ℕ → Type 0
IsReading word = (graph : RawCodec) (settings : Entries) → after_reading graph settings (reading_of word) ≡ settings

-- a codec has settings of its graph, and the configuration default of each of its pins is set to the pin's word
pub record KeepsDefaults (codec : CodecState) : Type 0 where
  pub settings : IsSettingsOf codec.graph codec.settings
  pub defaults : HasDefaults codec.graph codec.settings

-- words that only ask, and then those of the set-up verbs
abbrev pub then_set_up : List ℕ → RawCodec → Plan → Format → ℕ → List ℕ
then_set_up readings graph plan format tag = readings ++ map word_of (setup_verbs graph plan format tag)
