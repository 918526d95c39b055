-- What a codec can answer while it is walked over. Its settings may differ from answer to answer.
use Rattle.std.specs.Prelude.{◌≡◌, ℕ, Bool, true, List, [], ◌∷◌, Some, ⊤}
use Rattle.codec_graph.specs.declared.raw.RawNode.{RawNode}
use Rattle.codec_graph.specs.declared.raw.RawCodec.{RawCodec}
use Rattle.codec_graph.specs.declared.controls.Control.TheVariants as control
use Rattle.codec_graph.specs.Widget.{node_at, is_pin}
use Rattle.codec_graph.specs.Settings.{Entries, setting_of, IsSettingsOf}
use Rattle.codec_graph.specs.VerbMeaning.{answer_of}
use Rattle.verb_codes.specs.declared.verbs.Command.{Command}

-- the configuration default of each pin is set to the pin's word
abbrev pub HasDefaults : RawCodec → Entries → Type 0
HasDefaults codec settings =
    (nid : ℕ) (node : RawNode) → node_at codec nid ≡ Some node → is_pin node ≡ true
    → setting_of settings nid control.Default ≡ node.default

-- with some settings that keep the pins' defaults, and something or nothing plugged in, the codec answers the command
-- with the word
pub record CanAnswer (codec : RawCodec) (command : Command) (answer : ℕ) : Type 0 where
  pub settings : Entries
  pub present : List Bool
  pub are_settings : IsSettingsOf codec settings
  pub defaults : HasDefaults codec settings
  pub is_answer : answer ≡ answer_of codec settings present command

-- the words answer the first of the commands, in order: at most as many as there are commands
abbrev pub AreReplies : (Command → ℕ → Type 0) → List Command → List ℕ → Type 0
AreReplies Answers commands [] = ⊤
AreReplies Answers [] (answer ∷ answers) = ⊥
AreReplies Answers (command ∷ commands) (answer ∷ answers) = Answers command answer
    × AreReplies Answers commands answers
