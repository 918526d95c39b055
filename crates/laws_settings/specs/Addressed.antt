-- Which words and commands go to the codec with an address, and what comes of a codec's own. This project's own, over
-- bits 31:28 of a command (High Definition Audio 1.0a, 7.3).
use Rattle.std.specs.Prelude.{◌≡◌, ◌≤◌, ◌==◌, ℕ, List, filter, All}
use Rattle.verb_codes.specs.declared.verbs.Command.{Command}
use Rattle.codec_graph.specs.declared.raw.RawCodec.{RawCodec}
use Rattle.codec_graph.specs.Cycles.{IsWellFormed}
use Rattle.codec_graph.specs.CodecStates.{CodecState}
use Rattle.setup_verbs.specs.SetUp.{IsCommandOf, settings_after}
use Rattle.hda_world.specs.Steps.{address_of}

-- of some words those that name this address, of commands those that go there, and of graphs those that have it
abbrev pub words_naming : ℕ → List ℕ → List ℕ
words_naming address words = filter (λ (word : ℕ). address_of word == address) words

abbrev pub commands_to : ℕ → List Command → List Command
commands_to address commands = filter (λ (command : Command). command.codec == address) commands

abbrev pub graphs_at : ℕ → List RawCodec → List RawCodec
graphs_at address graphs = filter (λ (graph : RawCodec). graph.address == address) graphs

-- each graph's commands go to its codec
abbrev pub GoToTheirCodecs : (RawCodec → List Command) → List RawCodec → Type 0
GoToTheirCodecs commands graphs = All (λ (graph : RawCodec). All (λ (command : Command). command.codec ≡ graph.address)
    (commands graph)) graphs

-- codecs with these graphs can be walked over, and their commands can be encoded
pub record CanBeSent (commands : RawCodec → List Command) (graphs : List RawCodec) : Type 0 where
  pub well_formed : All IsWellFormed graphs
  pub addresses : All (λ (graph : RawCodec). graph.address ≤ 14) graphs
  pub commands_are : All (λ (graph : RawCodec). All (IsCommandOf graph) (commands graph)) graphs

-- a codec is what these commands make of this one
pub record IsSetBy (commands : List Command) (first now : CodecState) : Type 0 where
  pub graph : now.graph ≡ first.graph
  pub settings : now.settings ≡ settings_after first.graph first.settings commands
