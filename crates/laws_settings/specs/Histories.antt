-- What codecs took, and the settings that came of it. This project's own, over the commands of High Definition Audio
-- 1.0a, 7.3.
use Rattle.std.specs.Prelude.{◌≡◌, ◌≤◌, ◌==◌, ℕ, List, length, map, filter, fold, take, drop, slice_get, Option, None}
use Rattle.std.specs.Prelude.{Some}
use Rattle.verb_codes.specs.declared.verbs.Command.{Command}
use Rattle.verb_codes.specs.Verbs.{reading_of}
use Rattle.codec_graph.specs.declared.raw.RawCodec.{RawCodec}
use Rattle.codec_graph.specs.Settings.{Entries}
use Rattle.codec_graph.specs.VerbMeaning.{after}
use Rattle.codec_graph.specs.CodecStates.{CodecState}
use Rattle.hda_world.specs.Worlds.{World, TakenCommand, codec_at}
use Rattle.hda_world.specs.Steps.{address_of}

-- ---- settings and words

-- the settings of a graph after what a word reads as: a word without reading changes nothing
abbrev pub after_reading : RawCodec → Entries → Option Command → Entries
after_reading graph settings None = settings
after_reading graph settings (Some command) = after graph settings command

-- and after some words, in order
abbrev pub settings_by : RawCodec → Entries → List ℕ → Entries
settings_by graph settings words = fold (λ entries word. after_reading graph entries (reading_of word)) settings words

-- the words of some commands that were taken, in order, and those that the codec with this address took
abbrev pub words_of : List TakenCommand → List ℕ
words_of commands = map (λ (one : TakenCommand). one.word) commands

abbrev pub words_to : ℕ → List TakenCommand → List ℕ
words_to address commands = words_of (filter (λ (one : TakenCommand). one.codec.graph.address == address) commands)

-- ---- codecs

-- the settings of a codec after the words that it took of these commands
abbrev pub settings_since : List TakenCommand → CodecState → Entries
settings_since commands first = settings_by first.graph first.settings (words_to first.graph.address commands)

-- a codec is what came of this one by the words that it took of these commands
pub record HasTaken (commands : List TakenCommand) (first now : CodecState) : Type 0 where
  pub graph : now.graph ≡ first.graph
  pub settings : now.settings ≡ settings_since commands first

-- the same of what was found at an address at first and what is found there now: a codec both times, or none
abbrev pub FoundTaken : List TakenCommand → Option CodecState → Option CodecState → Type 0
FoundTaken commands None None = Unit {0}
FoundTaken commands None (Some now) = ⊥
FoundTaken commands (Some first) None = ⊥
FoundTaken commands (Some first) (Some now) = HasTaken commands first now

-- the codec that the word names took the command, being what came of it by the commands before
pub record WasTaken (start : List CodecState) (before : List TakenCommand) (one : TakenCommand) : Type 0 where
  pub first : CodecState
  pub there : codec_at (address_of one.word) start ≡ Some first
  pub named : one.codec.graph.address ≡ address_of one.word
  pub codec : HasTaken before first one.codec

-- each of some commands was taken so, after those before it
abbrev pub WereTaken : List CodecState → List TakenCommand → Type 0
WereTaken start commands = (place : ℕ) (one : TakenCommand) → slice_get commands place ≡ Some one
    → WasTaken start (take place commands) one

-- ---- the world

-- codecs and all commands that codecs took, where the codecs were these when so many had been taken
pub record RemembersBy (start : List CodecState) (from : ℕ) (codecs : List CodecState) (commands : List TakenCommand)
    : Type 0 where
  pub within : from ≤ length commands
  pub graphs : map (λ (codec : CodecState). codec.graph) codecs ≡ map (λ (codec : CodecState). codec.graph) start
  pub settings : map (λ (codec : CodecState). codec.settings) codecs ≡ map (settings_since (drop from commands)) start
  pub taken : WereTaken start (drop from commands)

-- the world remembers what its codecs were when they had taken so many commands: each has its graph still and the
-- settings that came of the words that it took since, and each command since was taken by the codec that its word
-- names, as that was by then
abbrev pub Remembers : List CodecState → ℕ → World → Type 0
Remembers start from world = RemembersBy start from world.codecs world.commands
