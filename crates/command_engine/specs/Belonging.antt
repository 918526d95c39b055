-- That an answer belongs to its command, and what a poll and a submission leave. This project's own.
use Rattle.std.specs.Prelude.{◌≡◌, ℕ, ◌%◌, ◌^◌, List, [], ◌∷◌, length, map, drop, Option, None, Some}
use Rattle.codec_graph.specs.Cycles.{IsWellFormed}
use Rattle.codec_graph.specs.Settings.{IsSettingsOf}
use Rattle.codec_graph.specs.CodecStates.{CodecState, answer_to}
use Rattle.world_rings.specs.declared.response.Response.{Response}
use Rattle.hda_world.specs.Worlds.{World, TakenCommand}
use Rattle.command_engine.specs.declared.ring_places.RingPlaces.{RingPlaces}
use Rattle.command_engine.specs.declared.answers.Outstanding.{Outstanding}
use Rattle.command_engine.specs.Entries.{responses_in}
use Rattle.command_engine.specs.Polling.{PollReads, found_by, rings_polled}
use Rattle.command_engine.specs.Fetchings.{graph_at, graphs_in, Stands}

-- a response as an entry of RIRB holds it: 32 bits of the answer
abbrev pub as_held : Response → Response
as_held response = record response { answer = response.answer % 2 ^ 32 }

-- since the first `from` commands codecs took one more, the outstanding one. The codec that it asks took it, of these
-- on the link, and the value is its answer by that codec with the settings and the presence that it had when it took
-- it, as an entry holds it
pub record IsAnswered (from : ℕ) (command : Outstanding) (codecs : List CodecState) (commands : List TakenCommand)
    (value : ℕ) : Type 0 where
  pub taken : TakenCommand
  pub only : drop from commands ≡ taken ∷ []
  pub word : taken.word ≡ command.word
  pub address : taken.codec.graph.address ≡ command.codec
  pub graph : graph_at command.codec (graphs_in codecs) ≡ Some taken.codec.graph
  pub answer : value ≡ answer_to taken.codec taken.word % 2 ^ 32

abbrev pub Belongs : ℕ → Option Outstanding → List CodecState → List TakenCommand → Option ℕ → Type 0
Belongs from outstanding codecs commands None = Unit {0}
Belongs from None codecs commands (Some value) = ⊥
Belongs from (Some command) codecs commands (Some value) = IsAnswered from command codecs commands value

-- how many commands were taken before the one that is outstanding after a poll
abbrev pub from_after : Option ℕ → ℕ → List TakenCommand → ℕ
from_after None from commands = from
from_after (Some value) from commands = length commands

-- a poll read just the responses that were written since the last one, the answer that it found belongs to the
-- outstanding command, and all that was written is read
pub record PollLeaves (from read corb rirb : ℕ) (rings : RingPlaces) (reads : PollReads) (world : World) : Type 0 where
  pub responses : responses_in reads.entries ≡ map as_held (drop read world.written)
  pub belongs : Belongs from rings.outstanding world.codecs world.commands (found_by rings reads)
  pub stands : Stands (from_after (found_by rings reads) from world.commands) (length world.written) corb rirb
      (rings_polled rings reads) world

-- a codec's graph is well-formed, and its settings are of that graph
pub record IsSettled (codec : CodecState) : Type 0 where
  pub well_formed : IsWellFormed codec.graph
  pub settings : IsSettingsOf codec.graph codec.settings

-- such a codec took the command
abbrev pub TookSettled : TakenCommand → Type 0
TookSettled taken = IsSettled taken.codec
