-- That link frames carry whole blocks of one stream, whatever settings codecs have. This project's own.
use Rattle.std.specs.Prelude.{◌≡◌, ◌≢◌, ◌≤◌, ◌⊎◌, ℕ, ◌*◌, ◌/◌, List, length, drop, All}
use Rattle.hda_registers.specs.Fields.{Descriptor}
use Rattle.hda_registers.specs.Laws.{IsBesideStreams}
use Rattle.hda_world.specs.Worlds.{World, CarriedFrame}
use Rattle.hda_world.specs.Events.{Event, Stepped, Begin, End, Read, Write, DmaRead, DmaWrite}
use Rattle.hda_world.specs.Streaming.{bytes_of}
use Rattle.laws_hearing.specs.Steady.{IsStatusOrStop}

-- a link frame found the stream with this tag and format word, and carried whole blocks of so many bytes
pub record IsStreamFrame (tag word block : ℕ) (frame : CarriedFrame) : Type 0 where
  pub tag_is : frame.tag ≡ tag
  pub word_is : frame.format ≡ word
  pub blocks : ℕ
  pub whole : length (bytes_of frame.carriage) ≡ blocks * block

-- so did all link frames since this place of their history, and so is the stream now
pub record StreamsBy (tag word block from : ℕ) (output : Descriptor) (carried : List CarriedFrame) : Type 0 where
  pub tag_is : output.tag ≡ tag
  pub word_is : output.format ≡ word
  pub begun : from ≤ length carried
  pub frames : All (IsStreamFrame tag word block) (drop from carried)

abbrev pub Streams : (tag word block from : ℕ) → World → Type 0
Streams tag word block from world = StreamsBy tag word block from world.registers.output world.carried

-- an event writes neither GCTL nor anything of the descriptors but a status or the stop
abbrev pub LeavesStream : Event → Type 0
LeavesStream (Write at width value) = (at / 4 ≢ 2) × (IsBesideStreams at ⊎ IsStatusOrStop at width value)
LeavesStream (Stepped step) = Unit {0}
LeavesStream Begin = Unit {0}
LeavesStream End = Unit {0}
LeavesStream (Read at width value) = Unit {0}
LeavesStream (DmaRead at bytes) = Unit {0}
LeavesStream (DmaWrite at bytes) = Unit {0}
