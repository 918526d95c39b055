-- That no setting changes while the output stream plays: no command is under way, and each link frame found the codecs
-- as they are. This project's own.
use Rattle.std.specs.Prelude.{◌≡◌, ◌≢◌, ◌≤◌, ◌<◌, ◌⊎◌, ℕ, ◌*◌, ◌/◌, List, length, map, drop, All}
use Rattle.codec_graph.specs.declared.raw.RawCodec.{RawCodec}
use Rattle.codec_graph.specs.CodecStates.{CodecState}
use Rattle.codec_graph.specs.Settings.{Entries}
use Rattle.hda_registers.specs.Fields.{Descriptor}
use Rattle.hda_registers.specs.Laws.{IsBesideStreams}
use Rattle.hda_registers.specs.declared.shapes.Width.{Width}
use Rattle.hda_registers.specs.declared.shapes.Width.TheVariants.{One}
use Rattle.hda_world.specs.Worlds.{World, CarriedFrame}
use Rattle.hda_world.specs.Events.{Event, Stepped, Begin, End, Read, Write, DmaRead, DmaWrite}
use Rattle.hda_world.specs.Streaming.{bytes_of}

-- what a pin's signal hangs on of codecs: their graphs and settings
abbrev pub settings_of : List CodecState → List (RawCodec × Entries)
settings_of codecs = map (λ (codec : CodecState). (codec.graph, codec.settings)) codecs

-- a link frame found these codecs' settings and the stream with this tag and format word, and carried whole blocks of
-- so many bytes
pub record IsSteadyFrame (codecs : List CodecState) (tag word block : ℕ) (frame : CarriedFrame) : Type 0 where
  pub settings : settings_of frame.codecs ≡ settings_of codecs
  pub tag_is : frame.tag ≡ tag
  pub word_is : frame.format ≡ word
  pub blocks : ℕ
  pub whole : length (bytes_of frame.carriage) ≡ blocks * block

-- so did all link frames since this place of their history, and so are codecs and stream now; CORB has no command that
-- was not fetched
pub record SteadyBy (codecs : List CodecState) (tag word block from : ℕ) (now : List CodecState) (read write : ℕ)
    (output : Descriptor) (carried : List CarriedFrame) : Type 0 where
  pub settings : settings_of now ≡ settings_of codecs
  pub idle : read ≡ write
  pub tag_is : output.tag ≡ tag
  pub word_is : output.format ≡ word
  pub begun : from ≤ length carried
  pub frames : All (IsSteadyFrame codecs tag word block) (drop from carried)

abbrev pub Steady : (codecs : List CodecState) (tag word block from : ℕ) → World → Type 0
Steady codecs tag word block from world =
    SteadyBy codecs tag word block from world.codecs world.registers.global.corb_read_pointer
    world.registers.global.corb_write_pointer
    world.registers.output world.carried

-- a write of a descriptor's status (STS, 3.3.36), or the one that stops the output stream (CTL, 3.3.35)
abbrev pub IsStatusOrStop : (at : ℕ) → Width → (value : ℕ) → Type 0
IsStatusOrStop at width value = (width ≡ One) × ((at ≡ 0x83) ⊎ ((at ≡ 0xA3) ⊎ ((at ≡ 0xA0) × (value ≡ 0))))

-- a place that is neither in GCTL nor in a register of CORB
pub record IsBesideCommands (at : ℕ) : Type 0 where
  pub control : at / 4 ≢ 2
  pub corb : (at < 0x40) ⊎ (0x50 ≤ at)

-- an event writes neither GCTL nor a register of CORB, and of the descriptors nothing but a status or the stop
abbrev pub LeavesSteady : Event → Type 0
LeavesSteady (Write at width value) = IsBesideCommands at × (IsBesideStreams at ⊎ IsStatusOrStop at width value)
LeavesSteady (Stepped step) = Unit {0}
LeavesSteady Begin = Unit {0}
LeavesSteady End = Unit {0}
LeavesSteady (Read at width value) = Unit {0}
LeavesSteady (DmaRead at bytes) = Unit {0}
LeavesSteady (DmaWrite at bytes) = Unit {0}

-- ---- before a stream is set going

-- CORB has no command that was not fetched, and codecs have the graphs and settings of these
pub record AreIdleBy (codecs : List CodecState) (now : List CodecState) (read write : ℕ) : Type 0 where
  pub settings : settings_of now ≡ settings_of codecs
  pub idle : read ≡ write

abbrev pub AreIdle : (codecs : List CodecState) → World → Type 0
AreIdle codecs world = AreIdleBy codecs world.codecs world.registers.global.corb_read_pointer
    world.registers.global.corb_write_pointer

-- an event writes neither GCTL nor a register of CORB
abbrev pub LeavesCommands : Event → Type 0
LeavesCommands (Write at width value) = IsBesideCommands at
LeavesCommands (Stepped step) = Unit {0}
LeavesCommands Begin = Unit {0}
LeavesCommands End = Unit {0}
LeavesCommands (Read at width value) = Unit {0}
LeavesCommands (DmaRead at bytes) = Unit {0}
LeavesCommands (DmaWrite at bytes) = Unit {0}
