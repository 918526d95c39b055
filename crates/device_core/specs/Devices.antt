-- A device as contracts see it, and the worlds that it is. This project's own.
use Rattle.std.specs.Prelude.{◌≡◌, ◌≤◌, ◌⊎◌, ◌&&◌, ◌+◌, ℕ, Bool, if◌then◌else◌, nat_lt, List, [], length}
use Rattle.hda_registers.specs.declared.shapes.Shape.{Shape}
use Rattle.hda_registers.specs.Fields.{Fields, opening, is_out_of_reset}
use Rattle.codec_graph.specs.CodecStates.{CodecState}
use Rattle.world_rings.specs.declared.response.Response.{Response}
use Rattle.world_rings.specs.declared.response.TheConstants.{MOST_WAITING}
use Rattle.world_streams.specs.Streams.{begun}
use Rattle.stream_descriptor.specs.Running.{Playing, StandsFor}
use Rattle.stream_descriptor.specs.Taking.{TakesFor}
use Rattle.hda_world.specs.declared.step.TheConstants.{FRAMES_TO_DISCOVERY}
use Rattle.hda_world.specs.Worlds.{World}
use Rattle.hda_world.specs.Steps.{discovered_at}
use Rattle.device_core.specs.Captures.{CaptureState, HasCapture}

pub record DeviceState : Type 0 where
  pub registers : Fields
  pub codecs : List CodecState
  -- the responses that wait in the controller, oldest first
  pub waiting : List Response
  -- the link frames since CRST rose, counted up to that of the discovery at least
  pub frames : ℕ
  -- what comes in to the stream of descriptor 0, and the stream of descriptor 1
  pub input : CaptureState
  pub output : Playing

-- counts of link frames that no later discovery tells apart: the same, or both of them at or past it
abbrev pub AreAlike : ℕ → ℕ → Type 0
AreAlike first second = (first ≡ second) ⊎ ((FRAMES_TO_DISCOVERY ≤ first) × (FRAMES_TO_DISCOVERY ≤ second))

-- with this memory the device is this world, of whose histories it keeps nothing
pub record IsWorld (memory : List ℕ) (device : DeviceState) (world : World) : Type 0 where
  pub memory_is : world.memory ≡ memory
  pub registers_are : world.registers ≡ device.registers
  pub codecs_are : world.codecs ≡ device.codecs
  pub waiting_is : world.waiting ≡ device.waiting
  pub frames_are : AreAlike device.frames world.frames
  pub captured : HasCapture device.input world
  pub input_stands : TakesFor device.input.playing device.registers world.input
  pub output_stands : StandsFor device.output device.registers world.output

-- a world in which nothing waits and nothing streams: a controller of this shape in reset, with these codecs
abbrev pub new_world : List ℕ → Shape → List CodecState → World
new_world memory shape codecs = record {
  memory = memory;
  registers = opening shape;
  codecs = codecs;
  waiting = [];
  frames = 0;
  input = begun;
  output = begun;
  given = [];
  came = [];
  commands = [];
  written = [];
  carried = [];
}

-- the output stream's tag and format, which its converters listen to, stay
pub record KeepsSound (old new : Fields) : Type 0 where
  pub tag : new.output.tag ≡ old.output.tag
  pub format : new.output.format ≡ old.output.format

-- whether the controller takes an item of a codec
abbrev pub can_receive_now : Fields → List Response → Bool
can_receive_now fields waiting = is_out_of_reset fields.global && nat_lt (length waiting) MOST_WAITING

-- whether a link frame is counted: CRST is 1 and the codecs are not discovered yet
abbrev pub is_counted : Fields → ℕ → Bool
is_counted fields frames = is_out_of_reset fields.global && nat_lt frames FRAMES_TO_DISCOVERY

-- the count of link frames after one more
abbrev pub counted_on : Fields → ℕ → ℕ
counted_on fields frames = if is_counted fields frames then frames + 1 else frames

-- the registers after one more, in which the codecs may be discovered
abbrev pub discovered_next : ℕ → List CodecState → Fields → Fields
discovered_next frames codecs fields = if is_counted fields frames then discovered_at (frames + 1) codecs fields else
    fields
