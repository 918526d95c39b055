-- What happens to the world, event by event: steps of the device, and accesses of the driver between the marks of its
-- runs. This project's own.
use Rattle.std.specs.Prelude.{◌≡◌, ◌≤◌, ℕ, ◌+◌, Bool, true, false, List, [], ◌∷◌, length, slice_range, map}
use Rattle.std.specs.Prelude.{if◌then◌else◌}
use Rattle.codec_graph.specs.CodecStates.{cleared}
use Rattle.hda_registers.specs.declared.shapes.Width.{Width}
use Rattle.hda_registers.specs.Fields.{Fields, Descriptor}
use Rattle.hda_registers.specs.Access.{value_at, written, effects_of, rose}
use Rattle.world_rings.specs.Memory.{stored}
use Rattle.world_streams.specs.Streams.{settled, settled_state}
use Rattle.world_steps.specs.declared.Step.{Step}
use Rattle.hda_world.specs.Worlds.{World}
use Rattle.hda_world.specs.Steps.{after_step}

-- an access carries what was read or written: a value of a register, or the bytes of a piece of memory
pub data Event : Type 0 where
  Stepped : (step : Step) → Event
  Begin : Event
  End : Event
  Read : (at : ℕ) (width : Width) (value : ℕ) → Event
  Write : (at : ℕ) (width : Width) (value : ℕ) → Event
  DmaRead : (at : ℕ) (bytes : List ℕ) → Event
  DmaWrite : (at : ℕ) (bytes : List ℕ) → Event

-- a write that resets the controller drops all that waits at the codecs and in the controller (5.5.1)
abbrev pub reset_if : Bool → World → World
reset_if true world = record world { codecs = map cleared world.codecs; waiting = []; frames = 0 }
reset_if false world = world

-- the link frames are counted anew where CRST rises
abbrev pub counted_anew_if : Bool → World → World
counted_anew_if true world = record world { frames = 0 }
counted_anew_if false world = world

-- the registers after a write that left these: a stream whose RUN rose or fell begins anew or stops
abbrev pub streams_settled : (old new : Fields) → Fields
streams_settled old new = record new { input = settled old.input new.input; output = settled old.output new.output }

-- what came to the input stream after a write: it begins anew where RUN rose
abbrev pub settled_came : (old new : Descriptor) → List Bool → List Bool
settled_came old new came = if rose old new then [] else came

-- the world whose registers a write left so
abbrev pub registers_written : Fields → World → World
registers_written new world = record world {
  registers = streams_settled world.registers new;
  input = settled_state world.registers.input new.input world.input;
  output = settled_state world.registers.output new.output world.output;
  came = settled_came world.registers.input new.input world.came;
}

-- the world after a write of a register (3.3)
abbrev pub after_write : ℕ → Width → ℕ → World → World
after_write at width value world =
    let effects = effects_of world.registers at width value in
    counted_anew_if effects.left_reset
    (reset_if effects.reset (registers_written (written world.registers at width value) world))

-- the world after an event. A read changes nothing
abbrev pub happens : World → Event → World
happens world (Stepped step) = after_step step world
happens world (Write at width value) = after_write at width value world
happens world (DmaWrite at bytes) = record world { memory = stored world.memory at bytes }
happens world Begin = world
happens world End = world
happens world (Read at width value) = world
happens world (DmaRead at bytes) = world

-- a piece of memory as it stands there
pub record IsPiece (memory : List ℕ) (at : ℕ) (bytes : List ℕ) : Type 0 where
  pub within : at + length bytes ≤ length memory
  pub same : bytes ≡ slice_range memory at (at + length bytes)

-- an event is what this world answers: a read gives what is there, and a piece of memory lies in the region
abbrev pub IsHonest : World → Event → Type 0
IsHonest world (Read at width value) = value ≡ value_at world.registers at width
IsHonest world (DmaRead at bytes) = IsPiece world.memory at bytes
IsHonest world (DmaWrite at bytes) = at + length bytes ≤ length world.memory
IsHonest world (Stepped step) = Unit {0}
IsHonest world (Write at width value) = Unit {0}
IsHonest world Begin = Unit {0}
IsHonest world End = Unit {0}

-- the world after some events in order
abbrev pub after : List Event → World → World
after [] world = world
after (event ∷ events) world = after events (happens world event)

-- each event is what the world answers at its moment
abbrev pub AreHonest : List Event → World → Type 0
AreHonest [] world = Unit {0}
AreHonest (event ∷ events) world = IsHonest world event × AreHonest events (happens world event)

-- the event is no step of the device
abbrev pub IsNoStep : Event → Type 0
IsNoStep (Stepped step) = ⊥
IsNoStep Begin = Unit {0}
IsNoStep End = Unit {0}
IsNoStep (Read at width value) = Unit {0}
IsNoStep (Write at width value) = Unit {0}
IsNoStep (DmaRead at bytes) = Unit {0}
IsNoStep (DmaWrite at bytes) = Unit {0}
