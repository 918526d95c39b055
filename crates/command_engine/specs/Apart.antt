-- That what an input stream stores leaves the engine's rings alone. This project's own, over the list of buffers of
-- High Definition Audio 1.0a, 3.6.2 and 3.6.3.
use Rattle.std.specs.Prelude.{◌≡◌, ◌≢◌, ◌<◌, ◌≤◌, ◌⊎◌, ℕ, ◌+◌, ◌/◌, true, List}
use Rattle.hda_registers.specs.Fields.{is_running, list_address}
use Rattle.hda_registers.specs.Laws.{IsBesideRings}
use Rattle.world_rings.specs.Memory.{IsOutside}
use Rattle.world_streams.specs.Streams.{Stream}
use Rattle.hda_world.specs.Worlds.{World, input_of}
use Rattle.hda_world.specs.Buffers.{HasListApart, IsOutsideBuffers, list_size}
use Rattle.hda_world.specs.Events.{Event, Stepped, Begin, End, Read, Write, DmaRead, DmaWrite, happens}
use Rattle.command_engine.specs.Blocks.{corb_bytes, rirb_bytes}

-- an input stream's list lies outside a block of so many bytes, and so do all buffers that it names
pub record LiesBeside (block size : ℕ) (memory : List ℕ) (stream : Stream) : Type 0 where
  pub list : (offset : ℕ) → offset < list_size stream.descriptor
      → IsOutside block size (list_address stream.descriptor + offset)
  pub buffers : (place : ℕ) → place < size → IsOutsideBuffers memory stream (block + place)

-- its list lies outside the buffers that it names, and they and the list outside both rings' blocks
pub record IsInputApart (corb rirb : ℕ) (memory : List ℕ) (stream : Stream) : Type 0 where
  pub list : HasListApart memory stream
  pub beside_corb : LiesBeside corb corb_bytes memory stream
  pub beside_rirb : LiesBeside rirb rirb_bytes memory stream

-- so it is while it runs
abbrev pub IsApartBy : (corb rirb : ℕ) → List ℕ → Stream → Type 0
IsApartBy corb rirb memory stream = is_running stream.descriptor ≡ true → IsInputApart corb rirb memory stream

abbrev pub InputIsApart : (corb rirb : ℕ) → World → Type 0
InputIsApart corb rirb world = IsApartBy corb rirb world.memory (input_of world)

-- it is so after an event, if the event writes a register or memory. What the device's own steps do to it is no matter
-- of whoever makes the accesses
abbrev pub StaysApart : (corb rirb : ℕ) → Event → World → Type 0
StaysApart corb rirb (Write at width value) world = InputIsApart corb rirb (happens world (Write at width value))
StaysApart corb rirb (DmaWrite at bytes) world = InputIsApart corb rirb (happens world (DmaWrite at bytes))
StaysApart corb rirb (Stepped step) world = Unit {0}
StaysApart corb rirb Begin world = Unit {0}
StaysApart corb rirb End world = Unit {0}
StaysApart corb rirb (Read at width value) world = Unit {0}
StaysApart corb rirb (DmaRead at bytes) world = Unit {0}

-- ---- an input stream that does not run

-- a place in neither GCTL nor the input's descriptor
pub record IsBesideInput (at : ℕ) : Type 0 where
  pub control : at / 4 ≢ 2
  pub descriptor : (at < 0x80) ⊎ (0xA0 ≤ at)

-- an event that writes neither GCTL nor a register of the input's descriptor
abbrev pub LeavesInput : Event → Type 0
LeavesInput (Write at width value) = IsBesideInput at
LeavesInput (Stepped step) = Unit {0}
LeavesInput Begin = Unit {0}
LeavesInput End = Unit {0}
LeavesInput (Read at width value) = Unit {0}
LeavesInput (DmaRead at bytes) = Unit {0}
LeavesInput (DmaWrite at bytes) = Unit {0}

-- an event that writes no memory, and no register of the rings, of the input's descriptor, or GCTL. It leaves an input
-- stream apart that is, whether it runs or not
abbrev pub IsBesideBoth : Event → Type 0
IsBesideBoth (Write at width value) = IsBesideRings at × IsBesideInput at
IsBesideBoth (DmaWrite at bytes) = ⊥
IsBesideBoth (Stepped step) = Unit {0}
IsBesideBoth Begin = Unit {0}
IsBesideBoth End = Unit {0}
IsBesideBoth (Read at width value) = Unit {0}
IsBesideBoth (DmaRead at bytes) = Unit {0}
