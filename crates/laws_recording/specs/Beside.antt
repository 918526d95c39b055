-- What may happen between the runs of a recorder, and what lies beside its ring. This project's own.
use Rattle.std.specs.Prelude.{◌≡◌, ◌<◌, ◌≤◌, ◌⊎◌, ℕ, ◌+◌, false, List, [], ◌∷◌, length, slice_index}
use Rattle.hda_registers.specs.declared.places.TheConstants.{RIRBSTS, INPUT_DESCRIPTOR, SDSTS}
use Rattle.hda_registers.specs.declared.shapes.Width.{Width}
use Rattle.hda_registers.specs.declared.shapes.Width.TheVariants.{One}
use Rattle.hda_registers.specs.Fields.{is_running}
use Rattle.hda_registers.specs.Laws.{IsBesideRings}
use Rattle.hda_world.specs.Worlds.{World}
use Rattle.hda_world.specs.Events.{Event, Stepped, Begin, End, Read, Write, DmaRead, DmaWrite, happens}
use Rattle.period_writer.specs.Rings.{list_bytes}
use Rattle.period_writer.specs.Standing.{Ring, AreBesideRirb, bytes_in}
use Rattle.period_writer.specs.Beside.{IsBesideBlocks}
use Rattle.command_engine.specs.Blocks.{corb_bytes, rirb_bytes}
use Rattle.command_engine.specs.Apart.{IsBesideInput}
use Rattle.command_engine.specs.Fetchings.{IsBesideBlock}

-- a write of the input stream's status, STS (3.3.36), or of RIRB's, RIRBSTS (3.3.30)
pub record IsStatusAt (place : ℕ) (at : ℕ) (width : Width) : Type 0 where
  pub at_is : at ≡ place
  pub width_is : width ≡ One

-- an event leaves alone what records: it writes neither GCTL, nor a register of the input's descriptor other than its
-- status, nor the ring's blocks
abbrev pub LeavesRecording : Ring → Event → Type 0
LeavesRecording ring (Write at width value) = IsBesideInput at ⊎ IsStatusAt (INPUT_DESCRIPTOR + SDSTS) at width
LeavesRecording ring (DmaWrite address bytes) = IsBesideBlocks ring address (length bytes)
LeavesRecording ring (Stepped step) = Unit {0}
LeavesRecording ring Begin = Unit {0}
LeavesRecording ring End = Unit {0}
LeavesRecording ring (Read at width value) = Unit {0}
LeavesRecording ring (DmaRead at bytes) = Unit {0}

-- RIRB lies outside the ring's blocks after an event, if the event writes a register
abbrev pub KeepsRirbBeside : Ring → Event → World → Type 0
KeepsRirbBeside ring (Write at width value) world =
    AreBesideRirb ring (happens world (Write at width value)).registers.global.rirb_base
    (happens world (Write at width value)).registers.shape
KeepsRirbBeside ring (DmaWrite address bytes) world = Unit {0}
KeepsRirbBeside ring (Stepped step) world = Unit {0}
KeepsRirbBeside ring Begin world = Unit {0}
KeepsRirbBeside ring End world = Unit {0}
KeepsRirbBeside ring (Read at width value) world = Unit {0}
KeepsRirbBeside ring (DmaRead at bytes) world = Unit {0}

-- several events do both, one after another
abbrev pub LeaveRecording : Ring → List Event → World → Type 0
LeaveRecording ring [] world = Unit {0}
LeaveRecording ring (event ∷ events) world = LeavesRecording ring event × KeepsRirbBeside ring event world
    × LeaveRecording ring events (happens world event)

-- an event does both in every world in which the ring is filled: it writes neither GCTL, nor a register of CORB, of
-- RIRB or of the input's descriptor other than RIRBSTS and STS, nor the ring's blocks
abbrev pub LeavesFilling : Ring → Event → Type 0
LeavesFilling ring (Write at width value) =
    (IsBesideRings at × IsBesideInput at)
    ⊎ (IsStatusAt RIRBSTS at width ⊎ IsStatusAt (INPUT_DESCRIPTOR + SDSTS) at width)
LeavesFilling ring (DmaWrite address bytes) = IsBesideBlocks ring address (length bytes)
LeavesFilling ring (Stepped step) = Unit {0}
LeavesFilling ring Begin = Unit {0}
LeavesFilling ring End = Unit {0}
LeavesFilling ring (Read at width value) = Unit {0}
LeavesFilling ring (DmaRead at bytes) = Unit {0}

-- an event leaves an input stream alone that was stopped: it writes no register of its descriptor other than its
-- status. A write of GCTL is such an event, also one that resets the controller
abbrev pub LeavesStoppedInput : Event → Type 0
LeavesStoppedInput (Write at width value) =
    ((at < 0x80) ⊎ (0xA0 ≤ at)) ⊎ IsStatusAt (INPUT_DESCRIPTOR + SDSTS) at width
LeavesStoppedInput (DmaWrite address bytes) = Unit {0}
LeavesStoppedInput (Stepped step) = Unit {0}
LeavesStoppedInput Begin = Unit {0}
LeavesStoppedInput End = Unit {0}
LeavesStoppedInput (Read at width value) = Unit {0}
LeavesStoppedInput (DmaRead at bytes) = Unit {0}

-- the input stream does not run, and what it took and stored, and what came, is as it was
pub record StaysTaken (old new : World) : Type 0 where
  pub stopped : is_running new.registers.input ≡ false
  pub state : new.input ≡ old.input
  pub came : new.came ≡ old.came
  pub given : new.given ≡ old.given

-- the ring's blocks have no byte in common with the blocks of the engine's rings
pub record LiesBesideEngine (corb rirb : ℕ) (ring : Ring) : Type 0 where
  pub list_corb : IsBesideBlock corb corb_bytes ring.list (list_bytes ring.geometry.periods)
  pub list_rirb : IsBesideBlock rirb rirb_bytes ring.list (list_bytes ring.geometry.periods)
  pub periods_corb : (index : ℕ) → index < ring.geometry.periods
      → IsBesideBlock corb corb_bytes (slice_index ring.periods index) (bytes_in ring)
  pub periods_rirb : (index : ℕ) → index < ring.geometry.periods
      → IsBesideBlock rirb rirb_bytes (slice_index ring.periods index) (bytes_in ring)
