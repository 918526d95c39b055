-- That no stream runs, and that the wall clock counts the link frames. This project's own, over High Definition Audio
-- 1.0a, 3.3.7, 3.3.16 and 3.3.35.
use Rattle.std.specs.Prelude.{◌≡◌, ◌⊎◌, ◌+◌, ◌*◌, ◌%◌, ◌^◌, ◌≤◌, ◌<◌, ◌==◌, false, ℕ, List, [], slice_index}
use Rattle.hda_registers.specs.declared.shapes.Width.{Width}
use Rattle.hda_registers.specs.declared.shapes.Width.TheVariants.{Four}
use Rattle.hda_registers.specs.declared.places.TheConstants.{GCTL}
use Rattle.hda_registers.specs.Fields.{Descriptor, is_running}
use Rattle.hda_world.specs.Worlds.{World, CarriedFrame}
use Rattle.hda_world.specs.Events.{Event, Stepped, Begin, End, Read, Write, DmaRead, DmaWrite}
use Rattle.command_engine.specs.Blocks.{rirb_bytes}
use Rattle.period_writer.specs.Rings.{list_bytes}
use Rattle.period_writer.specs.Standing.{Ring, bytes_in}
use Rattle.period_writer.specs.Beside.{IsBesideStreaming, IsStatusWrite}

-- the FIFO has so many bytes, neither stream runs, the output stream had no error, and no link frame carried anything.
-- The wall clock goes by the link frames since CRST rose, of which there are none while it is 0
pub record RestsBy (fifo size clock reset : ℕ) (input output : Descriptor) (frames : ℕ) (carried : List CarriedFrame)
    : Type 0 where
  pub fifo_is : size ≡ fifo
  pub input_stopped : is_running input ≡ false
  pub output_stopped : is_running output ≡ false
  pub no_error : output.descriptor_error ≡ 0
  pub clock_is : clock ≡ (500 * frames) % 2 ^ 32
  pub held : (reset == 1) ≡ false → (clock ≡ 0) × (frames ≡ 0)
  pub none_carried : carried ≡ []

abbrev pub Rests : (fifo : ℕ) → World → Type 0
Rests fifo world =
    RestsBy fifo world.registers.shape.fifo world.registers.global.wall_clock world.registers.global.controller_reset
    world.registers.input
    world.registers.output world.frames world.carried

-- a write that resets the controller, or takes it out of reset
pub record IsResetWrite (at : ℕ) (width : Width) (value : ℕ) : Type 0 where
  pub place : at ≡ GCTL
  pub wide : width ≡ Four
  pub either : (value ≡ 0) ⊎ (value ≡ 0x101)

-- an event leaves streams at rest: of the descriptors it writes nothing but a status
abbrev pub LeavesRest : Event → Type 0
LeavesRest (Write at width value) = IsBesideStreaming at ⊎ (IsStatusWrite at width ⊎ IsResetWrite at width value)
LeavesRest (Stepped step) = Unit {0}
LeavesRest Begin = Unit {0}
LeavesRest End = Unit {0}
LeavesRest (Read at width value) = Unit {0}
LeavesRest (DmaRead at bytes) = Unit {0}
LeavesRest (DmaWrite at bytes) = Unit {0}

-- a block of so many bytes and RIRB's have no byte in common
abbrev pub IsApartFrom : (rirb address bytes : ℕ) → Type 0
IsApartFrom rirb address bytes = (address + bytes ≤ rirb) ⊎ (rirb + rirb_bytes ≤ address)

-- the blocks of a ring and RIRB's
pub record AreApartFrom (ring : Ring) (rirb : ℕ) : Type 0 where
  pub list : IsApartFrom rirb ring.list (list_bytes ring.geometry.periods)
  pub periods : (index : ℕ) → index < ring.geometry.periods
      → IsApartFrom rirb (slice_index ring.periods index) (bytes_in ring)
