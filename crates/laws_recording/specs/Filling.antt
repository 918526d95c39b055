-- How the ring of a recorder stands to the world while it records: the input stream runs round it, and each byte that
-- was stored and that no later one took the place of stands there. This project's own, over the list of buffers of High
-- Definition Audio 1.0a, 3.6.2 and 3.6.3.
use Rattle.std.specs.Prelude.{◌≡◌, ◌≤◌, ◌<◌, ℕ, ◌+◌, ◌-◌, ◌*◌, ◌%◌, ◌^◌, ◌==◌, true, List, length, slice_index}
use Rattle.hda_registers.specs.Fields.{Descriptor, is_running, list_address}
use Rattle.hda_registers.specs.declared.shapes.Shape.{Shape}
use Rattle.stream_format.specs.Cadence.{block_bytes, most_bytes}
use Rattle.stream_format.specs.Words.{format_word}
use Rattle.world_streams.specs.Streams.{StreamState}
use Rattle.hda_world.specs.Worlds.{World}
use Rattle.hda_world.specs.Streaming.{IsWithinFifo}
use Rattle.period_writer.specs.Places.{place_of}
use Rattle.period_writer.specs.Standing.{Ring, Pace, IsRing, HasList, AreBesideRirb, bytes_in, size_of, list_place}
use Rattle.hda_capture.specs.Recorders.{RecorderState, periods_of}

-- the ring of a recorder: its geometry, and the addresses of the list and of the periods
abbrev pub recorder_ring : RecorderState → Ring
recorder_ring recorder =
    record { geometry = recorder.geometry; list = recorder.list.address; periods = periods_of recorder }

-- the bytes of a block of its format
abbrev pub block_in : Ring → ℕ
block_in ring = block_bytes ring.geometry.format

-- the controller is out of reset, and the input stream runs as the first run set it, without an error
pub record IsSetToRecord (ring : Ring) (reset : ℕ) (shape : Shape) (input : Descriptor) : Type 0 where
  pub out : (reset == 1) ≡ true
  pub fifo : shape.fifo ≡ ring.geometry.fifo
  pub runs : is_running input ≡ true
  pub no_error : input.descriptor_error ≡ 0
  pub tag : input.tag ≡ 1
  pub length_is : input.buffer_length ≡ size_of ring
  pub last : input.last_index ≡ ring.geometry.periods - 1
  pub format_is : input.format ≡ format_word ring.geometry.format
  pub list_is : list_address input ≡ ring.list

-- of these bytes that were taken the first so many were stored, and each of them stands in its place of the ring unless
-- one a ring later was stored there
abbrev pub StandInRing : Ring → (memory taken : List ℕ) → (stored : ℕ) → Type 0
StandInRing ring memory taken stored =
    (at : ℕ) → at < stored → stored ≤ at + size_of ring
    → slice_index memory (place_of (bytes_in ring) ring.periods at) ≡ slice_index taken at

-- the input stream goes round the ring and stores what it takes, whole blocks. WALCLK counts the link frames, LPIB is
-- the bytes taken modulo CBL, RIRB lies outside the ring's blocks, the list stands in memory, and the place in it is
-- that of the next byte to be stored
pub record FillsRingBy (ring : Ring) (memory : List ℕ) (reset clock rirb_base : ℕ) (shape : Shape) (input : Descriptor)
    (frames : ℕ) (state : StreamState) : Type 0 where
  pub set : IsSetToRecord ring reset shape input
  pub ring_is : IsRing ring (length memory)
  pub clock_is : clock ≡ (500 * frames) % 2 ^ 32
  pub position : input.link_position ≡ length state.entered % size_of ring
  pub beside : AreBesideRirb ring rirb_base shape
  pub list_stands : HasList ring memory
  pub fifo : IsWithinFifo state.left (length state.entered) ring.geometry.fifo
  pub place : state.list ≡ list_place ring state.left
  pub whole : length state.entered % block_in ring ≡ 0
  pub standing : StandInRing ring memory state.entered state.left

abbrev pub FillsRing : Ring → World → Type 0
FillsRing ring world =
    FillsRingBy ring world.memory world.registers.global.controller_reset world.registers.global.wall_clock
    world.registers.global.rirb_base world.registers.shape world.registers.input world.frames world.input

-- ---- time

-- the link, which stood at a position when so many link frames had passed, is no further than the frames since may take
-- it in the format
pub record KeepsPaceBy (ring : Ring) (pace : Pace) (frames taken : ℕ) : Type 0 where
  pub before : pace.since ≤ frames
  pub soon : taken ≤ pace.at + most_bytes ring.geometry.format * (frames - pace.since)

abbrev pub KeepsPace : Ring → Pace → World → Type 0
KeepsPace ring pace world = KeepsPaceBy ring pace world.frames (length world.input.entered)
