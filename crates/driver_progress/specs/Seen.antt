-- What a stretch of a driver's accesses saw: the values that it read, by register. This project's own, over the
-- registers of High Definition Audio 1.0a, 3.3.
use Rattle.std.specs.Prelude.{ℕ, ◌==◌, Bool, List, [], ◌∷◌, slice_index, if◌then◌else◌}
use Rattle.std.specs.List.{flat_map}
use Rattle.hda_registers.specs.declared.places.TheConstants.{GCTL, STATESTS, INTSTS, WALCLK, CORBSIZE, RIRBWP, RIRBSTS}
use Rattle.hda_registers.specs.declared.places.TheConstants.{RIRBSIZE}
use Rattle.hda_world.specs.Events.{Event, Stepped, Begin, End, Read, Write, DmaRead, DmaWrite}
use Rattle.period_writer.specs.declared.registers.TheConstants.{POSITION}
use Rattle.driver_progress.specs.declared.registers.TheConstants.{STREAM_STATUS}

-- the value that an event read of the register at this place, if it did
abbrev pub value_in : ℕ → Event → List ℕ
value_in register (Stepped step) = []
value_in register Begin = []
value_in register End = []
value_in register (Read at width value) = if at == register then value ∷ [] else []
value_in register (Write at width value) = []
value_in register (DmaRead at bytes) = []
value_in register (DmaWrite at bytes) = []

-- the values that some events read of it, in their order
abbrev pub values_of : List Event → ℕ → List ℕ
values_of events register = flat_map (value_in register) events

pub record Seen : Type 0 where
  -- the wall clock, each time, and LPIB
  pub clocks : List ℕ
  pub positions : List ℕ
  -- the second read of GCTL, after the reset
  pub control : ℕ
  -- the state change status, and both rings' sizes
  pub changes : ℕ
  pub corb_size : ℕ
  pub rirb_size : ℕ
  -- RIRBSTS and RIRBWP
  pub flag : ℕ
  pub pointer : ℕ
  -- INTSTS and the output stream's status
  pub interrupts : ℕ
  pub stream : ℕ
  -- whether the outstanding command was answered
  pub answered : Bool

abbrev pub seen_by : (values : ℕ → List ℕ) → (answered : Bool) → Seen
seen_by values answered = record {
  clocks = values WALCLK;
  positions = values POSITION;
  control = slice_index (values GCTL) 1;
  changes = slice_index (values STATESTS) 0;
  corb_size = slice_index (values CORBSIZE) 0;
  rirb_size = slice_index (values RIRBSIZE) 0;
  flag = slice_index (values RIRBSTS) 0;
  pointer = slice_index (values RIRBWP) 0;
  interrupts = slice_index (values INTSTS) 0;
  stream = slice_index (values STREAM_STATUS) 0;
  answered = answered;
}

-- the clock that was read first
abbrev pub clock_of : Seen → ℕ
clock_of seen = slice_index seen.clocks 0

-- a bit of INTSTS: some interrupt is on, and one of the output stream (3.3.15)
abbrev pub interrupts_at : ℕ
interrupts_at = 31

abbrev pub stream_interrupts_at : ℕ
stream_interrupts_at = 1
