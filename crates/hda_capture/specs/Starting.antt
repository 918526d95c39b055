-- How the driver sets the input stream going. High Definition Audio 1.0a, 3.3.35 to 3.3.42 and 4.5.3; the order of the
-- accesses is this project's own.
use Rattle.std.specs.Prelude.{ℕ, ◌-◌, List, [], ◌∷◌, ◌++◌, Option}
use Rattle.hda_registers.specs.declared.shapes.Width.TheVariants.{One, Two, Four}
use Rattle.hda_registers.specs.declared.places.TheConstants.{INTCTL, WALCLK}
use Rattle.stream_format.specs.Words.{format_word}
use Rattle.hda_world.specs.Events.{Event, Read, Write}
use Rattle.hda_world.specs.Tellings.{Telling, Between, Makes}
use Rattle.period_writer.specs.declared.geometry.Geometry.{Geometry}
use Rattle.period_writer.specs.Rings.{period_bytes, ring_bytes}
use Rattle.period_writer.specs.Starting.{entry_writes}
use Rattle.hda_capture.specs.declared.registers.TheConstants.{CONTROL, RING_LENGTH, LAST_INDEX, FORMAT, LIST_ADDRESS}

-- the stream is reset, and its reset ended (3.3.35): SRST is read back each time
abbrev pub reset_accesses : (in_reset ready : ℕ) → List Event
reset_accesses in_reset ready = Write CONTROL One 1 ∷ Read CONTROL One in_reset ∷ Write CONTROL One 0 ∷ Read CONTROL One
    ready ∷ []

-- the ring's length, the last entry, the format and the list; then tag 1 and what may interrupt, and at last RUN
abbrev pub set_accesses : (list : ℕ) → Geometry → List Event
set_accesses list geometry =
    Write RING_LENGTH Four (ring_bytes geometry.periods geometry.period) ∷ Write LAST_INDEX Two (geometry.periods - 1)
    ∷ Write FORMAT Two (format_word geometry.format) ∷ Write LIST_ADDRESS Four list ∷ Write CONTROL Four 0x0010001C
    ∷ Write INTCTL Four 0xC0000001 ∷ Write CONTROL One 0x1E ∷ []

-- the first run: the clock, the stream's reset, the list, the registers, and the clock again
abbrev pub start_accesses : Geometry → (list : ℕ) → (periods : List ℕ) → (from in_reset ready to : ℕ) → List Event
start_accesses geometry list periods from in_reset ready to =
    Read WALCLK Four from ∷ (reset_accesses in_reset ready
    ++ (entry_writes list periods (period_bytes geometry.period)
    ++ (set_accesses list geometry ++ Read WALCLK Four to ∷ [])))

-- the stream was reset, whatever CTL read
pub record ResetsStream (old new : Option Telling) : Type 0 where
  pub in_reset : ℕ
  pub ready : ℕ
  pub made : Between (Makes (reset_accesses in_reset ready)) old new
