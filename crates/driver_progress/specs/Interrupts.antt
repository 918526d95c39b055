-- The accesses of a look for interrupts, with what is read. High Definition Audio 1.0a, 3.3.15 and 3.3.36.
use Rattle.std.specs.Prelude.{◌≡◌, ℕ, ◌*◌, Bool, List, [], ◌∷◌, if◌then◌else◌, Option}
use Rattle.verb_codes.specs.Words.{has_bit, bits_of}
use Rattle.hda_registers.specs.declared.shapes.Width.TheVariants.{One, Four}
use Rattle.hda_registers.specs.declared.places.TheConstants.{INTSTS}
use Rattle.hda_world.specs.Events.{Event, Read, Write}
use Rattle.hda_world.specs.Tellings.{Telling, Between, Makes}
use Rattle.driver_progress.specs.declared.registers.TheConstants.{STREAM_STATUS}
use Rattle.driver_progress.specs.Seen.{interrupts_at, stream_interrupts_at}

-- of an interrupt of the output stream the status bits that are set are cleared
abbrev pub clear_accesses : (interrupts stream : ℕ) → List Event
clear_accesses interrupts stream =
    if has_bit interrupts stream_interrupts_at then Read STREAM_STATUS One stream ∷ Write STREAM_STATUS One
    (4 * bits_of stream 2 3) ∷ [] else []

abbrev pub interrupt_accesses : (interrupts stream : ℕ) → List Event
interrupt_accesses interrupts stream =
    Read INTSTS Four interrupts ∷ (if has_bit interrupts interrupts_at then clear_accesses interrupts stream else [])

pub record LooksFor (answer : Bool) (old new : Option Telling) : Type 0 where
  pub interrupts : ℕ
  pub stream : ℕ
  pub made : Between (Makes (interrupt_accesses interrupts stream)) old new
  pub answer_is : answer ≡ has_bit interrupts interrupts_at

pub record Clears (interrupts : ℕ) (old new : Option Telling) : Type 0 where
  pub stream : ℕ
  pub made : Between (Makes (clear_accesses interrupts stream)) old new
