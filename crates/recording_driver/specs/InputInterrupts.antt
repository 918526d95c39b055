-- The accesses of a look for interrupts of the input stream, with what is read. High Definition Audio 1.0a, 3.3.15 and
-- 3.3.36.
use Rattle.std.specs.Prelude.{◌≡◌, ℕ, ◌*◌, ◌&&◌, Bool, not, List, [], ◌∷◌, slice_index, if◌then◌else◌, Option}
use Rattle.verb_codes.specs.Words.{has_bit, bits_of}
use Rattle.hda_registers.specs.declared.shapes.Width.TheVariants.{One, Four}
use Rattle.hda_registers.specs.declared.places.TheConstants.{INTSTS}
use Rattle.hda_world.specs.Events.{Event, Read, Write}
use Rattle.hda_world.specs.Tellings.{Telling, Between, Makes}
use Rattle.driver_progress.specs.Seen.{interrupts_at, values_of}
use Rattle.recording_driver.specs.declared.registers.TheConstants.{INPUT_STATUS}
use Rattle.recording_driver.specs.RecordRules.{input_interrupts_at}

-- of an interrupt of the input stream the status bits that are set are cleared
abbrev pub input_clear_accesses : (interrupts status : ℕ) → List Event
input_clear_accesses interrupts status =
    if has_bit interrupts input_interrupts_at
    then Read INPUT_STATUS One status ∷ Write INPUT_STATUS One (4 * bits_of status 2 3) ∷ [] else []

abbrev pub input_interrupt_accesses : (interrupts status : ℕ) → List Event
input_interrupt_accesses interrupts status =
    Read INTSTS Four interrupts
    ∷ (if has_bit interrupts interrupts_at then input_clear_accesses interrupts status else [])

pub record LooksForInput (answer : Bool) (old new : Option Telling) : Type 0 where
  pub interrupts : ℕ
  pub status : ℕ
  pub made : Between (Makes (input_interrupt_accesses interrupts status)) old new
  pub answer_is : answer ≡ has_bit interrupts interrupts_at

pub record ClearsInput (interrupts : ℕ) (old new : Option Telling) : Type 0 where
  pub status : ℕ
  pub made : Between (Makes (input_clear_accesses interrupts status)) old new

-- whether a call was one for an interrupt, and read of INTSTS that there is none
abbrev pub found_no_input : (irq : Bool) → (made : List Event) → Bool
found_no_input irq made = irq && not (has_bit (slice_index (values_of made INTSTS) 0) interrupts_at)
