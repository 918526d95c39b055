-- What an export makes of the model at a place. This project's own.
use Rattle.std.specs.Prelude.{◌≡◌, ◌<◌, ◌⊎◌, ◌+◌, ℕ, Bool, nat_lt, if◌then◌else◌, List, length, Option, Some, None}
use Rattle.world_steps.specs.declared.Step.{Step}
use Rattle.hda_registers.specs.declared.shapes.Width.{Width}
use Rattle.hda_registers.specs.Access.{value_at}
use Rattle.hda_registers.specs.Status.{interrupt_line_of}
use Rattle.hda_controller.specs.Controllers.{has_codec}
use Rattle.hda_controller.specs.Hearing.{most_items, most_marks}
use Rattle.hda_model.specs.declared.faults.OpenFault.{OpenFault}
use Rattle.hda_model.specs.declared.faults.StepFault.{StepFault}
use Rattle.hda_model.specs.Models.{ModelState, IsWritten, IsStepped}
use Rattle.hda_model.specs.Copies.{copied, count_of}
use Rattle.hda_model.specs.Refusals.{IsOfText, open_fault_text, refusal_of}
use Rattle.hda_c.specs.declared.numbers.TheConstants.{DONE, NO_MEMORY, REFUSED, NO_SUCH, CLOSED}

-- a model before and one after, or none at both times
abbrev pub AreBoth : (ModelState → ModelState → Type 0) → Option ModelState → Option ModelState → Type 0
AreBoth R None None = Unit {0}
AreBoth R (Some before) (Some after) = R before after
AreBoth R None (Some after) = ⊥
AreBoth R (Some before) None = ⊥

-- ---- opening

-- it is done, or the text is refused, or memory was wanting
abbrev pub IsOpenStatus : ℕ → Type 0
IsOpenStatus status = (status ≡ DONE) ⊎ ((status ≡ REFUSED) ⊎ (status ≡ NO_MEMORY))

-- the words of why the text is refused, as many bytes as fit, and how many they are
pub record IsTold (text old new : List ℕ) (told : ℕ) : Type 0 where
  pub why : OpenFault
  pub refused : IsOfText text why
  pub words : new ≡ copied (open_fault_text why) old
  pub count : told ≡ length (open_fault_text why)

-- ---- what comes in

-- a sound is given, unless memory was wanting where it has bytes
abbrev pub IsGiveStatus : List ℕ → Option ModelState → ℕ → Type 0
IsGiveStatus sound None status = status ≡ CLOSED
IsGiveStatus sound (Some model) status = (status ≡ DONE) ⊎ ((status ≡ NO_MEMORY) × (0 < length sound))

-- how many blocks came
abbrev pub taken_count : Option ModelState → ℕ
taken_count None = 0
taken_count (Some model) = length model.came

-- ---- accesses

abbrev pub open_status : Option ModelState → ℕ
open_status None = CLOSED
open_status (Some model) = DONE

abbrev pub access_status : Option ModelState → Option Width → ℕ
access_status None width = CLOSED
access_status (Some model) None = NO_SUCH
access_status (Some model) (Some width) = DONE

-- a read of the registers
abbrev pub read_of : Option ModelState → ℕ → Option Width → ℕ
read_of None at width = 0
read_of (Some model) at None = 0
read_of (Some model) at (Some width) = value_at model.controller.device.registers at width

-- a write to the registers; of no width it changes nothing
abbrev pub IsWrittenBy : ℕ → Option Width → ℕ → ModelState → ModelState → Type 0
IsWrittenBy at None value before after = after ≡ before
IsWrittenBy at (Some width) value before after = IsWritten at width value before after

-- 1 where the interrupt line is high
abbrev pub line_in : Option ModelState → ℕ
line_in None = 0
line_in (Some model) = if interrupt_line_of model.controller.device.registers then 1 else 0

-- ---- steps

abbrev pub IsSteppedBy : Option Step → List ℕ → List ℕ → ModelState → ModelState → Type 0
IsSteppedBy None old new before after = ⊥
IsSteppedBy (Some step) old new before after = IsStepped step old new before after

-- a step is made where it names what is there, unless memory was wanting where it asks room for what pins hear
abbrev pub IsMade : Step → Option StepFault → ℕ → Type 0
IsMade step None status = (status ≡ DONE) ⊎ ((status ≡ NO_MEMORY) × (0 < most_items step + most_marks step))
IsMade step (Some fault) status = status ≡ NO_SUCH

abbrev pub IsStepStatus : Option Step → Option ModelState → ℕ → Type 0
IsStepStatus step None status = status ≡ CLOSED
IsStepStatus None (Some model) status = status ≡ NO_SUCH
IsStepStatus (Some step) (Some model) status = IsMade step (refusal_of step model.controller.device.codecs) status

-- ---- pins

abbrev pub counted_status : Option ℕ → ℕ
counted_status None = NO_SUCH
counted_status (Some count) = DONE

abbrev pub heard_status : ℕ → ℕ → Option ModelState → ℕ
heard_status codec nid None = CLOSED
heard_status codec nid (Some model) = counted_status (count_of codec nid model.pins)

abbrev pub count_or_none : Option ℕ → ℕ
count_or_none None = 0
count_or_none (Some count) = count

abbrev pub count_in : ℕ → ℕ → Option ModelState → ℕ
count_in codec nid None = 0
count_in codec nid (Some model) = count_or_none (count_of codec nid model.pins)

abbrev pub there_status : Bool → ℕ
there_status there = if there then DONE else NO_SUCH

abbrev pub codec_status : ℕ → Option ModelState → ℕ
codec_status address None = CLOSED
codec_status address (Some model) = there_status (has_codec address model.controller.device.codecs)

abbrev pub pin_status : ℕ → Option ModelState → ℕ
pin_status place None = CLOSED
pin_status place (Some model) = there_status (nat_lt place (length model.pins))
