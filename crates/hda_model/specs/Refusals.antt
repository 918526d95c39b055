-- Which calls of a device model are refused, and why. This project's own.
use Rattle.std.specs.Prelude.{◌≡◌, ◌≢◌, ◌<◌, ◌≤◌, ◌⊎◌, ◌+◌, ℕ, Bool, not, nat_lt, if◌then◌else◌, List, length, codes}
use Rattle.std.specs.Prelude.{Err, Option, Some, None}
use Rattle.codec_graph.specs.CodecStates.{CodecState}
use Rattle.world_steps.specs.declared.Step.{Step}
use Rattle.world_steps.specs.declared.Step.TheVariants as step
use Rattle.hda_files.specs.FaultText.{file_fault_text}
use Rattle.hda_files.specs.Machines.{Reads}
use Rattle.hda_files.specs.declared.fault.FileFault.TheVariants as files
use Rattle.hda_controller.specs.Controllers.{has_codec}
use Rattle.hda_controller.specs.Hearing.{most_items, most_marks}
use Rattle.hda_model.specs.declared.faults.OpenFault.{OpenFault}
use Rattle.hda_model.specs.declared.faults.OpenFault.TheVariants.{TooLong, File}
use Rattle.hda_model.specs.declared.faults.StepFault.{StepFault}
use Rattle.hda_model.specs.declared.faults.StepFault.TheVariants.{NoCodec, NoStream, OutOfMemory}
use Rattle.hda_model.specs.declared.faults.TheConstants.{MOST_TEXT_BYTES}

-- ---- texts

abbrev pub open_fault_text : OpenFault → List ℕ
open_fault_text TooLong = codes "TooLong"
open_fault_text (File fault) = file_fault_text fault

-- the text is too long, or else this is its first fault, or memory was wanting
abbrev pub IsRefused : List ℕ → OpenFault → Type 0
IsRefused text TooLong = MOST_TEXT_BYTES < length text
IsRefused text (File fault) = (length text ≤ MOST_TEXT_BYTES) × Reads text (Err fault)

-- it is the text that is refused: memory was not wanting
abbrev pub IsOfText : List ℕ → OpenFault → Type 0
IsOfText text why = (why ≢ File files.OutOfMemory) × IsRefused text why

-- ---- steps

abbrev pub refused_if : Bool → StepFault → Option StepFault
refused_if refused fault = if refused then Some fault else None

-- a step that names a codec needs one with this address, and one that names a stream needs stream 0 or 1
abbrev pub refusal_of : Step → List CodecState → Option StepFault
refusal_of step.Corb codecs = None
refusal_of (step.Answer codec) codecs = refused_if (not (has_codec codec codecs)) NoCodec
refusal_of (step.Lose codec) codecs = refused_if (not (has_codec codec codecs)) NoCodec
refusal_of step.Rirb codecs = None
refusal_of (step.Fetch stream most) codecs = refused_if (nat_lt 1 stream) NoStream
refusal_of (step.Link frames) codecs = None
refusal_of (step.Plug codec nid) codecs = refused_if (not (has_codec codec codecs)) NoCodec
refusal_of (step.Unplug codec nid) codecs = refused_if (not (has_codec codec codecs)) NoCodec

-- a step is refused for what it names, or because memory was wanting where it asks room for what pins hear and for their
-- marks
abbrev pub IsCause : Step → List CodecState → StepFault → Type 0
IsCause step codecs fault = (refusal_of step codecs ≡ Some fault) ⊎ ((fault ≡ OutOfMemory) × (0 < most_items step + most_marks step))
