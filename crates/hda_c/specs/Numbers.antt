-- What C says and is told by numbers. This project's own.
use Rattle.std.specs.Prelude.{ℕ, ◌==◌, nat_lt, if◌then◌else◌, Result, Ok, Err, Option, Some, None}
use Rattle.world_steps.specs.declared.Step.{Step}
use Rattle.world_steps.specs.declared.Step.TheVariants as step
use Rattle.hda_registers.specs.declared.shapes.Width.{Width}
use Rattle.hda_registers.specs.declared.shapes.Width.TheVariants as width
use Rattle.hda_model.specs.declared.faults.StepFault.{StepFault}
use Rattle.hda_model.specs.declared.faults.StepFault.TheVariants.{NoCodec, NoStream, OutOfMemory}
use Rattle.hda_c.specs.declared.numbers.TheConstants.{DONE, NO_MEMORY, NO_SUCH}
use Rattle.hda_c.specs.declared.numbers.TheConstants.{CORB, ANSWER, LOSE, RIRB, FETCH, LINK, PLUG, UNPLUG}

-- the width of so many bytes
abbrev pub width_of : ℕ → Option Width
width_of bytes =
    if bytes == 1 then Some width.One else
    (if bytes == 2 then Some width.Two else
    (if bytes == 4 then Some width.Four else None))

-- a fetch of so many bytes, at most 65,535
abbrev pub fetch_of : ℕ → ℕ → Option Step
fetch_of stream count = if nat_lt count 65536 then Some (step.Fetch stream count) else None

-- the step of a kind
abbrev pub step_of : (kind part node count : ℕ) → Option Step
step_of kind part node count =
    if kind == CORB then Some step.Corb else
    (if kind == ANSWER then Some (step.Answer part) else
    (if kind == LOSE then Some (step.Lose part) else
    (if kind == RIRB then Some step.Rirb else
    (if kind == FETCH then fetch_of part count else
    (if kind == LINK then Some (step.Link count) else
    (if kind == PLUG then Some (step.Plug part node) else
    (if kind == UNPLUG then Some (step.Unplug part node) else None)))))))

-- the status of a refusal
abbrev pub fault_status : StepFault → ℕ
fault_status OutOfMemory = NO_MEMORY
fault_status NoCodec = NO_SUCH
fault_status NoStream = NO_SUCH

abbrev pub status_of : Result Unit StepFault → ℕ
status_of (Ok made) = DONE
status_of (Err fault) = fault_status fault
