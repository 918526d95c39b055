-- The words of a schedule's fault. This project's own.
use Rattle.std.specs.Prelude.{ℕ, List, ◌++◌, codes, decimal}
use Rattle.schedule_reader.specs.declared.fault.SchedFault.{SchedFault}
use Rattle.schedule_reader.specs.declared.fault.SchedFault.TheVariants.{Line, Nested, Unclosed, TooManySteps}
use Rattle.schedule_reader.specs.declared.fault.SchedFault.TheVariants.{TooManyFrames, OutOfMemory}

abbrev pub schedule_fault_text : SchedFault → List ℕ
schedule_fault_text (Line number) = codes "Line " ++ decimal number
schedule_fault_text (Nested number) = codes "Nested " ++ decimal number
schedule_fault_text Unclosed = codes "Unclosed"
schedule_fault_text TooManySteps = codes "TooManySteps"
schedule_fault_text TooManyFrames = codes "TooManyFrames"
schedule_fault_text OutOfMemory = codes "out of memory"
