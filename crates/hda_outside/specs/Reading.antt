-- What reading a whole file answers at a shelf's fault.
use Rattle.std.specs.Prelude.{Bool, false, Result, Ok, Err}
use Rattle.hda_outside.specs.declared.fault.Fault.{Fault}
use Rattle.hda_outside.specs.declared.fault.Fault.TheVariants as fault
use Rattle.hda_outside.specs.declared.reading.ReadAll.{ReadAll}
use Rattle.hda_outside.specs.declared.reading.ReadAll.TheVariants as answer

-- a failure is a failure, and want of memory is want of memory
abbrev pub of_fault : Fault → ReadAll
of_fault fault.Failed = answer.Failed
of_fault fault.OutOfMemory = answer.OutOfMemory

-- whether an answer is yes
abbrev pub is_yes : Result Bool ReadAll → Bool
is_yes (Ok has) = has
is_yes (Err fault) = false
