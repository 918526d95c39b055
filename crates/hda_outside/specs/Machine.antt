-- What is counted of the machine's files.
use Rattle.std.specs.Prelude.{ℕ, Result, Ok, Err}
use Rattle.hda_outside.specs.declared.fault.Fault.{Fault}
use Rattle.hda_outside.specs.declared.fault.Fault.TheVariants.{Failed, OutOfMemory}
use Rattle.hda_outside.specs.Counts.{count_with, counted, empty_with}

-- the counts of a shelf of files
pub record MachineShelf : Type 0 where
  pub faults : ℕ
  -- bytes given
  pub given : ℕ
  -- answers of none
  pub empties : ℕ

-- the counts after a call for so many bytes
abbrev pub after_machine_read : MachineShelf → (asked : ℕ) → Result ℕ Fault → MachineShelf
after_machine_read shelf asked (Ok n) = record shelf {
  given = count_with shelf.given n;
  empties = empty_with shelf.empties asked n;
}
after_machine_read shelf asked (Err Failed) = record shelf { faults = counted shelf.faults }
after_machine_read shelf asked (Err OutOfMemory) = shelf
