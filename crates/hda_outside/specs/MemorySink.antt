-- What a sink in memory holds and counts.
use Rattle.std.specs.Prelude.{ℕ, List, ◌++◌, take, Result, Ok, Err}
use Rattle.hda_outside.specs.declared.fault.Fault.{Fault}
use Rattle.hda_outside.specs.declared.fault.Fault.TheVariants.{Failed, OutOfMemory}
use Rattle.hda_outside.specs.Counts.{counted}

-- a sink whose calls of some numbers fail
pub record PlannedSink : Type 0 where
  pub taken : List ℕ
  -- how many bytes it takes in a call
  pub most : ℕ
  -- the numbers of the calls that fail, from 0 on
  pub fail : List ℕ
  -- how many calls there were
  pub calls : ℕ
  pub faults : ℕ

-- a planned sink after a call with these bytes
abbrev pub after_planned_write : PlannedSink → List ℕ → Result ℕ Fault → PlannedSink
after_planned_write sink bytes (Ok n) = record sink { taken = sink.taken ++ take n bytes; calls = counted sink.calls }
after_planned_write sink bytes (Err Failed) = record sink { faults = counted sink.faults; calls = counted sink.calls }
after_planned_write sink bytes (Err OutOfMemory) = record sink { calls = counted sink.calls }
