-- What the proofs of other crates cite.
use Rattle.std.proofs.Common.{ℕ, List, Result}
use Rattle.hda_files.specs.declared.machine.Machine.{Machine}
use Rattle.hda_files.specs.declared.fault.FileFault.{FileFault}
use Rattle.hda_files.specs.Machines.{IsReadingOfBytes, IsOnlyReading}
use Rattle.hda_files.proofs.OneReading as readings

-- bytes have at most one reading
pub one_reading : (bytes : List ℕ) (result : Result Machine FileFault) → IsReadingOfBytes bytes result → IsOnlyReading bytes result
one_reading bytes result reading other h = readings.one_reading bytes result other reading h
