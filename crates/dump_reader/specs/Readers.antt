-- What readers promise one another: what is meant, or that memory was wanting.
use Rattle.std.specs.Prelude.{◌≡◌, ◌⊎◌, Result, Err}
use Rattle.dump_reader.specs.declared.fault.ReadFault.{ReadFault}
use Rattle.dump_reader.specs.declared.fault.ReadFault.TheVariants.{OutOfMemory}

-- the result is the one that is meant, or memory was wanting
abbrev pub IsFactsOf : {A : Type 0} → Result A ReadFault → Result A ReadFault → Type 0
IsFactsOf meant result = (result ≡ Err OutOfMemory) ⊎ (result ≡ meant)
