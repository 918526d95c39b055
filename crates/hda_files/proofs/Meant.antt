-- Results that are the meant ones unless memory was wanting.
use Rattle.std.proofs.Common.{◌≡◌, ap, inl, inr, Result, Ok, Err, IfOk, IfErr}
use Rattle.hda_files.specs.declared.fault.FileFault.{FileFault}
use Rattle.hda_files.specs.declared.fault.FileFault.TheVariants.{OutOfMemory}
use Rattle.hda_files.specs.Readers.{IsMeant}

-- of a call that fails for want of memory alone
pub IsMeant-from : {A : Type 0} (result : Result A FileFault) (x : A) → IfOk result (λ y. y ≡ x) → IfErr result (λ fault. fault ≡ OutOfMemory) → IsMeant result (Ok x)
IsMeant-from (Ok y) x ok err = inr (ap Ok ok)
IsMeant-from (Err fault) x ok err = inl (ap Err err)
