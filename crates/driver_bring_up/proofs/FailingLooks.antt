-- Calls that failed.
use Rattle.std.proofs.Common.{Err, Ok, OnErr, Result}

pub on_err : {X E P : Type 0} (result : Result X E) → P → OnErr result P
on_err (Ok done) p = tt
on_err (Err fault) p = p
