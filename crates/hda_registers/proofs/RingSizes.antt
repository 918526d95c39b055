-- How many entries rings have.
use Rattle.std.proofs.Common.{◌<◌, lit<, lit≤}
use Rattle.std.specs.Prelude.{◌≤◌}
use Rattle.hda_registers.specs.declared.shapes.RingSize.{RingSize}
use Rattle.hda_registers.specs.declared.shapes.RingSize.TheVariants.{Two, Sixteen, Full}
use Rattle.hda_registers.specs.Fields.{entries_of}

-- a ring has an entry
pub some_entries : (size : RingSize) → 0 < entries_of size
some_entries Two = lit< tt
some_entries Sixteen = lit< tt
some_entries Full = lit< tt

-- and 256 at most
pub few_entries : (size : RingSize) → entries_of size ≤ 256
few_entries Two = lit≤ tt
few_entries Sixteen = lit≤ tt
few_entries Full = lit≤ tt
