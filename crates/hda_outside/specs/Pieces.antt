-- Pieces of a file that are read part by part.
use Rattle.std.specs.Prelude.{◌≡◌, ◌≤◌, ◌<◌, ℕ, ◌+◌, ◌-◌, List, take, drop, length}
use Rattle.hda_outside.specs.declared.fault.Fault.{Fault}
use Rattle.hda_outside.specs.declared.fault.Fault.TheVariants as fault
use Rattle.hda_outside.specs.declared.pieces.Cut.{Cut}
use Rattle.hda_outside.specs.declared.pieces.Cut.TheVariants as answer
use Rattle.hda_outside.specs.Counts.{Rose}

abbrev pub cut_of : Fault → Cut
cut_of fault.Failed = answer.Failed
cut_of fault.OutOfMemory = answer.OutOfMemory

-- a piece of so many bytes was cut at this place of the file, after its first ones: the count of empty answers rose
pub record IsCutShort (from asked count place before now : ℕ) : Type 0 where
  pub within : count < asked
  pub at : place ≡ from + count
  pub rose : Rose before now

-- a buffer begins with so many bytes of the file from a place on
pub record HoldsFront (file : List ℕ) (from : ℕ) (buffer : List ℕ) (count : ℕ) : Type 0 where
  pub front : take count buffer ≡ take count (drop from file)
  pub left : count ≤ length file - from
