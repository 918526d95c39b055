-- Counts over several calls.
use Rattle.std.proofs.Common.{◌≡◌, ℕ, ◌≤◌, List, refl, arith}
use Rattle.std.specs.Prelude.{IsSome, IsNone}
use Rattle.hda_outside.specs.Counts.{Rose}
use Rattle.hda_outside.specs.MemoryShelf.{fault_count}
use Rattle.hda_outside.specs.Shelf.{Files, file_of}

-- a count that rose in a call rose over a longer time, since it never falls
pub Rose-longer : (first before now last : ℕ) → first ≤ before → Rose before now → now ≤ last → Rose first last
Rose-longer first before now last earlier rose later = omega arith

-- the count under a name that is there, and under one that isn't
pub fault_count-there : (files : Files) (faults missing : ℕ) (name : List ℕ) → IsSome (file_of files name)
    → fault_count files faults missing name ≡ faults
fault_count-there files faults missing name there = rw there refl

pub fault_count-missing : (files : Files) (faults missing : ℕ) (name : List ℕ) → IsNone (file_of files name)
    → fault_count files faults missing name ≡ missing
fault_count-missing files faults missing name gone = rw gone refl
