-- What shelves in memory hold and count.
use Rattle.std.specs.Prelude.{ℕ, List, [], ◌∷◌, Vec, String, string_bytes, is_some, if◌then◌else◌, Result, Ok, Err}
use Rattle.std.specs.declared.alloc.Global.{Global}
use Rattle.hda_outside.specs.declared.fault.Fault.{Fault}
use Rattle.hda_outside.specs.Counts.{count_with, counted, empty_with}
use Rattle.hda_outside.specs.Shelf.{Files, file_of}

-- files as they stand in memory, as plain bytes
abbrev pub plain_files : List (String Global × Vec ℕ Global) → Files
plain_files [] = []
plain_files (file ∷ files) = (string_bytes file.0, file.1.items) ∷ plain_files files

-- one count for the names that are there, another for those that aren't
abbrev pub fault_count : Files → ℕ → ℕ → List ℕ → ℕ
fault_count files faults missing name = if is_some (file_of files name) then faults else missing

-- a shelf whose calls of some numbers fail
pub record PlannedShelf : Type 0 where
  pub files : Files
  -- the numbers of the calls that fail, from 0 on
  pub fail : List ℕ
  -- how many calls there were
  pub calls : ℕ
  -- faults under the names that are there, and under those that aren't
  pub faults : ℕ
  pub missing : ℕ
  -- bytes given, and answers of none
  pub given : ℕ
  pub empties : ℕ

-- a planned shelf after a call under that name for so many bytes
abbrev pub after_planned_read : PlannedShelf → List ℕ → (asked : ℕ) → Result ℕ Fault → PlannedShelf
after_planned_read shelf name asked (Ok n) = record shelf {
  calls = counted shelf.calls;
  given = count_with shelf.given n;
  empties = empty_with shelf.empties asked n;
}
after_planned_read shelf name asked (Err _) =
    record shelf {
      calls = counted shelf.calls;
      faults = if is_some (file_of shelf.files name) then counted shelf.faults else shelf.faults;
      missing = if is_some (file_of shelf.files name) then shelf.missing else counted shelf.missing;
    }

-- a shelf that fails only under names that aren't there
pub record SteadyShelf : Type 0 where
  pub files : Files
  -- faults under the names that aren't there
  pub missing : ℕ
  -- bytes given, and answers of none
  pub given : ℕ
  pub empties : ℕ

-- a steady shelf after a call for so many bytes
abbrev pub after_steady_read : SteadyShelf → (asked : ℕ) → Result ℕ Fault → SteadyShelf
after_steady_read shelf asked (Ok n) = record shelf {
  given = count_with shelf.given n;
  empties = empty_with shelf.empties asked n;
}
after_steady_read shelf asked (Err _) = record shelf { missing = counted shelf.missing }
