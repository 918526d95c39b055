-- What a shelf tells and has counted, as far as one of its files is concerned. This project's own.
use Rattle.std.specs.Prelude.{◌≡◌, ℕ, List, Option, Some, Ok}
use Rattle.hda_outside.specs.Shelf.{Files, file_of}
use Rattle.wav_reader.specs.Heads.{Head, head_of}

-- the files, where they are told, the faults and the empty answers under the name, and the bytes given over all names
pub record ShelfSeen : Type 0 where
  pub told : Option Files
  pub faults : ℕ
  pub empties : ℕ
  pub given : ℕ

abbrev pub seen_as : Option Files → (faults empties given : ℕ) → ShelfSeen
seen_as told faults empties given = record { told = told; faults = faults; empties = empties; given = given }

-- the shelf tells this file under the name, which says this before its sound
pub record HasFile (told : Option Files) (name : List ℕ) (head : Head) (file : List ℕ) : Type 0 where
  pub files : Files
  pub told_is : told ≡ Some files
  pub file_is : file_of files name ≡ Some file
  pub head_is : head_of file ≡ Ok head

-- the shelf tells this file under the name
pub record Tells (told : Option Files) (name : List ℕ) (file : List ℕ) : Type 0 where
  pub files : Files
  pub told_is : told ≡ Some files
  pub file_is : file_of files name ≡ Some file
