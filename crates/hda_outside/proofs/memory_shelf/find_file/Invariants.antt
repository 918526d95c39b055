use Rattle.std.proofs.Common.{◌≡◌, drop}
use Rattle.hda_outside.specs.Shelf.{file_of}
use Rattle.hda_outside.specs.MemoryShelf.{plain_files}
use Rattle.hda_outside.proofs.memory_shelf.find_file.Given as goal

-- The file is that of the rest.
abbrev pub invariant-loop-file_name : goal.invariant-loop-file_name
invariant-loop-file_name l =
    file_of (plain_files (drop l.file_name-index l.files)) l.name ≡ file_of (plain_files l.files) l.name
