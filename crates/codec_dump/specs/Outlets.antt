-- New files that an outlet wrote.
use Rattle.std.specs.Prelude.{ℕ, List, [], ◌∷◌, ◌++◌, Option, Some, None}
use Rattle.hda_outside.specs.Shelf.{Files}

-- the files that were written, with one more, where they are told
abbrev pub written_with : Option Files → List ℕ → List ℕ → Option Files
written_with None name bytes = None
written_with (Some files) name bytes = Some (files ++ (name, bytes) ∷ [])
