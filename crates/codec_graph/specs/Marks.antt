-- Marks by node identifier, for the search along connection lists.
use Rattle.std.specs.Prelude.{◌≡◌, ℕ, Bool, true, false, List, slice_index_or}

abbrev pub IsMarked : List Bool → ℕ → Type 0
IsMarked marks nid = slice_index_or marks nid false ≡ true
