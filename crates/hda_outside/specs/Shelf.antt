-- The files of a shelf, and the pieces of them that it gives.
use Rattle.std.specs.Prelude.{◌≡◌, ℕ, ◌-◌, ◌<◌, ◌≤◌, List, [], ◌∷◌, take, drop, length, Option, Some, None, bytes_eq}
use Rattle.std.specs.Prelude.{if◌then◌else◌}

-- files, as pairs of a name's bytes and the file's bytes
abbrev pub Files : Type 0
Files = List (List ℕ × List ℕ)

-- the bytes of the first file of that name, where there is one
abbrev pub file_of : Files → List ℕ → Option (List ℕ)
file_of [] name = None
file_of (file ∷ files) name = if bytes_eq file.0 name then Some file.1 else file_of files name

-- the first n bytes of a buffer are the file's from a place on; there are none only where the buffer
-- is empty or nothing is left
pub record IsPiece (file : List ℕ) (from : ℕ) (buffer : List ℕ) (n : ℕ) : Type 0 where
  pub front : take n buffer ≡ take n (drop from file)
  pub left : n ≤ length file - from
  pub some : 0 < length buffer → from < length file → 0 < n
