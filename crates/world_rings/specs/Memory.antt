-- The region of memory that the controller's engines reach, as a list of bytes. Numbers stand in it lowest byte first
-- (High Definition Audio 1.0a, 4.4). That an engine reads zeros and writes nothing outside the region is this project's
-- own.
use Rattle.std.specs.Prelude.{◌≡◌, ◌<◌, ◌≤◌, ◌⊎◌, ℕ, ◌+◌, List, ◌++◌, length, take, drop, slice_index, nat_le}
use Rattle.std.specs.Prelude.{if◌then◌else◌}
use Rattle.byteorder.specs.Endian.{little_from}

-- the 32-bit word at an address: bytes outside the region are 0
abbrev pub word_at : List ℕ → ℕ → ℕ
word_at memory at = little_from at 4 memory

-- the memory with a piece stored from an address on, where the whole piece lies in the region
abbrev pub stored : List ℕ → ℕ → List ℕ → List ℕ
stored memory at piece =
    if nat_le (at + length piece) (length memory) then take at memory ++ (piece ++ drop (at + length piece) memory) else
    memory

-- an address that is none of the so many from another one on
abbrev pub IsOutside : ℕ → ℕ → ℕ → Type 0
IsOutside from size at = (at < from) ⊎ (from + size ≤ at)

-- memory is the same outside a piece
pub record PieceStored (at : ℕ) (piece old new : List ℕ) : Type 0 where
  pub size : length new ≡ length old
  pub outside : (other : ℕ) → IsOutside at (length piece) other → slice_index new other ≡ slice_index old other
  pub inside : (place : ℕ) → place < length piece → slice_index new (at + place) ≡ slice_index piece place
