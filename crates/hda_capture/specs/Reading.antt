-- The accesses by which a recorder reads its ring. This project's own.
use Rattle.std.specs.Prelude.{◌≡◌, ℕ, ◌+◌, ◌-◌, ◌/◌, List, [], ◌∷◌, ◌++◌, length, map, Option}
use Rattle.std.specs.List.{range_with_len, flat_map}
use Rattle.hda_world.specs.Events.{Event, DmaRead}
use Rattle.hda_world.specs.Tellings.{Telling, Accessed, Between, Makes}
use Rattle.period_writer.specs.Places.{place_in, touched, piece_start, piece_end}

-- the read of what stands in a period of the positions from one on: these bytes
abbrev pub piece_read : (bytes : ℕ) → (periods : List ℕ) → (from period : ℕ) → (piece : List ℕ) → Event
piece_read bytes periods from period piece = DmaRead (place_in bytes periods period (piece_start bytes from period))
    piece

-- such reads of periods in turn, each with the bytes that it gave
abbrev pub pieces_read : (bytes : ℕ) → (periods : List ℕ) → (from period : ℕ) → (pieces : List (List ℕ)) → List Event
pieces_read bytes periods from period [] = []
pieces_read bytes periods from period (piece ∷ pieces) =
    piece_read bytes periods from period piece ∷ pieces_read bytes periods from (period + 1) pieces

-- the reads of the positions from one on, a read for each period that they touch
abbrev pub line_reads : (bytes : ℕ) → (periods : List ℕ) → (from : ℕ) → (pieces : List (List ℕ)) → List Event
line_reads bytes periods from pieces = pieces_read bytes periods from (from / bytes) pieces

-- how many bytes of the positions from one on up to another stand in a period
abbrev pub piece_size : (bytes from to period : ℕ) → ℕ
piece_size bytes from to period = piece_end bytes to period - piece_start bytes from period

-- so many bytes were read from an address: these, which were put last
pub record ReadsPiece (at size : ℕ) (recorded recorded' : List ℕ) (old new : Option Telling) : Type 0 where
  pub piece : List ℕ
  pub size_is : length piece ≡ size
  pub bytes_is : recorded' ≡ recorded ++ piece
  pub made : Between (λ old new. Accessed old new (DmaRead at piece)) old new

-- the pieces of the first periods that positions touch were read, so many, and put last in order
pub record ReadsPieces (bytes : ℕ) (periods : List ℕ) (from to count : ℕ) (recorded recorded' : List ℕ)
    (old new : Option Telling) : Type 0 where
  pub pieces : List (List ℕ)
  pub sizes : map length pieces ≡ map (piece_size bytes from to) (range_with_len (from / bytes) count)
  pub bytes_is : recorded' ≡ recorded ++ flat_map (λ (piece : List ℕ). piece) pieces
  pub made : Between (Makes (line_reads bytes periods from pieces)) old new

-- the positions from one on up to another were read, a read for each period that they touch
abbrev pub ReadsLine : (bytes : ℕ) → (periods : List ℕ) → (from to : ℕ) → (recorded recorded' : List ℕ)
    → (old new : Option Telling) → Type 0
ReadsLine bytes periods from to recorded recorded' old new =
    ReadsPieces bytes periods from to (touched bytes from to) recorded recorded' old new
