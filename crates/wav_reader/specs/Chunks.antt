-- The chunks of a WAV file, in order. A file begins with `RIFF`, four bytes of any size, and `WAVE`. Then chunks
-- follow: four bytes name, four bytes size, the body, and a pad byte after an odd size. Numbers stand lowest byte
-- first.
use Rattle.std.specs.Prelude.{◌≡◌, ◌≤◌, ℕ, zero, suc, ◌+◌, ◌-◌, ◌%◌, ◌==◌, nat_eq, nat_lt, nat_le, Bool, ◌&&◌, List, []}
use Rattle.std.specs.Prelude.{◌∷◌, length, take, drop, codes, Option, Some, None, if◌then◌else◌}
use Rattle.std.specs.List.{starts_with}
use Rattle.byteorder.specs.Endian.{little_number}
use Rattle.wav_reader.specs.declared.chunks.Kind.{Kind}
use Rattle.wav_reader.specs.declared.chunks.Kind.TheVariants.{Format, Data, Other}
use Rattle.wav_reader.specs.declared.chunks.Chunk.{Chunk}

-- the bytes from a place on begin with a text
abbrev pub stands_at : List ℕ → ℕ → List ℕ → Bool
stands_at bytes at text = starts_with nat_eq (drop at bytes) text

-- the file begins as a WAV file does
abbrev pub is_riff : List ℕ → Bool
is_riff bytes = stands_at bytes 0 (codes "RIFF") && stands_at bytes 8 (codes "WAVE")

-- what a chunk's name says
abbrev pub kind_at : List ℕ → ℕ → Kind
kind_at bytes at =
    if stands_at bytes at (codes "fmt ") then Format else (if stands_at bytes at (codes "data") then Data else Other)

-- a chunk's size, after its name
abbrev pub size_at : List ℕ → ℕ → ℕ
size_at bytes at = little_number 4 (drop (at + 4) bytes)

-- how many bytes the body of a chunk of some size has, where so many are left in the file: FFFFFFFFh of the chunk
-- `data` means all of them
abbrev pub body_length : Kind → ℕ → ℕ → ℕ
body_length Format size left = size
body_length Data size left = if size == 0xFFFF_FFFF then left else size
body_length Other size left = size

-- the chunk whose head of eight bytes begins at a place
abbrev pub chunk_from : List ℕ → ℕ → Chunk
chunk_from bytes at = record {
  kind = kind_at bytes at;
  from = at + 8;
  len = body_length (kind_at bytes at) (size_at bytes at) (length bytes - (at + 8));
}

-- it is whole where its head and its body end in the file
abbrev pub is_whole : List ℕ → ℕ → Bool
is_whole bytes at = nat_le (at + 8) (length bytes) && nat_le (at + 8 + (chunk_from bytes at).len) (length bytes)

-- the chunk at a place, if it is whole
unfoldable pub chunk_at : List ℕ → ℕ → Option Chunk
chunk_at bytes at = if is_whole bytes at then Some (chunk_from bytes at) else None

-- where the next chunk begins
abbrev pub end_of : Chunk → ℕ
end_of chunk = chunk.from + chunk.len + chunk.len % 2

-- the chunk at a place, and those after it
abbrev pub followed_by : (Chunk → List Chunk) → Option Chunk → List Chunk
followed_by rest None = []
followed_by rest (Some chunk) = chunk ∷ rest chunk

-- the whole chunks from a place on, in order, up to one that is not whole, at most so many
unfoldable pub chunks_from : ℕ → List ℕ → ℕ → List Chunk
chunks_from zero bytes at = []
chunks_from (suc most) bytes at = followed_by (λ chunk. chunks_from most bytes (end_of chunk)) (chunk_at bytes at)

-- all of them: there are no more than the file has bytes
abbrev pub chunks_after : List ℕ → ℕ → List Chunk
chunks_after bytes at = chunks_from (length bytes) bytes at

-- the whole chunks of a file, in order, up to one that is not whole
abbrev pub chunks_of : List ℕ → List Chunk
chunks_of bytes = chunks_after bytes 12

-- where the next chunk would begin, after some from a place on
abbrev pub place_after : ℕ → List Chunk → ℕ
place_after at [] = at
place_after at (chunk ∷ chunks) = place_after (end_of chunk) chunks

-- bytes are left after all whole chunks from a place on
abbrev pub is_cut_after : List ℕ → ℕ → Bool
is_cut_after bytes at = nat_lt (place_after at (chunks_after bytes at)) (length bytes)

-- bytes are left after all whole chunks of the file
abbrev pub is_cut : List ℕ → Bool
is_cut bytes = is_cut_after bytes 12

-- the bytes of a chunk's body
abbrev pub body_of : List ℕ → Chunk → List ℕ
body_of bytes chunk = take chunk.len (drop chunk.from bytes)

-- a chunk at a place lies in the file
pub record IsInside (bytes : List ℕ) (at : ℕ) (chunk : Chunk) : Type 0 where
  pub head : chunk.from ≡ at + 8
  pub body : chunk.from + chunk.len ≤ length bytes
