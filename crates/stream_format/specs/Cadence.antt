-- How many sample blocks are due in each link frame of a running stream: High Definition Audio 1.0a, 5.4.2. In which
-- frames 16 and 8 kHz have a block, and in which of its frames the cadence of 44.1 kHz begins, is this project's own.
use Rattle.std.specs.Prelude.{ℕ, ◌*◌, ◌%◌, List, [], ◌∷◌, ◌++◌, length, replicate, slice_index}
use Rattle.std.specs.List.{flat_map}
use Rattle.stream_format.specs.declared.format.Rate.{Rate}
use Rattle.stream_format.specs.declared.format.Rate.TheVariants.{R8, R16, R44, R48, R96, R192}
use Rattle.stream_format.specs.declared.format.Bits.{Bits}
use Rattle.stream_format.specs.declared.format.Bits.TheVariants.{B16, B24, B32}
use Rattle.stream_format.specs.declared.format.Format.{Format}

-- the blocks of a second, each with a sample of every channel
abbrev pub hertz : Rate → ℕ
hertz R8 = 8000
hertz R16 = 16000
hertz R44 = 44100
hertz R48 = 48000
hertz R96 = 96000
hertz R192 = 192000

-- so many frames with one block, and then one with none
abbrev pub frames_to_gap : ℕ → List ℕ
frames_to_gap frames = replicate frames 1 ++ 0 ∷ []

-- the frames of 44.1 kHz until they come again
unfoldable pub cadence_44 : List ℕ
cadence_44 = flat_map frames_to_gap (12 ∷ 11 ∷ 11 ∷ 12 ∷ 11 ∷ 11 ∷ 12 ∷ 11 ∷ 11 ∷ 12 ∷ 11 ∷ 11 ∷ 11 ∷ [])

-- the blocks of each frame, for as many frames as it takes until they come again
abbrev pub cadence : Rate → List ℕ
cadence R8 = 1 ∷ 0 ∷ 0 ∷ 0 ∷ 0 ∷ 0 ∷ []
cadence R16 = 1 ∷ 0 ∷ 0 ∷ []
cadence R44 = cadence_44
cadence R48 = 1 ∷ []
cadence R96 = 2 ∷ []
cadence R192 = 4 ∷ []

-- the blocks due in a frame, counted from 0 at the rise of RUN
unfoldable pub blocks_of : Rate → ℕ → ℕ
blocks_of rate frame = slice_index (cadence rate) (frame % length (cadence rate))

-- the bytes of a sample's container
abbrev pub container_bytes : Bits → ℕ
container_bytes B16 = 2
container_bytes B24 = 4
container_bytes B32 = 4

-- the bytes of a block of so many channels
abbrev pub bytes_of_block : ℕ → Bits → ℕ
bytes_of_block channels bits = channels * container_bytes bits

abbrev pub block_bytes : Format → ℕ
block_bytes format = bytes_of_block format.channels format.bits

-- the most blocks of a frame
abbrev pub most_blocks : Rate → ℕ
most_blocks R8 = 1
most_blocks R16 = 1
most_blocks R44 = 1
most_blocks R48 = 1
most_blocks R96 = 2
most_blocks R192 = 4

-- the most bytes of a frame
abbrev pub most_bytes : Format → ℕ
most_bytes format = most_blocks format.rate * block_bytes format
