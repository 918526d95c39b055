-- A WAV file as it is written, chunk after chunk.
use Rattle.std.specs.Prelude.{◌≡◌, ◌<◌, ℕ, ◌+◌, ◌*◌, ◌/◌, ◌%◌, ◌++◌, List, [], ◌∷◌, length, replicate, drop, codes}
use Rattle.std.specs.List.{flat_map}
use Rattle.byteorder.specs.Endian.{little_bytes}
use Rattle.wav_reader.specs.declared.chunks.Chunk.{Chunk}
use Rattle.stream_format.specs.declared.format.Rate.{Rate}
use Rattle.stream_format.specs.declared.format.Bits.{Bits}
use Rattle.stream_format.specs.declared.format.Bits.TheVariants.{B16, B24, B32}
use Rattle.stream_format.specs.declared.format.Format.{Format}
use Rattle.wav_reader.specs.declared.formats.ChannelCount.TheVariants.{Two}
use Rattle.wav_reader.specs.declared.formats.Sound.{Sound}
use Rattle.wav_reader.specs.Chunks.{kind_at, end_of}
use Rattle.stream_format.specs.Cadence.{hertz, container_bytes}
use Rattle.wav_reader.specs.Wavs.{pieces_of}
use Rattle.wav_reader.specs.Formats.{channels_in, sample_length, pcm_tag, extensible_tag, pcm_subformat}

-- a chunk that is to be written
pub record Part : Type 0 where
  pub name : List ℕ
  pub body : List ℕ

-- its name has four bytes, and so has its size, which is not FFFFFFFFh
pub record IsPart (part : Part) : Type 0 where
  pub name : length part.name ≡ 4
  pub size : length part.body < 0xFFFF_FFFF

-- its name, its size, its body and after an odd size a pad byte
abbrev pub part_bytes : Part → List ℕ
part_bytes part = part.name ++ (little_bytes 4 (length part.body) ++ (part.body ++ replicate (length part.body % 2) 0))

-- a file of some chunks, with any four bytes for its size
abbrev pub file_bytes : List ℕ → List Part → List ℕ
file_bytes size parts = (codes "RIFF" ++ (size ++ codes "WAVE")) ++ flat_map part_bytes parts

-- the chunk that stands at a place
abbrev pub chunk_of : ℕ → Part → Chunk
chunk_of at part = record { kind = kind_at part.name 0; from = at + 8; len = length part.body }

-- the chunks that stand from a place on
abbrev pub placed : ℕ → List Part → List Chunk
placed at [] = []
placed at (part ∷ parts) = chunk_of at part ∷ placed (end_of (chunk_of at part)) parts

-- the bytes of a frame of a sound in its file
abbrev pub file_frame_bytes : Sound → ℕ
file_frame_bytes sound = channels_in sound.channels * sample_length sound.bits

-- sixteen bytes of the body of a chunk `fmt `: the form of the samples, how many channels a frame has, the frames and the
-- bytes of a second, the bytes of a frame, and the bits of a sample
abbrev pub format_numbers : (tag channels frames frame bits : ℕ) → List ℕ
format_numbers tag channels frames frame bits =
    little_bytes 2 tag
    ++ (little_bytes 2 channels
    ++ (little_bytes 4 frames ++ (little_bytes 4 (frame * frames) ++ (little_bytes 2 frame ++ little_bytes 2 bits))))

-- the first sixteen bytes of the body of a chunk `fmt `, with some tag
abbrev pub format_front : ℕ → Sound → List ℕ
format_front tag sound =
    format_numbers tag (channels_in sound.channels) (hertz sound.rate) (file_frame_bytes sound)
    (8 * sample_length sound.bits)

-- those that the extensible form has behind them: how many they are, any valid bits and any channel mask, and the
-- subformat
abbrev pub extension : (valid mask : ℕ) → List ℕ
extension valid mask = little_bytes 2 22 ++ (little_bytes 2 valid ++ (little_bytes 4 mask ++ pcm_subformat))

-- the body of a chunk `fmt ` for a sound, in the plain and in the extensible form
abbrev pub plain_format : Sound → List ℕ
plain_format sound = format_front pcm_tag sound

abbrev pub extensible_format : (valid mask : ℕ) → Sound → List ℕ
extensible_format valid mask sound = format_front extensible_tag sound ++ extension valid mask

-- the chunks of such sound, and its file
abbrev pub sound_parts : (format frames : List ℕ) → List Part
sound_parts format frames = record { name = codes "fmt "; body = format } ∷ record
    { name = codes "data"; body = frames } ∷ []

abbrev pub sound_file : (format frames : List ℕ) → List ℕ
sound_file format frames =
    file_bytes (little_bytes 4 (20 + length format + length frames)) (sound_parts format frames)

-- two channels of 16 bits
abbrev pub stereo_sound : Rate → Sound
stereo_sound rate = record { rate = rate; bits = B16; channels = Two }

abbrev pub stereo_format : Rate → List ℕ
stereo_format rate = plain_format (stereo_sound rate)

abbrev pub stereo_file : Rate → List ℕ → List ℕ
stereo_file rate frames = sound_file (stereo_format rate) frames

-- ---- the blocks of a ring

-- a container's sample as a file has it: one of 24 bits stands in the upper three of the container's four bytes
abbrev pub file_sample : Bits → List ℕ → List ℕ
file_sample B16 container = container
file_sample B24 container = drop 1 container
file_sample B32 container = container

-- the samples of a ring's containers, one after another
abbrev pub file_samples : Bits → List ℕ → List ℕ
file_samples bits ring =
    flat_map (file_sample bits) (pieces_of (container_bytes bits) ring (length ring / container_bytes bits))

-- the body of a chunk `fmt ` for the blocks of a ring, in the plain form
abbrev pub block_format : Format → List ℕ
block_format format =
    format_numbers pcm_tag format.channels (hertz format.rate) (format.channels * sample_length format.bits)
    (8 * sample_length format.bits)

-- the file of the blocks of a ring
unfoldable pub block_file : Format → List ℕ → List ℕ
block_file format ring = sound_file (block_format format) (file_samples format.bits ring)
