-- What holds of every file.
use Rattle.std.specs.Prelude.{◌≡◌, ◌≢◌, ◌≤◌, ◌<◌, ℕ, ◌%◌, ◌/◌, List, length, slice_index, true, false}
use Rattle.std.specs.Prelude.{Ok, All, ◌*◌}
use Rattle.std.specs.List.{flat_map}
use Rattle.stream_format.specs.declared.format.Bits.{Bits}
use Rattle.stream_format.specs.declared.format.Bits.TheVariants.{B16, B24, B32}
use Rattle.stream_format.specs.declared.format.Format.{Format}
use Rattle.stream_format.specs.Cadence.{block_bytes}
use Rattle.stream_format.specs.Layouts.{layout}
use Rattle.wav_reader.specs.declared.formats.Sound.{Sound}
use Rattle.wav_reader.specs.Chunks.{is_riff, chunks_from, chunks_of, is_cut}
use Rattle.wav_reader.specs.Heads.{is_mono, ring_format}
use Rattle.wav_reader.specs.Written.{Part, IsPart, file_bytes, placed, file_frame_bytes}
use Rattle.wav_reader.specs.Written.{plain_format, extensible_format, sound_file, block_file}
use Rattle.wav_reader.specs.Wavs.{Meaning, pieces_of, ring_block, wav_of}

-- the chunks of a file are all whole chunks that it has, up to one that is not whole, however many more are looked for
abbrev pub AreAllFound : Type 0
AreAllFound = (bytes : List ℕ) (most : ℕ) → length bytes ≤ most → chunks_from most bytes 12 ≡ chunks_of bytes

-- what is written as a WAV file is read as its chunks, and nothing is left
pub record IsReadBack (size : List ℕ) (parts : List Part) : Type 0 where
  pub riff : is_riff (file_bytes size parts) ≡ true
  pub chunks : chunks_of (file_bytes size parts) ≡ placed 12 parts
  pub whole : is_cut (file_bytes size parts) ≡ false

abbrev pub AreReadBack : Type 0
AreReadBack = (size : List ℕ) (parts : List Part) → length size ≡ 4 → All IsPart parts → IsReadBack size parts

-- what is read of frames that are written: those that are whole, as the ring gets them
abbrev pub meant_by : Sound → List ℕ → Meaning
meant_by sound frames = record {
  format = ring_format sound;
  mono = is_mono sound.channels;
  frames = length frames / file_frame_bytes sound;
  pcm = flat_map (ring_block (is_mono sound.channels) sound.bits)
      (pieces_of (file_frame_bytes sound) frames (length frames / file_frame_bytes sound));
}

-- so it is, whichever form the chunk `fmt ` has
pub record IsHeardBack (sound : Sound) (frames : List ℕ) : Type 0 where
  pub plain : wav_of (sound_file (plain_format sound) frames) ≡ Ok (meant_by sound frames)
  pub extensible : (valid mask : ℕ) → wav_of (sound_file (extensible_format valid mask sound) frames)
      ≡ Ok (meant_by sound frames)
  -- whole frames of more than one channel whose samples fill their containers stay as they are
  pub stays : is_mono sound.channels ≡ false → sound.bits ≢ B24 → length frames % file_frame_bytes sound ≡ 0
      → (meant_by sound frames).pcm ≡ frames

-- frames that are written as a WAV file are read as these
abbrev pub IsHeardAgain : Type 0
IsHeardAgain = (sound : Sound) (frames : List ℕ) → length frames < 0xFFFF_FFFF → IsHeardBack sound frames

-- the blocks of a ring are whole, and so few that a file can say how many bytes they are
pub record CanBeWritten (format : Format) (ring : List ℕ) : Type 0 where
  pub whole : length ring % block_bytes format ≡ 0
  pub few : length ring ≤ 4294967259

-- the lowest byte of each container of 24 bits is 0
abbrev pub HasNoMore : Bits → List ℕ → Type 0
HasNoMore B16 ring = Unit {0}
HasNoMore B24 ring = (place : ℕ) → 4 * place < length ring → slice_index ring (4 * place) ≡ 0
HasNoMore B32 ring = Unit {0}

-- what a file of the blocks of a ring means: these
abbrev pub meaning_in : Format → List ℕ → Meaning
meaning_in format ring = record {
  format = layout format;
  mono = false;
  frames = length ring / block_bytes format;
  pcm = ring;
}

-- blocks of a ring that are written as a WAV file are read as these
abbrev pub AreBlocksReadBack : Type 0
AreBlocksReadBack = (format : Format) (ring : List ℕ) → CanBeWritten format ring → HasNoMore format.bits ring
    → wav_of (block_file format ring) ≡ Ok (meaning_in format ring)
