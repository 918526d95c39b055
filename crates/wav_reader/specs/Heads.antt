-- Where the sound of a WAV file stands: the first chunk `fmt ` says its format, and the first chunk `data` has it.
-- Chunks are read in order, and the first fault counts. Which chunks are read and what is a fault is this project's
-- own.
use Rattle.std.specs.Prelude.{◌≡◌, ◌≤◌, ℕ, ◌+◌, ◌*◌, ◌/◌, ◌%◌, ◌==◌, List, length, Bool, true, false, Result, Ok, Err}
use Rattle.std.specs.Prelude.{Option}
use Rattle.std.specs.Prelude.{Some, None, if◌then◌else◌}
use Rattle.std.specs.List.{find, before_first}
use Rattle.stream_format.specs.Layouts.{Layout}
use Rattle.wav_reader.specs.declared.fault.WavFault.{WavFault}
use Rattle.wav_reader.specs.declared.fault.WavFault.TheVariants.{NotRiff, NoFormat, NoData, Truncated}
use Rattle.wav_reader.specs.declared.chunks.Kind.{Kind}
use Rattle.wav_reader.specs.declared.chunks.Kind.TheVariants.{Format, Data, Other}
use Rattle.wav_reader.specs.declared.chunks.Chunk.{Chunk}
use Rattle.wav_reader.specs.declared.formats.ChannelCount.{ChannelCount}
use Rattle.wav_reader.specs.declared.formats.Sound.{Sound}
use Rattle.wav_reader.specs.Chunks.{is_riff, chunks_of, is_cut, body_of}
use Rattle.wav_reader.specs.Formats.{◌>>=◌, sound_of, checked, channels_in, sample_length}

-- what a file says before its sound: the format in which the ring gets it, whether a frame of the file has one sample
-- that is doubled, the place of the first frame in the file, and how many whole frames there are
pub record Head : Type 0 where
  pub format : Layout
  pub mono : Bool
  pub from : ℕ
  pub frames : ℕ

-- whether a sound has one channel, whose samples are doubled
abbrev pub is_mono : ChannelCount → Bool
is_mono channels = channels_in channels == 1

-- the channels of the ring: those of the file, and two for the one that is doubled
abbrev pub ring_channels : ChannelCount → ℕ
ring_channels channels = if is_mono channels then 2 else channels_in channels

-- the format in which the ring gets a sound
abbrev pub ring_format : Sound → Layout
ring_format sound = record { rate = sound.rate; bits = sound.bits; channels = ring_channels sound.channels }

-- the bytes of a frame in the file: a sample for each channel of the ring, but one where it is doubled
abbrev pub frame_length : Bool → Layout → ℕ
frame_length mono format = (if mono then 1 else format.channels) * sample_length format.bits

-- a sound in the body of a chunk; bytes that make no whole frame are ignored
abbrev pub head_with : Sound → Chunk → Head
head_with sound chunk = record {
  format = ring_format sound;
  mono = is_mono sound.channels;
  from = chunk.from;
  frames = chunk.len / frame_length (is_mono sound.channels) (ring_format sound);
}

-- whether a chunk is `fmt `, and whether it is `data`
abbrev pub is_format_kind : Kind → Bool
is_format_kind Format = true
is_format_kind Data = false
is_format_kind Other = false

abbrev pub is_data_kind : Kind → Bool
is_data_kind Format = false
is_data_kind Data = true
is_data_kind Other = false

abbrev pub is_format : Chunk → Bool
is_format chunk = is_format_kind chunk.kind

abbrev pub is_data : Chunk → Bool
is_data chunk = is_data_kind chunk.kind

-- the sound that a chunk `fmt ` says, where there is one
abbrev pub sound_by : List ℕ → Option Chunk → Result (Option Sound) WavFault
sound_by bytes None = Ok None
sound_by bytes (Some chunk) = do
  sound ← sound_of (body_of bytes chunk)
  Ok (Some sound)

-- the sound in the body of a chunk `data`
abbrev pub sound_in : Option Sound → Chunk → Result Head WavFault
sound_in None chunk = Err NoFormat
sound_in (Some sound) chunk = Ok (head_with sound chunk)

-- where the sound stands, by the chunk `data`: without one the file is cut short, or ends
abbrev pub sound_at : List ℕ → Bool → Option Sound → Option Chunk → Result Head WavFault
sound_at bytes cut sound (Some chunk) = sound_in sound chunk
sound_at bytes cut sound None = Err (if cut then Truncated (length bytes) else NoData)

-- what some chunks say: of those before the first `data` the first `fmt ` says the sound, whose fault comes first since
-- it stands first, and the first `data` has it
abbrev pub head_by : List ℕ → Bool → List Chunk → Result Head WavFault
head_by bytes cut chunks = do
  sound ← sound_by bytes (find is_format (before_first is_data chunks))
  sound_at bytes cut sound (find is_data chunks)

-- what the chunks of a file say
abbrev pub head_in : List ℕ → Result Head WavFault
head_in bytes = head_by bytes (is_cut bytes) (chunks_of bytes)

-- what a file says before its sound, or the file's first fault
unfoldable pub head_of : List ℕ → Result Head WavFault
head_of bytes = do
  _ ← checked (is_riff bytes) NotRiff
  head_in bytes

-- the frames end in the file
abbrev pub EndsWithin : List ℕ → Head → Type 0
EndsWithin bytes head = head.from + head.frames * frame_length head.mono head.format ≤ length bytes

-- the ring gets 2, 4, 6 or 8 channels, and two where the one of a mono file is doubled
pub record IsRingFormat (mono : Bool) (format : Layout) : Type 0 where
  pub even : format.channels % 2 ≡ 0
  pub some : 2 ≤ format.channels
  pub few : format.channels ≤ 8
  pub doubled : mono ≡ true → format.channels ≡ 2
