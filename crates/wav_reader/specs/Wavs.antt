-- What a WAV file means: its format and its sound in ring bytes, or its first fault. A block of the ring holds a
-- container for each channel, lowest byte first: High Definition Audio 1.0a, 4.5.1.
use Rattle.std.specs.Prelude.{◌≡◌, ℕ, ◌*◌, ◌/◌, List, ◌∷◌, ◌++◌, length, map, take, drop, Bool, Result, Ok, Err}
use Rattle.std.specs.Prelude.{if◌then◌else◌}
use Rattle.std.specs.List.{range_with_len, flat_map}
use Rattle.stream_format.specs.declared.format.Bits.{Bits}
use Rattle.stream_format.specs.declared.format.Bits.TheVariants.{B16, B24, B32}
use Rattle.stream_format.specs.Layouts.{Layout, layout}
use Rattle.wav_reader.specs.declared.fault.WavFault.{WavFault}
use Rattle.wav_reader.specs.declared.wav.Wav.{Wav}
use Rattle.wav_reader.specs.Memory.{OrMemory}
use Rattle.wav_reader.specs.Formats.{◌>>=◌, sample_length}
use Rattle.wav_reader.specs.Heads.{Head, head_of, frame_length}

-- a list cut into pieces of one length: the piece with this number, counted from 0
abbrev pub piece_at : ℕ → List ℕ → ℕ → List ℕ
piece_at size bytes number = take size (drop (size * number) bytes)

-- the first so many of them
abbrev pub pieces_of : ℕ → List ℕ → ℕ → List (List ℕ)
pieces_of size bytes count = map (piece_at size bytes) (range_with_len 0 count)

-- all frames of the file, in order
abbrev pub frames_of : List ℕ → Head → List (List ℕ)
frames_of bytes head = pieces_of (frame_length head.mono head.format) (drop head.from bytes) head.frames

-- the samples of a frame, one for each channel of the file
abbrev pub samples_of : Bits → List ℕ → List (List ℕ)
samples_of bits frame = pieces_of (sample_length bits) frame (length frame / sample_length bits)

-- those of a block of the ring: the one of a mono frame stands left and right
abbrev pub ring_samples : Bool → List (List ℕ) → List (List ℕ)
ring_samples mono samples = if mono then samples ++ samples else samples

-- a sample in its container: one of 24 bits stands in the upper three of four bytes, behind a byte 0
abbrev pub container : Bits → List ℕ → List ℕ
container B16 sample = sample
container B24 sample = 0 ∷ sample
container B32 sample = sample

-- the block that the ring gets for a frame
abbrev pub ring_block : Bool → Bits → List ℕ → List ℕ
ring_block mono bits frame = flat_map (container bits) (ring_samples mono (samples_of bits frame))

-- the blocks that the ring gets, one after the other
unfoldable pub ring_bytes : List ℕ → Head → List ℕ
ring_bytes bytes head = flat_map (ring_block head.mono head.format.bits) (frames_of bytes head)

-- what a file means
pub record Meaning : Type 0 where
  pub format : Layout
  pub mono : Bool
  pub frames : ℕ
  pub pcm : List ℕ

abbrev pub meaning_by : List ℕ → Head → Meaning
meaning_by bytes head = record {
  format = head.format;
  mono = head.mono;
  frames = head.frames;
  pcm = ring_bytes bytes head;
}

-- what the bytes of a file mean, or their first fault
abbrev pub wav_of : List ℕ → Result Meaning WavFault
wav_of bytes = do
  head ← head_of bytes
  Ok (meaning_by bytes head)

-- what was read says this
abbrev pub meaning : Wav → Meaning
meaning wav = record { format = layout wav.format; mono = wav.mono; frames = wav.frames; pcm = wav.pcm }

abbrev pub seen : Result Wav WavFault → Result Meaning WavFault
seen (Ok wav) = Ok (meaning wav)
seen (Err fault) = Err fault

-- the result is what the bytes mean, or memory was wanting
abbrev pub Reads : List ℕ → Result Wav WavFault → Type 0
Reads bytes result = OrMemory result (seen result ≡ wav_of bytes)
