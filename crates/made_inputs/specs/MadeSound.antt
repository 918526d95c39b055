-- The sound that is made of a number. This project's own.
use Rattle.std.specs.Prelude.{ℕ, ◌+◌, ◌*◌, ◌/◌, ◌%◌, List, [], ◌∷◌, false, refl}
use Rattle.std.specs.List.{flat_map, range_with_len}
use Rattle.std.proofs.Common.{lit≤}
use Rattle.stream_format.specs.declared.format.Format.{Format}
use Rattle.stream_format.specs.declared.format.Bits.TheVariants.{B16}
use Rattle.stream_format.specs.declared.format.Rate.TheVariants.{R48}
use Rattle.wav_reader.specs.declared.wav.Wav.{Wav}
use Rattle.wav_reader.specs.Written.{stereo_file}

-- 48 kHz, 16 bits, 2 channels
abbrev pub made_format : Format
made_format = record { rate = R48; bits = B16; channels = 2; even = refl; some = lit≤ tt; few = lit≤ tt }

-- how many frames it has
abbrev pub frames_for : ℕ → ℕ
frames_for number = 1000 + number % 50000

-- the samples of a frame, counted from 0, as numbers of 16 bits
abbrev pub left_sample : (number frame : ℕ) → ℕ
left_sample number frame = (7 * frame + number) % 65536

abbrev pub right_sample : (number frame : ℕ) → ℕ
right_sample number frame = (13 * frame + number) % 65536

-- the block of a frame: left, and then right, each with its lower byte first
abbrev pub made_frame : (number frame : ℕ) → List ℕ
made_frame number frame =
    left_sample number frame % 256 ∷ left_sample number frame / 256
    ∷ right_sample number frame % 256 ∷ right_sample number frame / 256 ∷ []

-- the blocks of the first so many frames
abbrev pub first_frames : (number count : ℕ) → List ℕ
first_frames number count = flat_map (made_frame number) (range_with_len 0 count)

-- all of them
abbrev pub made_pcm : ℕ → List ℕ
made_pcm number = first_frames number (frames_for number)

-- the sound
abbrev pub made_sound : ℕ → Wav
made_sound number = record { format = made_format; mono = false; frames = frames_for number; pcm = made_pcm number }

-- the bytes of its WAV file
unfoldable pub made_wav : ℕ → List ℕ
made_wav number = stereo_file R48 (made_pcm number)
