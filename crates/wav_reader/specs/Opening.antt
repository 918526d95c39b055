-- What opening a WAV file answers, by what a shelf tells of it. This project's own.
use Rattle.std.specs.Prelude.{◌≡◌, ◌≢◌, ◌⊎◌, ◌≤◌, ◌<◌, ℕ, ◌*◌, List, length, Option, Some, None, Result, Ok, Err}
use Rattle.stream_format.specs.Cadence.{block_bytes}
use Rattle.stream_format.specs.Layouts.{layout}
use Rattle.wav_reader.specs.declared.fault.WavFault.TheVariants as faults
use Rattle.wav_reader.specs.declared.opened.WavHead.{WavHead}
use Rattle.wav_reader.specs.declared.opened.WavOpen.{WavOpen}
use Rattle.wav_reader.specs.declared.opened.WavOpen.TheVariants.{Failed, TooLong, Wav, OutOfMemory}
use Rattle.wav_reader.specs.Heads.{Head, head_of}

-- the most bytes of a WAV file
abbrev pub most_wav_bytes : ℕ
most_wav_bytes = 67108864

-- what a file says before its sound
abbrev pub head_in_file : WavHead → Head
head_in_file head = record { format = layout head.format; mono = head.mono; from = head.from; frames = head.frames }

-- the bytes of all blocks that the ring gets
abbrev pub total_of : WavHead → ℕ
total_of head = head.frames * block_bytes head.format

-- what was answered of a file with these bytes
abbrev pub IsOpened : (file : List ℕ) → Result WavHead WavOpen → Type 0
IsOpened file (Ok head) = (head.length ≡ length file) × (length file ≤ most_wav_bytes)
    × (head_of file ≡ Ok (head_in_file head))
IsOpened file (Err Failed) = Unit {0}
IsOpened file (Err TooLong) = most_wav_bytes < length file
IsOpened file (Err (Wav fault)) = (length file ≤ most_wav_bytes) × (head_of file ≡ Err fault)
IsOpened file (Err OutOfMemory) = Unit {0}

-- so where there may be no such file: then the shelf failed
abbrev pub IsOpenedBy : Option (List ℕ) → Result WavHead WavOpen → Type 0
IsOpenedBy None result = (result ≡ Err Failed) ⊎ (result ≡ Err OutOfMemory)
IsOpenedBy (Some file) result = IsOpened file result

-- want of memory is no fault of the file
abbrev pub IsOfFile : {A : Type 0} → Result A WavOpen → Type 0
IsOfFile (Ok _) = Unit {0}
IsOfFile (Err Failed) = Unit {0}
IsOfFile (Err TooLong) = Unit {0}
IsOfFile (Err (Wav fault)) = fault ≢ faults.OutOfMemory
IsOfFile (Err OutOfMemory) = Unit {0}
