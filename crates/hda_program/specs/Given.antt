-- The WAV file whose sound input pins are given. This project's own.
use Rattle.std.specs.Prelude.{◌≡◌, ◌≢◌, ◌⊎◌, ◌≤◌, ◌*◌, ℕ, List, length, Option, Result, Ok, Err}
use Rattle.hda_outside.specs.Shelf.{Files}
use Rattle.stream_format.specs.Cadence.{block_bytes}
use Rattle.wav_reader.specs.declared.fault.WavFault.{WavFault}
use Rattle.wav_reader.specs.declared.fault.WavFault.TheVariants as faults
use Rattle.wav_reader.specs.declared.wav.Wav.{Wav}
use Rattle.wav_reader.specs.FaultText.{wav_fault_text}
use Rattle.wav_reader.specs.Opening.{most_wav_bytes}
use Rattle.wav_reader.specs.Wavs.{Meaning, meaning, wav_of}
use Rattle.sound_report.specs.declared.status.Status.TheVariants.{WavRefused}
use Rattle.hda_program.specs.declared.message.Message.{Message}
use Rattle.hda_program.specs.Files.{IsRefused, IsShortFile, StopsAt}
use Rattle.hda_program.specs.Meanings.{Meant, message_meant, telling}
use Rattle.hda_program.specs.Text.{wav_refused_line}

-- the file of this name is short enough and reads as this sound, which has two channels, as one that is doubled has
pub record IsGivenOf (told : Option Files) (name : List ℕ) (wav : Wav) : Type 0 where
  pub bytes : List ℕ
  pub file : IsShortFile most_wav_bytes told name bytes
  pub reads : wav_of bytes ≡ Ok (meaning wav)
  pub stereo : wav.format.channels ≡ 2

-- the bytes read as a fault, or as a sound of another number of channels; the text names it
abbrev pub IsGivenFault : (bytes text : List ℕ) → Type 0
IsGivenFault bytes text =
    ((fault : WavFault) × (fault ≢ faults.OutOfMemory) × (wav_of bytes ≡ Err fault) × (text ≡ wav_fault_text fault))
    ⊎ ((sound : Meaning) × (wav_of bytes ≡ Ok sound) × (sound.format.channels ≢ 2)
    × (text ≡ wav_fault_text (faults.Channels sound.format.channels)))

abbrev pub IsGivenRefused : Option Files → (name text : List ℕ) → Type 0
IsGivenRefused told name text = IsRefused most_wav_bytes IsGivenFault told name text

abbrev pub GivenStops : Option Files → (failed : List ℕ → Type 0) → (name : List ℕ) → Meant → Type 0
GivenStops told failed name meant = StopsAt (IsGivenRefused told name) WavRefused wav_refused_line failed name meant

-- a sound as it is read whole has a block for each frame, and three bytes of its file become eight at most
pub record IsWholeSound (wav : Wav) : Type 0 where
  pub whole : length wav.pcm ≡ wav.frames * block_bytes wav.format
  pub short : 3 * length wav.pcm ≤ 8 * most_wav_bytes

-- what reading the file gives: its sound, or the end of the command
abbrev pub IsGivenRead : Option Files → (failed : List ℕ → Type 0) → (name : List ℕ) → Result Wav Message → Type 0
IsGivenRead told failed name (Ok wav) = IsGivenOf told name wav × IsWholeSound wav
IsGivenRead told failed name (Err message) = GivenStops told failed name (message_meant message)

-- what its bytes give
abbrev pub AreGivenBytesRead : List ℕ → Result Wav Message → Type 0
AreGivenBytesRead bytes (Ok wav) =
    (wav_of bytes ≡ Ok (meaning wav)) × (wav.format.channels ≡ 2) × IsWholeSound wav
AreGivenBytesRead bytes (Err message) = (text : List ℕ) × IsGivenFault bytes text
    × (message_meant message ≡ telling WavRefused (wav_refused_line text))

-- a sound, where it has two channels, or the message that names how many it has
abbrev pub IsStereo : Wav → Result Wav Message → Type 0
IsStereo wav (Ok sound) = (sound ≡ wav) × (wav.format.channels ≡ 2)
IsStereo wav (Err message) = (wav.format.channels ≢ 2)
    × (message_meant message
    ≡ telling WavRefused (wav_refused_line (wav_fault_text (faults.Channels wav.format.channels))))
