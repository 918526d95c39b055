-- The shelf in memory on which a made sound stands. This project's own.
use Rattle.std.specs.Prelude.{◌≡◌, ℕ, List, [], ◌∷◌, Ok, codes, false}
use Rattle.hda_outside.specs.MemoryShelf.{SteadyShelf}
use Rattle.hda_outside.specs.Shelf.{Files}
use Rattle.wav_reader.specs.declared.opened.WavHead.{WavHead}
use Rattle.wav_reader.specs.Heads.{head_of}
use Rattle.wav_reader.specs.Opening.{head_in_file}
use Rattle.made_inputs.specs.MadeSound.{frames_for, made_format, made_wav}

-- the name of the sound's file
abbrev pub sound_name : List ℕ
sound_name = codes "made.wav"

-- the one file
abbrev pub made_files : ℕ → Files
made_files number = (sound_name, made_wav number) ∷ []

abbrev pub made_shelf : ℕ → SteadyShelf
made_shelf number = record { files = made_files number; missing = 0; given = 0; empties = 0 }

-- what the file says before its sound
pub record IsMadeHead (number : ℕ) (head : WavHead) : Type 0 where
  pub says : head_of (made_wav number) ≡ Ok (head_in_file head)
  pub format_is : head.format ≡ made_format
  pub stereo : head.mono ≡ false
  pub frames_are : head.frames ≡ frames_for number
