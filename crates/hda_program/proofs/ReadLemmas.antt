-- What was read of a file, as what the file comes to.
use Rattle.std.proofs.Common.{◌≡◌, ◌≢◌, ℕ, ◌≤◌, List, length, inl, inr, Result, Ok, Err, Option, Some, None, refl}
use Rattle.std.specs.Prelude.{IfSome}
use Rattle.hda_outside.specs.Shelf.{Files, file_of}
use Rattle.hda_files.specs.declared.machine.Machine.{Machine}
use Rattle.schedule_reader.specs.declared.schedule.Schedule.{Schedule}
use Rattle.schedule_reader.specs.declared.fault.SchedFault.{SchedFault}
use Rattle.schedule_reader.specs.declared.fault.SchedFault.TheVariants.{OutOfMemory}
use Rattle.schedule_reader.specs.Schedules.{schedule_of, IsReadingOf}
use Rattle.wav_reader.specs.declared.fault.WavFault.{WavFault}
use Rattle.wav_reader.specs.declared.opened.WavHead.{WavHead}
use Rattle.wav_reader.specs.declared.opened.WavOpen.TheVariants as opening
use Rattle.wav_reader.specs.Opening.{IsOpenedBy, most_wav_bytes}
use Rattle.hda_program.specs.declared.message.Message.{Message}
use Rattle.hda_program.specs.Files.{IsFile, IsCodecRead, IsFaultIn, IsFaultTold, IsHeadIn, IsHeadTold, IsLonger, IsScheduleRead, AreCodecBytesRead, AreScheduleBytesRead, most_codec_bytes, most_schedule_bytes}

-- bytes of a codec file that were read
pub codec_read : (told : Option Files) (failed : List ℕ → Type 0) (gave : ℕ → Type 0) (name bytes : List ℕ) (read : Result Machine Message) → IsFile told name bytes → length bytes ≤ most_codec_bytes
    → gave (length bytes) → AreCodecBytesRead bytes read → IsCodecRead told failed gave name read
codec_read told failed gave name bytes (Ok machine) file short given read = (record { bytes = bytes; file = record { file = file; short = short }; reads = read.0 }, read.1, given)
codec_read told failed gave name bytes (Err message) file short given read = inr (read.0, inr (bytes, record { file = file; short = short }, read.1), read.2)

-- ---- the WAV file, as it was opened

module _ (files : Files) (name : List ℕ) where
  head_in : (head : WavHead) (found : Option (List ℕ)) → file_of files name ≡ found → IsOpenedBy found (Ok head) → IsHeadIn files name head
  head_in head None file (inl bad) = cc
  head_in head None file (inr bad) = cc
  head_in head (Some bytes) file opened = record { bytes = bytes; file = file; short = opened.1; length_is = opened.0; says = opened.2 }

  fault_in : (fault : WavFault) (found : Option (List ℕ)) → file_of files name ≡ found → IsOpenedBy found (Err (opening.Wav fault)) → IsFaultIn files name fault
  fault_in fault None file (inl bad) = cc
  fault_in fault None file (inr bad) = cc
  fault_in fault (Some bytes) file opened = record { bytes = bytes; file = file; short = opened.0; says = opened.1 }

  longer_in : (found : Option (List ℕ)) → file_of files name ≡ found → IsOpenedBy found (Err opening.TooLong) → IsLonger most_wav_bytes (Some files) name
  longer_in None file (inl bad) = cc
  longer_in None file (inr bad) = cc
  longer_in (Some bytes) file long = (bytes, file, long)

-- what it says before its sound
pub head_told : (told : Option Files) (name : List ℕ) (head : WavHead) → IfSome told (λ files. IsOpenedBy (file_of files name) (Ok head)) → IsHeadTold told name head
head_told None name head opened = tt
head_told (Some files) name head opened = head_in files name head (file_of files name) refl opened

-- its fault
pub fault_told : (told : Option Files) (name : List ℕ) (fault : WavFault) → IfSome told (λ files. IsOpenedBy (file_of files name) (Err (opening.Wav fault))) → IsFaultTold told name fault
fault_told None name fault opened = tt
fault_told (Some files) name fault opened = fault_in files name fault (file_of files name) refl opened

-- that it is too long
pub longer_told : (told : Option Files) (name : List ℕ) → IfSome told (λ files. IsOpenedBy (file_of files name) (Err opening.TooLong)) → IsLonger most_wav_bytes told name
longer_told None name opened = tt
longer_told (Some files) name opened = longer_in files name (file_of files name) refl opened

-- bytes of a schedule that were read
pub schedule_read : (told : Option Files) (failed : List ℕ → Type 0) (gave : ℕ → Type 0) (name bytes : List ℕ) (read : Result Schedule Message) → IsFile told name bytes → length bytes ≤ most_schedule_bytes
    → gave (length bytes) → AreScheduleBytesRead bytes read → IsScheduleRead told failed gave name read
schedule_read told failed gave name bytes (Ok schedule) file short given read = (record { bytes = bytes; file = record { file = file; short = short }; reads = read.0 }, read.1, given)
schedule_read told failed gave name bytes (Err message) file short given read = inr (read.0, inr (bytes, record { file = file; short = short }, read.1), read.2)

-- a reading that is a schedule is what the bytes mean, and so is a fault other than want of memory
pub schedule_meant : (bytes : List ℕ) (schedule : Schedule) → IsReadingOf bytes (Ok schedule) → schedule_of bytes ≡ Ok schedule
schedule_meant bytes schedule (inl memory) = let bad : Ok schedule ≡ Err OutOfMemory = memory in cc
schedule_meant bytes schedule (inr is) = cc

pub fault_meant : (bytes : List ℕ) (fault : SchedFault) → fault ≢ OutOfMemory → IsReadingOf bytes (Err fault) → schedule_of bytes ≡ Err fault
fault_meant bytes fault known (inl memory) = let same : fault ≡ OutOfMemory = cc in absurd (known same)
fault_meant bytes fault known (inr is) = cc
