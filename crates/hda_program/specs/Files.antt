-- What the files that the words name come to. This project's own.
use Rattle.std.specs.Prelude.{◌≡◌, ◌≢◌, ◌⊎◌, ◌<◌, ◌≤◌, ◌+◌, ◌*◌, ℕ, List, length, Option, Some, None, Result, Ok, Err}
use Rattle.std.specs.Prelude.{codes}
use Rattle.hda_outside.specs.Counts.{Rose}
use Rattle.hda_outside.specs.Shelf.{Files, file_of}
use Rattle.hda_files.specs.declared.machine.Machine.{Machine}
use Rattle.hda_files.specs.declared.fault.FileFault.{FileFault}
use Rattle.hda_files.specs.declared.fault.FileFault.TheVariants.{OutOfMemory}
use Rattle.hda_files.specs.Machines.{Reads, IsSound}
use Rattle.schedule_reader.specs.declared.schedule.Schedule.{Schedule}
use Rattle.schedule_reader.specs.declared.fault.SchedFault.{SchedFault}
use Rattle.schedule_reader.specs.Schedules.{schedule_of, IsLimited}
use Rattle.schedule_reader.specs.Ranges.{IsInRange}
use Rattle.stream_format.specs.Layouts.{layout}
use Rattle.wav_reader.specs.declared.fault.WavFault.{WavFault}
use Rattle.wav_reader.specs.declared.fault.WavFault.TheVariants as wav
use Rattle.wav_reader.specs.declared.opened.WavHead.{WavHead}
use Rattle.wav_reader.specs.Heads.{frame_length, head_of}
use Rattle.wav_reader.specs.Opening.{head_in_file, most_wav_bytes}
use Rattle.sound_report.specs.declared.status.Status.{Status}
use Rattle.sound_report.specs.declared.status.Status.TheVariants.{ShelfFailed, CodecRefused, WavRefused}
use Rattle.sound_report.specs.declared.status.Status.TheVariants.{ScheduleRefused}
use Rattle.hda_program.specs.declared.message.Message.{Message}
use Rattle.hda_program.specs.Meanings.{Meant, telling, message_meant}
use Rattle.sound_report.specs.Texts.{unreadable_line}
use Rattle.hda_files.specs.FaultText as codec_words
use Rattle.schedule_reader.specs.FaultText as schedule_words
use Rattle.wav_reader.specs.FaultText as wav_words
use Rattle.hda_program.specs.Text.{codec_refused_line}
use Rattle.hda_program.specs.Text.{wav_refused_line, schedule_refused_line}

-- how long a codec file and a schedule may be
abbrev pub most_codec_bytes : ℕ
most_codec_bytes = 262144

abbrev pub most_schedule_bytes : ℕ
most_schedule_bytes = 4194304

-- where the files are told, these are the bytes under the name
abbrev pub IsFile : Option Files → List ℕ → List ℕ → Type 0
IsFile None name bytes = Unit {0}
IsFile (Some files) name bytes = file_of files name ≡ Some bytes

-- where the files are told, there are more than so many bytes under the name
abbrev pub IsLonger : ℕ → Option Files → List ℕ → Type 0
IsLonger most None name = Unit {0}
IsLonger most (Some files) name = (bytes : List ℕ) × (file_of files name ≡ Some bytes) × (most < length bytes)

-- the file is short enough, and has these bytes
pub record IsShortFile (most : ℕ) (told : Option Files) (name bytes : List ℕ) : Type 0 where
  pub file : IsFile told name bytes
  pub short : length bytes ≤ most

-- under this name the shelf failed between two counts of its faults
abbrev pub FailedUnder : (before after : List ℕ → ℕ) → List ℕ → Type 0
FailedUnder before after name = Rose (before name) (after name)

-- or it answered a call for some bytes with none
abbrev pub EmptiedUnder : (before after : List ℕ → ℕ) → List ℕ → Type 0
EmptiedUnder before after name = Rose (before name) (after name)

-- or it was not asked under it
abbrev pub UnaskedUnder : (before after : List ℕ → ℕ) → List ℕ → Type 0
UnaskedUnder before after name = after name ≡ before name

-- of all names it was asked under this alone
abbrev pub IsAskedAlone : (unasked : List ℕ → Type 0) → (name : List ℕ) → Type 0
IsAskedAlone unasked name = (other : List ℕ) → other ≢ name → unasked other

-- between two counts of the bytes that it gave, it gave no more than so many
abbrev pub GivenAtMost : (before after bytes : ℕ) → Type 0
GivenAtMost before after bytes = after ≤ before + bytes

-- the shelf failed under the name, and the text says so
abbrev pub IsUnread : (List ℕ → Type 0) → List ℕ → Meant → Type 0
IsUnread failed name meant = failed name × (meant ≡ telling ShelfFailed (unreadable_line name))

-- a file that may have so many bytes at most is refused: it is too long, or its bytes read as a fault; the text says
-- which
abbrev pub IsRefused : (most : ℕ) → (IsFault : (bytes text : List ℕ) → Type 0) → Option Files → (name text : List ℕ)
    → Type 0
IsRefused most IsFault told name text =
    (IsLonger most told name × (text ≡ codes "TooLong"))
    ⊎ ((bytes : List ℕ) × IsShortFile most told name bytes × IsFault bytes text)

-- a command ends at a file: the shelf failed, or the file is refused, with this status and a line of this kind
abbrev pub StopsAt : (IsRefusedAs : (text : List ℕ) → Type 0) → Status → (line : List ℕ → List ℕ)
    → (failed : List ℕ → Type 0)
    → (name : List ℕ) → Meant → Type 0
StopsAt IsRefusedAs status line failed name meant =
    IsUnread failed name meant ⊎ ((text : List ℕ) × IsRefusedAs text × (meant ≡ telling status (line text)))

-- ---- the codec file

-- the file of this name reads as this machine
pub record IsMachineOf (told : Option Files) (name : List ℕ) (machine : Machine) : Type 0 where
  pub bytes : List ℕ
  pub file : IsShortFile most_codec_bytes told name bytes
  pub reads : Reads bytes (Ok machine)

-- the bytes read as a fault, which the text names
pub record IsCodecFault (bytes text : List ℕ) : Type 0 where
  pub fault : FileFault
  pub known : fault ≢ OutOfMemory
  pub reads : Reads bytes (Err fault)
  pub says : text ≡ codec_words.file_fault_text fault

abbrev pub IsCodecRefused : Option Files → (name text : List ℕ) → Type 0
IsCodecRefused told name text = IsRefused most_codec_bytes IsCodecFault told name text

abbrev pub CodecStops : Option Files → (List ℕ → Type 0) → (name : List ℕ) → Meant → Type 0
CodecStops told failed name meant = StopsAt (IsCodecRefused told name) CodecRefused codec_refused_line failed name meant

-- what reading the codec file gives: a sound machine, where no more bytes were given than the file has, or the end of
-- the command
abbrev pub IsCodecRead : Option Files → (failed : List ℕ → Type 0) → (gave : ℕ → Type 0) → List ℕ
    → Result Machine Message → Type 0
IsCodecRead told failed gave name (Ok machine) =
    (file : IsMachineOf told name machine) × IsSound machine × gave (length file.bytes)
IsCodecRead told failed gave name (Err message) = CodecStops told failed name (message_meant message)

-- what its bytes give
abbrev pub AreCodecBytesRead : List ℕ → Result Machine Message → Type 0
AreCodecBytesRead bytes (Ok machine) = Reads bytes (Ok machine) × IsSound machine
AreCodecBytesRead bytes (Err message) = (text : List ℕ) × IsCodecFault bytes text
    × (message_meant message ≡ telling CodecRefused (codec_refused_line text))

-- ---- the WAV file

-- of these files the one of this name is short enough, is as long as was measured, and says this before its sound
pub record IsHeadIn (files : Files) (name : List ℕ) (head : WavHead) : Type 0 where
  pub bytes : List ℕ
  pub file : file_of files name ≡ Some bytes
  pub short : length bytes ≤ most_wav_bytes
  pub length_is : head.length ≡ length bytes
  pub says : head_of bytes ≡ Ok (head_in_file head)

-- of these files the one of this name is short enough and has this fault
pub record IsFaultIn (files : Files) (name : List ℕ) (fault : WavFault) : Type 0 where
  pub bytes : List ℕ
  pub file : file_of files name ≡ Some bytes
  pub short : length bytes ≤ most_wav_bytes
  pub says : head_of bytes ≡ Err fault

-- so where the files are told
abbrev pub IsHeadTold : Option Files → (name : List ℕ) → WavHead → Type 0
IsHeadTold None name head = Unit {0}
IsHeadTold (Some files) name head = IsHeadIn files name head

abbrev pub IsFaultTold : Option Files → (name : List ℕ) → WavFault → Type 0
IsFaultTold None name fault = Unit {0}
IsFaultTold (Some files) name fault = IsFaultIn files name fault

-- the file of this name says this before its sound, which ends within the file
pub record IsHeadOf (told : Option Files) (name : List ℕ) (head : WavHead) : Type 0 where
  pub file : IsHeadTold told name head
  pub short : head.length ≤ most_wav_bytes
  pub within : head.from + head.frames * frame_length head.mono (layout head.format) ≤ head.length

-- the file has a fault before its sound, which the text names
pub record IsWavFault (told : Option Files) (name text : List ℕ) : Type 0 where
  pub fault : WavFault
  pub known : fault ≢ wav.OutOfMemory
  pub file : IsFaultTold told name fault
  pub says : text ≡ wav_words.wav_fault_text fault

-- a WAV file is refused: it is too long, or has a fault before its sound; the text says which
abbrev pub IsWavRefused : Option Files → (name text : List ℕ) → Type 0
IsWavRefused told name text = (IsLonger most_wav_bytes told name × (text ≡ codes "TooLong")) ⊎ IsWavFault told name text

abbrev pub WavStops : Option Files → (failed : List ℕ → Type 0) → (name : List ℕ) → Meant → Type 0
WavStops told failed name meant = StopsAt (IsWavRefused told name) WavRefused wav_refused_line failed name meant

-- how many bytes are given at most of what stands before a sound, and of those by which the file is measured
abbrev pub bytes_before : WavHead → ℕ
bytes_before head = head.from + 64

-- what opening the WAV file gives: what it says before its sound, of which no byte was given, or the end of the command
abbrev pub IsWavOpened : Option Files → (failed : List ℕ → Type 0) → (gave : ℕ → Type 0) → List ℕ
    → Result WavHead Message → Type 0
IsWavOpened told failed gave name (Ok head) = IsHeadOf told name head × gave (bytes_before head)
IsWavOpened told failed gave name (Err message) = WavStops told failed name (message_meant message)

-- ---- the schedule

-- the file of this name reads as this schedule
pub record IsScheduleOf (told : Option Files) (name : List ℕ) (schedule : Schedule) : Type 0 where
  pub bytes : List ℕ
  pub file : IsShortFile most_schedule_bytes told name bytes
  pub reads : schedule_of bytes ≡ Ok schedule

-- the bytes read as a fault, which the text names
pub record IsScheduleFault (bytes text : List ℕ) : Type 0 where
  pub fault : SchedFault
  pub reads : schedule_of bytes ≡ Err fault
  pub says : text ≡ schedule_words.schedule_fault_text fault

abbrev pub IsScheduleRefused : Option Files → (name text : List ℕ) → Type 0
IsScheduleRefused told name text = IsRefused most_schedule_bytes IsScheduleFault told name text

abbrev pub ScheduleStops : Option Files → (List ℕ → Type 0) → (name : List ℕ) → Meant → Type 0
ScheduleStops told failed name meant = StopsAt (IsScheduleRefused told name) ScheduleRefused schedule_refused_line
    failed name meant

-- a schedule as it is read keeps its ranges and limits
pub record IsGoodSchedule (schedule : Schedule) : Type 0 where
  pub ranges : IsInRange schedule
  pub limits : IsLimited schedule

-- what reading the schedule gives: a schedule, where no more bytes were given than the file has, or the end of the
-- command
abbrev pub IsScheduleRead : Option Files → (failed : List ℕ → Type 0) → (gave : ℕ → Type 0) → List ℕ
    → Result Schedule Message → Type 0
IsScheduleRead told failed gave name (Ok schedule) =
    (file : IsScheduleOf told name schedule) × IsGoodSchedule schedule × gave (length file.bytes)
IsScheduleRead told failed gave name (Err message) = ScheduleStops told failed name (message_meant message)

-- what its bytes give
abbrev pub AreScheduleBytesRead : List ℕ → Result Schedule Message → Type 0
AreScheduleBytesRead bytes (Ok schedule) = (schedule_of bytes ≡ Ok schedule) × IsGoodSchedule schedule
AreScheduleBytesRead bytes (Err message) =
    (text : List ℕ) × IsScheduleFault bytes text
    × (message_meant message ≡ telling ScheduleRefused (schedule_refused_line text))
