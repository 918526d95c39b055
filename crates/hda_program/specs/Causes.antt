-- The causes of single statuses, and when a run is given. This project's own.
use Rattle.std.specs.List.{Contains}
use Rattle.std.specs.Prelude.{◌≡◌, ◌⊎◌, ◌<◌, ◌++◌, ◌∷◌, [], ℕ, true, false, List, Option, Some, None, string_bytes}
use Rattle.stream_format.specs.declared.format.Format.{Format}
use Rattle.codec_graph.specs.declared.pin_kind.PinKind.{PinKind}
use Rattle.codec_graph.specs.declared.pin_kind.PinKind.TheVariants.{Analog, Digital}
use Rattle.route_planner.specs.declared.routes.Plan.{Plan}
use Rattle.hda_files.specs.declared.machine.Machine.{Machine}
use Rattle.hda_files.specs.declared.machine.CodecFile.{CodecFile}
use Rattle.hda_outside.specs.Shelf.{Files}
use Rattle.schedule_reader.specs.declared.schedule.Schedule.{Schedule}
use Rattle.period_writer.specs.declared.geometry.GeometryFault.{GeometryFault}
use Rattle.wav_reader.specs.declared.opened.WavHead.{WavHead}
use Rattle.wav_reader.specs.declared.wav.Wav.{Wav}
use Rattle.sound_report.specs.declared.played.Played.{Played}
use Rattle.sound_report.specs.declared.played.CutLine.{CutLine}
use Rattle.sound_report.specs.declared.played.CutLine.TheVariants as cuts
use Rattle.sound_report.specs.declared.status.Status.TheVariants.{Done, WordsRefused, CodecRefused, WavRefused}
use Rattle.sound_report.specs.declared.status.Status.TheVariants.{ScheduleRefused, NothingRouted, Unanswered, Late}
use Rattle.sound_report.specs.declared.status.Status.TheVariants.{ScheduleEnded, GeometryRefused, WavShrank}
use Rattle.sound_report.specs.Statuses.{number_of}
use Rattle.hda_program.specs.Asks.{Names, NamesCodecFile, IsCaptureOf, IsRouteOf, IsWalkOf, IsSoundOf, IsSpdifOf}
use Rattle.hda_program.specs.Given.{IsGivenOf, IsGivenRefused}
use Rattle.program_runs.specs.Walks.{walk_format}
use Rattle.hda_program.specs.Files.{IsMachineOf, IsHeadOf, IsScheduleOf, IsCodecRefused, IsWavRefused}
use Rattle.hda_program.specs.Files.{IsScheduleRefused}
use Rattle.hda_program.specs.Pins.{AreFewPins, most_pins, pins_among}
use Rattle.hda_program.specs.Rings.{IsBadRing, IsBadRingIn}
use Rattle.program_captures.specs.Inputs.{HasInputPin}
use Rattle.program_runs.specs.Outputs.{HavePlansOf}
use Rattle.driver_agenda.specs.Planned.{have_route}

-- the shelf failed under a name of the words
abbrev pub HasUnreadFile : (List ℕ → Type 0) → List (List ℕ) → Type 0
HasUnreadFile failed words = (name : List ℕ) × Names words name × failed name

-- the shelf failed under one of these names, and none after it was asked for, unless it is one of those before
pub record HasStoppedUnread (failed unasked : List ℕ → Type 0) (names : List (List ℕ)) : Type 0 where
  pub before : List (List ℕ)
  pub name : List ℕ
  pub after : List (List ℕ)
  pub among : names ≡ before ++ name ∷ after
  pub unread : failed name
  pub stopped : (other : List ℕ) → Contains after other → (Contains (before ++ name ∷ []) other → ⊥) → unasked other

-- the words name a codec file that is too long, or whose bytes read as a fault
abbrev pub HasBadCodecFile : Option Files → List (List ℕ) → Type 0
HasBadCodecFile told words =
    (name : List ℕ) × (text : List ℕ) × NamesCodecFile words name × IsCodecRefused told name text

-- the words ask for a sound through digital pins, and name a codec file that reads as a machine with too many of them
pub record HasManyDigitalPins (told : Option Files) (words : List (List ℕ)) : Type 0 where
  pub codec_name : List ℕ
  pub wav_name : List ℕ
  pub schedule_name : List ℕ
  pub periods : ℕ
  pub period : ℕ
  pub machine : Machine
  pub asks : IsSpdifOf words codec_name wav_name schedule_name periods period
  pub codec_file : IsMachineOf told codec_name machine
  pub many : most_pins < pins_among Digital machine.codecs

-- the words ask for a sound through pins of the kind by the schedule of the second name, and their WAV file says this
-- before it
pub record WantsSound (kind : PinKind) (told : Option Files) (words : List (List ℕ))
    (codec_name schedule_name : List ℕ) (head : WavHead) : Type 0 where
  pub wav_name : List ℕ
  pub periods : ℕ
  pub period : ℕ
  pub asks : IsSoundOf kind words codec_name wav_name schedule_name periods period
  pub wav_file : IsHeadOf told wav_name head

-- the words want a capture by the schedule of the second name, and their WAV file reads as a sound that input pins can
-- be given
pub record WantsCapture (told : Option Files) (words : List (List ℕ)) (codec_name schedule_name : List ℕ) : Type 0
  where
    pub wav_name : List ℕ
    pub periods : ℕ
    pub period : ℕ
    pub sound : Wav
    pub asks : IsCaptureOf words codec_name wav_name schedule_name periods period
    pub wav_file : IsGivenOf told wav_name sound

-- the words want a run through pins of the kind by the schedule of the second name: a walk, which sets up analog ones,
-- a sound, or a capture from an analog one
abbrev pub WantsRun : PinKind → Option Files → List (List ℕ) → (codec_name schedule_name : List ℕ) → Type 0
WantsRun kind told words codec_name schedule_name =
    ((kind ≡ Analog) × IsWalkOf words codec_name schedule_name)
    ⊎ (((head : WavHead) × WantsSound kind told words codec_name schedule_name head)
    ⊎ ((kind ≡ Analog) × WantsCapture told words codec_name schedule_name))

-- the words want plans of the pins of the kind of the codec file of this name, for this format: a sound for its own
abbrev pub WantsPlans : PinKind → Option Files → List (List ℕ) → (codec_name : List ℕ) → Format → Type 0
WantsPlans kind told words codec_name format =
    ((kind ≡ Analog) × IsRouteOf words codec_name format)
    ⊎ (((schedule_name : List ℕ) × (kind ≡ Analog) × IsWalkOf words codec_name schedule_name × (format ≡ walk_format))
    ⊎ ((schedule_name : List ℕ) × (head : WavHead) × WantsSound kind told words codec_name schedule_name head
    × (format ≡ head.format)))

-- the words name a codec file that reads as a machine, and a WAV file that is too long, or has a fault before its sound
pub record HasBadWav (told : Option Files) (words : List (List ℕ)) : Type 0 where
  pub kind : PinKind
  pub codec_name : List ℕ
  pub wav_name : List ℕ
  pub schedule_name : List ℕ
  pub periods : ℕ
  pub period : ℕ
  pub machine : Machine
  pub text : List ℕ
  pub asks : IsSoundOf kind words codec_name wav_name schedule_name periods period
  pub codec_file : IsMachineOf told codec_name machine
  pub pins : AreFewPins kind machine.codecs
  pub refused : IsWavRefused told wav_name text

-- the words ask for a capture, and name a codec file that reads as a machine, and a WAV file that is too long, or whose
-- bytes read as a fault or as a sound of other than two channels
pub record HasBadGiven (told : Option Files) (words : List (List ℕ)) : Type 0 where
  pub codec_name : List ℕ
  pub wav_name : List ℕ
  pub schedule_name : List ℕ
  pub periods : ℕ
  pub period : ℕ
  pub machine : Machine
  pub text : List ℕ
  pub asks : IsCaptureOf words codec_name wav_name schedule_name periods period
  pub codec_file : IsMachineOf told codec_name machine
  pub refused : IsGivenRefused told wav_name text

-- the words name a codec file that reads as a machine, for a sound or a capture a WAV file that is good, and a schedule
-- that is too long, or whose bytes read as a fault
pub record HasBadSchedule (told : Option Files) (words : List (List ℕ)) : Type 0 where
  pub kind : PinKind
  pub codec_name : List ℕ
  pub schedule_name : List ℕ
  pub machine : Machine
  pub text : List ℕ
  pub wants : WantsRun kind told words codec_name schedule_name
  pub codec_file : IsMachineOf told codec_name machine
  pub pins : AreFewPins kind machine.codecs
  pub refused : IsScheduleRefused told schedule_name text

-- the words name files that read as a machine and a schedule, and one that says a sound, and the ring of their numbers
-- has a fault
pub record HasBadRing (told : Option Files) (words : List (List ℕ)) : Type 0 where
  pub kind : PinKind
  pub codec_name : List ℕ
  pub wav_name : List ℕ
  pub schedule_name : List ℕ
  pub periods : ℕ
  pub period : ℕ
  pub machine : Machine
  pub head : WavHead
  pub schedule : Schedule
  pub fault : GeometryFault
  pub asks : IsSoundOf kind words codec_name wav_name schedule_name periods period
  pub codec_file : IsMachineOf told codec_name machine
  pub pins : AreFewPins kind machine.codecs
  pub wav_file : IsHeadOf told wav_name head
  pub schedule_file : IsScheduleOf told schedule_name schedule
  pub refused : IsBadRing periods period machine head fault

-- the words ask for a capture, and name files that read as a machine, a sound and a schedule, and the ring of their
-- numbers has a fault
pub record HasBadRecordingRing (told : Option Files) (words : List (List ℕ)) : Type 0 where
  pub codec_name : List ℕ
  pub wav_name : List ℕ
  pub schedule_name : List ℕ
  pub periods : ℕ
  pub period : ℕ
  pub machine : Machine
  pub sound : Wav
  pub schedule : Schedule
  pub fault : GeometryFault
  pub asks : IsCaptureOf words codec_name wav_name schedule_name periods period
  pub codec_file : IsMachineOf told codec_name machine
  pub wav_file : IsGivenOf told wav_name sound
  pub schedule_file : IsScheduleOf told schedule_name schedule
  pub refused : IsBadRingIn periods period machine sound.format fault

-- what plans come to
pub data Routing : Type 0 where
  -- some pin has a route
  SomeRoute : Routing
  -- none has
  NoRoute : Routing

abbrev pub IsRouting : Routing → List Plan → Type 0
IsRouting SomeRoute plans = have_route plans ≡ true
IsRouting NoRoute plans = have_route plans ≡ false

-- the words name a codec file that reads as a machine, whose plans of the pins that they want come to this
pub record HasPlanned (told : Option Files) (words : List (List ℕ)) (routing : Routing) : Type 0 where
  pub kind : PinKind
  pub codec_name : List ℕ
  pub format : Format
  pub machine : Machine
  pub plans : List Plan
  pub wants : WantsPlans kind told words codec_name format
  pub codec_file : IsMachineOf told codec_name machine
  pub pins : AreFewPins kind machine.codecs
  pub planned : HavePlansOf kind format machine.codecs plans
  pub routed : IsRouting routing plans

-- some codec of a machine has an input in the format: some candidate pin of it has an admissible path
abbrev pub HasSomeInput : Format → List CodecFile → Type 0
HasSomeInput format files = (file : CodecFile) × Contains files file × HasInputPin format file

-- the words ask for a capture, and name files that read as a machine and a sound, and this holds of the inputs of the
-- machine in the sound's format
pub record HasPlannedInput (told : Option Files) (words : List (List ℕ)) (IsPlanned : Format → List CodecFile → Type 0)
    : Type 0 where
  pub codec_name : List ℕ
  pub wav_name : List ℕ
  pub schedule_name : List ℕ
  pub periods : ℕ
  pub period : ℕ
  pub machine : Machine
  pub sound : Wav
  pub asks : IsCaptureOf words codec_name wav_name schedule_name periods period
  pub codec_file : IsMachineOf told codec_name machine
  pub wav_file : IsGivenOf told wav_name sound
  pub planned : IsPlanned sound.format machine.codecs

-- a status at which no run was made
abbrev pub IsRunless : ℕ → Type 0
IsRunless status =
    (status ≡ number_of WordsRefused)
    ⊎ ((status ≡ number_of CodecRefused)
    ⊎ ((status ≡ number_of WavRefused)
    ⊎ ((status ≡ number_of ScheduleRefused)
    ⊎ ((status ≡ number_of NothingRouted) ⊎ (status ≡ number_of GeometryRefused)))))

-- a status at which a walk was run
abbrev pub IsOfWalk : ℕ → Type 0
IsOfWalk status = (status ≡ number_of Done) ⊎ ((status ≡ number_of Unanswered) ⊎ (status ≡ number_of ScheduleEnded))

-- a status at which a sound was played of which the reading was not cut
abbrev pub IsOfPlay : ℕ → Type 0
IsOfPlay status = IsOfWalk status ⊎ (status ≡ number_of Late)

-- a status at which a sound was played: that of a sound, or of a WAV file that got shorter
abbrev pub IsOfSound : ℕ → Type 0
IsOfSound status = IsOfPlay status ⊎ (status ≡ number_of WavShrank)

-- ---- the end of a sound whose reading was cut

-- it was cut since the shelf failed, and this is the name that is told; or since there was no byte more
abbrev pub IsFailedCut : (name : List ℕ) → Option CutLine → Type 0
IsFailedCut name None = ⊥
IsFailedCut name (Some (cuts.Failed text)) = string_bytes text ≡ name
IsFailedCut name (Some (cuts.Short place)) = ⊥

abbrev pub IsShortCut : Option CutLine → Type 0
IsShortCut None = ⊥
IsShortCut (Some (cuts.Failed text)) = ⊥
IsShortCut (Some (cuts.Short place)) = Unit {0}

-- the reading of this run's sound was cut since the shelf failed under the name
pub record WasUnread (failed : List ℕ → Type 0) (name : List ℕ) (played : Played) : Type 0 where
  pub cut : IsFailedCut name played.cut
  pub cause : failed name

-- or since it answered under the name that there was no byte more
pub record WasShortened (emptied : List ℕ → Type 0) (name : List ℕ) (played : Played) : Type 0 where
  pub cut : IsShortCut played.cut
  pub cause : emptied name

-- so it was for the WAV file that the words name
pub record OfItsWav (WasCut : (name : List ℕ) → Type 0) (words : List (List ℕ)) : Type 0 where
  pub kind : PinKind
  pub codec_name : List ℕ
  pub wav_name : List ℕ
  pub schedule_name : List ℕ
  pub periods : ℕ
  pub period : ℕ
  pub asks : IsSoundOf kind words codec_name wav_name schedule_name periods period
  pub cut : WasCut wav_name
