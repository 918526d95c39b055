-- What the program answers, and how it ends. This project's own.
use Rattle.std.specs.Prelude.{◌≡◌, ◌≢◌, ◌⊎◌, ℕ, true, false, if◌then◌else◌, List, Option, None}
use Rattle.stream_format.specs.declared.format.Format.{Format}
use Rattle.codec_graph.specs.declared.pin_kind.PinKind.{PinKind}
use Rattle.codec_graph.specs.declared.pin_kind.PinKind.TheVariants.{Analog, Digital}
use Rattle.route_planner.specs.declared.routes.Plan.{Plan}
use Rattle.program_words.specs.declared.request.Request.{Request}
use Rattle.program_words.specs.declared.request.Request.TheVariants as request
use Rattle.hda_files.specs.declared.machine.Machine.{Machine}
use Rattle.hda_files.specs.declared.machine.CodecFile.{CodecFile}
use Rattle.hda_outside.specs.Shelf.{Files}
use Rattle.hda_outside.specs.Sink.{taken_with, TookFront}
use Rattle.schedule_reader.specs.declared.schedule.Schedule.{Schedule}
use Rattle.period_writer.specs.declared.geometry.Geometry.{Geometry}
use Rattle.wav_reader.specs.declared.opened.WavHead.{WavHead}
use Rattle.sound_report.specs.declared.played.Played.{Played}
use Rattle.sound_report.specs.declared.status.Status.TheVariants.{Done, WordsRefused, SinkFailed, OutOfMemory}
use Rattle.sound_report.specs.PlanLines.{plans_lines}
use Rattle.sound_report.specs.Statuses.{number_of}
use Rattle.capture_report.specs.declared.captured.Captured.{Captured}
use Rattle.hda_program.specs.Asks.{IsCaptureOf, IsNoCommand, IsRouteOf, IsWalkOf, IsSoundOf}
use Rattle.hda_program.specs.CaptureAnswers.{CaptureAnswers}
use Rattle.program_runs.specs.Walks.{walk_format, IsWalked}
use Rattle.hda_program.specs.Files.{IsMachineOf, IsHeadOf, IsScheduleOf, CodecStops, WavStops, ScheduleStops}
use Rattle.hda_program.specs.Files.{IsAskedAlone}
use Rattle.hda_program.specs.PlayedFiles.{HasPlayedFiles}
use Rattle.hda_program.specs.Pins.{AreFewPins, PinsStop}
use Rattle.hda_program.specs.Rings.{IsRingOf, RingStops}
use Rattle.hda_program.specs.Meanings.{Meant, telling, unrouted, of_run}
use Rattle.laws_start.specs.Tasks.{HavePlans}
use Rattle.program_runs.specs.Outputs.{HavePlansOf}
use Rattle.driver_agenda.specs.Planned.{have_route}
use Rattle.hda_program.specs.Made.{IsMakeOf, MakeAnswers}
use Rattle.hda_program.specs.Text.{usage_line}

-- ---- `route`

-- what it answers for plans: their lines, and where no pin has a route a line that says so
abbrev pub plans_meant : List CodecFile → List Plan → Meant
plans_meant files plans = if have_route plans then telling Done (plans_lines files plans) else unrouted files plans

abbrev pub MachineAnswers : Format → Machine → Meant → Type 0
MachineAnswers format machine meant =
    (plans : List Plan) × HavePlans format machine.codecs plans × (meant ≡ plans_meant machine.codecs plans)

-- it ends at the codec file, or answers for the machine that this reads as
abbrev pub RouteAnswers : Option Files → (List ℕ → Type 0) → List ℕ → Format → Meant → Type 0
RouteAnswers told failed name format meant =
    CodecStops told failed name meant
    ⊎ ((machine : Machine) × IsMachineOf told name machine × MachineAnswers format machine meant)

-- ---- `walk`

-- what it answers for plans: nothing is run where no pin has a route, and else the machine is walked by the schedule
abbrev pub PlansWalk : Machine → Schedule → List Plan → Meant → Type 0
PlansWalk machine schedule plans meant =
    ((have_route plans ≡ false) × (meant ≡ unrouted machine.codecs plans))
    ⊎ ((played : Played) × (have_route plans ≡ true) × IsWalked machine plans schedule played × (meant ≡ of_run played))

abbrev pub ScheduleAnswers : Machine → Schedule → Meant → Type 0
ScheduleAnswers machine schedule meant =
    (plans : List Plan) × HavePlans walk_format machine.codecs plans × PlansWalk machine schedule plans meant

-- it ends at the schedule, or answers for what this reads as
abbrev pub MachineWalks : Option Files → (List ℕ → Type 0) → Machine → List ℕ → Meant → Type 0
MachineWalks told failed machine name meant =
    ScheduleStops told failed name meant
    ⊎ ((schedule : Schedule) × IsScheduleOf told name schedule × ScheduleAnswers machine schedule meant)

-- it ends at the codec file and has asked for no other, or goes on with the machine that this reads as
abbrev pub WalkAnswers : Option Files → (failed unasked : List ℕ → Type 0) → (codec schedule : List ℕ) → Meant → Type 0
WalkAnswers told failed unasked codec name meant =
    (CodecStops told failed codec meant × IsAskedAlone unasked codec)
    ⊎ ((machine : Machine) × IsMachineOf told codec machine × MachineWalks told failed machine name meant)

-- ---- `play` and `spdif`

-- what is answered for the files of three names and a ring of these numbers, where the sound is played through pins of
-- the kind: the ways in which it can end, in the order of the checks
pub data PlayAnswers (kind : PinKind) (told : Option Files) (failed emptied unasked : List ℕ → Type 0)
    (gave : ℕ → Type 0) (codec wav name : List ℕ) (periods period : ℕ) (meant : Meant) : Type 0 where
  -- at the codec file, and it has asked for no other
  AtCodec : CodecStops told failed codec meant → IsAskedAlone unasked codec
      → PlayAnswers kind told failed emptied unasked gave codec wav name periods period meant
  -- at the pins of its codecs, and it has asked for no other
  AtPins : (machine : Machine) → IsMachineOf told codec machine → PinsStop kind machine.codecs meant
      → IsAskedAlone unasked codec
      → PlayAnswers kind told failed emptied unasked gave codec wav name periods period meant
  -- at the WAV file, and it has asked for none but these two
  AtWav : (machine : Machine) → IsMachineOf told codec machine → AreFewPins kind machine.codecs
      → WavStops told failed wav meant → IsAskedAlone (λ other. other ≢ codec → unasked other) wav
      → PlayAnswers kind told failed emptied unasked gave codec wav name periods period meant
  -- at the schedule
  AtSchedule : (machine : Machine) (head : WavHead) → IsMachineOf told codec machine → AreFewPins kind machine.codecs
      → IsHeadOf told wav head → ScheduleStops told failed name meant
      → PlayAnswers kind told failed emptied unasked gave codec wav name periods period meant
  -- at the ring
  AtRing : (machine : Machine) (head : WavHead) (schedule : Schedule) → IsMachineOf told codec machine
      → AreFewPins kind machine.codecs → IsHeadOf told wav head → IsScheduleOf told name schedule
      → RingStops periods period machine head meant
      → PlayAnswers kind told failed emptied unasked gave codec wav name periods period meant
  -- at the plans, of which none has a route
  AtPlans : (machine : Machine) (head : WavHead) (schedule : Schedule) (geometry : Geometry) (plans : List Plan)
      → IsMachineOf told codec machine → AreFewPins kind machine.codecs → IsHeadOf told wav head
      → IsScheduleOf told name schedule → IsRingOf periods period machine head geometry
      → HavePlansOf kind head.format machine.codecs plans → have_route plans ≡ false
      → meant ≡ unrouted machine.codecs plans
      → PlayAnswers kind told failed emptied unasked gave codec wav name periods period meant
  -- with a run
  AtRun : (played : Played)
      → HasPlayedFiles kind told failed emptied gave codec wav name periods period played → meant ≡ of_run played
      → PlayAnswers kind told failed emptied unasked gave codec wav name periods period meant

-- ---- all commands

-- what is answered to a request of the words
abbrev pub RequestAnswers : Option Files → (failed emptied unasked : List ℕ → Type 0) → (gave : ℕ → Type 0) → Request
    → Meant → Type 0
RequestAnswers told failed emptied unasked gave (request.Route codec format) meant =
    RouteAnswers told failed codec.now format meant
RequestAnswers told failed emptied unasked gave (request.Walk codec schedule) meant =
    WalkAnswers told failed unasked codec.now schedule.now meant
RequestAnswers told failed emptied unasked gave (request.Play codec wav schedule periods period) meant =
    PlayAnswers Analog told failed emptied unasked gave codec.now wav.now schedule.now periods period meant
RequestAnswers told failed emptied unasked gave (request.Make number) meant = MakeAnswers number meant
RequestAnswers told failed emptied unasked gave (request.Spdif codec wav schedule periods period) meant =
    PlayAnswers Digital told failed emptied unasked gave codec.now wav.now schedule.now periods period meant
RequestAnswers told failed emptied unasked gave (request.Capture codec wav schedule periods period) meant =
    CaptureAnswers told failed unasked codec.now wav.now schedule.now periods period meant

-- what the program answers to its words, where the shelf told these files, failed under some names, answered under some
-- with no byte, was not asked under some, and gave no more than some numbers of bytes
abbrev pub IsMeant : Option Files → (failed emptied unasked : List ℕ → Type 0) → (gave : ℕ → Type 0) → List (List ℕ)
    → Meant → Type 0
IsMeant told failed emptied unasked gave words meant =
    (IsNoCommand words × (meant ≡ telling WordsRefused usage_line))
    ⊎ (((name : List ℕ) × (format : Format) × IsRouteOf words name format × RouteAnswers told failed name format meant)
    ⊎ (((codec : List ℕ) × (name : List ℕ) × IsWalkOf words codec name
    × WalkAnswers told failed unasked codec name meant)
    ⊎ (((kind : PinKind) × (codec : List ℕ) × (wav : List ℕ) × (name : List ℕ) × (periods : ℕ) × (period : ℕ)
    × IsSoundOf kind words codec wav name periods period
    × PlayAnswers kind told failed emptied unasked gave codec wav name periods period meant)
    ⊎ (((number : ℕ) × IsMakeOf words number × MakeAnswers number meant)
    ⊎ ((codec : List ℕ) × (wav : List ℕ) × (name : List ℕ) × (periods : ℕ) × (period : ℕ)
    × IsCaptureOf words codec wav name periods period
    × CaptureAnswers told failed unasked codec wav name periods period meant)))))

-- ---- the end

-- the text was written whole and the status is its own; or the sink failed or memory was wanting, and the sink took the
-- front
abbrev pub HasWritten : Option (List ℕ) → Option (List ℕ) → Type 0 → Meant → ℕ → Type 0
HasWritten before after sink_failed meant status =
    ((status ≡ number_of meant.status) × (after ≡ taken_with before meant.text))
    ⊎ (((status ≡ number_of SinkFailed) × sink_failed × TookFront before after meant.text)
    ⊎ ((status ≡ number_of OutOfMemory) × TookFront before after meant.text))

-- something that can be meant was written so, and its run or its capture is given, if it has one
pub record HasAnswered (CanMean : Meant → Type 0) (before after : Option (List ℕ)) (sink_failed : Type 0)
    (play : Option Played) (capture : Option Captured) (status : ℕ) : Type 0 where
  pub meant : Meant
  pub is : CanMean meant
  pub given : play ≡ meant.play
  pub given_capture : capture ≡ meant.capture
  pub written : HasWritten before after sink_failed meant status

-- it has answered with something that can be meant, or memory was wanting before anything was meant, and nothing was
-- written
abbrev pub HasEndedWith : (Meant → Type 0) → Option (List ℕ) → Option (List ℕ) → Type 0 → Option Played
    → Option Captured → ℕ → Type 0
HasEndedWith CanMean before after sink_failed play capture status =
    HasAnswered CanMean before after sink_failed play capture status
    ⊎ ((status ≡ number_of OutOfMemory) × (play ≡ None) × (capture ≡ None) × (after ≡ before))

-- the program has ended so, with what it answers to its words
abbrev pub HasEnded : Option Files → (failed emptied unasked : List ℕ → Type 0) → (gave : ℕ → Type 0)
    → (words : List (List ℕ))
    → (before after : Option (List ℕ)) → (sink_failed : Type 0) → Option Played → Option Captured → (status : ℕ)
    → Type 0
HasEnded told failed emptied unasked gave words before after sink_failed play capture status =
    HasEndedWith (IsMeant told failed emptied unasked gave words) before after sink_failed play capture status

-- it has ended so, with what is answered for the files of these names and a ring of these numbers, where the sound is
-- played through pins of the kind
abbrev pub HasEndedPlay : PinKind → Option Files → (failed emptied unasked : List ℕ → Type 0) → (gave : ℕ → Type 0)
    → (codec wav schedule : List ℕ)
    → (periods period : ℕ) → (before after : Option (List ℕ)) → (sink_failed : Type 0) → Option Played
    → Option Captured → (status : ℕ) → Type 0
HasEndedPlay kind told failed emptied unasked gave codec wav name periods period before after sink_failed play capture
    status =
    HasEndedWith (PlayAnswers kind told failed emptied unasked gave codec wav name periods period) before after
    sink_failed play capture status
