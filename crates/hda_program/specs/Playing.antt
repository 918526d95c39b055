-- What the private functions of `play` and `spdif` promise one another: each ends at its check, or goes on. This
-- project's own.
use Rattle.std.specs.Prelude.{◌≡◌, ◌⊎◌, ◌+◌, ℕ, true, false, List, length, Option}
use Rattle.codec_graph.specs.declared.pin_kind.PinKind.{PinKind}
use Rattle.route_planner.specs.declared.routes.Plan.{Plan}
use Rattle.hda_files.specs.declared.machine.Machine.{Machine}
use Rattle.hda_outside.specs.Shelf.{Files}
use Rattle.schedule_reader.specs.declared.schedule.Schedule.{Schedule}
use Rattle.period_writer.specs.declared.geometry.Geometry.{Geometry}
use Rattle.wav_reader.specs.declared.opened.WavHead.{WavHead}
use Rattle.sound_report.specs.declared.played.Played.{Played}
use Rattle.program_runs.specs.Plays.{IsCutUnder, IsPlayedFrom, most_of_frames, most_read}
use Rattle.hda_program.specs.Files.{IsHeadOf, IsScheduleOf, WavStops, ScheduleStops, IsAskedAlone, bytes_before}
use Rattle.hda_program.specs.Pins.{AreFewPins, PinsStop}
use Rattle.hda_program.specs.Rings.{IsRingOf, RingStops}
use Rattle.hda_program.specs.Meanings.{Meant, unrouted, of_run}
use Rattle.program_runs.specs.Outputs.{HavePlansOf}
use Rattle.driver_agenda.specs.Planned.{have_route}

-- what it answers for plans: nothing is run where no pin has a route, and else the sound of the WAV file of this name
-- is played through the ring by the schedule, and read meanwhile
abbrev pub PlansPlay : PinKind → Option Files → (failed emptied : List ℕ → Type 0) → (gave : ℕ → Type 0)
    → (wav : List ℕ)
    → Machine → WavHead → Geometry → Schedule → List Plan → Meant → Type 0
PlansPlay kind told failed emptied gave wav machine head geometry schedule plans meant =
    ((have_route plans ≡ false) × (meant ≡ unrouted machine.codecs plans))
    ⊎ ((played : Played) × (have_route plans ≡ true) × IsPlayedFrom kind told wav head machine plans geometry schedule
    played
    × (meant ≡ of_run played) × IsCutUnder wav head played.read (failed wav) (emptied wav) played.cut
    × gave (most_read geometry played) × gave (most_of_frames head played.read))

-- the plans are those of the pins of the kind, for the sound's format
abbrev pub RingPlays : PinKind → Option Files → (failed emptied : List ℕ → Type 0) → (gave : ℕ → Type 0)
    → (wav : List ℕ)
    → Machine → WavHead → Geometry → Schedule → Meant → Type 0
RingPlays kind told failed emptied gave wav machine head geometry schedule meant =
    (plans : List Plan) × HavePlansOf kind head.format machine.codecs plans
    × PlansPlay kind told failed emptied gave wav machine head geometry schedule plans meant

-- it ends at the ring, or goes on with that of the words
abbrev pub SchedulePlays : PinKind → Option Files → (failed emptied : List ℕ → Type 0) → (gave : ℕ → Type 0)
    → (periods period : ℕ) → (wav : List ℕ) → Machine → WavHead → Schedule → Meant → Type 0
SchedulePlays kind told failed emptied gave periods period wav machine head schedule meant =
    RingStops periods period machine head meant
    ⊎ ((geometry : Geometry) × IsRingOf periods period machine head geometry
    × RingPlays kind told failed emptied gave wav machine head geometry schedule meant)

-- it ends at the schedule, or goes on with what this reads as
abbrev pub SoundPlays : PinKind → Option Files → (failed emptied : List ℕ → Type 0) → (gave : ℕ → Type 0)
    → (periods period : ℕ) → (wav : List ℕ) → Machine → WavHead → (schedule : List ℕ) → Meant → Type 0
SoundPlays kind told failed emptied gave periods period wav machine head name meant =
    ScheduleStops told failed name meant
    ⊎ ((schedule : Schedule) × (file : IsScheduleOf told name schedule)
    × SchedulePlays kind told failed emptied (λ bytes. gave (length file.bytes + bytes)) periods period wav machine head
    schedule meant)

-- it ends at the WAV file and has asked for no other, or goes on with what this says before its sound
abbrev pub PinsPlay : PinKind → Option Files → (failed emptied unasked : List ℕ → Type 0) → (gave : ℕ → Type 0)
    → (periods period : ℕ) → Machine → (wav schedule : List ℕ) → Meant → Type 0
PinsPlay kind told failed emptied unasked gave periods period machine wav name meant =
    (WavStops told failed wav meant × IsAskedAlone unasked wav)
    ⊎ ((head : WavHead) × IsHeadOf told wav head
    × SoundPlays kind told failed emptied (λ bytes. gave (bytes_before head + bytes)) periods period wav machine head
    name meant)

-- it ends at the pins and has asked for no file, or goes on since they are few
abbrev pub MachinePlays : PinKind → Option Files → (failed emptied unasked : List ℕ → Type 0) → (gave : ℕ → Type 0)
    → (periods period : ℕ) → Machine → (wav schedule : List ℕ) → Meant → Type 0
MachinePlays kind told failed emptied unasked gave periods period machine wav name meant =
    (PinsStop kind machine.codecs meant × ((other : List ℕ) → unasked other))
    ⊎ (AreFewPins kind machine.codecs
    × PinsPlay kind told failed emptied unasked gave periods period machine wav name meant)
