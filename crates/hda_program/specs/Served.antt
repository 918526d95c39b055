-- How a walk and a sound end by schedules that serve them. This project's own.
use Rattle.std.specs.Prelude.{◌≡◌, ◌⊎◌, ◌*◌, ℕ, List, Option, IfSome, IsSomeAnd}
use Rattle.stream_format.specs.Cadence.{block_bytes}
use Rattle.codec_graph.specs.declared.pin_kind.PinKind.{PinKind}
use Rattle.codec_graph.specs.declared.pin_kind.PinKind.TheVariants.{Analog}
use Rattle.route_planner.specs.declared.routes.Plan.{Plan}
use Rattle.hda_files.specs.declared.machine.Machine.{Machine}
use Rattle.schedule_reader.specs.declared.schedule.Schedule.{Schedule}
use Rattle.period_writer.specs.declared.geometry.Geometry.{Geometry}
use Rattle.period_writer.specs.Runs.{measures}
use Rattle.wav_reader.specs.declared.opened.WavHead.{WavHead}
use Rattle.sound_report.specs.declared.played.Played.{Played}
use Rattle.sound_report.specs.declared.status.Status.TheVariants.{OutOfMemory}
use Rattle.sound_report.specs.Statuses.{number_of}
use Rattle.program_runs.specs.Walks.{walk_format}
use Rattle.program_runs.specs.Histories.{command_total, journal_of, telling_of_run}
use Rattle.program_runs.specs.Served.{all_rounds, line_count, ServedWalkEnds, ServedPlayEnds, IsFedWhole, PlaysAll}
use Rattle.hda_program.specs.Meanings.{fault_status}

-- a run that is given ended so. The status says how, and then there is a run; or memory was wanting
pub record EndsSo (Ends : Played → Type 0) (given : Option Played) (status : ℕ) : Type 0 where
  pub run : IfSome given Ends
  pub status_is : IsSomeAnd given (λ (played : Played). status ≡ number_of (fault_status played.fault))
      ⊎ (status ≡ number_of OutOfMemory)

-- so a walk ends over a machine whose codecs have these plans, by the driver lines of a schedule
abbrev pub WalksSo : Machine → List Plan → Schedule → Played → Type 0
WalksSo machine plans schedule played =
    ServedWalkEnds (command_total Analog walk_format machine plans) (line_count schedule) played.fault

-- and so the sound that a WAV file says, through pins of the kind
abbrev pub PlaysSo : PinKind → Machine → List Plan → WavHead → Schedule → Played → Type 0
PlaysSo kind machine plans head schedule played =
    ServedPlayEnds (command_total kind head.format machine plans) (line_count schedule) (block_bytes head.format)
    head.frames
    played.runs played.silences played.fault

-- how many bytes it has
abbrev pub sound_size : WavHead → ℕ
sound_size head = head.frames * block_bytes head.format

-- where it is fed through a ring it is played whole
abbrev pub PlaysWhole : PinKind → Machine → List Plan → WavHead → Geometry → Schedule → Played → Type 0
PlaysWhole kind machine plans head geometry schedule played =
    IsFedWhole (command_total kind head.format machine plans) (measures geometry).ring (sound_size head)
    (all_rounds schedule)
    (telling_of_run machine played).start (journal_of played)
    → PlaysAll (sound_size head) played.silences played.fault
