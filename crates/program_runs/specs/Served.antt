-- What comes of a walk over a machine, and of a sound that is played through it, by a schedule that serves them. This
-- project's own.
use Rattle.std.specs.Prelude.{◌≡◌, ◌⊎◌, ◌≤◌, ◌<◌, ℕ, ◌+◌, ◌*◌, List, [], ◌∷◌, length, map, sum, All, Option, None, Some}
use Rattle.stream_format.specs.declared.format.Format.{Format}
use Rattle.codec_graph.specs.declared.pin_kind.PinKind.{PinKind}
use Rattle.codec_graph.specs.declared.pin_kind.PinKind.TheVariants.{Analog}
use Rattle.route_planner.specs.declared.routes.Plan.{Plan}
use Rattle.hda_files.specs.declared.machine.CodecFile.{CodecFile}
use Rattle.hda_files.specs.declared.machine.Machine.{Machine}
use Rattle.schedule_reader.specs.declared.schedule.Schedule.{Schedule}
use Rattle.schedule_reader.specs.Counts.{items_of}
use Rattle.heard_lists.specs.declared.pin_list.PinHeard.{PinHeard}
use Rattle.hda_world.specs.Worlds.{World}
use Rattle.hda_world.specs.Events.{Event}
use Rattle.period_writer.specs.declared.course.Run.{Run}
use Rattle.period_writer.specs.declared.course.Span.{Span}
use Rattle.period_writer.specs.declared.geometry.Geometry.{Geometry}
use Rattle.period_writer.specs.Runs.{measures}
use Rattle.sound_report.specs.declared.played.Played.{Played}
use Rattle.sound_report.specs.declared.played.PlayFault.{PlayFault}
use Rattle.sound_report.specs.declared.played.PlayFault.TheVariants.{CommandsLeft, FramesLeft}
use Rattle.laws_serving.specs.Rounds.{Rounds, rounds_of}
use Rattle.laws_serving.specs.ServingSchedules.{ServesCommands, ServesSound, MayFillTheRing}
use Rattle.laws_serving.specs.Coming.{sent_by}
use Rattle.laws_serving.specs.Feeding.{HasSentBefore, IsUnbroken}
use Rattle.laws_serving.specs.Turns.{PlaysInTurns, IsNoHole}
use Rattle.program_runs.specs.FrameCounts.{frames_written, frames_below, last_at}
use Rattle.program_runs.specs.Histories.{command_total}

-- ---- schedules that serve

abbrev pub codec_address : CodecFile → ℕ
codec_address file = file.graph.address

-- the addresses of a machine's codecs
abbrev pub machine_addresses : Machine → List ℕ
machine_addresses machine = map codec_address machine.codecs

-- a schedule with its repeats written out, by its driver lines
abbrev pub all_rounds : Schedule → Rounds
all_rounds schedule = rounds_of (items_of schedule)

-- how many driver lines it has
abbrev pub line_count : Schedule → ℕ
line_count schedule = length (all_rounds schedule).rounds

-- it serves the bring-up of a machine whose codecs have these plans of their pins of the kind for this format
abbrev pub ServesBringUp : PinKind → Format → Machine → List Plan → Schedule → Type 0
ServesBringUp kind format machine plans schedule =
    ServesCommands (machine_addresses machine) (command_total kind format machine plans) (all_rounds schedule)

-- and a sound of this format through a ring and those pins
pub record ServesPlay (kind : PinKind) (format : Format) (machine : Machine) (plans : List Plan) (geometry : Geometry)
    (schedule : Schedule) : Type 0 where
  pub commands : ServesBringUp kind format machine plans schedule
  pub sound : ServesSound (command_total kind format machine plans) (measures geometry).limit (measures geometry).slack
      (all_rounds schedule).rounds

-- ---- how a walk ends

-- by so many driver lines: they set the codecs up, or end before, and then so many commands were sent of how many
pub record ServedWalkEnds (commands lines : ℕ) (fault : Option PlayFault) : Type 0 where
  pub done : 2 + commands ≤ lines → fault ≡ None
  pub left : lines < 2 + commands → fault ≡ Some (CommandsLeft (sent_by commands lines) commands)

-- ---- how a sound ends

-- it is not done, with so many frames written and heard of how many
abbrev pub IsStillPlaying : (block total : ℕ) → List Run → List Span → Option PlayFault → Type 0
IsStillPlaying block total runs silences fault =
    fault ≡ Some (FramesLeft (frames_written block runs) (frames_below block silences (last_at runs)) total)

-- by so many driver lines: they end before a call plays, or all is played by then, or some is left
pub record ServedPlayEnds (commands lines block total : ℕ) (runs : List Run) (silences : List Span)
    (fault : Option PlayFault)
    : Type 0 where
  pub left : lines < 4 + commands → fault ≡ Some (CommandsLeft (sent_by commands lines) commands)
  pub plays : 4 + commands ≤ lines → (fault ≡ None) ⊎ IsStillPlaying block total runs silences fault

-- ---- when all is played

-- each call that plays may write a whole ring, and as many bytes as the sound has were sent when one that is not the
-- first of them began
pub record IsFedWhole (commands ring bytes : ℕ) (all : Rounds) (start : World) (journal : List Event) : Type 0 where
  pub budgets : MayFillTheRing commands ring all.rounds
  pub sent : HasSentBefore (4 + commands) bytes start journal

-- all was played, and the line is the whole sound before it is silence
pub record PlaysAll (bytes : ℕ) (silences : List Span) (fault : Option PlayFault) : Type 0 where
  pub done : fault ≡ None
  pub unbroken : IsUnbroken bytes silences

-- ---- what comes of turns

-- a schedule plays in turns of so many link frames each, through analog pins of a machine whose codecs have these
-- plans, and a ring
abbrev pub PlaysTurns : Format → Machine → List Plan → Geometry → (lengths : List ℕ) → Schedule → Type 0
PlaysTurns format machine plans geometry lengths schedule =
    PlaysInTurns (command_total Analog format machine plans) (measures geometry).ring (measures geometry).block
    machine.fifo lengths (all_rounds schedule).rounds

-- no link frame missed its block
abbrev pub HasNoHole : PinHeard → Type 0
HasNoHole pin = All IsNoHole pin.list

-- so many frames were played, all of them: one run for each turn, and one that finds them played. Behind them the line
-- is one silence, up to a ring past the last link frame, and no pin's list has a hole
pub record PlaysByTurns (ring block frames : ℕ) (lengths : List ℕ) (played : Played) : Type 0 where
  pub done : played.fault ≡ None
  pub runs : length played.runs ≡ length lengths + 1
  pub silences : played.silences ≡ record { start = frames * block; end = sum lengths * block + ring } ∷ []
  pub heard : All HasNoHole played.heard
