-- What comes of a walk over a machine by a schedule. This project's own.
use Rattle.std.specs.Prelude.{◌≡◌, ℕ, true, false, List, [], Option, None, Some, refl}
use Rattle.std.proofs.Common.{lit≤}
use Rattle.stream_format.specs.declared.format.Format.{Format}
use Rattle.stream_format.specs.declared.format.Bits.TheVariants.{B16}
use Rattle.stream_format.specs.declared.format.Rate.TheVariants.{R48}
use Rattle.codec_graph.specs.declared.pin_kind.PinKind.TheVariants.{Analog}
use Rattle.route_planner.specs.declared.routes.Plan.{Plan}
use Rattle.schedule_reader.specs.declared.schedule.Schedule.{Schedule}
use Rattle.hda_files.specs.declared.machine.Machine.{Machine}
use Rattle.hda_world.specs.Tellings.{Telling}
use Rattle.period_writer.specs.declared.geometry.Geometry.{Geometry}
use Rattle.driver_progress.specs.declared.phase.Phase.{Phase}
use Rattle.driver_progress.specs.declared.phase.Phase.TheVariants.{Ready, Unanswered}
use Rattle.driver_progress.specs.Tasks.{Blocks, Task}
use Rattle.driver_progress.specs.States.{State}
use Rattle.driver_bring_up.specs.Jacks.{Counts}
use Rattle.sound_report.specs.declared.played.Played.{Played}
use Rattle.sound_report.specs.declared.played.PlayFault.{PlayFault}
use Rattle.sound_report.specs.declared.played.PlayFault.TheVariants as faults
use Rattle.laws_start.specs.Tasks.{task_of}
use Rattle.program_runs.specs.FirstFits.{AreFirstFits}
use Rattle.program_runs.specs.Ends.{walk_can_end}
use Rattle.program_runs.specs.Shapes.{HasShape}
use Rattle.program_runs.specs.Histories.{HasInput, IsHistory, MakesProgress, StaysOpen, command_total, telling_of_run}
use Rattle.program_runs.specs.Events.{told_in}

-- 48 kHz, 16 bits, 2 channels
abbrev pub walk_format : Format
walk_format = record { rate = R48; bits = B16; channels = 2; even = refl; some = lit≤ tt; few = lit≤ tt }

-- why a walk ended before it was done, by how far the driver came, and by how many commands were sent of how many
abbrev pub walk_fault : Phase → (sent of : ℕ) → Option PlayFault
walk_fault Ready sent of = None
walk_fault (Unanswered codec command issued noticed) sent of =
    Some (faults.Unanswered codec command issued noticed)
walk_fault phase sent of = Some (faults.CommandsLeft sent of)

-- the ring with which a walk opens its driver, though it plays nothing: four periods of eight units
abbrev pub IsWalkRing : (fifo : ℕ) → Geometry → Type 0
IsWalkRing fifo geometry = HasShape 4 8 fifo walk_format geometry

-- nothing was played
pub record HasNoSound (played : Played) : Type 0 where
  pub runs : played.runs ≡ []
  pub silences : played.silences ≡ []
  pub heard : played.heard ≡ []
  pub unread : played.read ≡ 0
  pub uncut : played.cut ≡ None

-- the task: the machine's codecs are set up by these plans, and nothing is played
abbrev pub walked_task : Machine → List Plan → Geometry → Blocks → Task
walked_task machine plans geometry blocks = task_of walk_format machine plans geometry false [] blocks

-- what is told of a driver that walks, by this task, over a machine whose codecs have these plans
pub record WalksTask (machine : Machine) (plans : List Plan) (schedule : Schedule) (task : Task) (telling : Telling)
    (played : Played) : Type 0 where
  pub state : State
  pub history : IsHistory machine schedule telling.journal
  pub progress : MakesProgress machine schedule task state telling played.graphs
  pub opened : StaysOpen Analog walk_format machine schedule task telling
  -- jacks count what was read of RIRB that came unasked
  pub jacks : Counts (told_in telling.journal) played.jacks
  pub commands : played.commands ≡ command_total Analog walk_format machine plans
  -- it ended in a phase in which a walk can end, and tells why
  pub ends : walk_can_end state.phase ≡ true
  pub fault : played.fault ≡ walk_fault state.phase state.sent played.commands

-- the run of a walk
pub record IsWalked (machine : Machine) (plans : List Plan) (schedule : Schedule) (played : Played) : Type 0 where
  pub walk : played.walk ≡ true
  pub input : HasInput walk_format 0 machine plans played
  pub silent : HasNoSound played
  -- the driver's blocks are first fits
  pub geometry : Geometry
  pub ring : IsWalkRing machine.fifo geometry
  pub blocks : Blocks
  pub first_fits : AreFirstFits geometry blocks
  pub run : WalksTask machine plans schedule (walked_task machine plans geometry blocks) (telling_of_run machine played)
      played
