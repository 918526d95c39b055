-- How a driver that plays stands to the world that is told. This project's own.
use Rattle.std.specs.Prelude.{◌≡◌, ◌≤◌, true, ℕ, List, length, Contains, None}
use Rattle.codec_graph.specs.declared.raw.RawCodec.{RawCodec}
use Rattle.codec_graph.specs.CodecStates.{CodecState}
use Rattle.codec_graph.specs.Settings.{Entries}
use Rattle.route_planner.specs.declared.routes.Plan.{Plan}
use Rattle.route_setup.specs.Means.{Means}
use Rattle.hda_world.specs.Tellings.{Telling}
use Rattle.period_writer.specs.Runs.{Tally, tally_opened}
use Rattle.period_writer.specs.Standing.{Ring}
use Rattle.period_writer.specs.Writers.{WriterState, tally_of, ring_of}
use Rattle.driver_progress.specs.declared.phase.Phase.TheVariants.{Ready}
use Rattle.driver_progress.specs.Tasks.{Task, walks_over}
use Rattle.driver_progress.specs.States.{State}
use Rattle.driver_bring_up.specs.declared.bringing.BringUp.{BringUp}
use Rattle.laws_bring_up.specs.SettingUp.{IsThere}
use Rattle.audio_driver.specs.States.{state_of, IsTaskOf}
use Rattle.laws_stream.specs.Resting.{Rests, AreApartFrom}
use Rattle.laws_stream.specs.Lives.{Along}
use Rattle.laws_stream.specs.Sounding as heard

-- a driver, as far as what is told hangs on it: its bring-up, its writer, and the sound that is still to come
pub record Parts : Type 0 where
  pub bring_up : BringUp
  pub writer : WriterState
  pub supply : List ℕ

abbrev pub state_in : Parts → State
state_in parts = state_of parts.bring_up parts.writer

abbrev pub ring_in : Parts → Ring
ring_in parts = ring_of parts.writer

abbrev pub tally_in : Parts → Tally
tally_in parts = tally_of parts.writer

-- ---- before the first run

-- nothing was recorded, and streams rested at every moment
pub record IsYetSilent (task : Task) (parts : Parts) (telling : Telling) : Type 0 where
  pub task_is : task.plays ≡ true → IsTaskOf parts.bring_up parts.writer parts.supply task
  pub fresh : tally_in parts ≡ tally_opened
  pub apart : AreApartFrom (ring_in parts) parts.bring_up.engine.rirb.address
  pub rests : Along (Rests parts.writer.geometry.fifo) telling.journal telling.start

-- ---- from the first run on

-- these codecs have the graphs, and are set up
abbrev pub AreSetUpIn : (means : Means) (graphs : List RawCodec) → List CodecState → Type 0
AreSetUpIn means graphs codecs = (graph : RawCodec) → Contains graphs graph → IsThere means graph codecs

-- a driver that plays or has played: all commands were answered before, and codecs that were set up hear it
pub record IsSounding (means : Means) (graphs : List RawCodec) (task : Task) (parts : Parts) (telling : Telling)
    : Type 0 where
  pub task_is : IsTaskOf parts.bring_up parts.writer parts.supply task
  pub ready : parts.bring_up.phase ≡ Ready
  pub walked : parts.bring_up.agenda.graphs.items ≡ graphs
  pub answered : parts.bring_up.engine.rings.outstanding ≡ None
  pub enough : length (walks_over graphs) ≤ parts.bring_up.sent
  pub codecs : List CodecState
  pub set_up : AreSetUpIn means graphs codecs
  pub by : heard.StreamSounds codecs (ring_in parts) task.pcm (tally_in parts) telling
