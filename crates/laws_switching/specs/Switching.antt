-- How a driver that switches speakers stands to the world that is told, between two calls and at its end. This
-- project's own.
use Rattle.std.specs.Prelude.{◌≡◌, ◌⊎◌, ◌≤◌, ℕ, Bool, true, List, length, drop, All, None, Some}
use Rattle.std.specs.Option.{is_some}
use Rattle.codec_graph.specs.declared.raw.RawCodec.{RawCodec}
use Rattle.codec_graph.specs.CodecStates.{CodecState}
use Rattle.stream_format.specs.declared.format.Format.{Format}
use Rattle.route_planner.specs.declared.routes.Plan.{Plan}
use Rattle.route_setup.specs.Means.{Means}
use Rattle.hda_world.specs.Worlds.{World, TakenCommand}
use Rattle.hda_world.specs.Events.{Event, IsNoStep}
use Rattle.hda_world.specs.Tellings.{Telling, world_of}
use Rattle.command_engine.specs.declared.answers.Outstanding.{Outstanding}
use Rattle.command_engine.specs.Fetchings.{Stands}
use Rattle.command_engine.specs.Polling.{asked_of}
use Rattle.period_writer.specs.Runs.{Tally, tally_opened, measures, tally_of_stretches}
use Rattle.period_writer.specs.Writers.{tally_of, ring_of}
use Rattle.driver_progress.specs.declared.phase.Phase.TheVariants.{Ready}
use Rattle.driver_progress.specs.Answers.{AnswersAgree}
use Rattle.driver_progress.specs.Stretches.{stretches_of}
use Rattle.driver_progress.specs.Tasks.{Task, DriverLine, walks_over}
use Rattle.driver_progress.specs.Progress as trail
use Rattle.driver_progress.specs.Progress.{trail_of}
use Rattle.driver_rules.specs.Onward.{later_of, IsOnward, IsAtOnwardRest}
use Rattle.laws_bring_up.specs.Stretches.{HasFound}
use Rattle.laws_stream.specs.Resting.{Rests, AreApartFrom}
use Rattle.laws_stream.specs.Lives.{Along, HasStopped}
use Rattle.laws_stream.specs.Going.{StreamGoes, is_left_open}
use Rattle.laws_driver.specs.Sounding.{Parts, AreSetUpIn}
use Rattle.laws_driver.specs.Keeping.{WasNeverHeard}
use Rattle.laws_speakers.specs.SwitchWords.{IsSwitchWord}
use Rattle.jack_rules.specs.Switching.{switching_opened}
use Rattle.jack_switch.specs.SwitchRules.{SwitchState, switch_rules}
use Rattle.jack_switch.specs.JackDrivers.{JackDriverState, switch_state, IsTaskOfSwitching}
use Rattle.laws_switching.specs.Speakers.{is_switched}
use Rattle.laws_switching.specs.SettingUp.{StaysSetUpBut}
use Rattle.laws_switching.specs.Since.{since_ready}
use Rattle.laws_switching.specs.Senses.{KnowsJacks, SensesDecide, senses_after, senses_opened}
use Rattle.laws_switching.specs.Hearing.{HearSwitched}
use Rattle.laws_switching.specs.Turned.{outputs, HasTurned}

-- ---- the turn

-- a driver that switches was made of the parts of one that brought its codecs up, for these plans
pub record IsMadeOf (parts : Parts) (plans : List Plan) (driver : JackDriverState) : Type 0 where
  pub engine : driver.engine ≡ parts.bring_up.engine
  pub writer : driver.writer ≡ parts.writer
  pub sent : driver.sent ≡ parts.bring_up.sent
  pub graphs : driver.graphs ≡ parts.bring_up.agenda.graphs.items
  pub plans_are : driver.plans ≡ plans
  pub switching : driver.switching ≡ switching_opened driver.graphs driver.plans
  pub clock : driver.clock ≡ 0
  pub given_up : driver.given_up ≡ None

-- ---- between two calls

-- the engine of commands stands to the world, and its outstanding command is answered by what was written since the
-- last write of CORBWP just where what was not read answers it
pub record IsEngineStanding (driver : JackDriverState) (written : ℕ) (world : World) : Type 0 where
  pub from : ℕ
  pub read : ℕ
  pub stands : Stands from read driver.engine.corb.address driver.engine.rirb.address driver.engine.rings world
  pub agree : AnswersAgree (asked_of driver.engine.rings.outstanding) written read world.written

-- the outstanding command switches
abbrev pub SendsSwitch : List RawCodec → List Plan → JackDriverState → Type 0
SendsSwitch graphs plans driver = (command : Outstanding) → driver.engine.rings.outstanding ≡ Some command
    → IsSwitchWord (is_switched graphs plans) command.word

-- before the first run no command is outstanding, and streams rested at every moment
pub record HasNotPlayed (driver : JackDriverState) (telling : Telling) : Type 0 where
  pub idle : driver.engine.rings.outstanding ≡ None
  pub fresh : tally_of driver.writer ≡ tally_opened
  pub kept : driver.given_up ≡ None
  pub apart : AreApartFrom (ring_of driver.writer) driver.engine.rirb.address
  pub rests : Along (Rests driver.writer.geometry.fifo) telling.journal telling.start

abbrev pub StreamSwitches : Task → JackDriverState → Telling → Type 0
StreamSwitches task driver telling =
    HasNotPlayed driver telling
    ⊎ StreamGoes (is_some driver.given_up) (ring_of driver.writer) task.pcm (tally_of driver.writer) telling

-- between two calls of a driver that switches, once the first line at `Ready` was a call of it. The trail beside the
-- rules stays where it was at `Ready`, but for its tally, which is that of the rules
pub record SwitchGoesOn (format : Format) (graphs : List RawCodec) (plans : List Plan) (task : Task)
    (lines left : List DriverLine) (supply : List ℕ) (driver : JackDriverState) (telling : Telling) : Type 0 where
  pub rest : IsAtOnwardRest (switch_rules task graphs plans) task lines left (Some (switch_state driver)) telling
  pub finds : HasFound task lines telling
  pub phase_is : (trail_of task lines telling).state.phase ≡ Ready
  pub sent_is : (trail_of task lines telling).state.sent ≡ driver.sent
  pub tally_is : (trail_of task lines telling).state.tally ≡ tally_of driver.writer
  pub task_is : IsTaskOfSwitching driver supply task
  pub walked : driver.graphs ≡ graphs
  pub planned : driver.plans ≡ plans
  pub enough : length (walks_over graphs) ≤ driver.sent
  pub set_up : StaysSetUpBut format 1 graphs plans task lines telling
  pub turned : HasTurned format graphs plans (world_of telling)
  -- until the stream is over each command since the turn was taken while it ran
  pub taken : is_left_open (is_some driver.given_up) driver.writer.course.ran ≡ true
      → All (λ (one : TakenCommand). one.running ≡ true) (drop turned.from (world_of telling).commands)
  pub engine : IsEngineStanding driver (trail_of task lines telling).written (world_of telling)
  pub sends : SendsSwitch graphs plans driver
  pub stream : StreamSwitches task driver telling
  pub decided : SensesDecide driver.engine.corb.address driver.engine.rirb.address graphs plans
      (since_ready task lines telling)
  pub knows : KnowsJacks (senses_after driver.engine.corb.address driver.engine.rirb.address
      (since_ready task lines telling) (senses_opened graphs plans)) driver.switching

-- ---- at the end

-- the stream was set going once and stopped, and codecs that were set up where it began to switch heard it so, where
-- the device made no step in the last stretch, of which these are the events
pub record WasHeardSwitched (means : Means) (graphs : List RawCodec) (is_speaker : (address pin : ℕ) → Bool)
    (format : Format) (pcm : List ℕ) (given_up : Bool) (tally : Tally) (last : List Event) (telling : Telling) : Type 0
  where
    pub started : tally.course.started ≡ true
    pub lived : HasStopped telling
    pub codecs : List CodecState
    pub set_up : AreSetUpIn means graphs codecs
    pub hear : All IsNoStep last → HearSwitched is_speaker codecs format pcm given_up tally (world_of telling).commands
        (world_of telling).carried

-- all that is known of one that was closed: up to `Ready` the journal is progress, and from the next line on it goes by
-- the rules of a driver that switches and leads to its state. All codecs were walked, and from the last answer of the
-- set-up on they stayed set up but for the speakers that were off. The runs are those of the journal's stretches. Each
-- SetPin of a speaker from the turn on carries what the sense answers before it decide. The stream was never set going,
-- or each pin heard the line where it was on
pub record SwitchHasGone (format : Format) (graphs : List RawCodec) (plans : List Plan) (task : Task)
    (lines : List DriverLine) (sent : ℕ) (ended : SwitchState) (last : List Event) (telling : Telling) : Type 0 where
  pub onward : IsOnward (switch_rules task graphs plans) task lines telling
  pub later_is : later_of (switch_rules task graphs plans) task lines telling ≡ Some ended
  pub finds : HasFound task lines telling
  pub phase_is : (trail.state_of task lines telling).phase ≡ Ready
  pub sent_is : (trail.state_of task lines telling).sent ≡ sent
  pub enough : length (walks_over graphs) ≤ sent
  pub set_up : StaysSetUpBut format 1 graphs plans task lines telling
  pub runs_are : ended.tally
      ≡ tally_of_stretches (measures task.geometry) (length task.pcm) (stretches_of lines telling.journal)
  pub decided : SensesDecide task.blocks.corb task.blocks.rirb graphs plans
      (since_ready task lines telling)
  pub heard : ((ended.tally ≡ tally_opened) × WasNeverHeard telling)
      ⊎ WasHeardSwitched (outputs format) graphs (is_switched graphs plans) format task.pcm (is_some ended.given_up)
      ended.tally last telling
