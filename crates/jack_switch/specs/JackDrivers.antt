-- What contracts see of a driver that switches speakers while it plays. This project's own.
use Rattle.std.specs.Prelude.{◌≡◌, ◌≤◌, ◌<◌, ℕ, Bool, true, false, List, [], All, Contains, length, map}
use Rattle.std.specs.Prelude.{Option, None, Some}
use Rattle.codec_graph.specs.declared.raw.RawCodec.{RawCodec}
use Rattle.route_planner.specs.declared.routes.Plan.{Plan}
use Rattle.verb_codes.specs.Verbs.{word_of}
use Rattle.dma_pool.specs.Blocks.{run_at}
use Rattle.dma_pool.specs.Pools.{PoolState}
use Rattle.wav_reader.specs.Supplies.{Supplied}
use Rattle.command_engine.specs.Blocks.{corb_bytes, rirb_bytes}
use Rattle.command_engine.specs.declared.answers.Event as told
use Rattle.command_engine.specs.declared.answers.Outstanding.{Outstanding}
use Rattle.command_engine.specs.Engines.{EngineState}
use Rattle.period_writer.specs.Runs.{Tally, tally_opened}
use Rattle.period_writer.specs.Writers.{WriterState, OwnsBlocks, tally_of, periods_of}
use Rattle.driver_progress.specs.declared.phase.Phase.{Phase}
use Rattle.driver_progress.specs.declared.phase.Phase.TheVariants.{Ready, Unanswered}
use Rattle.driver_progress.specs.Tasks.{Task}
use Rattle.driver_bring_up.specs.Counted.{IsCount}
use Rattle.driver_bring_up.specs.Jacks.{IsOfPin, Counts}
use Rattle.driver_bring_up.specs.declared.jacks.Jacks.{Jacks}
use Rattle.audio_driver.specs.declared.driver.parting.Parts.{Parts}
use Rattle.audio_driver.specs.Parting.{IsBesideRing}
use Rattle.audio_driver.specs.States.{IsLeft, played_as}
use Rattle.jack_rules.specs.declared.pins.JackPin.{JackPin}
use Rattle.jack_rules.specs.JackPins.{jacks_of, speakers_of}
use Rattle.jack_rules.specs.Switching.{SwitchingState, AreInReach, pin_of, sense_command, switching_opened}
use Rattle.jack_switch.specs.SwitchRules.{SwitchState, is_on, is_overdue}

-- a driver that switches: both sides of it, the sound that is still to come, the pool that their blocks were taken
-- from, what the bring-up left, the count of jacks, what the jack rules keep, the clock that the last run read last,
-- the clock at which it gave up, if it did, how many calls there may be, and how many there were
pub record JackDriverState : Type 0 where
  pub engine : EngineState
  pub writer : WriterState
  pub supply : Supplied
  pub pool : PoolState
  pub graphs : List RawCodec
  pub plans : List Plan
  pub sent : ℕ
  pub jacks : Jacks
  pub switching : SwitchingState
  pub clock : ℕ
  pub given_up : Option ℕ
  pub runs : ℕ
  pub calls : ℕ

-- as the rules keep it
abbrev pub switch_state : JackDriverState → SwitchState
switch_state driver = record {
  rings = driver.engine.rings;
  tally = tally_of driver.writer;
  clock = driver.clock;
  switching = driver.switching;
  given_up = driver.given_up;
}

-- whether a run comes next
abbrev pub is_on_now : JackDriverState → Bool
is_on_now driver = is_on (switch_state driver)

-- the phase: `Ready` until the first run, and from then on by how the last run ended, or with the command that was not
-- answered where the driver gave up
abbrev pub unanswered_as : Option Outstanding → (noticed : ℕ) → Phase
unanswered_as None noticed = Ready
unanswered_as (Some command) noticed = Unanswered command.codec command.word command.issued noticed

abbrev pub phase_given : Option ℕ → Option Outstanding → Tally → Phase
phase_given None outstanding tally = played_as tally.course.ran
phase_given (Some noticed) outstanding tally = unanswered_as outstanding noticed

abbrev pub phase_if : (started : Bool) → Option ℕ → Option Outstanding → Tally → Phase
phase_if false given_up outstanding tally = Ready
phase_if true given_up outstanding tally = phase_given given_up outstanding tally

abbrev pub phase_by : SwitchState → Phase
phase_by state = phase_if state.tally.course.started state.given_up state.rings.outstanding state.tally

abbrev pub phase_of : JackDriverState → Phase
phase_of driver = phase_by (switch_state driver)

-- ---- what is true of every driver that switches

-- the jack that is asked is the one that the outstanding command asks
pub record IsAskedBy (outstanding : Option Outstanding) (asking : Option JackPin) : Type 0 where
  pub asks : (jack : JackPin) → asking ≡ Some jack
      → (command : Outstanding) × (outstanding ≡ Some command) × (command.codec ≡ jack.codec)
      × (command.word ≡ word_of (sense_command jack))

-- the jacks and speakers are those of codecs with these graphs and plans
pub record IsSwitchingOf (graphs : List RawCodec) (plans : List Plan) (switching : SwitchingState) : Type 0 where
  pub jacks : map pin_of switching.jacks ≡ jacks_of graphs plans
  pub speakers : map (λ state. state.speaker) switching.speakers ≡ speakers_of graphs plans

pub record IsJackDriver (driver : JackDriverState) : Type 0 where
  pub started : driver.engine.rings.started ≡ true
  pub quiet : driver.engine.events ≡ []
  pub owns_corb : Contains driver.pool.taken (run_at driver.engine.corb.address corb_bytes)
  pub owns_rirb : Contains driver.pool.taken (run_at driver.engine.rirb.address rirb_bytes)
  pub owns_ring : OwnsBlocks driver.pool.taken driver.writer
  -- what the device reads of CORB and writes of RIRB lies beside its ring
  pub beside_corb : IsBesideRing driver.engine.corb.address corb_bytes driver.writer
  pub beside_rirb : IsBesideRing driver.engine.rirb.address rirb_bytes driver.writer
  -- there is room to record a run of each call and one more
  pub records : driver.runs < driver.writer.records
  pub few_calls : driver.calls ≤ driver.runs
  pub few_recorded : length driver.writer.runs ≤ driver.calls
  pub pins : IsSwitchingOf driver.graphs driver.plans driver.switching
  -- codecs can have them, so that each command that is chosen can be sent
  pub reach : AreInReach driver.switching
  pub asked : IsAskedBy driver.engine.rings.outstanding driver.switching.asking
  -- before its first run nothing was done
  pub fresh : driver.writer.course.started ≡ false → tally_of driver.writer ≡ tally_opened
  pub idle : driver.writer.course.started ≡ false → driver.engine.rings.outstanding ≡ None
  pub kept : driver.writer.course.started ≡ false → driver.given_up ≡ None
  -- it gave up a command that was not answered in its time, and is outstanding
  pub given : (noticed : ℕ) → driver.given_up ≡ Some noticed
      → is_overdue driver.engine.rings.outstanding noticed ≡ true

-- ---- what a call does to it

-- its blocks, its geometry, its pool and what the bring-up left stay
pub record KeepsJackDriver (old new : JackDriverState) : Type 0 where
  pub corb : new.engine.corb ≡ old.engine.corb
  pub rirb : new.engine.rirb ≡ old.engine.rirb
  pub geometry : new.writer.geometry ≡ old.writer.geometry
  pub list : new.writer.list ≡ old.writer.list
  pub periods : new.writer.periods ≡ old.writer.periods
  pub records : new.writer.records ≡ old.writer.records
  pub pool : new.pool ≡ old.pool
  pub graphs : new.graphs ≡ old.graphs
  pub plans : new.plans ≡ old.plans
  pub sent : new.sent ≡ old.sent
  pub runs : new.runs ≡ old.runs

-- all but the supply stays as it is
pub record KeepsAllButSupply (old new : JackDriverState) : Type 0 where
  pub engine : new.engine ≡ old.engine
  pub writer : new.writer ≡ old.writer
  pub pool : new.pool ≡ old.pool
  pub graphs : new.graphs ≡ old.graphs
  pub plans : new.plans ≡ old.plans
  pub sent : new.sent ≡ old.sent
  pub jacks : new.jacks ≡ old.jacks
  pub switching : new.switching ≡ old.switching
  pub clock : new.clock ≡ old.clock
  pub given_up : new.given_up ≡ old.given_up
  pub runs : new.runs ≡ old.runs
  pub calls : new.calls ≡ old.calls

-- a task of a driver with these blocks and this sound: its ring and its blocks, and of the sound what it did not write
-- yet is left
pub record IsTaskOfSwitching (driver : JackDriverState) (supply : List ℕ) (task : Task) : Type 0 where
  pub corb : task.blocks.corb ≡ driver.engine.corb.address
  pub rirb : task.blocks.rirb ≡ driver.engine.rirb.address
  pub list : task.blocks.list ≡ driver.writer.list.address
  pub periods : task.blocks.periods ≡ periods_of driver.writer
  pub geometry : task.geometry ≡ driver.writer.geometry
  pub sound : IsLeft task.pcm driver.writer.course supply

-- ---- where it begins

-- the parts can be gone on with: the writer was not started and has more records than calls may need, and there is one
-- plan for each graph, whose codecs have addresses of at most 14
pub record CanSwitch (parts : Parts) (runs : ℕ) : Type 0 where
  pub fresh : tally_of parts.writer ≡ tally_opened
  pub records : runs < parts.writer.records
  pub one_each : length parts.plans.items ≡ length parts.graphs.items
  pub few : All (λ codec. codec.address ≤ 14) parts.graphs.items

-- it was made of the parts of a driver
pub record OpensSwitching (parts : Parts) (runs : ℕ) (driver : JackDriverState) : Type 0 where
  pub engine : driver.engine ≡ parts.engine
  pub writer : driver.writer ≡ parts.writer
  pub supply : driver.supply ≡ parts.supply
  pub pool : driver.pool ≡ parts.pool
  pub graphs : driver.graphs ≡ parts.graphs.items
  pub plans : driver.plans ≡ parts.plans.items
  pub sent : driver.sent ≡ parts.sent
  pub jacks : (events : List told.Event) → Counts events parts.jacks.items → All IsOfPin events
      → length events ≤ 4294967295 → IsCount events driver.jacks
  pub switching : driver.switching ≡ switching_opened parts.graphs.items parts.plans.items
  pub clock : driver.clock ≡ 0
  pub given_up : driver.given_up ≡ None
  pub runs_is : driver.runs ≡ runs
  pub calls_is : driver.calls ≡ 0
