-- What contracts see of a driver that records. This project's own.
use Rattle.std.specs.Prelude.{◌≡◌, ◌≤◌, ◌+◌, ℕ, true, List, [], Contains, None, length, if◌then◌else◌}
use Rattle.codec_graph.specs.declared.raw.RawCodec.{RawCodec}
use Rattle.route_planner.specs.declared.routes.Plan.{Plan}
use Rattle.dma_pool.specs.Blocks.{run_at}
use Rattle.dma_pool.specs.Pools.{PoolState}
use Rattle.command_engine.specs.Blocks.{corb_bytes, rirb_bytes}
use Rattle.command_engine.specs.Engines.{EngineState}
use Rattle.period_writer.specs.Rings.{period_bytes, list_bytes}
use Rattle.period_writer.specs.Blocks.{are_apart, IsBesideAll}
use Rattle.period_writer.specs.Opening.{OpensWriter, GivesBack, HasNoRuns, HasRuns}
use Rattle.period_writer.specs.Writers.{periods_of as writer_periods}
use Rattle.audio_driver.specs.declared.driver.parting.Parts.{Parts}
use Rattle.hda_capture.specs.declared.course.Recorded.TheVariants.{Recording, Complete, Late}
use Rattle.hda_capture.specs.declared.course.Recorded.{Recorded}
use Rattle.hda_capture.specs.Recordings.{RecordTally, tally_opened}
use Rattle.hda_capture.specs.Recorders.{RecorderState, OwnsBlocks, tally_of, periods_of, measures_of}
use Rattle.driver_progress.specs.declared.phase.Phase.{Phase}
use Rattle.driver_progress.specs.declared.phase.Phase.TheVariants as phases
use Rattle.driver_progress.specs.Tasks.{Task}
use Rattle.recording_driver.specs.RecordRules.{RecordState}

-- a driver that records: both sides of it, the pool that their blocks were taken from, what the bring-up left, how many
-- calls there may be, and how many there were
pub record RecordingState : Type 0 where
  pub engine : EngineState
  pub recorder : RecorderState
  pub pool : PoolState
  pub graphs : List RawCodec
  pub plans : List Plan
  pub sent : ℕ
  pub runs : ℕ
  pub calls : ℕ

-- as the rules keep it
abbrev pub record_state : RecordingState → RecordState
record_state driver = record { rings = driver.engine.rings; tally = tally_of driver.recorder }

-- the phase: the stream records from the first run on, and then by how the last one ended
abbrev pub recorded_as : (limit : ℕ) → Recorded → Phase
recorded_as limit Recording = phases.Playing
recorded_as limit Complete = phases.Drained
recorded_as limit (Late from to) = phases.Late from to limit

abbrev pub phase_recorded : (limit : ℕ) → RecordTally → Phase
phase_recorded limit tally =
    if tally.course.started then recorded_as limit tally.course.recorded else phases.Ready

abbrev pub phase_of : RecordingState → Phase
phase_of driver = phase_recorded (measures_of driver.recorder).limit (tally_of driver.recorder)

-- a block of so many bytes has no byte in common with those of a recorder's ring
pub record IsBesideRecorder (address bytes : ℕ) (recorder : RecorderState) : Type 0 where
  pub list : are_apart address bytes recorder.list.address (list_bytes recorder.geometry.periods) ≡ true
  pub periods : IsBesideAll address bytes (period_bytes recorder.geometry.period) (periods_of recorder)

-- ---- what is true of every driver that records

pub record IsRecordingDriver (driver : RecordingState) : Type 0 where
  pub started : driver.engine.rings.started ≡ true
  pub idle : driver.engine.rings.outstanding ≡ None
  pub quiet : driver.engine.events ≡ []
  pub owns_corb : Contains driver.pool.taken (run_at driver.engine.corb.address corb_bytes)
  pub owns_rirb : Contains driver.pool.taken (run_at driver.engine.rirb.address rirb_bytes)
  pub owns_ring : OwnsBlocks driver.pool.taken driver.recorder
  -- what the device writes of RIRB lies beside its ring
  pub beside_rirb : IsBesideRecorder driver.engine.rirb.address rirb_bytes driver.recorder
  -- there is room to record a run of each call and one more
  pub records : driver.recorder.records ≡ driver.runs + 1
  pub few_calls : driver.calls ≤ driver.runs
  pub few_recorded : length driver.recorder.runs ≤ driver.calls

-- ---- what a call does to it

-- its blocks, its geometry, its pool and what the bring-up left stay
pub record KeepsRecording (old new : RecordingState) : Type 0 where
  pub corb : new.engine.corb ≡ old.engine.corb
  pub rirb : new.engine.rirb ≡ old.engine.rirb
  pub geometry : new.recorder.geometry ≡ old.recorder.geometry
  pub list : new.recorder.list ≡ old.recorder.list
  pub periods : new.recorder.periods ≡ old.recorder.periods
  pub total : new.recorder.total ≡ old.recorder.total
  pub pool : new.pool ≡ old.pool
  pub graphs : new.graphs ≡ old.graphs
  pub plans : new.plans ≡ old.plans
  pub sent : new.sent ≡ old.sent
  pub runs : new.runs ≡ old.runs

-- a task with its blocks
pub record IsTaskOfRecording (driver : RecordingState) (task : Task) : Type 0 where
  pub corb : task.blocks.corb ≡ driver.engine.corb.address
  pub rirb : task.blocks.rirb ≡ driver.engine.rirb.address
  pub list : task.blocks.list ≡ driver.recorder.list.address
  pub periods : task.blocks.periods ≡ periods_of driver.recorder
  pub geometry : task.geometry ≡ driver.recorder.geometry

-- ---- where it begins

-- it was made of the parts of a driver: the blocks of the writer were given back, and then those of the recorder taken
pub record OpensRecording (parts : Parts) (runs total : ℕ) (driver : RecordingState) : Type 0 where
  pub engine : driver.engine ≡ parts.engine
  pub graphs : driver.graphs ≡ parts.graphs.items
  pub plans : driver.plans ≡ parts.plans.items
  pub sent : driver.sent ≡ parts.sent
  pub middle : PoolState
  pub gives : GivesBack parts.writer.geometry parts.pool parts.writer.list.address (writer_periods parts.writer) middle
  pub takes : OpensWriter parts.writer.geometry middle driver.recorder.list.address (periods_of driver.recorder)
      driver.pool
  pub geometry : driver.recorder.geometry ≡ parts.writer.geometry
  pub total_is : driver.recorder.total ≡ total
  pub fresh : tally_of driver.recorder ≡ tally_opened
  pub none : driver.recorder.bytes ≡ []
  pub runs_is : driver.runs ≡ runs
  pub calls_is : driver.calls ≡ 0

-- once the writer's blocks were given back one of the recorder's takes meets no run
pub record HasNoRecorderRing (parts : Parts) : Type 0 where
  pub middle : PoolState
  pub gives : GivesBack parts.writer.geometry parts.pool parts.writer.list.address (writer_periods parts.writer) middle
  pub none : HasNoRuns parts.writer.geometry middle

-- each of them meets one
pub record HasRecorderRing (parts : Parts) : Type 0 where
  pub middle : PoolState
  pub gives : GivesBack parts.writer.geometry parts.pool parts.writer.list.address (writer_periods parts.writer) middle
  pub some : HasRuns parts.writer.geometry middle
