-- How the driver of a capture goes on over a rig, item by item. What private functions promise one another; this
-- project's own.
use Rattle.std.specs.Prelude.{◌≡◌, ◌≤◌, ◌+◌, ◌*◌, ◌++◌, [], ◌∷◌, false, ℕ, List, length, None, Some}
use Rattle.stream_format.specs.Cadence.{block_bytes}
use Rattle.verb_codes.specs.declared.verbs.Command.{Command}
use Rattle.codec_graph.specs.declared.raw.RawCodec.{RawCodec}
use Rattle.route_setup.specs.Means.{Means}
use Rattle.analog_in.specs.declared.input.Input.{Input}
use Rattle.dma_pool.specs.Pools.{PoolState}
use Rattle.schedule_reader.specs.declared.schedule.Item.{Item}
use Rattle.schedule_reader.specs.declared.schedule.Item.TheVariants.{Drive}
use Rattle.schedule_reader.specs.declared.schedule.DriverLine.{DriverLine as Line}
use Rattle.wav_reader.specs.Supplies.{Supplied}
use Rattle.hda_world.specs.Events.{Event, Begin, End}
use Rattle.hda_world.specs.Tellings.{Telling, Went, Accessed}
use Rattle.period_writer.specs.declared.geometry.Geometry.{Geometry}
use Rattle.period_writer.specs.Runs.{tally_opened}
use Rattle.period_writer.specs.Writers.{WriterState, tally_of, periods_of}
use Rattle.hda_capture.specs.Recorders.{IsRecorder}
use Rattle.hda_capture.specs.Recorders as recorders
use Rattle.driver_progress.specs.Tasks.{Blocks, Task, DriverLine}
use Rattle.driver_bring_up.specs.declared.bringing.BringUp.{BringUp}
use Rattle.audio_driver.specs.Drivers.{DriverState, TakesBlocks}
use Rattle.audio_driver.specs.Opening.{OpensDriver}
use Rattle.audio_driver.specs.declared.driver.parting.Parts.{Parts as Left}
use Rattle.recording_driver.specs.RecordingDrivers.{RecordingState, IsRecordingDriver, IsTaskOfRecording, KeepsRecording}
use Rattle.recording_driver.specs.RecordingCalls.{Records}
use Rattle.laws_bring_up.specs.Standing.{IsTaskOfCodecs}
use Rattle.laws_driver.specs.Sounding.{Parts}
use Rattle.laws_start.specs.Tasks.{blocks_of}
use Rattle.laws_start.specs.Starting.{IsAllFree}
use Rattle.laws_capture.specs.Listening.{HearsWhereOpen}
use Rattle.laws_capture.specs.Capturing.{IsComing, CaptureGoesOn}
use Rattle.rig.specs.Follows.{FollowItems}
use Rattle.rig.specs.Rigs.{telling_of, setting_of}
use Rattle.rig.specs.declared.rig.Rig.{Rig}
use Rattle.program_runs.specs.FirstFits.{AreFirstFits}
use Rattle.program_runs.specs.LinkFrames.{IsShort}
use Rattle.program_runs.specs.Lines.{lines_in}
use Rattle.program_captures.specs.declared.terms.CaptureTerms.{CaptureTerms}
use Rattle.program_captures.specs.declared.capturer.Capturer.{Capturer}
use Rattle.program_captures.specs.declared.capturer.Capturer.TheVariants.{Coming, Recording}
use Rattle.program_captures.specs.Inputs.{capture_means}

-- ---- what is to be recorded

-- what set-up means, and how many bytes there are
abbrev pub means_of : CaptureTerms → Means
means_of terms = capture_means terms.input.codec terms.geometry.format

abbrev pub total_of : CaptureTerms → ℕ
total_of terms = terms.frames * block_bytes terms.geometry.format

-- ---- the driver between two calls

-- a supply without sound
abbrev pub HasNoSound : Supplied → Type 0
HasNoSound supply = supply ≡ record { held = []; left = 0; taken = 0; source = None }

-- the parts of a driver that are told, without sound
abbrev pub parts_with : BringUp → WriterState → Parts
parts_with bring_up writer = record { bring_up = bring_up; writer = writer; supply = [] }

-- the blocks of the parts of a driver were first fits in a region of which nothing was taken
pub record AreFitsOf (geometry : Geometry) (parts : Left) : Type 0 where
  pub free : PoolState
  pub all_free : IsAllFree free
  pub opens : OpensDriver geometry free parts.engine.corb.address parts.engine.rirb.address parts.writer.list.address
      (periods_of parts.writer) parts.pool

-- one that brings its codecs up and plays nothing
pub record IsComingFor (terms : CaptureTerms) (driver : DriverState Input) : Type 0 where
  pub setter : driver.setter ≡ terms.input
  pub play : driver.play ≡ false
  pub geometry : driver.writer.geometry ≡ terms.geometry
  pub format : driver.bring_up.agenda.format ≡ terms.geometry.format
  pub fresh : tally_of driver.writer ≡ tally_opened
  pub silent : HasNoSound driver.supply
  pub runs : driver.runs ≡ terms.runs
  pub free : PoolState
  pub all_free : IsAllFree free
  pub takes : TakesBlocks terms.geometry free driver

-- where the blocks of a driver that records lie
abbrev pub recorder_blocks : RecordingState → Blocks
recorder_blocks driver = record {
  corb = driver.engine.corb.address;
  rirb = driver.engine.rirb.address;
  list = driver.recorder.list.address;
  periods = recorders.periods_of driver.recorder;
}

-- one that records
pub record IsRecordingFor (terms : CaptureTerms) (driver : RecordingState) : Type 0 where
  pub geometry : driver.recorder.geometry ≡ terms.geometry
  pub total_is : driver.recorder.total ≡ total_of terms
  pub runs : driver.runs ≡ terms.runs
  pub first_fits : AreFirstFits terms.geometry (recorder_blocks driver)

-- ---- either

abbrev pub IsCapturerFor : CaptureTerms → Capturer → Type 0
IsCapturerFor terms (Coming driver) = IsComingFor terms driver.value
IsCapturerFor terms (Recording driver) = IsRecordingFor terms driver.value

abbrev pub calls_of : Capturer → ℕ
calls_of (Coming driver) = driver.value.calls
calls_of (Recording driver) = driver.value.calls

abbrev pub blocks_in : Capturer → Blocks
blocks_in (Coming driver) = blocks_of driver.value.bring_up driver.value.writer
blocks_in (Recording driver) = recorder_blocks driver.value

-- a task with its blocks: of one that brings its codecs up nothing is asked yet
abbrev pub HasTask : Capturer → Task → Type 0
HasTask (Coming driver) task = Unit {0}
HasTask (Recording driver) task = IsTaskOfRecording driver.value task

-- between two calls, with these lines left
abbrev pub GoesOn : CaptureTerms → (RawCodec → List Command) → List RawCodec → Task → (all left : List DriverLine)
    → Capturer → Telling → Type 0
GoesOn terms verbs graphs task all left (Coming driver) telling =
    IsComing (means_of terms) verbs graphs task (total_of terms) all left
    (parts_with driver.value.bring_up driver.value.writer) telling
GoesOn terms verbs graphs task all left (Recording driver) telling =
    CaptureGoesOn (means_of terms) graphs task all left driver.value telling

-- ---- how it goes on

-- what is to be done for codecs with these graphs: nothing is played, and where all are set up the input is this pin
pub record IsCaptureTask (terms : CaptureTerms) (verbs : RawCodec → List Command) (graphs : List RawCodec) (task : Task)
    (nid : ℕ) : Type 0 where
  pub of_codecs : IsTaskOfCodecs (means_of terms) verbs graphs task
  pub silent : task.plays ≡ false
  pub hears : HearsWhereOpen (means_of terms) graphs task.geometry.format nid

-- for each task, a driver with these lines and others left leads on to where the others are left, while the journal is
-- short
abbrev pub CaptureLeadsOn : CaptureTerms → (lines : List DriverLine) → (old new : Capturer) → (before after : Telling)
    → Type 0
CaptureLeadsOn terms lines old new before after =
    (verbs : RawCodec → List Command) (graphs : List RawCodec) (task : Task) (nid : ℕ) (all left : List DriverLine)
    → IsCaptureTask terms verbs graphs task nid → HasTask new task → IsShort after
    → GoesOn terms verbs graphs task all (lines ++ left) old before
    → GoesOn terms verbs graphs task all left new after

-- these items were run, one after another, from between two runs to between two runs
pub record CaptureRan (terms : CaptureTerms) (items : List Item) (old new : Capturer) (before after : Rig) : Type 0
  where
    pub events : List Event
    pub went : Went (telling_of before) (telling_of after) events
    pub follow : FollowItems items events
    pub leads : CaptureLeadsOn terms (lines_in items) old new (telling_of before) (telling_of after)
    pub keeps : (task : Task) → HasTask new task → HasTask old task
    pub stays : IsCapturerFor terms new
    pub corb : (blocks_in new).corb ≡ (blocks_in old).corb
    pub rirb : (blocks_in new).rirb ≡ (blocks_in old).rirb
    pub calls : calls_of new ≤ calls_of old + length (lines_in items)
    pub between : (setting_of after).in_run ≡ false
    pub machine : (setting_of after).machine ≡ (setting_of before).machine

-- a driver line was run for a driver that records
pub record RecordsLine (terms : CaptureTerms) (line : Line) (old new : RecordingState) (before after : Rig) : Type 0
  where
    pub driver : IsRecordingDriver old
    pub recorder : IsRecorder old.recorder
    pub begun : Telling
    pub made : Telling
    pub opened : Accessed (telling_of before) begun Begin
    pub records : Records line.irq old new (Some begun) (Some made)
    pub ended : Accessed made (telling_of after) End
    pub events : List Event
    pub went : Went (telling_of before) (telling_of after) events
    pub follow : FollowItems (Drive line ∷ []) events
    pub kept : KeepsRecording old new
    pub stays : IsRecordingFor terms new
    pub calls : new.calls ≡ old.calls + 1
    pub between : (setting_of after).in_run ≡ false
    pub machine : (setting_of after).machine ≡ (setting_of before).machine
