-- How a recorder that was started stands to the world: what it recorded is what the input stream took since its RUN
-- rose, in order, each byte once. This project's own.
use Rattle.std.specs.Prelude.{◌≡◌, ◌≤◌, ℕ, ◌*◌, ◌%◌, true, false, List, All, length, take}
use Rattle.hda_registers.specs.Fields.{is_running}
use Rattle.hda_world.specs.Worlds.{World}
use Rattle.hda_capture.specs.declared.course.Recorded.{Recorded}
use Rattle.hda_capture.specs.declared.course.Recorded.TheVariants.{Recording, Complete, Late}
use Rattle.hda_capture.specs.Recorders.{RecorderState, IsAtBlocks}
use Rattle.laws_recording.specs.Filling.{recorder_ring, block_in, FillsRing, KeepsPace}

-- some bytes are the first ones of those that were taken
abbrev pub AreFirstOf : (taken bytes : List ℕ) → Type 0
AreFirstOf taken bytes = bytes ≡ take (length bytes) taken

-- where its runs found the link, whole blocks had been taken
pub record IsWhole (recorder : RecorderState) : Type 0 where
  pub at : recorder.course.at % block_in (recorder_ring recorder) ≡ 0
  pub runs : All (IsAtBlocks (block_in (recorder_ring recorder))) recorder.runs

-- a recorder that records: its last run found the link where its course says, when so many link frames had passed, and
-- what it read was stored
pub record IsRecording (recorder : RecorderState) (world : World) : Type 0 where
  pub since : ℕ
  pub clock_from : recorder.course.from ≡ 500 * since
  pub started : recorder.course.started ≡ true
  pub records : recorder.course.recorded ≡ Recording
  pub whole : IsWhole recorder
  pub fills : FillsRing (recorder_ring recorder) world
  pub paced : KeepsPace (recorder_ring recorder) (record { at = recorder.course.at; since = since }) world
  pub there : recorder.course.at ≤ length world.input.entered
  pub stored : recorder.course.read ≤ world.input.left
  pub first : AreFirstOf world.input.entered recorder.bytes

-- its input stream was stopped: what it recorded is still the first of what was taken
pub record HasRecorded (recorder : RecorderState) (world : World) : Type 0 where
  pub stopped : is_running world.registers.input ≡ false
  pub no_error : world.registers.input.descriptor_error ≡ 0
  pub started : recorder.course.started ≡ true
  pub whole : IsWhole recorder
  pub first : AreFirstOf world.input.entered recorder.bytes

-- all that was to be recorded was
pub record HasCompleted (recorder : RecorderState) (world : World) : Type 0 where
  pub ended : HasRecorded recorder world
  pub all : length recorder.bytes ≡ recorder.total

-- how a run left the recorder that answered this
abbrev pub RecordedAs : Recorded → RecorderState → World → Type 0
RecordedAs Recording recorder world = IsRecording recorder world
RecordedAs Complete recorder world = HasCompleted recorder world
RecordedAs (Late from to) recorder world = HasRecorded recorder world
