-- What is left of a driver that recorded and was closed. This project's own.
use Rattle.std.specs.Prelude.{◌≡◌, Option}
use Rattle.hda_world.specs.Tellings.{Telling}
use Rattle.dma_pool.specs.Pools.{PoolState}
use Rattle.hda_capture.specs.Recorders.{IsRecorder, periods_of}
use Rattle.audio_driver.specs.Closing.{GivesBack}
use Rattle.recording_driver.specs.declared.driver.closing.RecordingClosed.{RecordingClosed}
use Rattle.recording_driver.specs.RecordingDrivers.{RecordingState, phase_of}
use Rattle.recording_driver.specs.RecordingCalls.{EndsRecord}

-- what it recorded, as the last call leaves it, and what the bring-up left of the codecs
pub record ClosesRecording (driver : RecordingState) (closed : RecordingClosed) (before after : Option Telling) : Type 0
  where
    pub ended : RecordingState
    pub ends : EndsRecord driver ended before after
    pub recorder : IsRecorder ended.recorder
    pub phase : closed.phase ≡ phase_of ended
    pub sent : closed.sent ≡ driver.sent
    pub graphs : closed.graphs.items ≡ driver.graphs
    pub plans : closed.plans.items ≡ driver.plans
    pub runs : closed.runs.items ≡ ended.recorder.runs
    pub bytes : closed.bytes.items ≡ ended.recorder.bytes

-- all its blocks were given back to its pool
abbrev pub GivesRecordingBack : RecordingState → PoolState → Type 0
GivesRecordingBack driver pool =
    GivesBack driver.recorder.geometry driver.pool driver.engine.corb.address driver.engine.rirb.address
    driver.recorder.list.address (periods_of driver.recorder) pool
