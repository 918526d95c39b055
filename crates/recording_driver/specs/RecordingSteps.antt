-- What the parts of a call do to both sides of a driver that records, on every platform. This project's own.
use Rattle.std.specs.Prelude.{◌≡◌, ◌⊎◌, true, false, Option}
use Rattle.hda_world.specs.Tellings.{Telling, Between, Makes}
use Rattle.command_engine.specs.Engines.{EngineState}
use Rattle.command_engine.specs.Polling.{PollReads, AreNew, poll_accesses, rings_polled}
use Rattle.hda_capture.specs.Calls.{StartsRecording, RecordsRun}
use Rattle.hda_capture.specs.Recorders.{RecorderState}
use Rattle.recording_driver.specs.RecordRules.{records_on}
use Rattle.recording_driver.specs.RecordingCalls.{last_stop}

-- a look for what codecs told unasked, of which nothing is kept
pub record ListensTo (old new : EngineState) (before after : Option Telling) : Type 0 where
  pub reads : PollReads
  pub new_ones : AreNew old.rings reads
  pub made : Between (Makes (poll_accesses old.rirb.address old.rings reads)) before after
  pub rings : new.rings ≡ rings_polled old.rings reads

-- the first run
pub record BeginsNow (engine engine' : EngineState) (recorder recorder' : RecorderState) (before after : Option Telling)
    : Type 0 where
  pub fresh : recorder.course.started ≡ false
  pub starts : StartsRecording recorder recorder' before after
  pub engine_is : engine' ≡ engine

-- a later one, after that look
pub record GoesOnNow (engine engine' : EngineState) (recorder recorder' : RecorderState) (before after : Option Telling)
    : Type 0 where
  pub started : recorder.course.started ≡ true
  pub begins : Option Telling
  pub listens : ListensTo engine engine' before begins
  pub records : RecordsRun recorder recorder'.course.recorded recorder' begins after

abbrev pub RecordsNow : (engine engine' : EngineState) → (recorder recorder' : RecorderState)
    → (before after : Option Telling)
    → Type 0
RecordsNow engine engine' recorder recorder' before after =
    BeginsNow engine engine' recorder recorder' before after
    ⊎ GoesOnNow engine engine' recorder recorder' before after

-- nothing, where the stream does not record
pub record IsStillNow (engine engine' : EngineState) (recorder recorder' : RecorderState) (before after : Option Telling)
    : Type 0 where
  pub still : (recorder.course.started ≡ false) ⊎ (records_on recorder.course.recorded ≡ false)
  pub engine_is : engine' ≡ engine
  pub recorder_is : recorder' ≡ recorder
  pub told_is : after ≡ before

-- where it does, that look, the last run, and the stop where that run did not stop it
pub record StopsNow (engine engine' : EngineState) (recorder recorder' : RecorderState) (before after : Option Telling)
    : Type 0 where
  pub started : recorder.course.started ≡ true
  pub more : records_on recorder.course.recorded ≡ true
  pub begins : Option Telling
  pub listens : ListensTo engine engine' before begins
  pub ran : Option Telling
  pub records : RecordsRun recorder recorder'.course.recorded recorder' begins ran
  pub stopped : Between (Makes (last_stop recorder'.course.recorded)) ran after

abbrev pub EndsNow : (engine engine' : EngineState) → (recorder recorder' : RecorderState) → (before after : Option Telling)
    → Type 0
EndsNow engine engine' recorder recorder' before after =
    IsStillNow engine engine' recorder recorder' before after
    ⊎ StopsNow engine engine' recorder recorder' before after
