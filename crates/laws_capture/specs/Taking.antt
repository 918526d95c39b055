-- How a driver that records stands to the world between two calls: by whether its stream was set going, and whether it
-- still is. This project's own.
use Rattle.std.specs.Prelude.{◌≡◌, ◌⊎◌, ℕ, false, List, [], length}
use Rattle.codec_graph.specs.declared.raw.RawCodec.{RawCodec}
use Rattle.hda_world.specs.declared.world.TheConstants.{REGION_BYTES}
use Rattle.hda_world.specs.Worlds.{World}
use Rattle.command_engine.specs.Engines.{EngineState}
use Rattle.command_engine.specs.Fetchings.{Stands, graphs_in}
use Rattle.hda_capture.specs.Recordings.{tally_opened}
use Rattle.hda_capture.specs.Recorders.{RecorderState, tally_of}
use Rattle.laws_recording.specs.Filling.{recorder_ring}
use Rattle.laws_recording.specs.Recording.{IsRecording, HasRecorded}
use Rattle.laws_recording.specs.Sound.{HearsGiven, TookGiven}
use Rattle.laws_stream.specs.Resting.{Rests, AreApartFrom}
use Rattle.recording_driver.specs.RecordRules.{records_on}

-- its stream was not set going: the engine of commands stands to the world, no stream runs, no block came, and RIRB
-- lies outside the recorder's blocks
pub record HasNotStarted (graphs : List RawCodec) (engine : EngineState) (recorder : RecorderState) (world : World) : Type 0
  where
    pub fresh : tally_of recorder ≡ tally_opened
    pub none : recorder.bytes ≡ []
    pub region : length world.memory ≡ REGION_BYTES
    pub graphs_are : graphs_in world.codecs ≡ graphs
    pub from : ℕ
    pub read : ℕ
    pub stands : Stands from read engine.corb.address engine.rirb.address engine.rings world
    pub rests : Rests recorder.geometry.fifo world
    pub apart : AreApartFrom (recorder_ring recorder) engine.rirb.address
    pub none_came : world.came ≡ []

-- it records, and what its stream took is the given sound of a pin that is heard
pub record IsTaking (recorder : RecorderState) (world : World) : Type 0 where
  pub nid : ℕ
  pub recording : IsRecording recorder world
  pub hears : HearsGiven recorder.geometry.format nid world
  pub took : TookGiven recorder.geometry.format world

-- its stream was stopped, and what it took is the given sound
pub record HasTaken (recorder : RecorderState) (world : World) : Type 0 where
  pub recorded : HasRecorded recorder world
  pub took : TookGiven recorder.geometry.format world

-- no run comes any more
pub record IsOverWith (recorder : RecorderState) (world : World) : Type 0 where
  pub over : records_on recorder.course.recorded ≡ false
  pub has : HasTaken recorder world

abbrev pub StreamTakes : (graphs : List RawCodec) → EngineState → RecorderState → World → Type 0
StreamTakes graphs engine recorder world =
    HasNotStarted graphs engine recorder world ⊎ (IsTaking recorder world ⊎ IsOverWith recorder world)
