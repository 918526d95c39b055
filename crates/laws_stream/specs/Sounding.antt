-- How a stream that a driver set going stands to the world that is told. This project's own.
use Rattle.std.specs.Prelude.{◌≡◌, true, ℕ, List}
use Rattle.codec_graph.specs.CodecStates.{CodecState}
use Rattle.stream_format.specs.Words.{format_word}
use Rattle.stream_format.specs.Layouts.{layout}
use Rattle.heard_frames.specs.HeardLists.{block_size}
use Rattle.hda_world.specs.Worlds.{World}
use Rattle.hda_world.specs.Streaming.{HasSent}
use Rattle.hda_world.specs.Tellings.{Telling, world_of}
use Rattle.period_writer.specs.declared.course.Ran.{Ran}
use Rattle.period_writer.specs.declared.course.Ran.TheVariants as ran
use Rattle.period_writer.specs.Runs.{Tally}
use Rattle.period_writer.specs.Standing.{Ring}
use Rattle.period_writer.specs.Owning.{IsPlaying}
use Rattle.period_writer.specs.Outcomes.{HasDrained, WasStopped}
use Rattle.laws_hearing.specs.Steady.{Steady}
use Rattle.audio_driver.specs.States.{is_open}
use Rattle.laws_stream.specs.Lives.{Lives}

-- the stream, by how the last run ended
abbrev pub StreamIs : Ran → Ring → (pcm : List ℕ) → Tally → World → Type 0
StreamIs ran.Playing ring pcm tally world = IsPlaying ring pcm tally world
StreamIs ran.Drained ring pcm tally world = HasDrained ring pcm tally world
StreamIs (ran.Late from to limit) ring pcm tally world = WasStopped ring pcm tally world

-- these codecs were as they are in every link frame that carried something, and what link frames carried is what was
-- fetched
pub record IsHeardBy (codecs : List CodecState) (ring : Ring) (world : World) : Type 0 where
  pub steady : Steady codecs 1 (format_word ring.geometry.format) (block_size (layout ring.geometry.format)) 0 world
  pub sent : HasSent 0 world

-- a stream that plays or has played, as these codecs hear it: it is as the last run left it, and was set going where it
-- had not begun
pub record StreamSounds (codecs : List CodecState) (ring : Ring) (pcm : List ℕ) (tally : Tally) (telling : Telling)
    : Type 0 where
  pub started : tally.course.started ≡ true
  pub heard : IsHeardBy codecs ring (world_of telling)
  pub stream : StreamIs tally.course.ran ring pcm tally (world_of telling)
  pub lives : Lives (is_open tally.course.ran) telling
