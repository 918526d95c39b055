-- How a stream that a driver set going stands to the world that is told, whatever settings codecs have meanwhile. This
-- project's own.
use Rattle.std.specs.Prelude.{◌≡◌, ◌≢◌, ◌⊎◌, ℕ, ◌/◌, ◌&&◌, not, Bool, true, false, List, ◌++◌, All, length}
use Rattle.stream_format.specs.Words.{format_word}
use Rattle.stream_format.specs.Layouts.{layout}
use Rattle.hda_registers.specs.Laws.{IsBesideStreams}
use Rattle.hda_registers.specs.declared.shapes.Width.{Width}
use Rattle.heard_frames.specs.HeardLists.{block_size}
use Rattle.hda_world.specs.Worlds.{World, TakenCommand}
use Rattle.hda_world.specs.Events.{Event, Stepped, Begin, End, Read, Write, DmaRead, DmaWrite}
use Rattle.hda_world.specs.Streaming.{HasSent}
use Rattle.hda_world.specs.Tellings.{Telling, world_of}
use Rattle.period_writer.specs.declared.course.Ran.{Ran}
use Rattle.period_writer.specs.Runs.{Tally}
use Rattle.period_writer.specs.Standing.{Ring}
use Rattle.period_writer.specs.Beside.{IsBesideBlocks, IsStatusWrite}
use Rattle.period_writer.specs.Outcomes.{WasStopped}
use Rattle.laws_hearing.specs.Streams.{Streams}
use Rattle.audio_driver.specs.States.{is_open}
use Rattle.laws_stream.specs.Lives.{Lives}
use Rattle.laws_stream.specs.Sounding.{StreamIs}

-- ---- the stream

-- the stream as the last run left it, or stopped where it was given up
abbrev pub StreamLeft : (given_up : Bool) → Ran → Ring → (pcm : List ℕ) → Tally → World → Type 0
StreamLeft true ended ring pcm tally world = WasStopped ring pcm tally world
StreamLeft false ended ring pcm tally world = StreamIs ended ring pcm tally world

abbrev pub is_left_open : (given_up : Bool) → Ran → Bool
is_left_open given_up ended = not given_up && is_open ended

-- a stream that plays or has played: link frames carried whole blocks of it and what was fetched, from the first one
-- on, it is as it was left, and it was set going where it had not begun
pub record StreamGoes (given_up : Bool) (ring : Ring) (pcm : List ℕ) (tally : Tally) (telling : Telling) : Type 0 where
  pub started : tally.course.started ≡ true
  pub streams : Streams 1 (format_word ring.geometry.format) (block_size (layout ring.geometry.format)) 0
      (world_of telling)
  pub sent : HasSent 0 (world_of telling)
  pub stream : StreamLeft given_up tally.course.ran ring pcm tally (world_of telling)
  pub lives : Lives (is_left_open given_up tally.course.ran) telling

-- ---- events beside it

-- a write beside GCTL and RIRB's base, and of the descriptors of nothing but a status
pub record IsAloneWrite (at : ℕ) (width : Width) : Type 0 where
  pub control : at / 4 ≢ 2
  pub responses : at / 4 ≢ 20
  pub streams : IsBesideStreams at ⊎ IsStatusWrite at width

-- an event leaves the stream alone in every world: it writes neither GCTL, nor RIRB's base, nor a register of a
-- descriptor other than its status, nor the ring's blocks
abbrev pub LeavesAlone : Ring → Event → Type 0
LeavesAlone ring (Write at width value) = IsAloneWrite at width
LeavesAlone ring (DmaWrite address bytes) = IsBesideBlocks ring address (length bytes)
LeavesAlone ring (Stepped step) = Unit {0}
LeavesAlone ring Begin = Unit {0}
LeavesAlone ring End = Unit {0}
LeavesAlone ring (Read at width value) = Unit {0}
LeavesAlone ring (DmaRead at bytes) = Unit {0}

-- ---- commands

-- of the commands that codecs took meanwhile each was taken while the stream ran, or each while it did not
pub record TookWhile (running : Bool) (old new : World) : Type 0 where
  pub more : List TakenCommand
  pub commands : new.commands ≡ old.commands ++ more
  pub each : All (λ (one : TakenCommand). one.running ≡ running) more

-- and after as many link frames as these
pub record TookLast (old new : World) : Type 0 where
  pub carried : new.carried ≡ old.carried
  pub more : List TakenCommand
  pub commands : new.commands ≡ old.commands ++ more
  pub each : All (λ (one : TakenCommand). one.carried ≡ length old.carried) more
