-- What a device keeps of what comes in: the stream of descriptor 0, the sound that input pins are given, how many
-- blocks came, and what is heard of them. This project's own.
use Rattle.std.specs.Prelude.{◌≡◌, ◌^◌, ◌-◌, ℕ, min, List, [], ◌∷◌, length}
use Rattle.codec_graph.specs.CodecStates.{CodecState}
use Rattle.codec_sound.specs.declared.in_heard.InHeard.{InHeard}
use Rattle.hda_registers.specs.Fields.{Fields}
use Rattle.stream_format.specs.Layouts.{layout_of}
use Rattle.world_streams.specs.Streams.{StreamState}
use Rattle.stream_descriptor.specs.Running.{Playing}
use Rattle.hda_world.specs.Worlds.{World}
use Rattle.hda_world.specs.Arriving.{listened, due_blocks}
use Rattle.device_core.specs.declared.listening.Takers.{Takers}
use Rattle.device_core.specs.declared.listening.Takers.TheVariants.{Nobody, One, Several}
use Rattle.device_core.specs.declared.capture.Source.{Source}
use Rattle.device_core.specs.declared.capture.Source.TheVariants.{Stale, Fresh}

-- ---- the converter

-- one more converter takes the stream, which hears this
abbrev pub with_taker : Takers → InHeard → Takers
with_taker Nobody heard = One heard
with_taker (One first) heard = Several
with_taker Several heard = Several

-- how many take it of which each hears one of these
abbrev pub takers_of : List InHeard → Takers
takers_of [] = Nobody
takers_of (heard ∷ []) = One heard
takers_of (heard ∷ second ∷ rest) = Several

-- ---- what is kept

pub record CaptureState : Type 0 where
  pub playing : Playing
  -- the sound that input pins are given, as bytes
  pub given : List ℕ
  -- the blocks that came since RUN rose, counted up to `most_came`
  pub came : ℕ
  -- what is heard of the stream, as it was last worked out
  pub source : Source

-- past a sound's end each block is silence, and no sound has as many blocks
abbrev pub most_came : ℕ
most_came = 2 ^ 64 - 1

-- what was worked out is what it would be now
abbrev pub IsSourceOf : Source → List CodecState → Type 0
IsSourceOf Stale codecs = Unit {0}
IsSourceOf (Fresh last) codecs = last.heard ≡ listened last.tag last.word codecs

-- the sound is the world's, and as many blocks came
pub record HasCapture (capture : CaptureState) (world : World) : Type 0 where
  pub given_is : world.given ≡ capture.given
  pub came_is : capture.came ≡ min (length world.came) most_came

-- the blocks that come in the next link frame over these registers to a stream in this state, after so many came
abbrev pub arriving_at : Fields → List CodecState → (given : List ℕ) → (came : ℕ) → StreamState → List (List ℕ)
arriving_at fields codecs given came state =
    due_blocks (listened fields.input.tag fields.input.format codecs) (layout_of fields.input.format) given came
    state.frame
