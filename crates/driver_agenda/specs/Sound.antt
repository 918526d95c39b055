-- What holds of every agenda. This project's own.
use Rattle.std.specs.Prelude.{◌≡◌, ◌<◌, ℕ, List, length, slice_index, Some, IsSome}
use Rattle.codec_graph.specs.declared.raw.RawCodec.{RawCodec}
use Rattle.codec_walk.specs.declared.walk.Walk.{Walk}
use Rattle.codec_walk.specs.Dialogues.{Dialogue, question, after, told}
use Rattle.codec_walk.specs.Remaining.{remaining}

-- whatever is answered, what a dialogue tells is a codec with this address
abbrev pub TellsOf : ℕ → Dialogue → Type 0
TellsOf address dialogue = (answers : List ℕ) (codec : RawCodec) → told (after dialogue answers) ≡ Some codec
    → codec.address ≡ address

-- a walk is over the codec of this place, and not at its end
pub record WalkGoesOn (addresses : List ℕ) (place : ℕ) (walk : Walk) : Type 0 where
  pub there : place < length addresses
  pub asks : IsSome (question (remaining walk))
  pub tells : TellsOf (slice_index addresses place) (remaining walk)
