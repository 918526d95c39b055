-- What it means that a pin's list is a line of bytes that was played. This project's own, over the blocks and samples
-- of High Definition Audio 1.0a, 4.5.1.
use Rattle.std.specs.Prelude.{◌≡◌, ◌≤◌, ◌<◌, ℕ, ◌+◌, ◌*◌, Bool, true, false, List, ◌++◌, length, map, replicate}
use Rattle.std.specs.Prelude.{get_or}
use Rattle.std.specs.List.{range_with_len}
use Rattle.stream_format.specs.Layouts.{Layout}
use Rattle.codec_sound.specs.declared.signals.Signal.TheVariants.{Pair}
use Rattle.heard_frames.specs.declared.heard.Heard.{Heard}
use Rattle.heard_frames.specs.declared.heard.Heard.TheVariants.{Sound, Quiet, Hole, Altered}
use Rattle.heard_frames.specs.HeardLists.{block_at, block_size, item_of}
use Rattle.period_writer.specs.declared.course.Ran.{Ran}
use Rattle.period_writer.specs.declared.course.Ran.TheVariants as ran
pub use Rattle.heard_frames.specs.Marks.{is_hole, without_holes}

-- the two samples of a pair in the block of some bytes at this place, counted from 0
abbrev pub sound_at : Layout → (pair : ℕ) → (bytes : List ℕ) → (place : ℕ) → Heard
sound_at layout pair bytes place = item_of layout (Pair pair) (block_at (block_size layout) bytes place)

-- those of the first so many blocks
abbrev pub sounds : Layout → (pair : ℕ) → (bytes : List ℕ) → (count : ℕ) → List Heard
sounds layout pair bytes count = map (sound_at layout pair bytes) (range_with_len 0 count)

-- but for its holes the list is the pair's samples of some whole blocks of these bytes, from the first one on, each
-- once and in order
pub record PlaysFront (layout : Layout) (pair : ℕ) (bytes : List ℕ) (list : List Heard) : Type 0 where
  pub count : ℕ
  pub within : count * block_size layout ≤ length bytes
  pub are : without_holes list ≡ sounds layout pair bytes count

-- what a pin heard of a line, by how the last run ended: a front of the line; once it has drained, a front of the line
-- and zeros after it; after a late run, but for the holes, the line's blocks below its reach
abbrev pub Plays : Ran → Layout → (pair : ℕ) → (line : List ℕ) → (reach : ℕ) → List Heard → Type 0
Plays ran.Playing layout pair line reach list = PlaysFront layout pair line list
Plays ran.Drained layout pair line reach list =
    (zeros : ℕ) × PlaysFront layout pair (line ++ replicate zeros 0) list
Plays (ran.Late from to limit) layout pair line reach list =
    (place : ℕ) → place < length (without_holes list) → (place + 1) * block_size layout ≤ reach
    → get_or (without_holes list) place Hole ≡ sound_at layout pair line place

-- nothing was heard
abbrev pub is_silent : Heard → Bool
is_silent Quiet = true
is_silent Hole = true
is_silent Altered = false
is_silent (Sound left right) = false

abbrev pub IsSilent : Heard → Type 0
IsSilent item = is_silent item ≡ true

-- an item is a block as it was sent, or a hole
abbrev pub was_sent : Heard → Bool
was_sent (Sound left right) = true
was_sent Quiet = false
was_sent Hole = true
was_sent Altered = false

abbrev pub WasSent : Heard → Type 0
WasSent item = was_sent item ≡ true
