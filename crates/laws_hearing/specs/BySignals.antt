-- What it means that a pin's list is a line of bytes that was played where the pin's signal changes on the way: for
-- each item that is no hole there is the signal by which it was heard. This project's own, over the blocks and samples
-- of High Definition Audio 1.0a, 4.5.1.
use Rattle.std.specs.Prelude.{◌≡◌, ◌≤◌, ◌<◌, ℕ, ◌+◌, ◌*◌, Bool, true, false, List, ◌++◌, length, map, replicate}
use Rattle.std.specs.Prelude.{get_or, slice_get, Some}
use Rattle.std.specs.List.{range_with_len}
use Rattle.codec_graph.specs.declared.pin_kind.PinKind.{PinKind}
use Rattle.stream_format.specs.Layouts.{Layout}
use Rattle.hda_world.specs.Worlds.{CarriedFrame}
use Rattle.codec_sound.specs.declared.signals.Signal.{Signal}
use Rattle.codec_sound.specs.declared.signals.Signal.TheVariants as signal
use Rattle.heard_frames.specs.declared.heard.Heard.{Heard}
use Rattle.heard_frames.specs.declared.heard.Heard.TheVariants.{Sound, Quiet, Hole, Altered}
use Rattle.heard_frames.specs.declared.mark.Mark.{Mark}
use Rattle.heard_frames.specs.HeardLists.{block_at, block_size, item_of, signal_in_as}
use Rattle.heard_frames.specs.Marks.{without_holes, heard_before, switched_signals}
use Rattle.period_writer.specs.declared.course.Ran.{Ran}
use Rattle.period_writer.specs.declared.course.Ran.TheVariants as ran

-- ---- a line

-- what is heard of the block of some bytes at this place, counted from 0, by the signal of that place
abbrev pub heard_by : Layout → (signals : ℕ → Signal) → (bytes : List ℕ) → (place : ℕ) → Heard
heard_by layout signals bytes place = item_of layout (signals place) (block_at (block_size layout) bytes place)

-- of the first so many blocks
abbrev pub items_by : Layout → (signals : ℕ → Signal) → (bytes : List ℕ) → (count : ℕ) → List Heard
items_by layout signals bytes count = map (heard_by layout signals bytes) (range_with_len 0 count)

-- but for its holes the list is what is heard of some whole blocks of these bytes, from the first one on, each once and
-- in order
pub record PlaysFrontBy (layout : Layout) (signals : ℕ → Signal) (bytes : List ℕ) (list : List Heard) : Type 0 where
  pub count : ℕ
  pub within : count * block_size layout ≤ length bytes
  pub are : without_holes list ≡ items_by layout signals bytes count

-- but for its holes it is what is heard of the line's blocks below the reach
abbrev pub PlaysBelow : Layout → (signals : ℕ → Signal) → (line : List ℕ) → (reach : ℕ) → List Heard → Type 0
PlaysBelow layout signals line reach list =
    (place : ℕ) → place < length (without_holes list) → (place + 1) * block_size layout ≤ reach
    → get_or (without_holes list) place Hole ≡ heard_by layout signals line place

-- what a pin heard of a line, by whether it was given up and else by how the last run ended: where it was given up the
-- line's blocks below its reach; a front of the line; once it has drained, a front of the line and zeros after it;
-- after a late run the line's blocks below its reach
abbrev pub PlaysBy : (given_up : Bool) → Ran → Layout → (signals : ℕ → Signal) → (line : List ℕ) → (reach : ℕ)
    → List Heard → Type 0
PlaysBy true ended layout signals line reach list = PlaysBelow layout signals line reach list
PlaysBy false ran.Playing layout signals line reach list = PlaysFrontBy layout signals line list
PlaysBy false ran.Drained layout signals line reach list =
    (zeros : ℕ) × PlaysFrontBy layout signals (line ++ replicate zeros 0) list
PlaysBy false (ran.Late from to limit) layout signals line reach list = PlaysBelow layout signals line reach list

-- so for a pin that is switched off and on at marks
abbrev pub PlaysSwitched : (given_up : Bool) → Ran → Layout → Signal → List Mark → (line : List ℕ) → (reach : ℕ)
    → List Heard → Type 0
PlaysSwitched given_up ended layout signal marks = PlaysBy given_up ended layout (switched_signals signal marks)

-- ---- items

-- an item is what a signal makes of some block
abbrev pub is_made_by : Signal → Heard → Bool
is_made_by signal.Silence Quiet = true
is_made_by signal.Silence (Sound left right) = false
is_made_by signal.Silence Hole = false
is_made_by signal.Silence Altered = false
is_made_by (signal.Pair pair) Quiet = false
is_made_by (signal.Pair pair) (Sound left right) = true
is_made_by (signal.Pair pair) Hole = false
is_made_by (signal.Pair pair) Altered = false
is_made_by signal.Altered Quiet = false
is_made_by signal.Altered (Sound left right) = false
is_made_by signal.Altered Hole = false
is_made_by signal.Altered Altered = true

-- each item that is no hole is what the signal of its place makes
abbrev pub AreBySignals : (signals : ℕ → Signal) → List Heard → Type 0
AreBySignals signals list = (place : ℕ) → place < length (without_holes list)
    → is_made_by (signals place) (get_or (without_holes list) place Hole) ≡ true

-- ---- link frames

-- in each of some link frames the signal of a pin is that of the items that the frame adds to its list
abbrev pub IsSignalAlong : PinKind → (address pin : ℕ) → (signals : ℕ → Signal) → List CarriedFrame → Type 0
IsSignalAlong kind address pin signals frames = (count : ℕ) (frame : CarriedFrame)
    → slice_get frames count ≡ Some frame → (place : ℕ) → heard_before kind address pin frames count ≤ place
    → place < heard_before kind address pin frames (count + 1)
    → signal_in_as kind address pin frame ≡ signals place
