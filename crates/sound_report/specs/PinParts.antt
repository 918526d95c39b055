-- The parts of pins: what each candidate pin heard, in stretches of one kind that are as long as can be. This project's
-- own.
use Rattle.std.specs.Prelude.{ℕ, ◌+◌, ◌-◌, ◌/◌, Bool, true, false, List, [], ◌∷◌, ◌++◌, length, map, codes, decimal}
use Rattle.std.specs.Prelude.{if◌then◌else◌}
use Rattle.std.specs.List.{flat_map, range_with_len}
use Rattle.std.specs.Fork.{slice_chunk}
use Rattle.hex.specs.Hex.{encode_lower}
use Rattle.stream_format.specs.declared.format.Bits.{Bits}
use Rattle.heard_frames.specs.declared.heard.Heard.{Heard}
use Rattle.heard_frames.specs.declared.heard.Heard.TheVariants.{Sound, Quiet, Hole, Altered}
use Rattle.heard_lists.specs.declared.pin_list.PinHeard.{PinHeard}
use Rattle.heard_lists.specs.Stretches.{sound_bytes}
use Rattle.sound_report.specs.PlanLines.{nid_text, newline}

-- ---- stretches

-- two items are of one kind
abbrev pub is_like : Heard → Heard → Bool
is_like (Sound _ _) (Sound _ _) = true
is_like Quiet Quiet = true
is_like Hole Hole = true
is_like Altered Altered = true
is_like _ _ = false

-- an item before stretches: it makes the first of them longer where it is of that one's kind, and else is a stretch of
-- its own
abbrev pub before : Heard → List (List Heard) → List (List Heard)
before item [] = (item ∷ []) ∷ []
before item ([] ∷ more) = (item ∷ []) ∷ more
before item ((next ∷ stretch) ∷ more) = if is_like item next then (item ∷ next ∷ stretch) ∷ more else (item ∷ []) ∷
    (next ∷ stretch) ∷ more

-- the stretches of a list
unfoldable pub stretches : List Heard → List (List Heard)
stretches [] = []
stretches (item ∷ items) = before item (stretches items)

-- ---- sound

-- how many blocks a line has
abbrev pub line_blocks : ℕ
line_blocks = 16

-- some blocks of sound in one line, each byte as two lower hexadecimal digits
abbrev pub sound_line : Bits → List Heard → List ℕ
sound_line bits blocks = codes "sound " ++ encode_lower (flat_map (sound_bytes bits) blocks) ++ newline

-- the first lines of blocks: so many blocks in each, in the last as many as are left
abbrev pub lines_before : List Heard → ℕ → List (List Heard)
lines_before blocks lines = map (slice_chunk blocks line_blocks) (range_with_len 0 lines)

-- the lines of blocks, as many as it takes
abbrev pub lines_of : List Heard → List (List Heard)
lines_of blocks = lines_before blocks ((length blocks + line_blocks - 1) / line_blocks)

-- blocks of sound in lines
abbrev pub sound_lines : Bits → List Heard → List ℕ
sound_lines bits blocks = flat_map (sound_line bits) (lines_of blocks)

-- ---- the text

-- how long a stretch is, after the word for its kind
abbrev pub count_line : List ℕ → ℕ → List ℕ
count_line word items = word ++ codes " " ++ decimal items ++ newline

-- the lines of a stretch, by the kind of its first item
abbrev pub stretch_lines : Bits → List Heard → List ℕ
stretch_lines bits [] = []
stretch_lines bits (Sound left right ∷ items) = sound_lines bits (Sound left right ∷ items)
stretch_lines bits (Quiet ∷ items) = count_line (codes "quiet") (length (Quiet ∷ items))
stretch_lines bits (Hole ∷ items) = count_line (codes "hole") (length (Hole ∷ items))
stretch_lines bits (Altered ∷ items) = count_line (codes "altered") (length (Altered ∷ items))

-- the lines of what was heard
abbrev pub heard_lines : Bits → List Heard → List ℕ
heard_lines bits items = flat_map (stretch_lines bits) (stretches items)

-- the first line of a pin: its codec and its node identifier
abbrev pub pin_line : ℕ → ℕ → List ℕ
pin_line codec pin = codes "pin " ++ decimal codec ++ codes " " ++ nid_text pin ++ newline

-- the part of a pin: its first line, then what it heard
abbrev pub pin_part : Bits → PinHeard → List ℕ
pin_part bits pin = pin_line pin.codec pin.pin ++ heard_lines bits pin.list
