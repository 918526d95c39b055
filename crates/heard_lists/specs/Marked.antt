-- How marks are kept: those of all pins in one list, with the number of items that are no holes. What private functions
-- promise one another; this project's own.
use Rattle.std.specs.Prelude.{◌≡◌, ◌==◌, ◌&&◌, ◌-◌, ℕ, Bool, List, [], ◌∷◌, ◌++◌, length, map, filter, All}
use Rattle.heard_frames.specs.declared.mark.Mark.{Mark}
use Rattle.heard_frames.specs.Marks.{without_holes}
use Rattle.heard_lists.specs.declared.pin_marks.PinMark.{PinMark}
use Rattle.heard_lists.specs.Listings.{Listing}

-- the marks of all pins, and for how many more there is room
pub record MarkState : Type 0 where
  pub marks : List PinMark
  pub room : ℕ

abbrev pub with_pin_mark : PinMark → MarkState → MarkState
with_pin_mark mark state = record { marks = state.marks ++ mark ∷ []; room = state.room - 1 }

abbrev pub is_marked : (codec pin : ℕ) → PinMark → Bool
is_marked codec pin one = codec == one.codec && pin == one.pin

-- the marks of one pin
abbrev pub marks_among : List PinMark → (codec pin : ℕ) → List Mark
marks_among marks codec pin = map (λ one. one.mark) (filter (is_marked codec pin) marks)

-- the list with its marks among those of all pins, and room for so many more
abbrev pub noted : List PinMark → (room : ℕ) → Listing → Listing
noted marks room listing = record listing { marks = marks_among marks listing.codec listing.pin; mark_room = room }

-- each list has so many items that are no holes
abbrev pub HaveBlocks : ℕ → List Listing → Type 0
HaveBlocks blocks lists = All (λ listing. length (without_holes listing.list) ≡ blocks) lists
