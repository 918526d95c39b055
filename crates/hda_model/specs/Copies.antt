-- What is copied out of a device model. This project's own.
use Rattle.std.specs.Prelude.{ℕ, ◌-◌, ◌==◌, ◌&&◌, Bool, if◌then◌else◌, nat_lt, min, List, [], ◌++◌, length}
use Rattle.std.specs.Prelude.{take, drop, pos, Option, Some, None}
use Rattle.std.specs.List.{find}
use Rattle.std.specs.Option.{option_map}
use Rattle.heard_frames.specs.declared.heard.Heard.{Heard}
use Rattle.heard_frames.specs.declared.heard.Heard.TheVariants.{Sound, Quiet, Hole, Altered}
use Rattle.heard_lists.specs.declared.pin_list.PinHeard.{PinHeard}
use Rattle.hda_model.specs.declared.heard_items.HeardItem.{HeardItem}

-- as many of these items as fit in the place of the first ones; the others stay
abbrev pub copied : {A : Type 0} → List A → List A → List A
copied items old = take (min (length items) (length old)) items ++ drop (min (length items) (length old)) old

-- an item as numbers: 0 nothing, 1 a link frame without its blocks, 2 a signal that is not followed, 3 two samples
abbrev pub item_of : Heard → HeardItem
item_of Quiet = record { kind = 0; left = pos 0; right = pos 0 }
item_of Hole = record { kind = 1; left = pos 0; right = pos 0 }
item_of Altered = record { kind = 2; left = pos 0; right = pos 0 }
item_of (Sound left right) = record { kind = 3; left = left; right = right }

-- a mark as a number: 1 where the block was taken, 0 where it was dropped
abbrev pub mark_of : Bool → ℕ
mark_of taken = if taken then 1 else 0

-- ---- one pin

abbrev pub is_named : ℕ → ℕ → PinHeard → Bool
is_named codec nid pin = (pin.codec == codec) && (pin.pin == nid)

abbrev pub items_in : Option PinHeard → List Heard
items_in None = []
items_in (Some pin) = pin.list

-- what the pin of the codec with this address heard
abbrev pub list_of : ℕ → ℕ → List PinHeard → List Heard
list_of codec nid pins = items_in (find (is_named codec nid) pins)

-- how many items these are, where there is such a pin
abbrev pub count_of : ℕ → ℕ → List PinHeard → Option ℕ
count_of codec nid pins = option_map (λ pin. length pin.list) (find (is_named codec nid) pins)

-- what private functions promise one another: how many of so many items or marks, from a number on, fit into so much room
abbrev pub most_copied : (count from room : ℕ) → ℕ
most_copied count from room = if nat_lt from count then min (count - from) room else 0
