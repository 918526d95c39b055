-- Room that is left.
use Rattle.std.proofs.Common.{◌≡◌, ◌≤◌, ◌+◌, ℕ, Bool, List, vec_len, vec_capacity, arith}
use Rattle.std.specs.Prelude.{Vec}
use Rattle.world_steps.specs.declared.Step.{Step}
use Rattle.world_steps.specs.declared.Step.TheVariants as step
use Rattle.hda_world.specs.Journals.{JournalState, Used}
use Rattle.hda_controller.specs.Hearing.{most_marks}
use Rattle.heard_lists.specs.Listings.{Listing, HasRoom, HasMarkRoom}
use Rattle.rig.specs.Recordings.{HasRoomFor}

pub fewer_items : (more fewer : ℕ) (lists : List Listing) → fewer ≤ more → HasRoom more lists → HasRoom fewer lists
fewer_items more fewer lists less room k d within = omega (arith, room k d within, less)

pub fewer_marks : (more fewer : ℕ) (lists : List Listing) → fewer ≤ more → HasMarkRoom more lists → HasMarkRoom fewer lists
fewer_marks more fewer lists less room k d within = omega (arith, room k d within, less)

-- room for more is room for less
pub less_room : {Z : Type 0} (entries bytes items fewer_entries fewer_bytes fewer : ℕ) (journal : JournalState) (lists : List Listing) (marks : Vec Bool Z) → fewer_entries ≤ entries → fewer_bytes ≤ bytes
    → fewer ≤ items → HasRoomFor entries bytes items journal lists marks → HasRoomFor fewer_entries fewer_bytes fewer journal lists marks
less_room entries bytes items fewer_entries fewer_bytes fewer journal lists marks e b i room = record {
  entries_fit = (let h = room.entries_fit in omega (arith, h, e));
  bytes_fit = (let h = room.bytes_fit in omega (arith, h, b));
  items_fit = fewer_items items fewer lists i room.items_fit;
  switches_fit = fewer_marks entries fewer_entries lists e room.switches_fit;
  marks_fit = (let h = room.marks_fit in omega (arith, h, i));
}

-- what is left when an entry was noted, with so many bytes of a piece
pub room_noted : {Z : Type 0} (entries bytes items asked piece : ℕ) (old new : JournalState) (before lists : List Listing) (front marks : Vec Bool Z) → Used 1 piece old new
    → (HasRoom asked before → HasRoom items lists) → (HasMarkRoom (1 + entries) before → HasMarkRoom entries lists) → (vec_len front + asked ≤ vec_capacity front → vec_len marks + items ≤ vec_capacity marks)
    → HasRoomFor (1 + entries) (piece + bytes) asked old before front → HasRoomFor entries bytes items new lists marks
room_noted entries bytes items asked piece old new before lists front marks used heard switched noted room = record {
  switches_fit = switched room.switches_fit;
  marks_fit = noted room.marks_fit;
  entries_fit = (let h = room.entries_fit in let u = used.entries_left in omega (arith, h, u));
  bytes_fit = (let h = room.bytes_fit in let u = used.bytes_left in omega (arith, h, u));
  items_fit = heard room.items_fit;
}

-- ---- in turn

-- room after what was done, and then after one more
pub turn_room : {Z : Type 0} (done one after_entries items item after_items : ℕ) (first middle last : JournalState) (before between behind : List Listing) (one_marks two_marks three_marks : Vec Bool Z)
    → ((entries bytes more : ℕ) → HasRoomFor (done + entries) bytes (items + more) first before one_marks → HasRoomFor entries bytes more middle between two_marks)
    → ((entries bytes more : ℕ) → HasRoomFor (one + entries) bytes (item + more) middle between two_marks → HasRoomFor entries bytes more last behind three_marks)
    → after_entries ≡ done + one → after_items ≡ items + item
    → (entries bytes more : ℕ) → HasRoomFor (after_entries + entries) bytes (after_items + more) first before one_marks → HasRoomFor entries bytes more last behind three_marks
turn_room done one after_entries items item after_items first middle last before between behind one_marks two_marks three_marks all next e i entries bytes more room =
    next entries bytes more (all (one + entries) bytes (item + more)
    (less_room (after_entries + entries) bytes (after_items + more) (done + (one + entries)) bytes (items + (item + more)) first before one_marks (omega (arith, e)) (omega arith) (omega (arith, i)) room))

-- and what one more asks is there, where all was asked
pub turn_asked : {Z : Type 0} (total done one all_items items item : ℕ) (first middle : JournalState) (before between : List Listing) (one_marks two_marks : Vec Bool Z)
    → ((entries bytes more : ℕ) → HasRoomFor (done + entries) bytes (items + more) first before one_marks → HasRoomFor entries bytes more middle between two_marks)
    → done + one ≤ total → items + item ≤ all_items → HasRoomFor total 0 all_items first before one_marks → HasRoomFor one 0 item middle between two_marks
turn_asked total done one all_items items item first middle before between one_marks two_marks all e i room =
    all one 0 item (less_room total 0 all_items (done + one) 0 (items + item) first before one_marks e (omega arith) i room)

pub start_room : {Z : Type 0} (entries bytes more : ℕ) (journal : JournalState) (lists : List Listing) (marks : Vec Bool Z) → HasRoomFor (0 + entries) bytes (0 + more) journal lists marks → HasRoomFor entries bytes more journal lists marks
start_room entries bytes more journal lists marks room = less_room (0 + entries) bytes (0 + more) entries bytes more journal lists marks (omega arith) (omega arith) (omega arith) room

-- ---- marks of a step

-- no step asks room for more than one
step_marks : (step : Step) → most_marks step ≤ 1
step_marks step.Corb = omega arith
step_marks (step.Answer codec) = omega arith
step_marks (step.Lose codec) = omega arith
step_marks step.Rirb = omega arith
step_marks (step.Fetch stream most) = omega arith
step_marks (step.Link frames) = omega arith
step_marks (step.Plug codec pin) = omega arith
step_marks (step.Unplug codec pin) = omega arith

pub step_switches : (step : Step) (entries : ℕ) (before after : List Listing) → ((more : ℕ) → HasMarkRoom (most_marks step + more) before → HasMarkRoom more after)
    → HasMarkRoom (1 + entries) before → HasMarkRoom entries after
step_switches step entries before after goes room = goes entries (fewer_marks (1 + entries) (most_marks step + entries) before (let few = step_marks step in omega (arith, few)) room)

pub step_asked : (step : Step) (lists : List Listing) → HasMarkRoom 1 lists → HasMarkRoom (most_marks step) lists
step_asked step lists room = fewer_marks 1 (most_marks step) lists (step_marks step) room
