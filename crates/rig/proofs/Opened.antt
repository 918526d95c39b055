-- What an open run keeps over its accesses.
use Rattle.std.proofs.Common.{◌≡◌, ◌≤◌, ◌+◌, ◌-◌, ℕ, Bool, true, false, List, [], ◌∷◌, ◌++◌, length, map, drop, refl, sym, ap, subst, ◌∙◌, arith, flat_map}
use Rattle.std.specs.Prelude.{Vec}
use Rattle.std.proofs.lemmas.List.{map-append}
use Rattle.world_steps.specs.declared.Step.{Step}
use Rattle.schedule_reader.specs.declared.schedule.Group.{Group}
use Rattle.hda_world.specs.Journals.{JournalState}
use Rattle.hda_world.specs.Events.{Event, Stepped, End}
use Rattle.hda_world.specs.Tellings.{Telling, Went, Accessed}
use Rattle.hda_world.proofs.Callers.{went_both}
use Rattle.heard_lists.specs.Listings.{Listing}
use Rattle.rig.specs.Recordings.{HasRoomFor, items_for}
use Rattle.rig.specs.Rooms.{steps_before, step_count, item_count}
use Rattle.rig.specs.Stretches.{is_access, accesses_of, all_steps_in, IsOpenFrom, IsStretchFrom}
use Rattle.rig.proofs.Weaving.{accessed_open, accessed_count, ended, steps_left, items_left}
use Rattle.rig.proofs.Rooming.{less_room}

-- where an access has room, a run is open
pub is_open : (on : Bool) (spare : ℕ) → (on ≡ false → spare ≡ 0) → 1 ≤ spare → on ≡ true
is_open true spare closed some = refl
is_open false spare closed some = (let none : spare ≡ 0 = closed refl in absurd (omega (arith, none, some)))

pub stays_closed : (on : Bool) (spare : ℕ) → (on ≡ false → spare ≡ 0) → on ≡ false → spare - 1 ≡ 0
stays_closed on spare closed off = (let none : spare ≡ 0 = closed off in omega (arith, none))

-- ---- what is laid

pub laid_on : (begun made : ℕ) (groups : List Group) (old new : List Event) (on : Bool) (access : Event) → (on ≡ true → IsOpenFrom begun groups old)
    → (on ≡ true → made ≡ length (accesses_of (drop begun old))) → new ≡ old ++ (map Stepped (steps_before made groups) ++ access ∷ []) → is_access access ≡ true
    → on ≡ true → IsOpenFrom begun groups new
laid_on begun made groups old new on access laid numbered is right running = accessed_open begun groups old new made access (laid running) (numbered running) is right

pub numbered_on : (begun made : ℕ) (groups : List Group) (old new : List Event) (on : Bool) (access : Event) → (on ≡ true → IsOpenFrom begun groups old)
    → (on ≡ true → made ≡ length (accesses_of (drop begun old))) → new ≡ old ++ (map Stepped (steps_before made groups) ++ access ∷ []) → is_access access ≡ true
    → on ≡ true → made + 1 ≡ length (accesses_of (drop begun new))
numbered_on begun made groups old new on access laid numbered is right running =
    accessed_count begun groups old new made access (laid running).begins (numbered running) is right

pub laid_end : (begun made : ℕ) (groups : List Group) (old new : List Event) (on : Bool) → (on ≡ true → IsOpenFrom begun groups old)
    → (on ≡ true → made ≡ length (accesses_of (drop begun old))) → new ≡ old ++ (all_steps_in (drop made groups) ++ End ∷ []) → on ≡ true
    → IsStretchFrom begun groups new
laid_end begun made groups old new on laid numbered is running = ended begun groups old new made (laid running) (numbered running) is

-- ---- what is told

pub accessed_by : (old middle new : Telling) (steps : List Step) (event : Event) → Went old middle (map Stepped steps) → Went middle new (event ∷ []) → Accessed old new event
accessed_by old middle new steps event before after = record { steps = steps; went = went_both old middle new (map Stepped steps) (event ∷ []) before after }

all_steps : (groups : List Group) → all_steps_in groups ≡ map Stepped (flat_map (λ (group : Group). group.steps) groups)
all_steps [] = refl
all_steps (group ∷ groups) =
    ap (λ (rest : List Event). map Stepped group.steps ++ rest) (all_steps groups) ∙ sym (map-append Stepped group.steps (flat_map (λ (group : Group). group.steps) groups))

pub ended_by : (old middle new : Telling) (groups : List Group) (event : Event) → Went old middle (all_steps_in groups) → Went middle new (event ∷ []) → Accessed old new event
ended_by old middle new groups event before after =
    accessed_by old middle new (flat_map (λ (group : Group). group.steps) groups) event (subst (Went old middle) (all_steps groups) before) after

-- ---- room

module _ {Z : Type 0} (made spare bytes : ℕ) (groups : List Group) (journal : JournalState) (lists : List Listing) (marks : Vec Bool Z) where
  -- for the accesses, the bytes, the steps and the last mark that are left
  abbrev pub Left : Type 0
  Left = HasRoomFor (spare + 1 + step_count (drop made groups)) bytes (item_count (drop made groups)) journal lists marks

  -- for the steps before the next access
  pub steps_room : Left → HasRoomFor (length (steps_before made groups)) 0 (items_for (steps_before made groups)) journal lists marks
  steps_room left =
      let e = steps_left made groups in
      let i = items_left made groups in
      less_room _ _ _ (length (steps_before made groups)) 0 (items_for (steps_before made groups)) journal lists marks (omega (arith, e)) (omega arith) (omega (arith, i)) left

  -- and then for the access and all that comes after it, of whose bytes it takes so many
  pub access_room : 1 ≤ spare → (taken : ℕ) → taken ≤ bytes → Left
      → HasRoomFor (length (steps_before made groups) + (1 + (spare - 1 + 1 + step_count (drop (made + 1) groups)))) (taken + (bytes - taken))
      (items_for (steps_before made groups) + item_count (drop (made + 1) groups)) journal lists marks
  access_room some taken fits left =
      let e = steps_left made groups in
      let i = items_left made groups in
      less_room _ _ _ (length (steps_before made groups) + (1 + (spare - 1 + 1 + step_count (drop (made + 1) groups)))) (taken + (bytes - taken))
      (items_for (steps_before made groups) + item_count (drop (made + 1) groups)) journal lists marks (omega (arith, e, some)) (omega (arith, fits)) (omega (arith, i)) left

pub one_entry : {Z : Type 0} (entries taken bytes items : ℕ) (journal : JournalState) (lists : List Listing) (marks : Vec Bool Z) → HasRoomFor (1 + entries) (taken + bytes) items journal lists marks → HasRoomFor 1 taken 0 journal lists marks
one_entry entries taken bytes items journal lists marks room = less_room (1 + entries) (taken + bytes) items 1 taken 0 journal lists marks (omega arith) (omega arith) (omega arith) room

-- after the steps before an access there is room for it and for all that comes after it
pub passed_room : {Z : Type 0} (made spare bytes taken : ℕ) (groups slice : List Group) (old new : JournalState) (before behind : List Listing) (front back : Vec Bool Z) → slice ≡ groups → 1 ≤ spare → taken ≤ bytes
    → HasRoomFor (spare + 1 + step_count (drop made groups)) bytes (item_count (drop made groups)) old before front
    → ((entries bytes items : ℕ) → HasRoomFor (length (steps_before made slice) + entries) bytes (items_for (steps_before made slice) + items) old before front
    → HasRoomFor entries bytes items new behind back)
    → HasRoomFor (1 + (spare - 1 + 1 + step_count (drop (made + 1) groups))) (taken + (bytes - taken)) (item_count (drop (made + 1) groups)) new behind back
passed_room made spare bytes taken groups slice old new before behind front back same some fits left passes =
    passes _ _ _ (subst (λ (all : List Group). HasRoomFor (length (steps_before made all) + (1 + (spare - 1 + 1 + step_count (drop (made + 1) groups)))) (taken + (bytes - taken))
    (items_for (steps_before made all) + item_count (drop (made + 1) groups)) old before front) (sym same) (access_room made spare bytes groups old before front some taken fits left))

pub passed_told : (made : ℕ) (groups slice : List Group) (old new : Telling) → slice ≡ groups → Went old new (map Stepped (steps_before made slice))
    → Went old new (map Stepped (steps_before made groups))
passed_told made groups slice old new same went = subst (λ (all : List Group). Went old new (map Stepped (steps_before made all))) same went

pub fewer_bytes : {Z : Type 0} (entries bytes fewer items : ℕ) (journal : JournalState) (lists : List Listing) (marks : Vec Bool Z) → fewer ≤ bytes → HasRoomFor entries bytes items journal lists marks
    → HasRoomFor entries fewer items journal lists marks
fewer_bytes entries bytes fewer items journal lists marks less room = less_room entries bytes items entries fewer items journal lists marks (omega arith) less (omega arith) room
