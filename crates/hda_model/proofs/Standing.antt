-- For which world a model stands, move by move.
use Rattle.codec_graph.specs.declared.pin_kind.PinKind.{PinKind}
use Rattle.codec_graph.specs.declared.pin_kind.PinKind.TheVariants.{Analog}
use Rattle.std.proofs.Common.{◌≡◌, ◌≤◌, ◌<◌, ◌+◌, ℕ, Bool, List, [], ◌++◌, length, map, drop, get_or, refl, sym, ap, subst, ◌∙◌, arith, length-append}
use Rattle.std.specs.Prelude.{All, OnErr, Result, Ok, Err}
use Rattle.std.proofs.lemmas.List.{length-map, get_or-map, drop-append-le}
use Rattle.std.proofs.Math.Seq.{drop-length}
use Rattle.std.proofs.lemmas.List.Elements.{All-map}
use Rattle.std.proofs.lemmas.Simd.{map-map}
use Rattle.world_steps.specs.declared.Step.{Step}
use Rattle.hda_registers.specs.declared.shapes.Width.{Width}
use Rattle.hda_files.specs.declared.machine.Machine.{Machine}
use Rattle.heard_frames.specs.declared.heard.Heard.{Heard}
use Rattle.heard_frames.specs.HeardLists.{heard}
use Rattle.heard_frames.proofs.Callers.{heard-append}
use Rattle.hda_world.specs.Worlds.{World, TakenCommand, CarriedFrame, given_sound}
use Rattle.hda_world.specs.Events.{after_write}
use Rattle.hda_world.specs.Steps.{after_step}
use Rattle.hda_world.proofs.Callers.{access_leaves}
use Rattle.heard_lists.specs.declared.pin_list.PinHeard.{PinHeard}
use Rattle.heard_lists.specs.Listings.{Listing, AreListsOf, AreEmpty, grown, marked, graphs_in, handed_out, with_items, with_marks, forgotten, pins_of}
use Rattle.hda_controller.specs.Controllers.{ControllerState, StandsFor}
use Rattle.hda_controller.specs.Hearing.{Grew, GrewAs, CameAs}
use Rattle.hda_controller.specs.Openings.{opening_world}
use Rattle.hda_model.specs.Models.{ModelState, StandsSince, AreHeardSince, SomeWorld, IsOpened, IsGiven, IsWritten, IsStepped, IsForgotten, with_memory, names_of, emptied}
use Rattle.hda_model.specs.Keeping.{seen}

-- ---- memory

pub other_memory : (old new : List ℕ) (model : ModelState) (before : ℕ) (world : World) → StandsSince old model before world → StandsSince new model before (with_memory new world)
other_memory old new model before world is = record {
  stands = record {
    memory_is = refl;
    registers_are = is.stands.registers_are;
    codecs_are = is.stands.codecs_are;
    waiting_is = is.stands.waiting_is;
    frames_are = is.stands.frames_are;
    captured = record { given_is = is.stands.captured.given_is; came_is = is.stands.captured.came_is };
    input_stands = is.stands.input_stands;
    output_stands = is.stands.output_stands;
  };
  within = is.within;
  heard = is.heard;
  came = is.came;
}

pub some_other : (old new : List ℕ) (model : ModelState) → SomeWorld old model → SomeWorld new model
some_other old new model some = (some.0, with_memory new some.1, other_memory old new model some.0 some.1 some.2)

-- ---- a write

-- with as much carried, the same heard, and these blocks that came
pub carried_on : (memory : List ℕ) (before after : ModelState) (from : ℕ) (world new : World) → new.carried ≡ world.carried → after.pins ≡ before.pins
    → new.came ≡ after.came → StandsFor memory after.controller new → StandsSince memory before from world → StandsSince memory after from new
carried_on memory before after from world new carried pins came stands is = record {
  stands = stands;
  came = came;
  within = subst (λ (frames : List CarriedFrame). from ≤ length frames) (sym carried) is.within;
  heard =
      subst (λ (heard_pins : List PinHeard). AreHeardSince from new heard_pins) (sym pins)
      (subst (λ (frames : List CarriedFrame). All (λ pin. pin.list ≡ heard pin.codec pin.pin (drop from frames)) before.pins) (sym carried) is.heard);
}

pub write_carries : (at : ℕ) (width : Width) (value : ℕ) (world : World) → (after_write at width value world).carried ≡ world.carried
write_carries at width value world = (access_leaves world at value width).carried

-- the marks that stay after a write are those of the world
abbrev pub KeepsMarks : ControllerState → List Bool → List Bool → Type 0
KeepsMarks controller marks left =
    (memory : List ℕ) (before : World) (at : ℕ) (width : Width) (value : ℕ) → StandsFor memory controller (after_write at width value before) → before.came ≡ marks
    → (after_write at width value before).came ≡ left

pub written : (at : ℕ) (width : Width) (value : ℕ) (old new : ControllerState) (lists : List Listing) (marks left : List Bool)
    → ((memory : List ℕ) (world : World) → StandsFor memory old world → StandsFor memory new (after_write at width value world))
    → KeepsMarks new marks left → IsWritten at width value (seen old lists marks) (seen new lists left)
written at width value old new lists marks left stands keeps = record {
  stands = λ memory from world is.
      carried_on memory (seen old lists marks) (seen new lists left) from world (after_write at width value world) (write_carries at width value world) refl
      (keeps memory world at width value (stands memory world is.stands) is.came) (stands memory world is.stands) is;
  pins = refl;
}

pub some_written : (at : ℕ) (width : Width) (value : ℕ) (before after : ModelState) → IsWritten at width value before after
    → ((memory : List ℕ) → SomeWorld memory before) → (memory : List ℕ) → SomeWorld memory after
some_written at width value before after is some memory =
    let here = some memory in (here.0, after_write at width value here.1, is.stands memory here.0 here.1 here.2)

-- ---- a sound that is given

pub given_to : (sound : List ℕ) (old new : ControllerState) (lists : List Listing) (marks : List Bool)
    → ((memory : List ℕ) (world : World) → StandsFor memory old world → StandsFor memory new (given_sound sound world)) → new.device.input.given ≡ sound
    → IsGiven sound (seen old lists marks) (seen new lists marks)
given_to sound old new lists marks stands given = record {
  stands = λ memory from world is.
      carried_on memory (seen old lists marks) (seen new lists marks) from world (given_sound sound world) refl refl is.came (stands memory world is.stands) is;
  given = given;
  pins = refl;
  came = refl;
}

pub some_given : (sound : List ℕ) (before after : ModelState) → IsGiven sound before after → ((memory : List ℕ) → SomeWorld memory before)
    → (memory : List ℕ) → SomeWorld memory after
some_given sound before after is some memory =
    let here = some memory in (here.0, given_sound sound here.1, is.stands memory here.0 here.1 here.2)

-- ---- a step

-- a fact about each list as it is handed out, at one of them
handed_at : (P : PinHeard → Type 0) (lists : List Listing) → All P (map handed_out lists) → (k : ℕ) (d : Listing) → k < length lists → P (handed_out (get_or lists k d))
handed_at P lists all k d within =
    subst P (get_or-map handed_out lists k d (handed_out d) within)
    (all k (handed_out d) (subst (λ (n : ℕ). k < n) (sym (length-map lists handed_out)) within))

heard_more : (codec nid from : ℕ) (carried added : List CarriedFrame) (list : List Heard) → from ≤ length carried → list ≡ heard codec nid (drop from carried)
    → list ++ heard codec nid added ≡ heard codec nid (drop from (carried ++ added))
heard_more codec nid from carried added list within is =
    ap (λ (items : List Heard). items ++ heard codec nid added) is
    ∙ (sym (heard-append Analog codec nid (drop from carried) added) ∙ ap (heard codec nid) (sym (drop-append-le from carried added within)))

abbrev with_frames : List CarriedFrame → Listing → PinHeard
with_frames added listing = handed_out (with_items (heard listing.codec listing.pin added) listing)

handed_grown : (added : List CarriedFrame) (taken : List TakenCommand) (lists : List Listing) → map handed_out (grown added (marked taken lists)) ≡ map (with_frames added) lists
handed_grown added taken lists =
    map-map handed_out (λ (listing : Listing). with_items (heard listing.codec listing.pin added) listing) (marked taken lists)
    ∙ map-map (with_frames added) (with_marks taken) lists

heard_since : (from : ℕ) (world after : World) (lists new : List Listing) → from ≤ length world.carried → AreHeardSince from world (map handed_out lists)
    → Grew world after lists new → AreHeardSince from after (map handed_out new)
heard_since from world after lists new within are grew =
    subst (λ (pins : List PinHeard). AreHeardSince from after pins) (sym (ap (map handed_out) grew.lists ∙ handed_grown grew.added grew.taken lists))
    (subst (λ (frames : List CarriedFrame). All (λ pin. pin.list ≡ heard pin.codec pin.pin (drop from frames)) (map (with_frames grew.added) lists)) (sym grew.carried)
    (All-map (λ (pin : PinHeard). pin.list ≡ heard pin.codec pin.pin (drop from (world.carried ++ grew.added))) (with_frames grew.added) lists
    (λ k d inside. heard_more (get_or lists k d).codec (get_or lists k d).pin from world.carried grew.added (get_or lists k d).list within
    (handed_at (λ (pin : PinHeard). pin.list ≡ heard pin.codec pin.pin (drop from world.carried)) lists are k d inside))))

-- the marks are those that were there and one for each block that came
marks_since : (world next : World) (marks kept noted : List Bool) → kept ≡ marks → world.came ≡ marks → CameAs world next kept noted → next.came ≡ noted
marks_since world next marks kept noted same is comes =
    comes.came ∙ (ap (λ (front : List Bool). front ++ comes.added) (is ∙ sym same) ∙ sym comes.marks)

pub stepped_since : (old new : List ℕ) (controller : ControllerState) (before reserved after : List Listing) (marks kept noted : List Bool) (model : ControllerState) (from : ℕ)
    (world next : World) → map handed_out reserved ≡ map handed_out before → kept ≡ marks → StandsFor new model next → Grew world next reserved after → CameAs world next kept noted
    → StandsSince old (seen controller before marks) from world → StandsSince new (seen model after noted) from next
stepped_since old new controller before reserved after marks kept noted model from world next same stay stands grew comes is = record {
  stands = stands;
  came = marks_since world next marks kept noted stay is.came comes;
  within = (
      let more : length next.carried ≡ length world.carried + length grew.added = ap length grew.carried ∙ length-append world.carried grew.added in
      omega (arith, is.within, more));
  heard = heard_since from world next reserved after is.within (subst (λ (pins : List PinHeard). AreHeardSince from world pins) (sym same) is.heard) grew;
}

-- ---- names

pub names_handed : (lists : List Listing) → names_of (map handed_out lists) ≡ pins_of lists
names_handed lists = map-map (λ (pin : PinHeard). (pin.codec, pin.pin)) handed_out lists

names_grown : (added : List CarriedFrame) (taken : List TakenCommand) (lists : List Listing) → pins_of (grown added (marked taken lists)) ≡ pins_of lists
names_grown added taken lists =
    map-map (λ (listing : Listing). (listing.codec, listing.pin)) (λ (listing : Listing). with_items (heard listing.codec listing.pin added) listing) (marked taken lists)
    ∙ map-map (λ (listing : Listing). (listing.codec, listing.pin)) (with_marks taken) lists

pub names_since : (world next : World) (before reserved after : List Listing) → map handed_out reserved ≡ map handed_out before → Grew world next reserved after
    → names_of (map handed_out after) ≡ names_of (map handed_out before)
names_since world next before reserved after same grew =
    names_handed after ∙ (ap pins_of grew.lists ∙ (names_grown grew.added grew.taken reserved ∙ (sym (names_handed reserved) ∙ ap names_of same)))

pub stepped : (step : Step) (old new : List ℕ) (controller next : ControllerState) (before reserved after : List Listing) (marks kept noted : List Bool)
    → map handed_out reserved ≡ map handed_out before → kept ≡ marks → ((world : World) → StandsFor old controller world → StandsFor new next (after_step step world))
    → ((world : World) → StandsFor old controller world → GrewAs controller.kind world (after_step step world) reserved after)
    → ((world : World) → StandsFor old controller world → CameAs world (after_step step world) kept noted) → controller.kind ≡ Analog
    → SomeWorld old (seen controller before marks) → IsStepped step old new (seen controller before marks) (seen next after noted)
stepped step old new controller next before reserved after marks kept noted same stay stands grew comes kind some =
    let heard : (world : World) → StandsFor old controller world → Grew world (after_step step world) reserved after =
    λ world is. subst (λ (pins : PinKind). GrewAs pins world (after_step step world) reserved after) kind (grew world is) in
    record {
      stands = λ from world is.
          stepped_since old new controller before reserved after marks kept noted next from world (after_step step world) same stay (stands world is.stands)
          (heard world is.stands) (comes world is.stands) is;
      names = names_since some.1 (after_step step some.1) before reserved after same (heard some.1 some.2.stands);
    }

pub some_stepped : (step : Step) (old new : List ℕ) (before after : ModelState) → IsStepped step old new before after
    → ((memory : List ℕ) → SomeWorld memory before) → (memory : List ℕ) → SomeWorld memory after
some_stepped step old new before after is some memory =
    let here = some old in some_other new memory after (here.0, after_step step here.1, is.stands here.0 here.1 here.2)

-- ---- forgetting

pub forgotten_pins : (lists : List Listing) → map handed_out (map forgotten lists) ≡ map emptied (map handed_out lists)
forgotten_pins lists = map-map handed_out forgotten lists ∙ sym (map-map emptied handed_out lists)

pub forgotten_since : (memory : List ℕ) (before after : ModelState) (from : ℕ) (world : World) → after.controller ≡ before.controller → after.pins ≡ map emptied before.pins
    → after.came ≡ before.came → StandsSince memory before from world → StandsSince memory after (length world.carried) world
forgotten_since memory before after from world controller pins came is = record {
  came = is.came ∙ sym came;
  stands = subst (λ (state : ControllerState). StandsFor memory state world) (sym controller) is.stands;
  within = omega arith;
  heard =
      subst (λ (heard_pins : List PinHeard). AreHeardSince (length world.carried) world heard_pins) (sym pins)
      (All-map (λ (pin : PinHeard). pin.list ≡ heard pin.codec pin.pin (drop (length world.carried) world.carried)) emptied before.pins
      (λ k d inside. ap (heard (get_or before.pins k d).codec (get_or before.pins k d).pin) (sym (drop-length world.carried))));
}

pub forgot : (before after : ModelState) → after.controller ≡ before.controller → after.pins ≡ map emptied before.pins → after.came ≡ before.came → IsForgotten before after
forgot before after controller pins came = record {
  stands = λ memory from world is. forgotten_since memory before after from world controller pins came is;
  controller = controller;
  pins = pins;
  came = came;
}

pub some_forgotten : (before after : ModelState) → IsForgotten before after → ((memory : List ℕ) → SomeWorld memory before) → (memory : List ℕ) → SomeWorld memory after
some_forgotten before after is some memory =
    let here = some memory in (length here.1.carried, here.1, is.stands memory here.0 here.1 here.2)

-- ---- the start

pub opened : (machine : Machine) (controller : ControllerState) (lists : List Listing) (marks : List Bool) → ((memory : List ℕ) → StandsFor memory controller (opening_world memory machine))
    → AreListsOf (graphs_in machine.codecs) lists → AreEmpty lists → marks ≡ [] → IsOpened machine (seen controller lists marks)
opened machine controller lists marks stands listed empty none = record {
  stands = λ memory. record {
    stands = stands memory;
    within = omega arith;
    came = sym none;
    heard = All-map (λ (pin : PinHeard). pin.list ≡ heard pin.codec pin.pin (drop 0 (opening_world memory machine).carried)) handed_out lists (λ k d inside. empty k d inside);
  };
  pins = record { orders = listed.orders; ordered = listed.ordered; names = names_handed lists ∙ listed.pins };
}

pub some_opened : (machine : Machine) (model : ModelState) → IsOpened machine model → (memory : List ℕ) → SomeWorld memory model
some_opened machine model is memory = (0, opening_world memory machine, is.stands memory)

-- ---- other room

abbrev model_of : ControllerState → List PinHeard → List Bool → ModelState
model_of controller pins marks = record { controller = controller; pins = pins; came = marks }

-- the same lists and marks with other room are the same model
pub other_room : (controller : ControllerState) (old new : List Listing) (marks kept : List Bool) → map handed_out new ≡ map handed_out old → kept ≡ marks
    → seen controller new kept ≡ seen controller old marks
other_room controller old new marks kept same stay =
    ap (λ (pins : List PinHeard). model_of controller pins kept) same ∙ ap (λ (noted : List Bool). model_of controller (map handed_out old) noted) stay

-- a fact that holds whatever came is so where it is an error
pub on_err : {T E P : Type 0} (result : Result T E) → P → OnErr result P
on_err (Ok done) p = tt
on_err (Err fault) p = p
