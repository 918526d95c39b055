-- Where a journal leads, event by event.
use Rattle.codec_graph.specs.declared.pin_kind.PinKind.{PinKind}
use Rattle.std.proofs.Common.{◌≡◌, ◌≤◌, ◌<◌, ◌+◌, ℕ, Bool, true, List, [], ◌∷◌, ◌++◌, length, map, get_or, take, drop, slice_range, refl, sym, ap, subst, ◌∙◌, arith, All}
use Rattle.std.proofs.Props.{props}
use Rattle.std.specs.Coded.{Coded-set, coded_ℕ, coded_bool, coded_list}
use Rattle.std.proofs.Math.Logic.{∥∥₁_elim}
use Rattle.std.proofs.Math.Seq.{take-append_seam}
use Rattle.hda_registers.specs.Fields.{Fields}
use Rattle.hda_registers.specs.Access.{value_at}
use Rattle.std.proofs.lemmas.List.Elements.{All-map}
use Rattle.std.proofs.lemmas.List.{get_or-map, length-map}
use Rattle.hda_registers.specs.declared.shapes.Width.{Width}
use Rattle.world_rings.specs.Memory.{stored}
use Rattle.heard_frames.specs.declared.heard.Heard.{Heard}
use Rattle.heard_frames.specs.HeardLists.{heard_as}
use Rattle.heard_frames.proofs.Callers.{heard-append}
use Rattle.world_steps.specs.declared.Step.{Step}
use Rattle.hda_world.specs.Worlds.{World, TakenCommand, CarriedFrame, given_sound}
use Rattle.hda_world.specs.Steps.{after_step}
use Rattle.hda_world.specs.Events.{Event, Stepped, Write, DmaWrite, after, after_write, happens, IsHonest, AreHonest, IsPiece}
use Rattle.hda_world.specs.Tellings.{Went}
use Rattle.hda_world.proofs.Callers.{after-append, AreHonest-append, access_leaves}
use Rattle.codec_graph.specs.declared.raw.RawCodec.{RawCodec}
use Rattle.heard_lists.specs.declared.pin_list.PinHeard.{PinHeard}
use Rattle.heard_lists.specs.Listings.{Listing, with_items, with_marks, marked, marks_out, grown_as, handed_out, pins_of, AreListsAs, AreEmpty, AreUnmarked}
use Rattle.hda_controller.specs.Controllers.{ControllerState, StandsFor, is_candidate_of_kind}
use Rattle.hda_controller.specs.Hearing.{AreHeardAs, CameAs, GrewAs}
use Rattle.hda_files.specs.declared.machine.Machine.{Machine}
use Rattle.rig.specs.Replays.{AreHeardInAs, AreMarkedInAs, HavePassed, start_given, telling_given}
use Rattle.rig.specs.Recordings.{IsWhere, IsMarkedIn}
use Rattle.rig.proofs.MarkedOn.{marks_go_on, marks_stay, none_marked, marks_reserved}

-- ---- what is told

pub honest_more : (start : World) (events more : List Event) (event : Event) → AreHonest events start → more ≡ events ++ event ∷ []
    → IsHonest (after events start) event → AreHonest more start
honest_more start events more event before is here =
    subst (λ (all : List Event). AreHonest all start) (sym is) (AreHonest-append events (event ∷ []) start before (here, tt))

pub went_one : (start : World) (events more : List Event) (event : Event) → more ≡ events ++ event ∷ [] → IsHonest (after events start) event
    → Went (record { start = start; journal = events }) (record { start = start; journal = more }) (event ∷ [])
went_one start events more event is here = record { start = refl; journal = is; honest = (here, tt) }

pub leads_on : (start : World) (events more : List Event) (event : Event) → more ≡ events ++ event ∷ [] → after more start ≡ happens (after events start) event
leads_on start events more event is = ap (λ (all : List Event). after all start) is ∙ after-append events (event ∷ []) start

-- ---- heard lists

lists_go_on : (kind : PinKind) (before later : World) (old new : List Listing) → GrewAs kind before later old new → AreHeardInAs kind before old → AreHeardInAs kind later new
lists_go_on kind before later old new grew were =
    subst (AreHeardInAs kind later) (sym grew.lists)
    (All-map (λ (listing : Listing). listing.list ≡ heard_as kind listing.codec listing.pin later.carried)
    (λ (listing : Listing). with_items (heard_as kind listing.codec listing.pin grew.added) listing) (marked grew.taken old)
    (All-map (λ (listing : Listing). listing.list ++ heard_as kind listing.codec listing.pin grew.added ≡ heard_as kind listing.codec listing.pin later.carried) (with_marks grew.taken) old
    (λ k d within. one (get_or old k d) (were k d within))))
  where
    one : (listing : Listing) → listing.list ≡ heard_as kind listing.codec listing.pin before.carried
        → listing.list ++ heard_as kind listing.codec listing.pin grew.added ≡ heard_as kind listing.codec listing.pin later.carried
    one listing was =
        ap (λ (items : List Heard). items ++ heard_as kind listing.codec listing.pin grew.added) was
        ∙ (sym (heard-append kind listing.codec listing.pin before.carried grew.added)
        ∙ ap (heard_as kind listing.codec listing.pin) (sym grew.carried))

lists_stay : (kind : PinKind) (before later : World) (lists : List Listing) → later.carried ≡ before.carried → AreHeardInAs kind before lists → AreHeardInAs kind later lists
lists_stay kind before later lists same were =
    subst (λ (carried : List CarriedFrame). All (λ listing. listing.list ≡ heard_as kind listing.codec listing.pin carried) lists) (sym same) were

-- ---- events

module _ (kind : PinKind) (start : World) (events more : List Event) (memory : List ℕ) (controller : ControllerState) (lists : List Listing) (marks : List Bool) where
  abbrev here : World
  here = after events start

  -- a step
  pub where_stepped : (step : Step) (left : List ℕ) (moved : ControllerState) (grew : List Listing) (noted : List Bool) → IsWhere kind start events memory controller lists marks
      → more ≡ events ++ Stepped step ∷ [] → ((world : World) → StandsFor memory controller world → StandsFor left moved (after_step step world))
      → ((world : World) → StandsFor memory controller world → GrewAs controller.kind world (after_step step world) lists grew) → AreHeardAs moved.kind moved.device.codecs grew
      → moved.kind ≡ controller.kind → ((world : World) → StandsFor memory controller world → CameAs world (after_step step world) marks noted)
      → IsWhere kind start more left moved grew noted
  where_stepped step left moved grew noted was is stands goes known same comes =
      let leads : after_step step here ≡ after more start = sym (leads_on start events more (Stepped step) is) in
      record {
        stands = subst (StandsFor left moved) leads (stands here was.stands);
        kind_is = same ∙ was.kind_is;
        known = known;
        heard = subst (λ (world : World). AreHeardInAs kind world grew) leads
            (lists_go_on kind here (after_step step here) lists grew
            (subst (λ (pins : PinKind). GrewAs pins here (after_step step here) lists grew) was.kind_is (goes here was.stands)) was.heard);
        marked = subst (λ (world : World). IsMarkedIn kind world grew) leads
            (marks_go_on kind here (after_step step here) lists grew
            (subst (λ (pins : PinKind). GrewAs pins here (after_step step here) lists grew) was.kind_is (goes here was.stands)) was.heard was.marked);
        came = (
            let came = comes here was.stands in
            sym (ap (λ (world : World). world.came) leads) ∙ (came.came ∙ (ap (λ (front : List Bool). front ++ came.added) was.came ∙ sym came.marks)));
      }

  -- a write of a register
  pub where_written : (at : ℕ) (width : Width) (value : ℕ) (moved : ControllerState) (left : List Bool) → IsWhere kind start events memory controller lists marks
      → more ≡ events ++ Write at width value ∷ []
      → ((memory : List ℕ) (world : World) → StandsFor memory controller world → StandsFor memory moved (after_write at width value world))
      → ((some : List Listing) → AreHeardAs controller.kind controller.device.codecs some → AreHeardAs moved.kind moved.device.codecs some)
      → moved.kind ≡ controller.kind
      → ((memory : List ℕ) (before : World) (at : ℕ) (width : Width) (value : ℕ) → StandsFor memory moved (after_write at width value before) → before.came ≡ marks → (after_write at width value before).came ≡ left)
      → IsWhere kind start more memory moved lists left
  where_written at width value moved left was is stands keeps same kept =
      let leads : after_write at width value here ≡ after more start = sym (leads_on start events more (Write at width value) is) in
      record {
        stands = subst (StandsFor memory moved) leads (stands memory here was.stands);
        kind_is = same ∙ was.kind_is;
        known = keeps lists was.known;
        heard = subst (λ (world : World). AreHeardInAs kind world lists) leads
            (lists_stay kind here (after_write at width value here) lists (access_leaves here at value width).carried was.heard);
        marked = subst (λ (world : World). IsMarkedIn kind world lists) leads
            (marks_stay kind here (after_write at width value here) lists (access_leaves here at value width).commands (access_leaves here at value width).carried was.marked);
        came = sym (ap (λ (world : World). world.came) leads) ∙ kept memory here at width value (stands memory here was.stands) was.came;
      }

  -- a write of a piece of memory
  pub where_stored : (at : ℕ) (piece left : List ℕ) → IsWhere kind start events memory controller lists marks → more ≡ events ++ DmaWrite at piece ∷ []
      → left ≡ stored memory at piece → IsWhere kind start more left controller lists marks
  where_stored at piece left was is stores =
      let leads : happens here (DmaWrite at piece) ≡ after more start = sym (leads_on start events more (DmaWrite at piece) is) in
      record {
        stands = subst (StandsFor left controller) leads (record {
          memory_is = ap (λ (bytes : List ℕ). stored bytes at piece) was.stands.memory_is ∙ sym stores;
          registers_are = was.stands.registers_are;
          codecs_are = was.stands.codecs_are;
          waiting_is = was.stands.waiting_is;
          frames_are = was.stands.frames_are;
          captured = record { given_is = was.stands.captured.given_is; came_is = was.stands.captured.came_is };
          input_stands = was.stands.input_stands;
          output_stands = was.stands.output_stands;
        });
        kind_is = was.kind_is;
        known = was.known;
        heard = subst (λ (world : World). AreHeardInAs kind world lists) leads was.heard;
        marked = subst (λ (world : World). IsMarkedIn kind world lists) leads (marks_stay kind here (happens here (DmaWrite at piece)) lists refl refl was.marked);
        came = sym (ap (λ (world : World). world.came) leads) ∙ was.came;
      }

  -- an event that changes nothing
  pub where_seen : (event : Event) → IsWhere kind start events memory controller lists marks → more ≡ events ++ event ∷ [] → happens here event ≡ here
      → IsWhere kind start more memory controller lists marks
  where_seen event was is nothing =
      let leads : here ≡ after more start = sym (leads_on start events more event is ∙ nothing) in
      record {
        stands = subst (StandsFor memory controller) leads was.stands;
        kind_is = was.kind_is;
        known = was.known;
        heard = subst (λ (world : World). AreHeardInAs kind world lists) leads was.heard;
        marked = subst (λ (world : World). IsMarkedIn kind world lists) leads was.marked;
        came = sym (ap (λ (world : World). world.came) leads) ∙ was.came;
      }

-- ---- at the start

pub where_started : (kind : PinKind) (start : World) (memory : List ℕ) (controller : ControllerState) (lists : List Listing) → StandsFor memory controller start
    → controller.kind ≡ kind → AreHeardAs controller.kind controller.device.codecs lists → AreEmpty lists → AreUnmarked lists → start.carried ≡ []
    → start.commands ≡ [] → start.came ≡ [] → IsWhere kind start [] memory controller lists []
where_started kind start memory controller lists stands kind_is known empty unmarked none no_command came = record {
  marked = none_marked kind start lists unmarked no_command;
  came = came;
  stands = stands;
  kind_is = kind_is;
  known = known;
  heard = subst (λ (carried : List CarriedFrame). All (λ listing. listing.list ≡ heard_as kind listing.codec listing.pin carried) lists) (sym none) empty;
}

-- ---- lists with other room

unmapped : (P : PinHeard → Type 0) (lists : List Listing) → All P (map handed_out lists) → All (λ (listing : Listing). P (handed_out listing)) lists
unmapped P lists all k d within =
    subst P (get_or-map handed_out lists k d (handed_out d) within)
    (all k (handed_out d) (subst (λ (n : ℕ). k < n) (sym (length-map lists handed_out)) within))

-- what holds of lists as they are handed out holds whatever room they have
alike : (P : PinHeard → Type 0) (old new : List Listing) → map handed_out new ≡ map handed_out old → All (λ (listing : Listing). P (handed_out listing)) old
    → All (λ (listing : Listing). P (handed_out listing)) new
alike P old new same were = unmapped P new (subst (All P) (sym same) (All-map P handed_out old were))

pub where_reserved : (kind : PinKind) (start : World) (events : List Event) (memory : List ℕ) (controller : ControllerState) (old new : List Listing) (marks kept : List Bool)
    → map handed_out new ≡ map handed_out old → map marks_out new ≡ map marks_out old → kept ≡ marks → IsWhere kind start events memory controller old marks → IsWhere kind start events memory controller new kept
where_reserved kind start events memory controller old new marks kept same same_marks stay was = record {
  marked = marks_reserved kind (after events start) old new same_marks was.marked;
  came = was.came ∙ sym stay;
  stands = was.stands;
  kind_is = was.kind_is;
  known = alike (λ (list : PinHeard). is_candidate_of_kind controller.kind controller.device.codecs list.codec list.pin ≡ true) old new same was.known;
  heard = alike (λ (list : PinHeard). list.list ≡ heard_as kind list.codec list.pin (after events start).carried) old new same was.heard;
}

-- ---- of which pins they are

pins_handed : (lists : List Listing) → pins_of lists ≡ map (λ (list : PinHeard). (list.codec, list.pin)) (map handed_out lists)
pins_handed [] = refl
pins_handed (listing ∷ lists) = ap (λ (pins : List (ℕ × ℕ)). (listing.codec, listing.pin) ∷ pins) (pins_handed lists)

pins_grown : (kind : PinKind) (frames : List CarriedFrame) (lists : List Listing) → pins_of (grown_as kind frames lists) ≡ pins_of lists
pins_grown kind frames [] = refl
pins_grown kind frames (listing ∷ lists) = ap (λ (pins : List (ℕ × ℕ)). (listing.codec, listing.pin) ∷ pins) (pins_grown kind frames lists)

pins_marked : (commands : List TakenCommand) (lists : List Listing) → pins_of (marked commands lists) ≡ pins_of lists
pins_marked commands [] = refl
pins_marked commands (listing ∷ lists) = ap (λ (pins : List (ℕ × ℕ)). (listing.codec, listing.pin) ∷ pins) (pins_marked commands lists)

pub listed_by : (kind : PinKind) (graphs : List RawCodec) (old new : List Listing) → pins_of new ≡ pins_of old → AreListsAs kind graphs old → AreListsAs kind graphs new
listed_by kind graphs old new same are = record { orders = are.orders; ordered = are.ordered; pins = same ∙ are.pins }

pub listed_reserved : (kind : PinKind) (graphs : List RawCodec) (old new : List Listing) → map handed_out new ≡ map handed_out old → AreListsAs kind graphs old → AreListsAs kind graphs new
listed_reserved kind graphs old new same are =
    listed_by kind graphs old new (pins_handed new ∙ (ap (map (λ (list : PinHeard). (list.codec, list.pin))) same ∙ sym (pins_handed old))) are

pub listed_stepped : (pins kind : PinKind) (graphs : List RawCodec) (before later : World) (old new : List Listing) → GrewAs pins before later old new → AreListsAs kind graphs old → AreListsAs kind graphs new
listed_stepped pins kind graphs before later old new grew are = listed_by kind graphs old new (ap pins_of grew.lists ∙ (pins_grown pins grew.added (marked grew.taken old) ∙ pins_marked grew.taken old)) are

-- ---- answers of the moment

pub memory_there : {kind : PinKind} {start : World} {events : List Event} {memory : List ℕ} {controller : ControllerState} {lists : List Listing} {marks : List Bool}
    → ∥ IsWhere kind start events memory controller lists marks ∥₁ → (after events start).memory ≡ memory
memory_there there = ∥∥₁_elim there (Coded-set (coded_list coded_ℕ) _ _) (λ here. here.stands.memory_is)

pub value_there : {kind : PinKind} {start : World} {events : List Event} {memory : List ℕ} {controller : ControllerState} {lists : List Listing} {marks : List Bool} (at : ℕ) (width : Width) (value : ℕ)
    → ∥ IsWhere kind start events memory controller lists marks ∥₁ → value ≡ value_at controller.device.registers at width
    → value ≡ value_at (after events start).registers at width
value_there at width value there read =
    ∥∥₁_elim there (Coded-set coded_ℕ _ _) (λ here. read ∙ ap (λ (fields : Fields). value_at fields at width) (sym here.stands.registers_are))

-- a piece that was read is one of the memory
pub piece_there : (told memory piece : List ℕ) (at long size : ℕ) → told ≡ memory → piece ≡ slice_range memory at (at + long) → length piece ≡ long
    → length memory ≡ size → at + long ≤ size → IsPiece told at piece
piece_there told memory piece at long size same read length_is whole within = record {
  within = (let e : length told ≡ length memory = ap length same in omega (arith, e, whole, within, length_is));
  same = read ∙ (ap (λ (n : ℕ). slice_range memory at (at + n)) (sym length_is) ∙ ap (λ (all : List ℕ). slice_range all at (at + length piece)) (sym same));
}

pub room_there : (told memory : List ℕ) (at long size : ℕ) → told ≡ memory → length memory ≡ size → at + long ≤ size → at + long ≤ length told
room_there told memory at long size same whole within = (let e : length told ≡ length memory = ap length same in omega (arith, e, whole, within))

-- what a write through the whole of a vector leaves
pub whole_write : (new old written : List ℕ) (n : ℕ) → new ≡ written → length new ≡ length old → n ≡ length old → take n (new ++ drop (length new) old) ≡ written
whole_write new old written n is long size = rw (size, ← long) (take-append_seam new (drop (length new) old)) ∙ is

-- ---- the same events

pub honest_same : (start : World) (events same : List Event) → same ≡ events → AreHonest events start → AreHonest same start
honest_same start events same is honest = subst (λ (all : List Event). AreHonest all start) (sym is) honest

pub where_same : (kind : PinKind) (start : World) (events same : List Event) (memory : List ℕ) (controller : ControllerState) (lists : List Listing) (marks : List Bool) → same ≡ events
    → IsWhere kind start events memory controller lists marks → IsWhere kind start same memory controller lists marks
where_same kind start events same memory controller lists marks is there = subst (λ (all : List Event). IsWhere kind start all memory controller lists marks) (sym is) there

pub where_marked : (kind : PinKind) (start : World) (events : List Event) (memory : List ℕ) (controller : ControllerState) (lists : List Listing) (marks same : List Bool) → same ≡ marks
    → IsWhere kind start events memory controller lists marks → IsWhere kind start events memory controller lists same
where_marked kind start events memory controller lists marks same is there = subst (IsWhere kind start events memory controller lists) (sym is) there

-- ---- the same sound

pub honest_given : (size : ℕ) (machine : Machine) (sound same : List ℕ) (events : List Event) → same ≡ sound → AreHonest events (start_given size machine sound)
    → AreHonest events (start_given size machine same)
honest_given size machine sound same events is honest = subst (λ (given : List ℕ). AreHonest events (start_given size machine given)) (sym is) honest

pub where_given : (kind : PinKind) (size : ℕ) (machine : Machine) (sound same : List ℕ) (events : List Event) (memory : List ℕ) (controller : ControllerState) (lists : List Listing) (marks : List Bool) → same ≡ sound
    → IsWhere kind (start_given size machine sound) events memory controller lists marks → IsWhere kind (start_given size machine same) events memory controller lists marks
where_given kind size machine sound same events memory controller lists marks is there =
    subst (λ (given : List ℕ). IsWhere kind (start_given size machine given) events memory controller lists marks) (sym is) there

pub went_given : (size : ℕ) (machine : Machine) (sound same : List ℕ) (old new : List Event) (events : List Event) → same ≡ sound
    → Went (telling_given size machine sound old) (telling_given size machine sound new) events → Went (telling_given size machine sound old) (telling_given size machine same new) events
went_given size machine sound same old new events is went = record {
  start = ap (start_given size machine) is;
  journal = went.journal;
  honest = went.honest;
}

-- before anything happened, with another sound
pub where_sounded : (kind : PinKind) (size : ℕ) (machine : Machine) (old new : List ℕ) (memory : List ℕ) (controller moved : ControllerState) (lists : List Listing) (marks : List Bool)
    → ((memory : List ℕ) (world : World) → StandsFor memory controller world → StandsFor memory moved (given_sound new world))
    → ((some : List Listing) → AreHeardAs controller.kind controller.device.codecs some → AreHeardAs moved.kind moved.device.codecs some) → moved.kind ≡ controller.kind
    → IsWhere kind (start_given size machine old) [] memory controller lists marks → IsWhere kind (start_given size machine new) [] memory moved lists marks
where_sounded kind size machine old new memory controller moved lists marks stands keeps same was = record {
  stands = stands memory (start_given size machine old) was.stands;
  kind_is = same ∙ was.kind_is;
  known = keeps lists was.known;
  heard = was.heard;
  marked = marks_stay kind (start_given size machine old) (start_given size machine new) lists refl refl was.marked;
  came = was.came;
}

-- ---- marks of the moment

pub came_there : {kind : PinKind} {start : World} {events : List Event} {memory : List ℕ} {controller : ControllerState} {lists : List Listing} {marks : List Bool}
    → ∥ IsWhere kind start events memory controller lists marks ∥₁ → (after events start).came ≡ marks
came_there there = ∥∥₁_elim there (Coded-set (coded_list coded_bool) _ _) (λ here. here.came)

-- ---- lists of the moment

pub heard_there : {kind : PinKind} {start : World} {events : List Event} {memory : List ℕ} {controller : ControllerState} {lists : List Listing} {marks : List Bool}
    → ∥ IsWhere kind start events memory controller lists marks ∥₁ → AreHeardInAs kind (after events start) lists
heard_there there = ∥∥₁_elim there (Prim.hlevel props) (λ here. here.heard)

-- ---- marks of pins

pub marks_there : {kind : PinKind} {start : World} {events : List Event} {memory : List ℕ} {controller : ControllerState} {lists : List Listing} {marks : List Bool}
    → ∥ IsWhere kind start events memory controller lists marks ∥₁ → AreMarkedInAs kind (after events start) lists
marks_there there = ∥∥₁_elim there (Prim.hlevel props) (λ here. here.marked.marks)

pub passed_there : {kind : PinKind} {start : World} {events : List Event} {memory : List ℕ} {controller : ControllerState} {lists : List Listing} {marks : List Bool}
    → ∥ IsWhere kind start events memory controller lists marks ∥₁ → HavePassed (after events start)
passed_there there = ∥∥₁_elim there (Prim.hlevel props) (λ here. here.marked.passed)
