-- What is only appended to while accesses are made.
use Rattle.std.proofs.Common.{◌≡◌, ◌≤◌, ◌<◌, ◌+◌, ℕ, Some, List, [], ◌∷◌, ◌++◌, length, refl, sym, ap, ◌∙◌, append_assoc, append-nil, arith}
use Rattle.std.specs.Prelude.{take, drop, get_or, slice_get}
use Rattle.std.proofs.lemmas.List.{take-append-le, drop-append-le, length-drop, get_or-drop, take_more}
use Rattle.std.proofs.lemmas.Option.{slice_get-get_or, slice_get_within, same_Some}
use Rattle.world_rings.specs.declared.response.Response.{Response}
use Rattle.world_steps.specs.declared.Step.{Step}
use Rattle.hda_world.specs.Worlds.{World, TakenCommand}
use Rattle.hda_world.specs.Steps.{after_steps}
use Rattle.hda_world.specs.Events.{Event, Stepped, Begin, End, Read, Write, DmaRead, DmaWrite, happens}
use Rattle.hda_world.specs.Tellings.{Telling, world_of, Accessed, MakesBy, Makes}
use Rattle.hda_world.specs.Leaving.{StepsLeave}
use Rattle.hda_world.proofs.Callers.{world_of-went, after-stepped, steps_leave, access_leaves}

-- ---- both histories that matter here

pub record WentOn (old new : World) : Type 0 where
  pub more_taken : List TakenCommand
  pub taken : new.commands ≡ old.commands ++ more_taken
  pub more_written : List Response
  pub written : new.written ≡ old.written ++ more_written

same_on : (old new : World) → new.commands ≡ old.commands → new.written ≡ old.written → WentOn old new
same_on old new taken written = record { more_taken = []; taken = taken ∙ sym (append-nil old.commands); more_written = []; written = written ∙ sym (append-nil old.written) }

pub both_on : (old middle new : World) → WentOn old middle → WentOn middle new → WentOn old new
both_on old middle new first second = record {
  more_taken = first.more_taken ++ second.more_taken;
  taken = second.taken ∙ ap (λ (front : List TakenCommand). front ++ second.more_taken) first.taken ∙ append_assoc old.commands first.more_taken second.more_taken;
  more_written = first.more_written ++ second.more_written;
  written = second.written ∙ ap (λ (front : List Response). front ++ second.more_written) first.written ∙ append_assoc old.written first.more_written second.more_written;
}

pub steps_on : (steps : List Step) (world : World) → WentOn world (after_steps steps world)
steps_on steps world =
    let leaves : StepsLeave world (after_steps steps world) = steps_leave steps world in
    record { more_taken = leaves.commands.0; taken = leaves.commands.1; more_written = leaves.written.0; written = leaves.written.1 }

pub event_on : (event : Event) (world : World) → WentOn world (happens world event)
event_on (Stepped step) world = steps_on (step ∷ []) world
event_on Begin world = same_on world world refl refl
event_on End world = same_on world world refl refl
event_on (Read at width value) world = same_on world world refl refl
event_on (Write at width value) world = let leaves = access_leaves world at value width in same_on world (happens world (Write at width value)) leaves.commands leaves.written
event_on (DmaRead at bytes) world = same_on world world refl refl
event_on (DmaWrite at bytes) world = same_on world (happens world (DmaWrite at bytes)) refl refl

pub world_after : (event : Event) (old new : Telling) → (accessed : Accessed old new event) → world_of new ≡ happens (after_steps accessed.steps (world_of old)) event
world_after event old new accessed = world_of-went old new _ accessed.went ∙ after-stepped accessed.steps event (world_of old)

at_world : (old new new' : World) → new' ≡ new → WentOn old new → WentOn old new'
at_world old new new' same on = record {
  more_taken = on.more_taken;
  taken = ap (λ (world : World). world.commands) same ∙ on.taken;
  more_written = on.more_written;
  written = ap (λ (world : World). world.written) same ∙ on.written;
}

access_on : (event : Event) (old new : Telling) → Accessed old new event → WentOn (world_of old) (world_of new)
access_on event old new accessed =
    let there = after_steps accessed.steps (world_of old) in
    at_world (world_of old) (happens there event) (world_of new) (world_after event old new accessed) (both_on (world_of old) there (happens there event) (steps_on accessed.steps (world_of old)) (event_on event there))

row_by : (made : List Event) (old new : Telling) → MakesBy made old new → WentOn (world_of old) (world_of new)
row_by [] old new none = at_world (world_of old) (world_of old) (world_of new) (ap world_of none) (same_on (world_of old) (world_of old) refl refl)
row_by (event ∷ made) old new makes = both_on (world_of old) (world_of makes.0) (world_of new) (access_on event old makes.0 makes.1) (row_by made makes.0 new makes.2)

pub row_on : (made : List Event) (old new : Telling) → Makes made old new → WentOn (world_of old) (world_of new)
row_on made old new makes = row_by made old new makes.by

-- ---- a part of a list that grew

module _ {A : Type 0} where
  pub part_grows : (begun n : ℕ) (front back : List A) → begun + n ≤ length front → take n (drop begun (front ++ back)) ≡ take n (drop begun front)
  part_grows begun n front back within =
      let left = length-drop begun front in
      ap (λ (items : List A). take n items) (drop-append-le begun front back (omega (arith, within)))
      ∙ take-append-le n (drop begun front) back (omega (arith, within, left))

  last_at : (n : ℕ) (items : List A) (item : A) → drop n items ≡ item ∷ [] → (n < length items) × (get_or items n item ≡ item)
  last_at n items item is =
      let long = sym (length-drop n items) ∙ ap (λ (items : List A). length items) is in
      let at : get_or (drop n items) 0 item ≡ get_or items (n + 0) item = get_or-drop n items 0 item in
      (omega (arith, long), ap (λ (at : ℕ). get_or items at item) {x = n} {y = n + 0} (omega arith) ∙ sym at ∙ ap (λ (items : List A). get_or items 0 item) is)

  -- the next item, which is the last
  pub part_last : (n : ℕ) (items : List A) (item : A) → drop n items ≡ item ∷ [] → (slice_get items n ≡ Some item) × (take (n + 1) items ≡ take n items ++ item ∷ [])
  part_last n items item is =
      let last = last_at n items item is in
      (slice_get-get_or items n item last.0 ∙ ap (λ (item : A). Some item) last.1, take_more items n item last.0 ∙ ap (λ (item : A). take n items ++ item ∷ []) last.1)

  -- and one that is there
  pub part_next : (n : ℕ) (items : List A) (item : A) → slice_get items n ≡ Some item → take (n + 1) items ≡ take n items ++ item ∷ []
  part_next n items item is =
      let within = slice_get_within items n item is in
      let at = same_Some (get_or items n item) item (sym (slice_get-get_or items n item within) ∙ is) in
      take_more items n item within ∙ ap (λ (item : A). take n items ++ item ∷ []) at
