-- What is read of RIRB in a journal, and what it tells.
use Rattle.std.proofs.Common.{◌≡◌, ℕ, List, [], ◌∷◌, ◌++◌, map, refl, sym, ap, subst, ◌∙◌, append-nil}
use Rattle.std.proofs.lemmas.List.{map-append}
use Rattle.std.proofs.lemmas.List.Concat.{flat_map-append}
use Rattle.std.proofs.lemmas.List.Elements.{filter-append}
use Rattle.world_steps.specs.declared.Step.{Step}
use Rattle.world_rings.specs.declared.response.Response.{Response}
use Rattle.hda_world.specs.Events.{Event, Stepped, Begin, End}
use Rattle.hda_world.specs.Tellings.{Telling, Went, Accessed, MakesBy}
use Rattle.hda_world.proofs.Callers.{went_none, went_both}
use Rattle.command_engine.specs.declared.answers.Event as told
use Rattle.command_engine.specs.Entries.{responses_in, response_in, unasked_events_of, event_of}
use Rattle.driver_bring_up.specs.Commanding.{entry_in, entries_in, with_told}
use Rattle.driver_bring_up.specs.declared.jacks.Jacks.{Jacks}
use Rattle.driver_bring_up.specs.Counted.{IsCount}
use Rattle.program_runs.specs.Events.{told_in}

pub entries_both : (first second : List Event) → entries_in (first ++ second) ≡ entries_in first ++ entries_in second
entries_both first second = flat_map-append entry_in first second

-- the device's steps read nothing
pub entries_of_steps : (steps : List Step) → entries_in (map Stepped steps) ≡ []
entries_of_steps [] = refl
entries_of_steps (step ∷ steps) = entries_of_steps steps

-- so an event reads the same with steps before it
pub entries_after_steps : (steps : List Step) (events : List Event) → entries_in (map Stepped steps ++ events) ≡ entries_in events
entries_after_steps [] events = refl
entries_after_steps (step ∷ steps) events = entries_after_steps steps events

-- what one entry after another tells
told_of_entries : List (List ℕ) → List told.Event
told_of_entries entries = unasked_events_of (responses_in entries)

events_both : (first second : List (List ℕ)) → unasked_events_of (responses_in (first ++ second)) ≡ unasked_events_of (responses_in first) ++ unasked_events_of (responses_in second)
events_both first second =
    let unsolicited = λ (response : Response). response.unsolicited in
    ap unasked_events_of (map-append response_in first second)
    ∙ ap (map event_of) (filter-append unsolicited (responses_in first) (responses_in second))
    ∙ map-append event_of _ _

pub told_both : (first second : List Event) → told_in (first ++ second) ≡ told_in first ++ told_in second
told_both first second = ap (λ (entries : List (List ℕ)). unasked_events_of (responses_in entries)) (entries_both first second) ∙ events_both (entries_in first) (entries_in second)

-- what was told until now, and with some entries more
pub with_told_is : (first : List told.Event) (entries : List (List ℕ)) → with_told first entries ≡ first ++ unasked_events_of (responses_in entries)
with_told_is first [] = sym (append-nil first)
with_told_is first (entry ∷ entries) = refl

-- a row of accesses with the steps before each
pub record Row (made : List Event) (old new : Telling) : Type 0 where
  pub events : List Event
  pub went : Went old new events
  pub entries : entries_in events ≡ entries_in made

pub row_of : (made : List Event) (old new : Telling) → MakesBy made old new → Row made old new
row_of [] old new same = record { events = []; went = subst (λ (t : Telling). Went old t []) (sym same) (went_none old); entries = refl }
row_of (access ∷ made) old new (middle, accessed, later) =
    let rest = row_of made middle new later in
    record {
      events = (map Stepped accessed.steps ++ access ∷ []) ++ rest.events;
      went = went_both old middle new _ rest.events accessed.went rest.went;
      entries = entries_both (map Stepped accessed.steps ++ access ∷ []) rest.events
          ∙ ap (λ (front : List (List ℕ)). front ++ entries_in rest.events) (entries_after_steps accessed.steps (access ∷ []) ∙ append-nil (entry_in access))
          ∙ ap (λ (back : List (List ℕ)). entry_in access ++ back) rest.entries;
    }

-- a row of accesses between the marks of a run
pub record Run (made : List Event) (old new : Telling) : Type 0 where
  pub events : List Event
  pub went : Went old new events
  pub entries : entries_in events ≡ entries_in made

pub run_of : (made : List Event) (before begun ends after : Telling) → Accessed before begun Begin → MakesBy made begun ends → Accessed ends after End → Run made before after
run_of made before begun ends after opened by ended =
    let row = row_of made begun ends by in
    let front = map Stepped opened.steps ++ Begin ∷ [] in
    let back = map Stepped ended.steps ++ End ∷ [] in
    record {
      events = front ++ (row.events ++ back);
      went = went_both before begun after front (row.events ++ back) opened.went (went_both begun ends after row.events back row.went ended.went);
      entries = entries_both front (row.events ++ back)
          ∙ ap (λ (xs : List (List ℕ)). xs ++ entries_in (row.events ++ back)) (entries_after_steps opened.steps (Begin ∷ []))
          ∙ entries_both row.events back
          ∙ ap (λ (xs : List (List ℕ)). entries_in row.events ++ xs) (entries_after_steps ended.steps (End ∷ []))
          ∙ append-nil (entries_in row.events)
          ∙ row.entries;
    }

-- what was counted goes on by what such a run read
pub counted_on : (old new : Jacks) (made events : List Event) → entries_in events ≡ entries_in made → (first : List Event)
    → ((told : List told.Event) → IsCount told old → IsCount (with_told told (entries_in made)) new) → IsCount (told_in first) old → IsCount (told_in (first ++ events)) new
counted_on old new made events same first counted count =
    subst (λ (told : List told.Event). IsCount told new)
    (with_told_is (told_in first) (entries_in made) ∙ ap (λ (entries : List (List ℕ)). told_in first ++ unasked_events_of (responses_in entries)) (sym same) ∙ sym (told_both first events))
    (counted (told_in first) count)
