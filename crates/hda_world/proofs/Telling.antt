-- How the relations of what is told go together.
use Rattle.std.proofs.Common.{◌≡◌, List, [], ◌∷◌, ◌++◌, map, refl, sym, ap, subst, ◌∙◌, append_assoc, append-nil, Option, Some, None}
use Rattle.std.specs.Prelude.{All}
use Rattle.std.proofs.lemmas.List.Elements.{All-nil, All-cons, All-head, All-tail}
use Rattle.world_steps.specs.declared.Step.{Step}
use Rattle.hda_world.specs.Worlds.{World}
use Rattle.hda_world.specs.Events.{Event, Stepped, happens, after, AreHonest}
use Rattle.hda_world.specs.Tellings.{Telling, world_of, Went, Accessed, Grew, Between, BetweenBy, Then}
use Rattle.hda_world.specs.Steps.{after_step, after_steps}

pub after-append : (first second : List Event) (world : World) → after (first ++ second) world ≡ after second (after first world)
after-append [] second world = refl
after-append (event ∷ first) second world = after-append first second (happens world event)

pub AreHonest-append : (first second : List Event) (world : World) → AreHonest first world → AreHonest second (after first world) → AreHonest (first ++ second) world
AreHonest-append [] second world none honest = honest
AreHonest-append (event ∷ first) second world before honest = (before.0, AreHonest-append first second (happens world event) before.1 honest)

-- the new world is what the events make of the old one
pub world_of-went : (old new : Telling) (events : List Event) → Went old new events → world_of new ≡ after events (world_of old)
world_of-went old new events went =
    ap (λ journal. after journal new.start) went.journal ∙ ap (after (old.journal ++ events)) went.start ∙ after-append old.journal events old.start

pub went_both : (old middle new : Telling) (first second : List Event) → Went old middle first → Went middle new second → Went old new (first ++ second)
went_both old middle new first second a b = record {
  start = b.start ∙ a.start;
  journal = b.journal ∙ ap (λ journal. journal ++ second) a.journal ∙ append_assoc old.journal first second;
  honest = AreHonest-append first second (world_of old) a.honest (subst (AreHonest second) (world_of-went old middle first a) b.honest);
}

pub went_none : (telling : Telling) → Went telling telling []
went_none telling = record { start = refl; journal = sym (append-nil telling.journal); honest = tt }

pub grew_both : (old middle new : Telling) → Grew old middle → Grew middle new → Grew old new
grew_both old middle new a b = record { events = a.events ++ b.events; went = went_both old middle new a.events b.events a.went b.went }

pub grew_access : (old new : Telling) (event : Event) → Accessed old new event → Grew old new
grew_access old new event accessed = record { events = _; went = accessed.went }

both_by : (First Second : Telling → Telling → Type 0) (old middle new : Option Telling) → BetweenBy First old middle → BetweenBy Second middle new → BetweenBy (Then First Second) old new
both_by First Second (Some a) (Some b) (Some c) first second = (b, first, second)
both_by First Second None None None first second = tt
both_by First Second (Some a) None new first second = absurd first
both_by First Second None (Some b) new first second = absurd first
both_by First Second (Some a) (Some b) None first second = absurd second
both_by First Second None None (Some c) first second = absurd second

pub told_both : {First Second : Telling → Telling → Type 0} {old middle new : Option Telling} → Between First old middle → Between Second middle new → Between (Then First Second) old new
told_both {First} {Second} {old} {middle} {new} first second = record { is = both_by First Second old middle new first.is second.is }

pair_by : (First Second : Telling → Telling → Type 0) (old new : Option Telling) → BetweenBy First old new → BetweenBy Second old new → BetweenBy (λ (old new : Telling). First old new × Second old new) old new
pair_by First Second (Some a) (Some b) first second = (first, second)
pair_by First Second None None first second = tt
pair_by First Second (Some a) None first second = absurd first
pair_by First Second None (Some b) first second = absurd first

-- two relations of the same
pub told_pair : {First Second : Telling → Telling → Type 0} {old new : Option Telling} → Between First old new → Between Second old new → Between (λ (old new : Telling). First old new × Second old new) old new
told_pair {First} {Second} {old} {new} first second = record { is = pair_by First Second old new first.is second.is }

map_by : (Before After : Telling → Telling → Type 0) → ((old new : Telling) → Before old new → After old new) → (old new : Option Telling) → BetweenBy Before old new → BetweenBy After old new
map_by Before After leads (Some a) (Some b) before = leads a b before
map_by Before After leads None None before = tt
map_by Before After leads (Some a) None before = absurd before
map_by Before After leads None (Some b) before = absurd before

pub told_map : {Before After : Telling → Telling → Type 0} {old new : Option Telling} → ((old new : Telling) → Before old new → After old new) → Between Before old new → Between After old new
told_map {Before} {After} {old} {new} leads before = record { is = map_by Before After leads old new before.is }

-- the new world after an access before which the device made no step
pub world_of-access : (old new : Telling) (event : Event) → (accessed : Accessed old new event) → accessed.steps ≡ [] → world_of new ≡ happens (world_of old) event
world_of-access old new event accessed none =
    world_of-went old new _ accessed.went ∙ ap (λ (steps : List Step). after (map Stepped steps ++ event ∷ []) (world_of old)) none

-- a step of the device before an access is one more before it
pub accessed_after : (old middle new : Telling) (step : Step) (event : Event) → Went old middle (Stepped step ∷ []) → Accessed middle new event → Accessed old new event
accessed_after old middle new step event stepped later = record {
  steps = step ∷ later.steps;
  went = went_both old middle new (Stepped step ∷ []) (map Stepped later.steps ++ event ∷ []) stepped later.went;
}

-- steps as events lead where the steps lead
pub steps_after : (steps : List Step) (world : World) → after (map Stepped steps) world ≡ after_steps steps world
steps_after [] world = refl
steps_after (one ∷ steps) world = steps_after steps (after_step one world)

-- what all events of a row have, all of its front and all of its back have
pub events_front : (P : Event → Type 0) (front back : List Event) → All P (front ++ back) → All P front
events_front P [] back all = All-nil P
events_front P (event ∷ front) back all = All-cons P event front (All-head P event (front ++ back) all) (events_front P front back (All-tail P event (front ++ back) all))

pub events_back : (P : Event → Type 0) (front back : List Event) → All P (front ++ back) → All P back
events_back P [] back all = all
events_back P (event ∷ front) back all = events_back P front back (All-tail P event (front ++ back) all)
