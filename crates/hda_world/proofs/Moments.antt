-- What holds at each moment while accesses are made.
use Rattle.std.proofs.Common.{◌≡◌, List, [], ◌∷◌, ◌++◌, map, refl, sym, ap, subst, ◌∙◌, append_assoc}
use Rattle.world_steps.specs.declared.Step.{Step}
use Rattle.hda_world.specs.Worlds.{World}
use Rattle.hda_world.specs.Steps.{after_step}
use Rattle.hda_world.specs.Events.{Event, Stepped, happens, after, IsHonest, AreHonest}
use Rattle.hda_world.specs.Tellings.{Telling, Went, Makes, MakesBy}
use Rattle.hda_world.specs.Kept.{Kept}
use Rattle.hda_world.specs.Moments.{AreWoven, AtEach}
use Rattle.hda_world.proofs.Stepping.{kept_step}
use Rattle.hda_world.proofs.Telling.{after-append, went_both, went_none}

-- the events that were told while accesses were made
pub record Weaving (made : List Event) (old new : Telling) : Type 0 where
  pub events : List Event
  pub went : Went old new events
  pub woven : AreWoven made events

woven_by : (made : List Event) (old new : Telling) → MakesBy made old new → Weaving made old new
woven_by [] old new none = record { events = []; went = subst (λ (to : Telling). Went old to []) (sym none) (went_none old); woven = refl }
woven_by (access ∷ made) old new (middle, first, more) =
    let rest = woven_by made middle new more in
    record {
      events = map Stepped first.steps ++ access ∷ rest.events;
      went = subst (Went old new) (append_assoc (map Stepped first.steps) (access ∷ []) rest.events)
          (went_both old middle new (map Stepped first.steps ++ access ∷ []) rest.events first.went rest.went);
      woven = (first.steps, rest.events, refl, rest.woven);
    }

pub woven : {made : List Event} {old new : Telling} → Makes made old new → Weaving made old new
woven {made} {old} {new} makes = woven_by made old new makes.by

-- from each world where one thing holds accesses lead to a world where another does, over whatever steps between them, and a third
-- holds at each moment
abbrev pub Lead : (Holds : World → Event → Type 0) → (Before : World → Type 0) → List Event → (After : World → Type 0) → Type 0
Lead Holds Before made After =
    (events : List Event) (world : World) → AreWoven made events → AreHonest events world → Before world → AtEach Holds events world × After (after events world)

-- none at all
pub lead_none : (Holds : World → Event → Type 0) (Before After : World → Type 0) → ((world : World) → Before world → After world) → Lead Holds Before [] After
lead_none Holds Before After leads events world woven honest before =
    subst (λ (events : List Event). AtEach Holds events world × After (after events world)) (sym woven) (tt, leads world before)

-- an access before others
module _ (Holds : World → Event → Type 0) (Before Middle After : World → Type 0) (kept : Kept Before) (access : Event) (made : List Event)
    (steps_hold : (world : World) (step : Step) → Before world → Holds world (Stepped step))
    (leads : (world : World) → Before world → IsHonest world access → Holds world access × Middle (happens world access))
    (more : Lead Holds Middle made After) where
  over : (steps : List Step) (rest : List Event) (world : World) → AreWoven made rest → AreHonest (map Stepped steps ++ access ∷ rest) world → Before world
      → AtEach Holds (map Stepped steps ++ access ∷ rest) world × After (after (map Stepped steps ++ access ∷ rest) world)
  over [] rest world woven honest before =
      let here = leads world before honest.0 in
      let later = more rest (happens world access) woven honest.1 here.1 in
      ((here.0, later.0), later.1)
  over (step ∷ steps) rest world woven honest before =
      let later = over steps rest (after_step step world) woven honest.1 (kept_step Before kept step world before) in
      ((steps_hold world step before, later.0), later.1)

  pub lead_more : Lead Holds Before (access ∷ made) After
  lead_more events world (steps, rest, are, more_made) honest before =
      subst (λ (events : List Event). AtEach Holds events world × After (after events world)) (sym are)
      (over steps rest world more_made (subst (λ (events : List Event). AreHonest events world) are honest) before)

-- ---- rows of accesses

pub AreHonest-front : (first second : List Event) (world : World) → AreHonest (first ++ second) world → AreHonest first world
AreHonest-front [] second world honest = tt
AreHonest-front (event ∷ first) second world honest = (honest.0, AreHonest-front first second (happens world event) honest.1)

pub AreHonest-back : (first second : List Event) (world : World) → AreHonest (first ++ second) world → AreHonest second (after first world)
AreHonest-back [] second world honest = honest
AreHonest-back (event ∷ first) second world honest = AreHonest-back first second (happens world event) honest.1

pub AtEach-append : (Holds : World → Event → Type 0) (first second : List Event) (world : World) → AtEach Holds first world → AtEach Holds second (after first world) → AtEach Holds (first ++ second) world
AtEach-append Holds [] second world none more = more
AtEach-append Holds (event ∷ first) second world before more = (before.0, AtEach-append Holds first second (happens world event) before.1 more)

-- the events of two rows of accesses are those of the first and then those of the second
pub woven_split : (first second events : List Event) → AreWoven (first ++ second) events
    → (front : List Event) × (back : List Event) × (events ≡ front ++ back) × AreWoven first front × AreWoven second back
woven_split [] second events made = ([], events, refl, refl, made)
woven_split (access ∷ first) second events (steps, rest, are, made) =
    let (front, back, both, one, other) = woven_split first second rest made in (
      map Stepped steps ++ access ∷ front,
      back,
      are ∙ ap (λ (more : List Event). map Stepped steps ++ access ∷ more) both ∙ sym (append_assoc (map Stepped steps) (access ∷ front) back),
      (steps, front, refl, one),
      other,
    )

-- a row before a row
pub lead_both : (Holds : World → Event → Type 0) (Before Middle After : World → Type 0) (first second : List Event) → Lead Holds Before first Middle → Lead Holds Middle second After
    → Lead Holds Before (first ++ second) After
lead_both Holds Before Middle After first second one other events world woven honest before =
    let (front, back, are, in_front, in_back) = woven_split first second events woven in
    let whole : AreHonest (front ++ back) world = subst (λ (events : List Event). AreHonest events world) are honest in
    let begins = one front world in_front (AreHonest-front front back world whole) before in
    let ends = other back (after front world) in_back (AreHonest-back front back world whole) begins.1 in
    subst (λ (events : List Event). AtEach Holds events world × After (after events world)) (sym are)
    (AtEach-append Holds front back world begins.0 ends.0, subst After (sym (after-append front back world)) ends.1)

-- what holds for each of some values leads on for the one that is there
pub lead_some : {X : Type 0} (Holds : World → Event → Type 0) (Before : X → World → Type 0) (made : List Event) (After : World → Type 0) → ((x : X) → Lead Holds (Before x) made After)
    → Lead Holds (λ (world : World). (x : X) × Before x world) made After
lead_some {X} Holds Before made After leads events world woven honest (x, before) = leads x events world woven honest before

-- what is weaker leads on from what is stronger
pub lead_from : (Holds : World → Event → Type 0) (Stronger Before : World → Type 0) (made : List Event) (After : World → Type 0) → ((world : World) → Stronger world → Before world)
    → Lead Holds Before made After → Lead Holds Stronger made After
lead_from Holds Stronger Before made After weaker leads events world woven honest before = leads events world woven honest (weaker world before)

-- and what follows holds after it
pub lead_to : (Holds : World → Event → Type 0) (Before : World → Type 0) (made : List Event) (After Weaker : World → Type 0) → ((world : World) → After world → Weaker world)
    → Lead Holds Before made After → Lead Holds Before made Weaker
lead_to Holds Before made After Weaker weaker leads events world woven honest before =
    let there = leads events world woven honest before in (there.0, weaker (after events world) there.1)
