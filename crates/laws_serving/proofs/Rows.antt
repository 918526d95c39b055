-- Accesses one after another, between which the device fetches bytes and lets link frames pass, and nothing else.
use Rattle.std.proofs.Common.{◌≡◌, ℕ, zero, suc, Bool, true, List, [], ◌∷◌, ◌++◌, length, map, drop, refl, sym, ap, subst, ◌∙◌, append_assoc, if◌then◌else◌}
use Rattle.std.specs.Prelude.{All}
use Rattle.std.proofs.lemmas.List.Elements.{All-nil, All-cons, All-head, All-tail}
use Rattle.world_steps.specs.declared.Step.{Step}
use Rattle.schedule_reader.specs.declared.schedule.Group.{Group}
use Rattle.hda_world.specs.Worlds.{World}
use Rattle.hda_world.specs.Steps.{after_step, after_steps}
use Rattle.hda_world.specs.Events.{Event, Stepped, Begin, End, Read, Write, DmaRead, DmaWrite, IsHonest, AreHonest, happens, after}
use Rattle.hda_world.specs.Tellings.{Telling, world_of, MakesBy}
use Rattle.hda_world.proofs.Callers.{after_steps-append, after-append, after-stepped}
use Rattle.rig.specs.Stretches.{is_access, accesses_of, steps_in, all_steps_in, woven}
use Rattle.rig.specs.Follows.{AreAccesses}
use Rattle.rig.proofs.Callers.{groups_none}
use Rattle.laws_serving.specs.ServingSchedules.{IsOfStreams, HasStreamsAlone}
use Rattle.laws_serving.proofs.Requests.{IsAccess}

-- ---- rows

-- these accesses were made, before each of them and behind the last such steps, and each was honest at its moment
abbrev pub CalmRow : List Event → World → World → Type 0
CalmRow [] old new = (steps : List Step) × All IsOfStreams steps × (new ≡ after_steps steps old)
CalmRow (access ∷ accesses) old new =
    (steps : List Step) × All IsOfStreams steps × IsHonest (after_steps steps old) access × CalmRow accesses (happens (after_steps steps old) access) new

-- what such steps and these accesses keep is kept by a row of them
module _ (P : World → Type 0) (Tame : Event → Type 0) (steps_keep : (one : Step) (world : World) → IsOfStreams one → P world → P (after_step one world))
    (access_keeps : (event : Event) (world : World) → Tame event → IsHonest world event → P world → P (happens world event)) where
  pub kept_steps : (steps : List Step) (world : World) → All IsOfStreams steps → P world → P (after_steps steps world)
  kept_steps [] world are holds = holds
  kept_steps (one ∷ steps) world are holds = kept_steps steps (after_step one world) (All-tail IsOfStreams one steps are) (steps_keep one world (All-head IsOfStreams one steps are) holds)

  pub kept_row : (accesses : List Event) (old new : World) → All Tame accesses → CalmRow accesses old new → P old → P new
  kept_row [] old new tame row holds = subst P (sym row.2) (kept_steps row.0 old row.1 holds)
  kept_row (access ∷ accesses) old new tame row holds =
      kept_row accesses (happens (after_steps row.0 old) access) new (All-tail Tame access accesses tame) row.3
      (access_keeps access (after_steps row.0 old) (All-head Tame access accesses tame) row.2 (kept_steps row.0 old row.1 holds))

-- a row is that of the front and then that of the back
pub row_split : (front back : List Event) (old new : World) → CalmRow (front ++ back) old new → (middle : World) × CalmRow front old middle × CalmRow back middle new
row_split [] back old new row = (old, ([], All-nil IsOfStreams, refl), row)
row_split (access ∷ front) back old new row =
    let rest = row_split front back (happens (after_steps row.0 old) access) new row.3 in
    (rest.0, (row.0, row.1, row.2, rest.1), rest.2)

-- ---- as it is told

pub record IsToldRow (accesses : List Event) (old : Telling) (new : World) : Type 0 where
  pub telling : Telling
  pub made : MakesBy accesses old telling
  pub steps : List Step
  pub are : All IsOfStreams steps
  pub leads : new ≡ after_steps steps (world_of telling)

honest_after : (steps : List Step) (event : Event) (world : World) → IsHonest (after_steps steps world) event → AreHonest (map Stepped steps ++ event ∷ []) world
honest_after [] event world honest = (honest, tt)
honest_after (one ∷ steps) event world honest = (tt, honest_after steps event (after_step one world) honest)

pub told_row : (accesses : List Event) (old : Telling) (new : World) → CalmRow accesses (world_of old) new → IsToldRow accesses old new
told_row [] old new row = record { telling = old; made = refl; steps = row.0; are = row.1; leads = row.2 }
told_row (access ∷ accesses) old new row =
    let middle : Telling = record { start = old.start; journal = old.journal ++ (map Stepped row.0 ++ access ∷ []) } in
    let there : happens (after_steps row.0 (world_of old)) access ≡ world_of middle = sym (after-append old.journal (map Stepped row.0 ++ access ∷ []) old.start ∙ after-stepped row.0 access (world_of old)) in
    let rest = told_row accesses middle new (subst (λ (world : World). CalmRow accesses world new) there row.3) in
    record {
      telling = rest.telling;
      made = (middle, record { steps = row.0; went = record { start = refl; journal = refl; honest = honest_after row.0 access (world_of old) row.2 } }, rest.made);
      steps = rest.steps;
      are = rest.are;
      leads = rest.leads;
    }

-- what is told of a world alone
abbrev pub just : World → Telling
just world = record { start = world; journal = [] }

-- ---- the events of a call

-- a step of streams, or an access
abbrev pub IsCalm : Event → Type 0
IsCalm (Stepped step) = IsOfStreams step
IsCalm Begin = ⊥
IsCalm End = ⊥
IsCalm (Read at width value) = Unit {0}
IsCalm (Write at width value) = Unit {0}
IsCalm (DmaRead at bytes) = Unit {0}
IsCalm (DmaWrite at bytes) = Unit {0}

snoc_all : (steps : List Step) (one : Step) → All IsOfStreams steps → IsOfStreams one → All IsOfStreams (steps ++ one ∷ [])
snoc_all [] one are is = All-cons IsOfStreams one [] is (All-nil IsOfStreams)
snoc_all (first ∷ steps) one are is = All-cons IsOfStreams first (steps ++ one ∷ []) (All-head IsOfStreams first steps are) (snoc_all steps one (All-tail IsOfStreams first steps are) is)

-- events of a call are a row of their accesses, behind steps that were made
row_behind : (body : List Event) (steps : List Step) (world : World) → All IsOfStreams steps → All IsCalm body → AreHonest body (after_steps steps world) → CalmRow (accesses_of body) world (after body (after_steps steps world))
row_behind [] steps world are calm honest = (steps, are, refl)
row_behind (Stepped one ∷ body) steps world are calm honest =
    let more = snoc_all steps one are (All-head IsCalm (Stepped one) body calm) in
    let same : after_steps (steps ++ one ∷ []) world ≡ after_step one (after_steps steps world) = after_steps-append steps (one ∷ []) world in
    subst (λ (now : World). CalmRow (accesses_of body) world (after body now)) same
    (row_behind body (steps ++ one ∷ []) world more (All-tail IsCalm (Stepped one) body calm) (subst (AreHonest body) (sym same) honest.1))
row_behind (Begin ∷ body) steps world are calm honest = absurd (All-head IsCalm Begin body calm)
row_behind (End ∷ body) steps world are calm honest = absurd (All-head IsCalm End body calm)
row_behind (Read at width value ∷ body) steps world are calm honest =
    (steps, are, honest.0, row_behind body [] (happens (after_steps steps world) (Read at width value)) (All-nil IsOfStreams) (All-tail IsCalm (Read at width value) body calm) honest.1)
row_behind (Write at width value ∷ body) steps world are calm honest =
    (steps, are, honest.0, row_behind body [] (happens (after_steps steps world) (Write at width value)) (All-nil IsOfStreams) (All-tail IsCalm (Write at width value) body calm) honest.1)
row_behind (DmaRead at bytes ∷ body) steps world are calm honest =
    (steps, are, honest.0, row_behind body [] (happens (after_steps steps world) (DmaRead at bytes)) (All-nil IsOfStreams) (All-tail IsCalm (DmaRead at bytes) body calm) honest.1)
row_behind (DmaWrite at bytes ∷ body) steps world are calm honest =
    (steps, are, honest.0, row_behind body [] (happens (after_steps steps world) (DmaWrite at bytes)) (All-nil IsOfStreams) (All-tail IsCalm (DmaWrite at bytes) body calm) honest.1)

pub row_of : (body : List Event) (world : World) → All IsCalm body → AreHonest body world → CalmRow (accesses_of body) world (after body world)
row_of body world calm honest = row_behind body [] world (All-nil IsOfStreams) calm honest

-- ---- groups and accesses

-- the events of a call between its begin and its end
abbrev pub within_call : List Group → List Event → List Event
within_call groups accesses = woven groups accesses ++ all_steps_in (drop (length accesses) groups)

no_more : (n : ℕ) → all_steps_in (drop n []) ≡ []
no_more zero = refl
no_more (suc n) = refl

-- where no group is left the accesses stand alone
pub within_alone : (access : Event) (accesses : List Event) → within_call [] (access ∷ accesses) ≡ access ∷ within_call [] accesses
within_alone access accesses = ap (λ (steps : List Event). access ∷ (woven [] accesses ++ steps)) (sym (no_more (length accesses)))

calm_both : (front back : List Event) → All IsCalm front → All IsCalm back → All IsCalm (front ++ back)
calm_both [] back first second = second
calm_both (event ∷ front) back first second = All-cons IsCalm event (front ++ back) (All-head IsCalm event front first) (calm_both front back (All-tail IsCalm event front first) second)

calm_steps : (steps : List Step) → All IsOfStreams steps → All IsCalm (map Stepped steps)
calm_steps [] are = All-nil IsCalm
calm_steps (one ∷ steps) are = All-cons IsCalm (Stepped one) (map Stepped steps) (All-head IsOfStreams one steps are) (calm_steps steps (All-tail IsOfStreams one steps are))

calm_groups : (groups : List Group) → All HasStreamsAlone groups → All IsCalm (all_steps_in groups)
calm_groups [] are = All-nil IsCalm
calm_groups (group ∷ groups) are = calm_both (steps_in group) (all_steps_in groups) (calm_steps group.steps (All-head HasStreamsAlone group groups are)) (calm_groups groups (All-tail HasStreamsAlone group groups are))

calm_access : (event : Event) → is_access event ≡ true → IsCalm event
calm_access (Stepped step) is = cc
calm_access Begin is = cc
calm_access End is = cc
calm_access (Read at width value) is = tt
calm_access (Write at width value) is = tt
calm_access (DmaRead at bytes) is = tt
calm_access (DmaWrite at bytes) is = tt

calm_alone : (accesses : List Event) → AreAccesses accesses → All IsCalm accesses
calm_alone [] are = All-nil IsCalm
calm_alone (access ∷ accesses) are = All-cons IsCalm access accesses (calm_access access (All-head IsAccess access accesses are)) (calm_alone accesses (All-tail IsAccess access accesses are))

pub calm_call : (groups : List Group) (accesses : List Event) → All HasStreamsAlone groups → AreAccesses accesses → All IsCalm (within_call groups accesses)
calm_call groups [] are made = calm_groups groups are
calm_call [] (access ∷ accesses) are made =
    subst (All IsCalm) (sym (within_alone access accesses))
    (All-cons IsCalm access (within_call [] accesses) (calm_access access (All-head IsAccess access accesses made)) (calm_call [] accesses are (All-tail IsAccess access accesses made)))
calm_call (group ∷ groups) (access ∷ accesses) are made =
    subst (All IsCalm) (sym (append_assoc (steps_in group) (access ∷ woven groups accesses) (all_steps_in (drop (length accesses) groups))))
    (calm_both (steps_in group) (access ∷ within_call groups accesses) (calm_steps group.steps (All-head HasStreamsAlone group groups are))
    (All-cons IsCalm access (within_call groups accesses) (calm_access access (All-head IsAccess access accesses made))
    (calm_call groups accesses (All-tail HasStreamsAlone group groups are) (All-tail IsAccess access accesses made))))

-- ---- their accesses

no_steps : (steps : List Step) (rest : List Event) → accesses_of (map Stepped steps ++ rest) ≡ accesses_of rest
no_steps [] rest = refl
no_steps (one ∷ steps) rest = no_steps steps rest

access_first : (event : Event) (rest : List Event) → is_access event ≡ true → accesses_of (event ∷ rest) ≡ event ∷ accesses_of rest
access_first event rest is = ap (λ (access : Bool). if access then event ∷ accesses_of rest else accesses_of rest) is

pub accesses_are : (groups : List Group) (accesses : List Event) → AreAccesses accesses → accesses_of (within_call groups accesses) ≡ accesses
accesses_are groups [] made = groups_none groups
accesses_are [] (access ∷ accesses) made =
    ap accesses_of (within_alone access accesses) ∙ access_first access (within_call [] accesses) (All-head IsAccess access accesses made) ∙ ap (λ (rest : List Event). access ∷ rest) (accesses_are [] accesses (All-tail IsAccess access accesses made))
accesses_are (group ∷ groups) (access ∷ accesses) made =
    ap accesses_of (append_assoc (steps_in group) (access ∷ woven groups accesses) (all_steps_in (drop (length accesses) groups)))
    ∙ no_steps group.steps (access ∷ within_call groups accesses)
    ∙ access_first access (within_call groups accesses) (All-head IsAccess access accesses made)
    ∙ ap (λ (rest : List Event). access ∷ rest) (accesses_are groups accesses (All-tail IsAccess access accesses made))
