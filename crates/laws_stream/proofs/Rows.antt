-- What holds of all accesses of a row, and of the events of it.
use Rattle.std.proofs.Common.{◌≡◌, List, [], ◌∷◌, ◌++◌, map, refl, sym, ap, subst, ◌∙◌, append_assoc}
use Rattle.std.specs.Prelude.{All}
use Rattle.std.proofs.lemmas.List.{append_cancel_left}
use Rattle.std.proofs.lemmas.List.Elements.{All-append, All-cons, All-head, All-nil, All-tail}
use Rattle.world_steps.specs.declared.Step.{Step}
use Rattle.hda_world.specs.Worlds.{World}
use Rattle.hda_world.specs.Events.{Event, Stepped, Begin, End, Read, Write, DmaRead, DmaWrite, happens, after, IsNoStep}
use Rattle.hda_world.specs.Tellings.{Telling, Went}
use Rattle.hda_world.specs.Moments.{AreWoven}
use Rattle.hda_world.proofs.Callers.{access_leaves}

pub all_map : {X : Type 0} (P : Event → Type 0) (f : X → Event) → ((x : X) → P (f x)) → (xs : List X) → All P (map f xs)
all_map {X} P f each [] = All-nil P
all_map {X} P f each (x ∷ xs) = All-cons P (f x) (map f xs) (each x) (all_map P f each xs)

-- steps of the device and the accesses between which they come
pub woven_all : (P : Event → Type 0) → ((step : Step) → P (Stepped step)) → (made events : List Event) → AreWoven made events → All P made → All P events
woven_all P stepped [] events none all = subst (All P) (sym none) (All-nil P)
woven_all P stepped (access ∷ made) events (steps, rest, are, more) all =
    subst (All P) (sym are)
    (All-append P (map Stepped steps) (access ∷ rest) (all_map P Stepped stepped steps)
    (All-cons P access rest (All-head P access made all) (woven_all P stepped made rest more (All-tail P access made all))))

-- the last access is the last event, and what holds of the accesses before it holds of the events before it
pub woven_before : (P : Event → Type 0) → ((step : Step) → P (Stepped step)) → (front : List Event) (last : Event) (events : List Event) → AreWoven (front ++ last ∷ []) events → All P front
    → (during : List Event) × (events ≡ during ++ last ∷ []) × All P during
woven_before P stepped [] last events (steps, rest, are, none) all =
    (map Stepped steps, are ∙ ap (λ (rest : List Event). map Stepped steps ++ last ∷ rest) none, all_map P Stepped stepped steps)
woven_before P stepped (access ∷ front) last events (steps, rest, are, more) all =
    let (during, is, before) = woven_before P stepped front last rest more (All-tail P access front all) in (
      map Stepped steps ++ access ∷ during,
      are ∙ ap (λ (rest : List Event). map Stepped steps ++ access ∷ rest) is ∙ sym (append_assoc (map Stepped steps) (access ∷ during) (last ∷ [])),
      All-append P (map Stepped steps) (access ∷ during) (all_map P Stepped stepped steps) (All-cons P access during (All-head P access front all) before),
    )

pub woven_last : (front : List Event) (last : Event) (events : List Event) → AreWoven (front ++ last ∷ []) events → (during : List Event) × (events ≡ during ++ last ∷ [])
woven_last front last events woven =
    let (during, is, all) = woven_before (λ event. Unit {0}) (λ step. tt {0}) front last events woven (λ place other within. tt {0}) in (during, is)

-- what the journal gained is one list of events
pub went_same : (old new : Telling) (one other : List Event) → Went old new one → Went old new other → one ≡ other
went_same old new one other first second = append_cancel_left old.journal one other (sym first.journal ∙ second.journal)

-- ---- where the device makes no step

-- the events are the accesses
pub woven_alone : (made events : List Event) → AreWoven made events → All IsNoStep events → events ≡ made
woven_alone [] events none alone = none
woven_alone (access ∷ made) events ([], rest, are, more) alone =
    let later = subst (All IsNoStep) are alone in
    are ∙ ap (λ (rest : List Event). access ∷ rest) (woven_alone made rest more (All-tail IsNoStep access rest later))
woven_alone (access ∷ made) events (step ∷ steps, rest, are, more) alone =
    absurd (All-head IsNoStep (Stepped step) (map Stepped steps ++ access ∷ rest) (subst (All IsNoStep) are alone))

-- no link frame passes
carried_event : (event : Event) (world : World) → IsNoStep event → (happens world event).carried ≡ world.carried
carried_event (Stepped step) world none = absurd none
carried_event Begin world none = refl
carried_event End world none = refl
carried_event (Read at width value) world none = refl
carried_event (Write at width value) world none = (access_leaves world at value width).carried
carried_event (DmaRead at bytes) world none = refl
carried_event (DmaWrite at bytes) world none = refl

pub carried_alone : (events : List Event) (world : World) → All IsNoStep events → (after events world).carried ≡ world.carried
carried_alone [] world alone = refl
carried_alone (event ∷ events) world alone =
    carried_alone events (happens world event) (All-tail IsNoStep event events alone) ∙ carried_event event world (All-head IsNoStep event events alone)
