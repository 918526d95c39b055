-- The part of a journal since the turn, over events that go on, and what it says of jacks.
use Rattle.std.proofs.Common.{◌≡◌, ℕ, Bool, true, false, if◌then◌else◌, List, [], ◌∷◌, ◌++◌, map, Option, None, Some, refl, sym, ap, subst, ◌∙◌}
use Rattle.world_steps.specs.declared.Step.{Step}
use Rattle.hda_world.specs.Worlds.{World}
use Rattle.hda_world.specs.Events.{Event, Stepped, Begin, End, Read, Write, DmaRead, DmaWrite, happens, after}
use Rattle.hda_world.specs.Moments.{AreWoven}
use Rattle.hda_world.specs.Tellings.{Telling, world_of, Went, Accessed}
use Rattle.driver_progress.specs.Tasks.{Task, DriverLine}
use Rattle.driver_progress.specs.Progress.{Trail, trail_of, trail_opened, noted, trail_after}
use Rattle.driver_rules.specs.Rules.{Rules}
use Rattle.driver_rules.specs.Onward.{Onward, is_turn, begun_if, later_begun, later_ended, onward_opened, onward_noted, onward_after, onward_of}
use Rattle.driver_rules.proofs.Callers.{waited}
use Rattle.jack_rules.specs.declared.pins.SpeakerPin.{SpeakerPin}
use Rattle.laws_switching.specs.Since.{turns_at, since_turn, since_ready}
use Rattle.laws_switching.specs.Senses.{Senses, senses_noted, senses_after, AreDecided}

some_none : {S : Type 0} (state : S) → Some state ≡ None → ⊥
some_none state is = cc

cons_none : {X : Type 0} (x : X) (xs : List X) → x ∷ xs ≡ [] → ⊥
cons_none x xs is = cc

-- ---- the part since the turn

module _ (task : Task) where
  -- once it began all that happens is added
  pub since_more : (front back : List Event) (world : World) (trail : Trail) (first : Event) (rest : List Event) → since_turn task front world trail ≡ first ∷ rest
      → since_turn task (front ++ back) world trail ≡ since_turn task front world trail ++ back
  since_more [] back world trail first rest is = absurd (cons_none first rest (sym is))
  since_more (event ∷ front) back world trail first rest is =
      by (turns_at trail event) (λ is. since_more front back (happens world event) (noted task trail world event) first rest is) is
    where
      by : (turns : Bool)
          → (since_turn task front (happens world event) (noted task trail world event) ≡ first ∷ rest → since_turn task (front ++ back) (happens world event) (noted task trail world event)
          ≡ since_turn task front (happens world event) (noted task trail world event) ++ back)
          → (if turns then event ∷ front else since_turn task front (happens world event) (noted task trail world event)) ≡ first ∷ rest
          → (if turns then event ∷ (front ++ back) else since_turn task (front ++ back) (happens world event) (noted task trail world event))
          ≡ (if turns then event ∷ front else since_turn task front (happens world event) (noted task trail world event)) ++ back
      by true later is = refl
      by false later is = later is

  -- before it began it is that of what happens
  since_first : (front back : List Event) (world : World) (trail : Trail) → since_turn task front world trail ≡ []
      → since_turn task (front ++ back) world trail ≡ since_turn task back (after front world) (trail_after task front world trail)
  since_first [] back world trail none = refl
  since_first (event ∷ front) back world trail none =
      by (turns_at trail event) (λ none. since_first front back (happens world event) (noted task trail world event) none) none
    where
      by : (turns : Bool)
          → (since_turn task front (happens world event) (noted task trail world event) ≡ [] → since_turn task (front ++ back) (happens world event) (noted task trail world event)
          ≡ since_turn task back (after front (happens world event)) (trail_after task front (happens world event) (noted task trail world event)))
          → (if turns then event ∷ front else since_turn task front (happens world event) (noted task trail world event)) ≡ []
          → (if turns then event ∷ (front ++ back) else since_turn task (front ++ back) (happens world event) (noted task trail world event))
          ≡ since_turn task back (after front (happens world event)) (trail_after task front (happens world event) (noted task trail world event))
      by true later is = absurd (cons_none event front is)
      by false later is = later is

  since_begin : (steps : List Step) (world : World) (trail : Trail) → is_turn trail ≡ true → since_turn task (map Stepped steps ++ Begin ∷ []) world trail ≡ Begin ∷ []
  since_begin [] world trail turns = ap (λ (turns : Bool). if turns then Begin ∷ [] else []) turns
  since_begin (step ∷ steps) world trail turns = since_begin steps (happens world (Stepped step)) trail turns

  module _ {S : Type 0} (rules : Rules S) where
    begun_not : (trail : Trail) (later : Option S) → later ≡ None → later_begun rules trail later ≡ None → is_turn trail ≡ false
    begun_not trail None none waits = by (is_turn trail) refl waits
      where
        by : (turns : Bool) → is_turn trail ≡ turns → begun_if rules turns trail ≡ None → is_turn trail ≡ false
        by true is waits = absurd (some_none (rules.begin trail.state.rings) waits)
        by false is waits = is
    begun_not trail (Some later) none waits = absurd (some_none later none)

    trail_same : (onward : Onward S) (world : World) (event : Event) → (onward_noted rules task onward world event).trail ≡ noted task onward.trail world event
    trail_same onward world (Stepped step) = refl
    trail_same onward world Begin = refl
    trail_same onward world End = refl
    trail_same onward world (Read at width value) = refl
    trail_same onward world (Write at width value) = refl
    trail_same onward world (DmaRead at bytes) = refl
    trail_same onward world (DmaWrite at bytes) = refl

    -- while the rules wait
    waits_at : (onward : Onward S) (world : World) (event : Event) → onward.later ≡ None → (onward_noted rules task onward world event).later ≡ None → turns_at onward.trail event ≡ false
    waits_at onward world (Stepped step) none later = refl
    waits_at onward world Begin none later = begun_not onward.trail onward.later none later
    waits_at onward world End none later = refl
    waits_at onward world (Read at width value) none later = refl
    waits_at onward world (Write at width value) none later = refl
    waits_at onward world (DmaRead at bytes) none later = refl
    waits_at onward world (DmaWrite at bytes) none later = refl

    since_waits : (events : List Event) (world : World) (onward : Onward S) → (onward_after rules task events world onward).later ≡ None → since_turn task events world onward.trail ≡ []
    since_waits [] world onward none = refl
    since_waits (event ∷ events) world onward none =
        let next = onward_noted rules task onward world event in
        let is : turns_at onward.trail event ≡ false =
        waits_at onward world event (waited rules task (event ∷ events) world onward none) (waited rules task events (happens world event) next none) in
        ap (λ (turns : Bool). if turns then event ∷ events else since_turn task events (happens world event) (noted task onward.trail world event)) is
        ∙ ap (λ (trail : Trail). since_turn task events (happens world event) trail) (sym (trail_same onward world event))
        ∙ since_waits events (happens world event) next none

    -- and where there is none they wait
    noted_none : (onward : Onward S) (world : World) (event : Event) → onward.later ≡ None → turns_at onward.trail event ≡ false → (onward_noted rules task onward world event).later ≡ None
    noted_none onward world (Stepped step) none turns = none
    noted_none onward world Begin none turns = ap (later_begun rules onward.trail) none ∙ ap (λ (turns : Bool). begun_if rules turns onward.trail) turns
    noted_none onward world End none turns = ap (λ (later : Option S). later_ended rules onward.trail.turn onward.trail.made onward.answered later) none
    noted_none onward world (Read at width value) none turns = none
    noted_none onward world (Write at width value) none turns = none
    noted_none onward world (DmaRead at bytes) none turns = none
    noted_none onward world (DmaWrite at bytes) none turns = none

    none_waits : (events : List Event) (world : World) (onward : Onward S) → onward.later ≡ None → since_turn task events world onward.trail ≡ [] → (onward_after rules task events world onward).later ≡ None
    none_waits [] world onward none is = none
    none_waits (event ∷ events) world onward none is =
        by (turns_at onward.trail event) refl
        (λ at is.
        none_waits events (happens world event) (onward_noted rules task onward world event) (noted_none onward world event none at)
        (ap (λ (trail : Trail). since_turn task events (happens world event) trail) (trail_same onward world event) ∙ is)) is
      where
        by : (turns : Bool) → turns_at onward.trail event ≡ turns
            → (turns_at onward.trail event ≡ false → since_turn task events (happens world event) (noted task onward.trail world event) ≡ []
            → (onward_after rules task events (happens world event) (onward_noted rules task onward world event)).later ≡ None)
            → (if turns then event ∷ events else since_turn task events (happens world event) (noted task onward.trail world event)) ≡ []
            → (onward_after rules task events (happens world event) (onward_noted rules task onward world event)).later ≡ None
        by true at later is = absurd (cons_none event events is)
        by false at later is = later at is

-- ---- as it is told

module _ (task : Task) (lines : List DriverLine) where
  -- the turn came
  pub record HasBegun (telling : Telling) : Type 0 where
    pub first : Event
    pub rest : List Event
    pub is : since_ready task lines telling ≡ first ∷ rest

  pub begun_by : {S : Type 0} (rules : Rules S) (state : S) (telling : Telling) → (onward_of rules task lines telling).later ≡ Some state → HasBegun telling
  begun_by {S} rules state telling kept = by (since_ready task lines telling) refl
    where
      by : (part : List Event) → since_ready task lines telling ≡ part → HasBegun telling
      by [] none = absurd (some_none state (sym kept ∙ none_waits task rules telling.journal telling.start (onward_opened lines) refl none))
      by (first ∷ rest) is = record { first = first; rest = rest; is = is }

  pub since_went : (old new : Telling) (events : List Event) → Went old new events → HasBegun old → since_ready task lines new ≡ since_ready task lines old ++ events
  since_went old new events went begun =
      ap (λ (start : World). since_turn task new.journal start (trail_opened lines)) went.start
      ∙ ap (λ (journal : List Event). since_turn task journal old.start (trail_opened lines)) went.journal
      ∙ since_more task old.journal events old.start (trail_opened lines) begun.first begun.rest begun.is

  pub since_turned : {S : Type 0} (rules : Rules S) (old new : Telling) → Accessed old new Begin → is_turn (trail_of task lines old) ≡ true → (onward_of rules task lines old).later ≡ None → since_ready task lines new ≡ Begin ∷ []
  since_turned {S} rules old new accessed turns none =
      ap (λ (start : World). since_turn task new.journal start (trail_opened lines)) accessed.went.start
      ∙ ap (λ (journal : List Event). since_turn task journal old.start (trail_opened lines)) accessed.went.journal
      ∙ since_first task old.journal (map Stepped accessed.steps ++ Begin ∷ []) old.start (trail_opened lines) (since_waits task rules old.journal old.start (onward_opened lines) none)
      ∙ since_begin task accessed.steps (world_of old) (trail_of task lines old) turns

-- ---- what it says of jacks

module _ (corb rirb : ℕ) where
  pub senses_both : (front back : List Event) (senses : Senses) → senses_after corb rirb (front ++ back) senses ≡ senses_after corb rirb back (senses_after corb rirb front senses)
  senses_both [] back senses = refl
  senses_both (event ∷ front) back senses = senses_both front back (senses_noted corb rirb senses event)

  pub decided_both : (speakers : List SpeakerPin) (front back : List Event) (senses : Senses) → AreDecided corb rirb speakers front senses → AreDecided corb rirb speakers back (senses_after corb rirb front senses)
      → AreDecided corb rirb speakers (front ++ back) senses
  decided_both speakers [] back senses first second = second
  decided_both speakers (event ∷ front) back senses first second = (first.0, decided_both speakers front back (senses_noted corb rirb senses event) first.1 second)

  -- steps of the device say nothing
  pub steps_sense : (steps : List Step) (rest : List Event) (senses : Senses) → senses_after corb rirb (map Stepped steps ++ rest) senses ≡ senses_after corb rirb rest senses
  steps_sense [] rest senses = refl
  steps_sense (step ∷ steps) rest senses = steps_sense steps rest senses

  pub steps_decided : (speakers : List SpeakerPin) (steps : List Step) (rest : List Event) (senses : Senses) → AreDecided corb rirb speakers rest senses → AreDecided corb rirb speakers (map Stepped steps ++ rest) senses
  steps_decided speakers [] rest senses are = are
  steps_decided speakers (step ∷ steps) rest senses are = (tt {0}, steps_decided speakers steps rest senses are)

  pub woven_senses : (made events : List Event) (senses : Senses) → AreWoven made events → senses_after corb rirb events senses ≡ senses_after corb rirb made senses
  woven_senses [] events senses none = ap (λ (events : List Event). senses_after corb rirb events senses) none
  woven_senses (event ∷ made) events senses (steps, rest, are, more) =
      ap (λ (events : List Event). senses_after corb rirb events senses) are
      ∙ steps_sense steps (event ∷ rest) senses ∙ woven_senses made rest (senses_noted corb rirb senses event) more

  pub woven_decided : (speakers : List SpeakerPin) (made events : List Event) (senses : Senses) → AreWoven made events → AreDecided corb rirb speakers made senses → AreDecided corb rirb speakers events senses
  woven_decided speakers [] events senses none are = subst (λ (events : List Event). AreDecided corb rirb speakers events senses) (sym none) (tt {0})
  woven_decided speakers (event ∷ made) events senses (steps, rest, is, more) are =
      subst (λ (events : List Event). AreDecided corb rirb speakers events senses) (sym is)
      (steps_decided speakers steps (event ∷ rest) senses (are.0, woven_decided speakers made rest (senses_noted corb rirb senses event) more are.1))
