-- Rules that did not begin: what keeps them waiting, and that it is progress so long.
use Rattle.std.proofs.Common.{◌≡◌, Bool, true, false, List, [], ◌∷◌, map, Option, None, Some, refl, sym, ap, subst, ◌∙◌, if◌then◌else◌}
use Rattle.std.specs.Prelude.{All}
use Rattle.std.proofs.lemmas.Bool.{false≢true}
use Rattle.std.proofs.lemmas.List.Elements.{All-head, All-tail}
use Rattle.world_steps.specs.declared.Step.{Step}
use Rattle.hda_world.specs.Worlds.{World}
use Rattle.hda_world.specs.Events.{Event, Stepped, Begin, End, Read, Write, DmaRead, DmaWrite, happens}
use Rattle.hda_world.specs.Tellings.{Telling, world_of, Went}
use Rattle.driver_progress.specs.Tasks.{Task, DriverLine}
use Rattle.driver_progress.specs.Progress.{Trail, trail_of, trail_opened, Fits, FitsAt, Conforms, IsProgress}
use Rattle.driver_rules.specs.Findings.{findings_of}
use Rattle.driver_rules.specs.Rules.{Rules}
use Rattle.driver_rules.specs.Onward.{Onward, onward_opened, is_turn, begun_if, later_begun, later_ended, onward_noted, onward_after, FitsBy, FitsOnwardAt, ConformsOnward, onward_of, later_of, later_last, IsOnward, IsAtOnwardRest, IsNoBegin}
use Rattle.driver_rules.proofs.Onwards.{trail_noted, trail_is, onward_went, steps_leave_onward}

module _ {S : Type 0} (rules : Rules S) where
  -- ---- once the rules began they go on

  -- something is kept
  abbrev pub Keeps : Option S → Type 0
  Keeps later = (state : S) × (later ≡ Some state)

  begun_on : (trail : Trail) (later : Option S) → Keeps later → Keeps (later_begun rules trail later)
  begun_on trail None keeps = cc
  begun_on trail (Some later) keeps = (later, refl)

  ended_on : (trail : Trail) (answered : Bool) (later : Option S) → Keeps later → Keeps (later_ended rules trail.turn trail.made answered later)
  ended_on trail answered None keeps = cc
  ended_on trail answered (Some later) keeps = (rules.next later trail.turn (findings_of trail.made answered), refl)

  noted_on : (task : Task) (onward : Onward S) (world : World) (event : Event) → Keeps onward.later → Keeps (onward_noted rules task onward world event).later
  noted_on task onward world (Stepped step) keeps = keeps
  noted_on task onward world Begin keeps = begun_on onward.trail onward.later keeps
  noted_on task onward world End keeps = ended_on onward.trail onward.answered onward.later keeps
  noted_on task onward world (Read at width value) keeps = keeps
  noted_on task onward world (Write at width value) keeps = keeps
  noted_on task onward world (DmaRead at bytes) keeps = keeps
  noted_on task onward world (DmaWrite at bytes) keeps = keeps

  kept_on : (task : Task) (events : List Event) (world : World) (onward : Onward S) → Keeps onward.later → Keeps (onward_after rules task events world onward).later
  kept_on task [] world onward keeps = keeps
  kept_on task (event ∷ events) world onward keeps = kept_on task events (happens world event) (onward_noted rules task onward world event) (noted_on task onward world event keeps)

  none_kept : (later : Option S) → later ≡ None → Keeps later → ⊥
  none_kept later none keeps = cc

  -- so where they wait after some events they waited before them
  none_before : (later : Option S) → (Keeps later → ⊥) → later ≡ None
  none_before None never = refl
  none_before (Some state) never = absurd (never (state, refl))

  pub waited : (task : Task) (events : List Event) (world : World) (onward : Onward S) → (onward_after rules task events world onward).later ≡ None → onward.later ≡ None
  waited task events world onward none =
      none_before onward.later (λ keeps. none_kept (onward_after rules task events world onward).later none (kept_on task events world onward keeps))

  -- ---- while they wait it is progress

  waits_fit : (task : Task) (onward : Onward S) (event : Event) → onward.later ≡ None → FitsAt task onward.trail event → FitsOnwardAt rules task onward event
  waits_fit task onward (Stepped step) none fits = tt
  waits_fit task onward Begin none fits = tt
  waits_fit task onward End none fits = subst (FitsBy rules task onward.trail onward.answered) (sym none) fits
  waits_fit task onward (Read at width value) none fits = tt
  waits_fit task onward (Write at width value) none fits = tt
  waits_fit task onward (DmaRead at bytes) none fits = tt
  waits_fit task onward (DmaWrite at bytes) none fits = tt

  pub waits_conforms : (task : Task) (events : List Event) (world : World) (onward : Onward S) → Conforms task events world onward.trail
      → (onward_after rules task events world onward).later ≡ None → ConformsOnward rules task events world onward
  waits_conforms task [] world onward conforms none = tt
  waits_conforms task (event ∷ events) world onward conforms none = (
    waits_fit task onward event (waited task (event ∷ events) world onward none) conforms.0,
    waits_conforms task events (happens world event) (onward_noted rules task onward world event)
        (subst (Conforms task events (happens world event)) (sym (trail_noted rules task onward world event)) conforms.1) none,
  )

  -- ---- what keeps them waiting: steps, and a stretch that is no line's in `Ready`

  ended_waits : (trail : Trail) (answered : Bool) (later : Option S) → later ≡ None → later_ended rules trail.turn trail.made answered later ≡ None
  ended_waits trail answered None none = refl
  ended_waits trail answered (Some later) none = cc

  noted_waits : (task : Task) (onward : Onward S) (world : World) (event : Event) → IsNoBegin event → onward.later ≡ None → (onward_noted rules task onward world event).later ≡ None
  noted_waits task onward world (Stepped step) plain none = none
  noted_waits task onward world Begin plain none = absurd plain
  noted_waits task onward world End plain none = ended_waits onward.trail onward.answered onward.later none
  noted_waits task onward world (Read at width value) plain none = none
  noted_waits task onward world (Write at width value) plain none = none
  noted_waits task onward world (DmaRead at bytes) plain none = none
  noted_waits task onward world (DmaWrite at bytes) plain none = none

  waits_on : (task : Task) (events : List Event) (world : World) (onward : Onward S) → All IsNoBegin events → onward.later ≡ None → (onward_after rules task events world onward).later ≡ None
  waits_on task [] world onward all none = none
  waits_on task (event ∷ events) world onward all none =
      waits_on task events (happens world event) (onward_noted rules task onward world event) (All-tail IsNoBegin event events all) (noted_waits task onward world event (All-head IsNoBegin event events all) none)

  begun_waits : (trail : Trail) (later : Option S) → later ≡ None → is_turn trail ≡ false → later_begun rules trail later ≡ None
  begun_waits trail None none turns = ap (λ (turns : Bool). begun_if rules turns trail) turns
  begun_waits trail (Some later) none turns = cc

  pub waits_stretch : (task : Task) (lines : List DriverLine) (rest : List Event) (old new : Telling) → Went old new (Begin ∷ rest) → All IsNoBegin rest
      → is_turn (trail_of task lines old) ≡ false → (onward_of rules task lines old).later ≡ None → (onward_of rules task lines new).later ≡ None
  waits_stretch task lines rest old new went all turns none =
      let onward = onward_of rules task lines old in
      ap (λ (onward : Onward S). onward.later) (onward_went rules task lines old new (Begin ∷ rest) went)
      ∙ waits_on task rest (happens (world_of old) Begin) (onward_noted rules task onward (world_of old) Begin) all
      (begun_waits onward.trail onward.later none (ap is_turn (trail_is rules task lines old) ∙ turns))

  pub waits_steps : (task : Task) (lines : List DriverLine) (steps : List Step) (old new : Telling) → Went old new (map Stepped steps)
      → (onward_of rules task lines old).later ≡ None → (onward_of rules task lines new).later ≡ None
  waits_steps task lines steps old new went none =
      ap (λ (onward : Onward S). onward.later) (onward_went rules task lines old new (map Stepped steps) went ∙ steps_leave_onward rules task steps (world_of old) (onward_of rules task lines old))
      ∙ none

  -- ---- between two stretches, and at the end of all

  pub rest_waits : (task : Task) (lines left : List DriverLine) (telling : Telling) → Conforms task telling.journal telling.start (trail_opened lines)
      → (trail_of task lines telling).within ≡ false → (trail_of task lines telling).left ≡ left → (onward_of rules task lines telling).later ≡ None
      → IsAtOnwardRest rules task lines left None telling
  rest_waits task lines left telling conforms within left_is none = record {
    conforms = waits_conforms task telling.journal telling.start (onward_opened lines) conforms none;
    within = ap (λ (trail : Trail). trail.within) (trail_is rules task lines telling) ∙ within;
    left_is = ap (λ (trail : Trail). trail.left) (trail_is rules task lines telling) ∙ left_is;
    later_is = none;
  }

  last_waits : (onward : Onward S) → onward.later ≡ None → later_last rules onward ≡ None
  last_waits onward none = by onward.trail.within
    where
      by : (within : Bool) → (if within then later_ended rules onward.trail.turn onward.trail.made onward.answered onward.later else onward.later) ≡ None
      by true = ended_waits onward.trail onward.answered onward.later none
      by false = none

  pub progress_waits : (task : Task) (lines : List DriverLine) (telling : Telling) → IsProgress task lines telling → (onward_of rules task lines telling).later ≡ None
      → IsOnward rules task lines telling × (later_of rules task lines telling ≡ None)
  progress_waits task lines telling progress none =
      let onward = onward_of rules task lines telling in (
        record {
          conforms = waits_conforms task telling.journal telling.start (onward_opened lines) progress.conforms none;
          last = λ within. subst (FitsBy rules task onward.trail onward.answered) (sym none)
              (subst (Fits task) (sym (trail_is rules task lines telling)) (progress.last (ap (λ (trail : Trail). trail.within) (sym (trail_is rules task lines telling)) ∙ within)));
        },
        last_waits onward none,
      )

  -- where it is at rest by the rules it goes by them to the end
  pub rest_onward : (task : Task) (lines left : List DriverLine) (later : Option S) (telling : Telling) → IsAtOnwardRest rules task lines left later telling
      → IsOnward rules task lines telling × (later_of rules task lines telling ≡ later)
  rest_onward task lines left later telling rest =
      let onward = onward_of rules task lines telling in (
        record { conforms = rest.conforms; last = λ within. absurd (false≢true (sym rest.within ∙ within)) },
        ap (λ (within : Bool). if within then later_ended rules onward.trail.turn onward.trail.made onward.answered onward.later else onward.later) rest.within ∙ rest.later_is,
      )
