-- A tally that rules take up as progress does is that of the trail beside them.
use Rattle.std.proofs.Common.{◌≡◌, Bool, true, false, List, [], ◌∷◌, length, Option, None, Some, refl, sym, ap, subst, ◌∙◌, if◌then◌else◌}
use Rattle.hda_registers.specs.declared.places.TheConstants.{WALCLK}
use Rattle.hda_world.specs.Worlds.{World}
use Rattle.hda_world.specs.Events.{Event, Stepped, Begin, End, Read, Write, DmaRead, DmaWrite, happens}
use Rattle.hda_world.specs.Tellings.{Telling, world_of, Went, Accessed}
use Rattle.period_writer.specs.declared.registers.TheConstants.{POSITION}
use Rattle.period_writer.specs.Runs.{Tally, measures, taken_up, tally_of_stretches}
use Rattle.command_engine.specs.declared.ring_places.RingPlaces.{RingPlaces}
use Rattle.driver_progress.specs.Next.{budget_of}
use Rattle.driver_progress.specs.Seen.{values_of}
use Rattle.driver_progress.specs.Stretches.{stretches_of}
use Rattle.driver_progress.specs.Tasks.{Task, DriverLine}
use Rattle.driver_progress.specs.Progress.{Trail, trail_of, ended, ended_last}
use Rattle.driver_progress.proofs.Callers.{recorded_is}
use Rattle.driver_rules.specs.Findings.{findings_of}
use Rattle.driver_rules.specs.Rules.{Rules}
use Rattle.driver_rules.specs.Onward.{Onward, is_turn, later_begun, later_ended, later_last, later_of, onward_noted, onward_after, onward_of}
use Rattle.driver_rules.specs.Notes.{TakesUp, TallyIs}
use Rattle.driver_rules.proofs.Onwards.{trail_is, onward_went, onward_access}
use Rattle.driver_rules.proofs.Going.{turned}

some_same : {S : Type 0} (one other : S) → Some one ≡ Some other → one ≡ other
some_same one other same = cc

module _ {S : Type 0} (rules : Rules S) (tally : S → Tally) (task : Task) where
  -- ---- where they begin

  pub tally_begins : (lines : List DriverLine) (old new : Telling) → Accessed old new Begin → is_turn (trail_of task lines old) ≡ true → (onward_of rules task lines old).later ≡ None
      → tally (rules.begin (trail_of task lines old).state.rings) ≡ (trail_of task lines old).state.tally → TallyIs tally (onward_of rules task lines new)
  tally_begins lines old new accessed turns none same state is =
      let onward = onward_of rules task lines old in
      let trail = trail_is rules task lines old in
      let noted = onward_access rules task lines Begin old new accessed in
      let begun : (onward_of rules task lines new).later ≡ Some (rules.begin onward.trail.state.rings) =
      ap (λ (onward : Onward S). onward.later) noted ∙ turned rules onward.trail onward.later none (ap is_turn trail ∙ turns) in
      let state_is : state ≡ rules.begin onward.trail.state.rings = some_same state (rules.begin onward.trail.state.rings) (sym is ∙ begun) in
      ap tally state_is ∙ ap (λ (trail : Trail). tally (rules.begin trail.state.rings)) trail ∙ same
      ∙ sym (ap (λ (trail : Trail). trail.state.tally) trail)
      ∙ sym (ap (λ (onward : Onward S). onward.trail.state.tally) noted)

  -- ---- from then on

  module _ (takes_up : TakesUp rules tally task) where
    -- where a stretch ends
    ended_tally : (trail : Trail) (answered : Bool) (state : S) → tally state ≡ trail.state.tally
        → tally (rules.next state trail.turn (findings_of trail.made answered)) ≡ (ended task trail).state.tally
    ended_tally trail answered state same =
        takes_up state trail.turn (findings_of trail.made answered)
        ∙ ap (λ (tally : Tally). taken_up (measures task.geometry) (length task.pcm) tally (record { budget = budget_of trail.turn; clocks = values_of trail.made WALCLK; lpibs = values_of trail.made POSITION })) same

    -- something is kept, and its tally is the trail's
    record Agrees (onward : Onward S) : Type 0 where
      state : S
      kept : onward.later ≡ Some state
      same : tally state ≡ onward.trail.state.tally

    agrees_is : (onward : Onward S) → Agrees onward → TallyIs tally onward
    agrees_is onward agrees state is = ap tally (some_same state agrees.state (sym is ∙ agrees.kept)) ∙ agrees.same

    begun_kept : (trail : Trail) (later : Option S) (state : S) → later ≡ Some state → later_begun rules trail later ≡ Some state
    begun_kept trail None state is = cc
    begun_kept trail (Some later) state is = is

    event_agrees : (onward : Onward S) (world : World) (event : Event) → Agrees onward → Agrees (onward_noted rules task onward world event)
    event_agrees onward world (Stepped step) agrees = agrees
    event_agrees onward world Begin agrees = record { state = agrees.state; kept = begun_kept onward.trail onward.later agrees.state agrees.kept; same = agrees.same }
    event_agrees onward world End agrees = record {
      state = rules.next agrees.state onward.trail.turn (findings_of onward.trail.made onward.answered);
      kept = ap (λ (later : Option S). later_ended rules onward.trail.turn onward.trail.made onward.answered later) agrees.kept;
      same = ended_tally onward.trail onward.answered agrees.state agrees.same;
    }
    event_agrees onward world (Read at width value) agrees = record { state = agrees.state; kept = agrees.kept; same = agrees.same }
    event_agrees onward world (Write at width value) agrees = record { state = agrees.state; kept = agrees.kept; same = agrees.same }
    event_agrees onward world (DmaRead at bytes) agrees = record { state = agrees.state; kept = agrees.kept; same = agrees.same }
    event_agrees onward world (DmaWrite at bytes) agrees = record { state = agrees.state; kept = agrees.kept; same = agrees.same }

    events_agree : (events : List Event) (world : World) (onward : Onward S) → Agrees onward → Agrees (onward_after rules task events world onward)
    events_agree [] world onward agrees = agrees
    events_agree (event ∷ events) world onward agrees =
        events_agree events (happens world event) (onward_noted rules task onward world event) (event_agrees onward world event agrees)

    pub tally_goes_on : (lines : List DriverLine) (state : S) (events : List Event) (old new : Telling) → Went old new events → (onward_of rules task lines old).later ≡ Some state
        → TallyIs tally (onward_of rules task lines old) → TallyIs tally (onward_of rules task lines new)
    tally_goes_on lines state events old new went is same =
        let onward = onward_of rules task lines old in
        subst (TallyIs tally) (sym (onward_went rules task lines old new events went))
        (agrees_is (onward_after rules task events (world_of old) onward)
        (events_agree events (world_of old) onward (record { state = state; kept = is; same = same state is })))

    -- ---- at the end

    last_is : (onward : Onward S) (state : S) → TallyIs tally onward → later_last rules onward ≡ Some state → tally state ≡ (ended_last task onward.trail).state.tally
    last_is onward state same is = by onward.trail.within onward.later refl is where
      by : (within : Bool) (later : Option S) → onward.later ≡ later
          → (if within then later_ended rules onward.trail.turn onward.trail.made onward.answered later else later) ≡ Some state
          → tally state ≡ (if within then ended task onward.trail else onward.trail).state.tally
      by true None kept is = cc
      by true (Some later) kept is =
          ap tally (some_same state _ (sym is)) ∙ ended_tally onward.trail onward.answered later (same later kept)
      by false later kept is = same state (kept ∙ is)

    pub tally_at_end : (lines : List DriverLine) (state : S) (telling : Telling) → TallyIs tally (onward_of rules task lines telling) → later_of rules task lines telling ≡ Some state
        → tally state ≡ tally_of_stretches (measures task.geometry) (length task.pcm) (stretches_of lines telling.journal)
    tally_at_end lines state telling same is =
        last_is (onward_of rules task lines telling) state same is
        ∙ ap (λ (trail : Trail). (ended_last task trail).state.tally) (trail_is rules task lines telling)
        ∙ recorded_is task lines telling
