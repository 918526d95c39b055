-- A driver that is to switch brings its codecs up: its rules wait.
use Rattle.std.proofs.Common.{◌≡◌, ◌⊎◌, inl, inr, Bool, false, List, [], ◌∷◌, map, None, Some, refl, sym, ap, subst, ◌∙◌}
use Rattle.std.proofs.lemmas.Bool.{false≢true}
use Rattle.verb_codes.specs.declared.verbs.Command.{Command}
use Rattle.codec_graph.specs.declared.raw.RawCodec.{RawCodec}
use Rattle.route_planner.specs.declared.routes.Plan.{Plan}
use Rattle.route_setup.specs.Means.{Means}
use Rattle.world_steps.specs.declared.Step.{Step}
use Rattle.std.specs.Prelude.{All}
use Rattle.hda_world.specs.Worlds.{World}
use Rattle.hda_world.specs.Events.{Event, Stepped, Begin, End, after}
use Rattle.hda_world.specs.Tellings.{Telling, world_of, Went, Accessed}
use Rattle.hda_world.proofs.Callers.{grew_both, grew_access, grew_row}
use Rattle.period_writer.specs.Runs.{Tally, tally_opened}
use Rattle.period_writer.specs.Outcomes.{HasNotWrapped}
use Rattle.driver_progress.specs.declared.phase.Phase.{Phase}
use Rattle.driver_progress.specs.declared.phase.Phase.TheVariants.{Reset}
use Rattle.driver_progress.specs.Phases.{is_ready}
use Rattle.driver_progress.specs.Tasks.{Task, DriverLine}
use Rattle.driver_progress.specs.States.{State, state_opened}
use Rattle.driver_progress.specs.Progress.{trail_of}
use Rattle.driver_bring_up.specs.declared.bringing.BringUp.{BringUp}
use Rattle.driver_bring_up.specs.Calls as bringing
use Rattle.driver_rules.specs.Onward.{onward_opened, onward_after}
use Rattle.driver_rules.proofs.Callers.{waits_steps, progress_waits}
use Rattle.laws_settings.specs.Readings.{KeepsDefaults}
use Rattle.laws_bring_up.specs.Standing.{IsBroughtUp, StandsIn, CanBegin}
use Rattle.laws_bring_up.specs.Keeping as told
use Rattle.laws_stream.specs.Resting.{Rests, AreApartFrom}
use Rattle.laws_stream.specs.Lives.{Along}
use Rattle.laws_driver.specs.Sounding.{Parts, ring_in, tally_in}
use Rattle.laws_driver.specs.Keeping.{IsSilent, DriverGoesOn, DriverHasGone, WasNeverHeard, WasHeard, Calls, Closes}
use Rattle.jack_switch.specs.SwitchRules.{switch_rules}
use Rattle.laws_switching.specs.Coming.{IsComing, HasNotSwitched, KeepsComing}
use Rattle.laws_switching.proofs.BringUps.{leads_accesses, ends_accesses}
use Rattle.laws_switching.proofs.RulesWait.{unready, unlined, stretch_waits}
use Rattle.laws_switching.proofs.ComingGiven.{ComingGiven}

module _ (means : Means) (verbs : RawCodec → List Command) (graphs : List RawCodec) (plans : List Plan) (task : Task)
    (laws : ComingGiven means verbs graphs task) (lines : List DriverLine) where
  abbrev Coming : (left : List DriverLine) → Parts → Telling → Type 0
  Coming left parts telling = IsComing means verbs graphs plans task lines left parts telling

  -- it plays nothing
  pub silent_of : (left : List DriverLine) (parts : Parts) (telling : Telling) → DriverGoesOn means verbs graphs task lines left parts telling → IsSilent means verbs graphs task lines left parts telling
  silent_of left parts telling (inl silent) = silent
  silent_of left parts telling (inr heard) = absurd (false≢true (sym laws.silent ∙ heard.sounds.task_is.plays))

  -- codecs had their pins' defaults where it began
  begins_with_defaults : (parts : Parts) (telling : Telling) → telling.journal ≡ [] → bringing.state_of parts.bring_up ≡ state_opened → IsBroughtUp means verbs graphs task 0 parts.bring_up (world_of telling) → All KeepsDefaults telling.start.codecs
  begins_with_defaults parts telling none opened stands =
      let phase : parts.bring_up.phase ≡ Reset = ap (λ (state : State). state.phase) opened in
      let can : CanBegin parts.bring_up (world_of telling) = subst (λ (phase : Phase). StandsIn phase means verbs graphs task 0 parts.bring_up (world_of telling)) phase stands.stage in
      subst (λ (journal : List Event). All KeepsDefaults (after journal telling.start).codecs) none can.defaults

  still_defaults : (old new : Telling) → new.start ≡ old.start → All KeepsDefaults old.start.codecs → All KeepsDefaults new.start.codecs
  still_defaults old new same all = subst (λ (world : World). All KeepsDefaults world.codecs) (sym same) all

  coming_begins : (parts : Parts) (telling : Telling) → telling.journal ≡ [] → telling.start.commands ≡ [] → bringing.state_of parts.bring_up ≡ state_opened → IsBroughtUp means verbs graphs task 0 parts.bring_up (world_of telling)
      → tally_in parts ≡ tally_opened → AreApartFrom (ring_in parts) parts.bring_up.engine.rirb.address → Rests parts.writer.geometry.fifo (world_of telling) → Coming lines parts telling
  coming_begins parts telling none none_taken opened stands fresh apart rests = record {
    under_way = laws.driver.begins lines parts telling none opened stands fresh (λ plays. absurd (false≢true (sym laws.silent ∙ plays))) apart rests;
    waits = ap (λ (journal : List Event). (onward_after (switch_rules task graphs plans) task journal telling.start (onward_opened lines)).later) none;
    none_taken = none_taken;
    defaults = begins_with_defaults parts telling none opened stands;
  }

  -- no command was taken where it began, whatever is told later
  still_none : (old new : Telling) → new.start ≡ old.start → old.start.commands ≡ [] → new.start.commands ≡ []
  still_none old new same none = ap (λ (world : World). world.commands) same ∙ none

  coming_steps : (left : List DriverLine) (parts : Parts) (steps : List Step) (old new : Telling) → Went old new (map Stepped steps) → Coming left parts old → Coming left parts new
  coming_steps left parts steps old new went coming = record {
    under_way = laws.driver.steps lines left parts steps old new went coming.under_way;
    waits = waits_steps (switch_rules task graphs plans) task lines steps old new went coming.waits;
    none_taken = still_none old new went.start coming.none_taken;
    defaults = still_defaults old new went.start coming.defaults;
  }

  -- ---- a call

  coming_call : (left : List DriverLine) (line : DriverLine) (old new : Parts) (before begun made after : Telling) → Accessed before begun Begin → is_ready old.bring_up.phase ≡ false
      → Calls means false line.irq line.budget old new (Some begun) (Some made) → Accessed made after End → HasNotWrapped (world_of made) → Coming (line ∷ left) old before → Coming left new after
  coming_call left line old new before begun made after begins not calls ends small coming =
      let was = silent_of (line ∷ left) old before coming.under_way in
      let called = laws.told.opens lines (line ∷ left) old.bring_up before begun begins was.under_way in
      let leads = calls.leads refl in
      let are = leads_accesses means verbs graphs task laws.agenda laws.of laws.setter laws.notes lines line.irq old.bring_up new.bring_up begun made called.stands leads in
      let grew = grew_both before begun after (grew_access before begun Begin begins) (grew_both begun made after (grew_row leads.by.is) (grew_access made after End ends)) in record {
        under_way = laws.driver.runs lines left line old new before begun made after begins
            (subst (λ (plays : Bool). Calls means plays line.irq line.budget old new (Some begun) (Some made)) (sym laws.silent) calls) ends small coming.under_way;
        waits = stretch_waits (switch_rules task graphs plans) task lines leads.made before begun made after begins leads.by.is are ends
            (unready (trail_of task lines before).state (bringing.state_of old.bring_up) (trail_of task lines before).left was.under_way.rest.state_is not) coming.waits;
        none_taken = still_none before after grew.went.start coming.none_taken;
        defaults = still_defaults before after grew.went.start coming.defaults;
      }

  -- ---- the closing stretch

  never_of : (ended : BringUp) (tally : Tally) (last : List Event) (telling : Telling) → tally ≡ tally_opened → ((tally ≡ tally_opened) × WasNeverHeard telling) ⊎ WasHeard means graphs task tally last telling → WasNeverHeard telling
  never_of ended tally last telling fresh (inl never) = never.1
  never_of ended tally last telling fresh (inr heard) = absurd (false≢true (sym (ap (λ (tally : Tally). tally.course.started) fresh) ∙ heard.started))

  coming_shuts : (old : Parts) (ended : BringUp) (tally : Tally) (last : List Event) (before begun made after : Telling) → Accessed before begun Begin → Closes means false old ended tally (Some begun) (Some made) → Accessed made after End
      → Went before after last → Along HasNotWrapped last (world_of before) → Coming [] old before → HasNotSwitched means graphs plans task lines ended tally last after
  coming_shuts old ended tally last before begun made after begins closing ends went small coming =
      let was = silent_of [] old before coming.under_way in
      let call = closing.ends refl in
      let called : told.IsCalled means verbs graphs task lines [] None old.bring_up begun = laws.told.opens lines [] old.bring_up before begun begins was.under_way in
      let are = ends_accesses means verbs graphs task laws.agenda laws.of laws.setter laws.notes lines old.bring_up ended begun made called.stands call in
      let waits = stretch_waits (switch_rules task graphs plans) task lines call.made before begun made after begins call.by.is are ends
      (unlined (is_ready (trail_of task lines before).state.phase) (trail_of task lines before).left was.under_way.rest.left_is) coming.waits in
      let gone : DriverHasGone means graphs task lines ended tally last after =
      laws.driver.ends lines old ended tally last before begun made after begins
      (subst (λ (plays : Bool). Closes means plays old ended tally (Some begun) (Some made)) (sym laws.silent) closing) ends went small coming.under_way in
      let onward = progress_waits (switch_rules task graphs plans) task lines after gone.progress waits in
      let fresh = closing.recorded refl ∙ was.silent.fresh in record {
        onward = onward.0;
        later_is = onward.1;
        gone = gone;
        fresh = fresh;
        never = never_of ended tally last after fresh gone.heard;
      }

pub coming_on : (means : Means) (verbs : RawCodec → List Command) (graphs : List RawCodec) (plans : List Plan) (task : Task) → ComingGiven means verbs graphs task → KeepsComing means verbs graphs plans task
coming_on means verbs graphs plans task laws = record {
  begins = λ lines parts telling. coming_begins means verbs graphs plans task laws lines parts telling;
  steps = λ lines left parts steps old new. coming_steps means verbs graphs plans task laws lines left parts steps old new;
  calls = λ lines left line old new before begun made after begins not call ends small coming.
      coming_call means verbs graphs plans task laws lines left line old new before begun made after begins not call ends small coming;
  shuts = λ lines old ended tally last before begun made after begins closing ends went small coming.
      coming_shuts means verbs graphs plans task laws lines old ended tally last before begun made after begins closing ends went small coming;
}
