-- All that is told of a bring-up.
use Rattle.std.proofs.Common.{◌≡◌, ◌==◌, ◌⊎◌, inl, inr, ℕ, Bool, true, false, subst, List, [], map, length, Some, None, refl, sym, ap, ◌∙◌}
use Rattle.std.proofs.lemmas.Bool.{false≢true}
use Rattle.std.specs.Prelude.{drop, slice_get}
use Rattle.codec_graph.specs.Settings.{Entries}
use Rattle.hda_world.specs.Events.{Event, Stepped}
use Rattle.hda_world.specs.Tellings.{Went, Accessed}
use Rattle.hda_world.proofs.Callers.{world_of-went, steps_after}
use Rattle.driver_progress.specs.declared.phase.Phase.TheVariants.{Ready}
use Rattle.driver_progress.specs.Phases.{is_asking, is_early, are_set_up}
use Rattle.driver_progress.specs.States.{State, state_opened}
use Rattle.driver_progress.specs.Progress.{trail_after, trail_opened, begun, ended}
use Rattle.driver_progress.proofs.Callers.{trail_went, steps_leave_trail}
use Rattle.driver_bring_up.specs.Calls.{state_of, IsKept, Leads, Ends}
use Rattle.laws_bring_up.specs.Stretches.{IsAtRest, IsDone}
use Rattle.laws_bring_up.specs.SettingUp.{are_answered, Always, SetUpAt, StaysSetUp, RemainSetUp}
use Rattle.laws_bring_up.proofs.Ready.{SetterLaws, ready_for_good}
use Rattle.laws_bring_up.proofs.Same.{steps_for_good}
use Rattle.laws_bring_up.proofs.Always.{steps_always, access_always}
use Rattle.laws_bring_up.proofs.Moments.{FoundLast, answered_parts, ready_phase, unlooked, early_as}
use Rattle.laws_bring_up.proofs.Staying.{called_fine, call_fine, end_fine}
use Rattle.verb_codes.specs.declared.verbs.Command.{Command}
use Rattle.codec_graph.specs.declared.raw.RawCodec.{RawCodec}
use Rattle.route_planner.specs.declared.routes.Plan.{Plan}
use Rattle.route_setup.specs.Means.{Means}
use Rattle.driver_agenda.specs.declared.agenda.Agenda.{Agenda}
use Rattle.driver_agenda.specs.Agendas.{BeginsWalk}
use Rattle.driver_agenda.specs.Following.{Follows}
use Rattle.world_steps.specs.declared.Step.{Step}
use Rattle.hda_world.specs.Worlds.{World}
use Rattle.hda_world.specs.Steps.{after_steps}
use Rattle.hda_world.specs.Events.{Begin, End}
use Rattle.hda_world.specs.Tellings.{Telling, world_of}
use Rattle.driver_progress.specs.Progress.{Trail, trail_of}
use Rattle.driver_bring_up.specs.declared.bringing.BringUp.{BringUp}
use Rattle.driver_progress.specs.Tasks.{Task, DriverLine}
use Rattle.laws_bring_up.specs.Standing.{IsTaskOfCodecs, IsBroughtUp}
use Rattle.laws_bring_up.specs.Keeping.{BringUpGoesOn, IsCalled, HasMade, HasShut, IsOver, KeepsToProgress}
use Rattle.laws_bring_up.proofs.Grows.{world_after}
use Rattle.laws_bring_up.proofs.Rows.{trail_access, rests, rest_stays, opens, closes, rest_progress}
use Rattle.laws_bring_up.proofs.Noting.{Laws}
use Rattle.laws_bring_up.proofs.Following.{AgendaLaws}
use Rattle.laws_bring_up.proofs.Told.{call_told}
use Rattle.laws_bring_up.proofs.Closing.{end_told}
use Rattle.laws_bring_up.proofs.Moving.{Steady, stage_stays, graphs_stay}

-- a mark changes nothing but that a stretch is open
marked : (means : Means) (verbs : RawCodec → List Command) (graphs : List RawCodec) (task : Task) (lines : List DriverLine) (bring_up : BringUp) (old new : Telling) (steps : List Step)
    → ((written : ℕ) (steps : List Step) (world : World) → IsBroughtUp means verbs graphs task written bring_up world → IsBroughtUp means verbs graphs task written bring_up (after_steps steps world))
    → world_of new ≡ after_steps steps (world_of old) → (trail_of task lines new).written ≡ (trail_of task lines old).written
    → IsBroughtUp means verbs graphs task (trail_of task lines old).written bring_up (world_of old) → IsBroughtUp means verbs graphs task (trail_of task lines new).written bring_up (world_of new)
marked means verbs graphs task lines bring_up old new steps stays world written stands =
    subst (λ (written : ℕ). IsBroughtUp means verbs graphs task written bring_up (world_of new)) (sym written)
    (subst (λ (world : World). IsBroughtUp means verbs graphs task (trail_of task lines old).written bring_up world) (sym world) (stays (trail_of task lines old).written steps (world_of old) stands))

-- ---- between calls

module _ (means : Means) (verbs : RawCodec → List Command) (graphs : List RawCodec) (task : Task)
    (laws : AgendaLaws means verbs graphs) (of : IsTaskOfCodecs means verbs graphs task) (setter : SetterLaws means) (notes : Laws) (steady : Steady) where
  stays : (written : ℕ) (bring_up : BringUp) (steps : List Step) (world : World) → IsBroughtUp means verbs graphs task written bring_up world → IsBroughtUp means verbs graphs task written bring_up (after_steps steps world)
  stays written bring_up steps world stands = record {
    blocks = stands.blocks;
    graphs_are = graphs_stay steps world ∙ stands.graphs_are;
    stage = stage_stays means verbs graphs task laws of.is_for of.right.well_formed notes steady bring_up.phase written bring_up steps world stands.stage;
  }

  -- at rest codecs are set up in the phase `Ready` alone
  rest_phase : (trail : Trail) → is_early trail.state.phase ≡ true → trail.within ≡ false → are_answered task trail ≡ true → trail.state.phase ≡ Ready
  rest_phase trail early outside answered = by (answered_parts task trail early answered)
    where
      by : (trail.state.phase ≡ Ready) ⊎ FoundLast (is_asking trail.state.phase) trail.within (trail.state.sent == length task.orders) trail.answered → trail.state.phase ≡ Ready
      by (inl ready) = ready
      by (inr found) = absurd (false≢true (sym outside ∙ found.within_is))

  rest_set_up : (written : ℕ) (bring_up : BringUp) (world : World) (trail : Trail) → IsBroughtUp means verbs graphs task written bring_up world → trail.within ≡ false → trail.state ≡ state_of bring_up → SetUpAt means graphs task world trail
  rest_set_up written bring_up world trail stands outside state_is answered =
      (ready_for_good means verbs graphs task laws of setter written bring_up world (sym (ap (λ (state : State). state.phase) state_is) ∙ rest_phase trail (early_as trail.state (state_of bring_up) state_is bring_up.early) outside answered) stands).set_up

  under_way_stays : (lines left : List DriverLine) (bring_up : BringUp) (telling : Telling) → BringUpGoesOn means verbs graphs task lines left bring_up telling → (done : List Step)
      → SetUpAt means graphs task (after_steps done (world_of telling)) (trail_of task lines telling)
  under_way_stays lines left bring_up telling way done =
      let trail = trail_of task lines telling in
      rest_set_up trail.written bring_up (after_steps done (world_of telling)) trail (stays trail.written bring_up done (world_of telling) way.stands) way.rest.within way.rest.state_is

  begins_told : (lines : List DriverLine) (bring_up : BringUp) (telling : Telling) → telling.journal ≡ [] → state_of bring_up ≡ state_opened → IsBroughtUp means verbs graphs task 0 bring_up (world_of telling)
      → BringUpGoesOn means verbs graphs task lines lines bring_up telling
  begins_told lines bring_up telling none opened stands = record {
    rest = subst (λ (state : State). IsAtRest task lines lines state telling) (sym opened) (rests task lines [] telling none);
    stands = subst (λ (trail : Trail). IsBroughtUp means verbs graphs task trail.written bring_up (world_of telling)) (sym (ap (λ (journal : List Event). trail_after task journal telling.start (trail_opened lines)) none)) stands;
    set_up = subst (λ (journal : List Event). Always (SetUpAt means graphs task) task journal telling.start (trail_opened lines)) (sym none) (λ answered. absurd (false≢true answered));
  }

  steps_told : (lines left : List DriverLine) (bring_up : BringUp) (steps : List Step) (old new : Telling) → Went old new (map Stepped steps) → BringUpGoesOn means verbs graphs task lines left bring_up old
      → BringUpGoesOn means verbs graphs task lines left bring_up new
  steps_told lines left bring_up steps old new went way =
      let world = world_of-went old new (map Stepped steps) went ∙ steps_after steps (world_of old) in
      let trail = trail_went task lines old new (map Stepped steps) went ∙ steps_leave_trail task steps (world_of old) (trail_of task lines old) in record {
        rest = rest_stays task lines left (state_of bring_up) steps old new went way.rest;
        stands = marked means verbs graphs task lines bring_up old new steps (λ written steps world is. stays written bring_up steps world is) world (ap (λ (trail : Trail). trail.written) trail) way.stands;
        set_up = steps_always (SetUpAt means graphs task) task lines steps old new went (under_way_stays lines left bring_up old way) way.set_up;
      }

  opens_told : (lines left : List DriverLine) (bring_up : BringUp) (old new : Telling) → Accessed old new Begin → BringUpGoesOn means verbs graphs task lines left bring_up old
      → IsCalled means verbs graphs task lines (drop 1 left) (slice_get left 0) bring_up new
  opens_told lines left bring_up old new accessed way =
      let there = after_steps accessed.steps (world_of old) in
      let trail = trail_of task lines old in
      let stood = stays trail.written bring_up accessed.steps (world_of old) way.stands in
      let begins = λ (answered : are_answered task (begun trail) ≡ true). (ready_for_good means verbs graphs task laws of setter trail.written bring_up there
      (sym (ap (λ (state : State). state.phase) way.rest.state_is) ∙ unlooked task (begun trail) (early_as trail.state (state_of bring_up) way.rest.state_is bring_up.early) refl answered) stood).set_up in record {
        opened = opens task lines left (state_of bring_up) old new accessed way.rest;
        stands = marked means verbs graphs task lines bring_up old new accessed.steps (λ written steps world is. stays written bring_up steps world is) (world_after Begin old new accessed)
            (ap (λ (trail : Trail). trail.written) (trail_access task lines Begin old new accessed)) way.stands;
        set_up = access_always (SetUpAt means graphs task) task lines Begin old new accessed (under_way_stays lines left bring_up old way) begins way.set_up;
      }

  -- ---- the end of a stretch

  -- before it
  done_stays : (lines : List DriverLine) (bring_up : BringUp) (telling : Telling) → RemainSetUp means graphs task lines bring_up telling → (done : List Step)
      → SetUpAt means graphs task (after_steps done (world_of telling)) (trail_of task lines telling)
  done_stays lines bring_up telling remains done answered = (steps_for_good means graphs done (world_of telling) (remains.before answered)).set_up

  -- and at it
  ends_set_up : (lines left : List DriverLine) (bring_up : BringUp) (old new : Telling) (accessed : Accessed old new End) → IsDone task lines left (state_of bring_up) old → RemainSetUp means graphs task lines bring_up old
      → SetUpAt means graphs task (after_steps accessed.steps (world_of old)) (ended task (trail_of task lines old))
  ends_set_up lines left bring_up old new accessed done remains answered =
      let trail = trail_of task lines old in
      let ready = sym (ap (λ (state : State). state.phase) done.leads) ∙ rest_phase (ended task trail) (early_as (ended task trail).state (state_of bring_up) done.leads bring_up.early) refl answered in
      (steps_for_good means graphs accessed.steps (world_of old) (remains.after (ap are_set_up ready))).set_up

  stretch_set_up : (lines left : List DriverLine) (bring_up : BringUp) (old new : Telling) → Accessed old new End → IsDone task lines left (state_of bring_up) old → RemainSetUp means graphs task lines bring_up old
      → StaysSetUp means graphs task lines old → StaysSetUp means graphs task lines new
  stretch_set_up lines left bring_up old new accessed done remains set_up =
      access_always (SetUpAt means graphs task) task lines End old new accessed (done_stays lines bring_up old remains) (ends_set_up lines left bring_up old new accessed done remains) set_up

  closes_told : (lines left : List DriverLine) (bring_up : BringUp) (old new : Telling) → Accessed old new End → HasMade means verbs graphs task lines left bring_up old
      → BringUpGoesOn means verbs graphs task lines left bring_up new
  closes_told lines left bring_up old new accessed made = record {
    rest = closes task lines left (state_of bring_up) old new accessed made.done;
    stands = marked means verbs graphs task lines bring_up old new accessed.steps (λ written steps world is. stays written bring_up steps world is) (world_after End old new accessed)
        (ap (λ (trail : Trail). trail.written) (trail_access task lines End old new accessed)) made.stands;
    set_up = stretch_set_up lines left bring_up old new accessed made.done made.remains made.set_up;
  }

  ends_over_told : (lines left : List DriverLine) (bring_up : BringUp) (old new : Telling) → Accessed old new End → HasShut means graphs task lines left bring_up old
      → IsOver means graphs task lines bring_up new
  ends_over_told lines left bring_up old new accessed shut = record {
    left = left;
    rest = closes task lines left (state_of bring_up) old new accessed shut.done;
    ended = shut.ended;
    set_up = stretch_set_up lines left bring_up old new accessed shut.done shut.remains shut.set_up;
  }

  -- ---- calls

  calls_told : ((agenda : Agenda) → agenda.addresses.items ≡ map (λ (graph : RawCodec). graph.address) graphs → BeginsWalk agenda.addresses.items [] agenda → Follows means verbs graphs 0 agenda)
      → (lines left : List DriverLine) (budget : ℕ) (irq : Bool) (old new : BringUp) (before after : Telling) → IsCalled means verbs graphs task lines left (Some (record { irq = irq; budget = budget })) old before
      → (old.phase ≡ Ready → task.plays ≡ false) → Leads means irq old new (Some before) (Some after) → IsKept old new → HasMade means verbs graphs task lines left new after
  calls_told begins lines left budget irq old new before after called silent leads kept =
      let told = call_told means verbs graphs task laws begins of notes lines left budget irq old new before after old.phase refl
      (record { silent = silent; opened = called.opened; blocks = called.stands.blocks; leads = leads; kept = kept; graphs_are = called.stands.graphs_are }) called.stands.stage in
      let stands : IsBroughtUp means verbs graphs task (trail_of task lines after).written new (world_of after) = record {
        blocks = record { corb = called.stands.blocks.corb ∙ sym (ap (λ corb. corb.address) kept.corb); rirb = called.stands.blocks.rirb ∙ sym (ap (λ rirb. rirb.address) kept.rirb) };
        graphs_are = told.graphs_are;
        stage = told.stage;
      } in
      let fine = call_fine means verbs graphs task laws of setter notes lines left budget irq old new before after called.opened called.stands leads silent told.done
      (called_fine means verbs graphs task laws of setter notes lines left (Some (record { irq = irq; budget = budget })) old before called.opened called.stands called.set_up) in record {
        done = told.done;
        stands = stands;
        set_up = fine.set_up;
        remains = record {
          before = fine.good;
          after = λ ready. ready_for_good means verbs graphs task laws of setter (trail_of task lines after).written new (world_of after) (ready_phase new.phase new.early ready) stands;
        };
      }

  ends_told : (lines left : List DriverLine) (old new : BringUp) (before after : Telling) → IsCalled means verbs graphs task lines left None old before → Ends means old new (Some before) (Some after)
      → HasShut means graphs task lines left new after
  ends_told lines left old new before after called ends =
      let shut = end_told means verbs graphs task laws of notes lines left old new before after old.phase refl called.opened called.stands.blocks ends called.stands.graphs_are called.stands.stage in
      let leaves = end_fine means verbs graphs task laws of setter notes lines left old new before after called.opened called.stands ends shut.done
      (called_fine means verbs graphs task laws of setter notes lines left None old before called.opened called.stands called.set_up) in record {
        done = shut.done;
        ended = shut.ended;
        set_up = leaves.fine.set_up;
        remains = record { before = leaves.fine.good; after = leaves.ready };
      }

  -- ---- all of it

  pub whole : ((agenda : Agenda) → agenda.addresses.items ≡ map (λ (graph : RawCodec). graph.address) graphs → BeginsWalk agenda.addresses.items [] agenda → Follows means verbs graphs 0 agenda)
      → KeepsToProgress means verbs graphs task
  whole begins = record {
    begins = begins_told;
    steps = steps_told;
    opens = opens_told;
    calls = calls_told begins;
    closes = closes_told;
    ends = ends_told;
    ends_over = ends_over_told;
    over = λ lines bring_up telling over.
        let progress = rest_progress task lines over.left (state_of bring_up) telling over.rest in record {
          progress = progress.0;
          finds = progress.2;
          state_is = progress.1;
          ended = over.ended;
          set_up = over.set_up;
        };
  }
