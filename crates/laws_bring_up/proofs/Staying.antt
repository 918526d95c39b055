-- Over every call of a bring-up codecs stay set up from the last answer on.
use Rattle.std.proofs.Common.{◌≡◌, ◌≤◌, ◌+◌, ◌==◌, ℕ, Bool, true, false, if◌then◌else◌, List, [], ◌∷◌, ◌++◌, length, nat_le, Option, Some, None, refl, sym, ap, subst, ◌∙◌, ◌⊎◌, inl, inr, arith, rules, tests}
use Rattle.std.proofs.lemmas.Bool.{false≢true}
use Rattle.std.proofs.lemmas.Option.{slice_get_within}
use Rattle.verb_codes.specs.Words.{has_bit}
use Rattle.verb_codes.specs.declared.verbs.Command.{Command}
use Rattle.codec_graph.specs.declared.raw.RawCodec.{RawCodec}
use Rattle.codec_graph.specs.Settings.{Entries}
use Rattle.route_planner.specs.declared.routes.Plan.{Plan}
use Rattle.route_setup.specs.Means.{Means}
use Rattle.hda_registers.specs.declared.places.TheConstants.{WALCLK, RIRBSTS}
use Rattle.hda_registers.specs.declared.shapes.Width.TheVariants.{One, Four}
use Rattle.hda_registers.specs.Fields.{entries_of}
use Rattle.world_steps.specs.declared.Step.{Step}
use Rattle.hda_world.specs.Worlds.{World}
use Rattle.hda_world.specs.Steps.{after_steps}
use Rattle.hda_world.specs.Events.{Event, Stepped, Begin, End, Read, Write, DmaRead, DmaWrite}
use Rattle.hda_world.specs.Tellings.{Telling, world_of, MakesBy, Makes}
use Rattle.hda_world.proofs.Callers.{kept_steps}
use Rattle.command_engine.specs.declared.ring_places.RingPlaces.{RingPlaces}
use Rattle.command_engine.specs.declared.answers.Outstanding.{Outstanding}
use Rattle.command_engine.specs.Fetchings.{Stands, graphs_in}
use Rattle.command_engine.specs.Polling.{PollReads, entry_reads, batch_accesses, rings_polled}
use Rattle.command_engine.proofs.Callers.{responses_apart, keeps_standing}
use Rattle.laws_settings.proofs.Callers.{steps_remember}
use Rattle.driver_progress.specs.declared.phase.Phase.{Phase}
use Rattle.driver_progress.specs.declared.phase.Phase.TheVariants.{Walking, SettingUp, Ready, Playing, Drained}
use Rattle.driver_progress.specs.declared.phase.Phase.TheVariants.{NothingRouted, Late, Malformed}
use Rattle.driver_progress.specs.Phases.{is_asking, is_early, are_set_up}
use Rattle.driver_progress.specs.Requests.{requests_in, requests_of}
use Rattle.driver_progress.specs.States.{State}
use Rattle.driver_progress.specs.Tasks.{Task, Order, DriverLine}
use Rattle.driver_progress.specs.Next.{next, closed, outstanding_if, tally_next, expected}
use Rattle.driver_progress.specs.Progress.{Trail, trail_of, is_answered, seen_in, noted}
use Rattle.driver_progress.proofs.Callers.{trail_row, asking_goes_on}
use Rattle.driver_progress.specs.Commands.{ask_accesses}
use Rattle.driver_progress.specs.Shutting.{shut_accesses}
use Rattle.driver_progress.specs.Unread.{IsAccess, AreAccesses}
use Rattle.driver_bring_up.specs.Standing.{answers_of}
use Rattle.driver_bring_up.specs.Commanding.{submit_made}
use Rattle.driver_agenda.specs.Following.{Follows}
use Rattle.laws_bring_up.proofs.Closing.{closed_still, closed_ready}
use Rattle.driver_bring_up.specs.declared.bringing.BringUp.{BringUp}
use Rattle.driver_bring_up.specs.Calls.{state_of, Leads, Ends}
use Rattle.driver_bring_up.specs.Told.{Looked, LooksOn, IsStill}
use Rattle.laws_bring_up.specs.Stretches.{IsOpen, IsDone}
use Rattle.laws_bring_up.specs.Standing.{IsTaskOfCodecs, IsLastSent, IsAsking, StandsIn, IsBroughtUp}
use Rattle.laws_bring_up.specs.SettingUp.{are_answered, StaysSetUp, AreSetUpForGood}
use Rattle.laws_bring_up.proofs.Accesses.{shut_are, looked_accesses}
use Rattle.laws_bring_up.proofs.Rows.{accesses_row}
use Rattle.laws_bring_up.proofs.Grows.{row_on, both_on, steps_on, world_after}
use Rattle.laws_bring_up.proofs.Noting.{Laws}
use Rattle.laws_bring_up.proofs.Following.{AgendaLaws, Later, row_remembers}
use Rattle.laws_bring_up.proofs.Ready.{SetterLaws, ready_for_good}
use Rattle.laws_bring_up.proofs.Calm.{AreCalm, IsLast, IsSilent, expected_calm, calm_back}
use Rattle.laws_bring_up.proofs.Moments.{IsNoLook, AreNoLooks, IsFine, unread_no_looks, plain_no_looks, access_fine, calm_row, last_of, unlooked, unanswered, answered_parts, are_same, same_are, FoundLast, ready_phase, ready_answered, found_answered, early_as}
use Rattle.laws_bring_up.proofs.Answered.{answered_for_good}

-- ---- the accesses of a look

no_looks_both : (front back : List Event) → AreNoLooks front → AreNoLooks back → AreNoLooks (front ++ back)
no_looks_both [] back first second = second
no_looks_both (event ∷ front) back first second = (first.0, no_looks_both front back first.1 second)

entries_no_looks : (rirb size place : ℕ) (entries : List (List ℕ)) → AreNoLooks (entry_reads rirb size place entries)
entries_no_looks rirb size place [] = tt {0}
entries_no_looks rirb size place (entry ∷ entries) = (tt {0}, entries_no_looks rirb size (place + 1) entries)

batch_no_looks : (some : Bool) (rirb : ℕ) (rings : RingPlaces) (reads : PollReads) → AreNoLooks (if some then batch_accesses rirb rings reads.pointer reads.entries else [])
batch_no_looks true rirb rings reads =
    (refl, no_looks_both (entry_reads rirb (entries_of rings.rirb) (rings.read + 1) reads.entries) (Write RIRBSTS One 1 ∷ []) (entries_no_looks rirb (entries_of rings.rirb) (rings.read + 1) reads.entries) (tt {0}, tt {0}))
batch_no_looks false rirb rings reads = tt {0}

entries_calm : (rirb size place : ℕ) (entries : List (List ℕ)) (back : List Event) → AreCalm (requests_of back) → AreCalm (requests_of (entry_reads rirb size place entries ++ back))
entries_calm rirb size place [] back calm = calm
entries_calm rirb size place (entry ∷ entries) back calm = (tt {0}, entries_calm rirb size (place + 1) entries back calm)

batch_calm : (some : Bool) (rirb : ℕ) (rings : RingPlaces) (reads : PollReads) → AreCalm (requests_of (if some then batch_accesses rirb rings reads.pointer reads.entries else []))
batch_calm true rirb rings reads =
    (tt {0}, entries_calm rirb (entries_of rings.rirb) (rings.read + 1) reads.entries (Write RIRBSTS One 1 ∷ []) (inl (record { control = refl; pointers = refl }), tt {0}))
batch_calm false rirb rings reads = tt {0}

submit_no_looks : (corb : ℕ) (rings : RingPlaces) (order : Option Order) → AreNoLooks (submit_made corb rings order)
submit_no_looks corb rings None = tt {0}
submit_no_looks corb rings (Some order) = (tt {0}, (tt {0}, tt {0}))

-- ---- the accesses of a whole stretch

no_look_access : (event : Event) → IsNoLook event → IsAccess event
no_look_access (Stepped step) none = none
no_look_access Begin none = none
no_look_access End none = none
no_look_access (Read at width value) none = tt {0}
no_look_access (Write at width value) none = tt {0}
no_look_access (DmaRead at bytes) none = tt {0}
no_look_access (DmaWrite at bytes) none = tt {0}

no_looks_accesses : (events : List Event) → AreNoLooks events → AreAccesses events
no_looks_accesses [] none = tt {0}
no_looks_accesses (event ∷ events) none = (no_look_access event none.0, no_looks_accesses events none.1)

-- those after some others
calm_after : (front back : List Event) → AreCalm (requests_of (front ++ back)) → AreCalm (requests_of back)
calm_after [] back calm = calm
calm_after (event ∷ front) back calm = calm_after front back (calm_back (requests_in event) (requests_of (front ++ back)) calm)

-- once all commands were sent they submit none
calm_made : (task : Task) (lines left : List DriverLine) (turn : Option DriverLine) (state state' : State) (made : List Event) (before after : Telling) → IsOpen task lines left turn state before → MakesBy made before after → AreAccesses made
    → IsDone task lines left state' after → IsSilent task state turn → IsLast task state → AreCalm (requests_of made)
calm_made task lines left turn state state' made before after opened makes are done silent last =
    let row = accesses_row task lines made before after makes are in
    let seen = seen_in (trail_of task lines after) in
    let made_is : (trail_of task lines after).made ≡ made = row.made_is ∙ ap (λ (front : List Event). front ++ made) opened.none_made in
    let fits : requests_of made ≡ expected task state turn seen =
    ap requests_of (sym made_is) ∙ done.fits
    ∙ ap (λ (state : State). expected task state (trail_of task lines after).turn seen) (row.state_is ∙ opened.state_is)
    ∙ ap (λ (turn : Option DriverLine). expected task state turn seen) (row.turn_is ∙ opened.turn_is) in
    subst AreCalm (sym fits) (expected_calm task state turn seen (tally_next task state turn seen) silent last)

-- ---- a call

module _ (means : Means) (verbs : RawCodec → List Command) (graphs : List RawCodec) (task : Task)
    (laws : AgendaLaws means verbs graphs) (of : IsTaskOfCodecs means verbs graphs task) (setter : SetterLaws means) (notes : Laws) (lines : List DriverLine) where
  abbrev Fine : State → Telling → Type 0
  Fine state telling = IsFine means graphs task lines state telling

  -- one that looks for no answer
  unlooked_fine : (left : List DriverLine) (turn : Option DriverLine) (state state' : State) (made : List Event) (before after : Telling) → IsOpen task lines left turn state before → Makes made before after → AreNoLooks made
      → is_early state.phase ≡ true → IsDone task lines left state' after → IsSilent task state turn → Fine state before → Fine state after
  unlooked_fine left turn state state' made before after opened makes none early done silent fine =
      calm_row means graphs task lines state made before after makes.by none
      (λ answered. calm_made task lines left turn state state' made before after opened makes.by (no_looks_accesses made none) done silent (last_of task (trail_of task lines before) state opened.state_is early answered)) fine

  -- where the device leads by itself
  later_steps : (steps : List Step) (begun world : World) → Later begun world → Later begun (after_steps steps world)
  later_steps steps begun world later = record {
    on = both_on begun world (after_steps steps world) later.on (steps_on steps world);
    remembers = λ start from is. steps_remember start from steps world (later.remembers start from is);
  }

  -- where the flag is read, and the last answer is there
  found_there : (old : BringUp) (written : ℕ) (begun there : World) (trail : Trail) (flag : ℕ) → is_asking old.phase ≡ true → graphs_in begun.codecs ≡ graphs → (a : IsAsking means verbs graphs task written old begun) → Later begun there
      → Stands a.from a.read old.engine.corb.address old.engine.rirb.address old.engine.rings there → trail.state ≡ state_of old → trail.written ≡ written → are_answered task (noted task trail there (Read RIRBSTS One flag)) ≡ true
      → AreSetUpForGood means graphs there
  found_there old written begun there trail flag asking graphs_are a later stood state_is written_is answered = by (answered_parts task (noted task trail there (Read RIRBSTS One flag)) (early_as trail.state (state_of old) state_is old.early) answered)
    where
      by : (trail.state.phase ≡ Ready) ⊎ FoundLast (is_asking trail.state.phase) trail.within (trail.state.sent == length task.orders) (is_answered trail there) → AreSetUpForGood means graphs there
      by (inl ready) = absurd (false≢true (sym (ap is_asking (sym (ap (λ (state : State). state.phase) state_is) ∙ ready)) ∙ asking))
      by (inr found) =
          let all = sym (ap (λ (state : State). state.sent) state_is) ∙ are_same trail.state.sent (length task.orders) found.sent_is in
          answered_for_good means verbs graphs task laws of setter notes old written begun there trail graphs_are a later stood all state_is written_is found.answered_is

  -- the look for the answer to the outstanding command, until the flag is read
  flagged_fine : (left : List DriverLine) (turn : Option DriverLine) (old : BringUp) (made first : List Event) (clock : ℕ) (reads : PollReads) (rest : List Event) (before after : Telling) → IsOpen task lines left turn (state_of old) before
      → is_asking old.phase ≡ true → graphs_in (world_of before).codecs ≡ graphs → (a : IsAsking means verbs graphs task (trail_of task lines before).written old (world_of before))
      → (looked : Looked old made first clock reads rest a.from a.read before after) → Fine (state_of old) before → Fine (state_of old) looked.look_made.by.2.0
  flagged_fine left turn old made first clock reads rest before after opened asking graphs_are a looked fine =
      let state = state_of old in
      let begins = looked.begins in
      let one = looked.look_made.by.0 in
      let reads_clock = looked.look_made.by.1 in
      let reads_flag = looked.look_made.by.2.1 in
      let look = Read WALCLK Four clock in
      let clock_made : Makes (look ∷ []) begins one = record { by = (one, reads_clock, refl) } in
      let asks_at = λ (trail : Trail) (is : trail.state ≡ state). subst (λ (state : State). is_asking state.phase ≡ true) (sym is) asking in
      let first_row = (trail_row task lines first before begins looked.first_made looked.plain).0 in
      let clock_row = (trail_row task lines (look ∷ []) begins one clock_made (refl, tt {0})).0 in
      let started = calm_row means graphs task lines state first before begins looked.first_made.by (plain_no_looks first looked.plain)
      (λ answered. absurd (unanswered task (trail_of task lines before) (asks_at (trail_of task lines before) opened.state_is) opened.unanswered answered)) fine in
      let unfound = ap (λ (trail : Trail). trail.answered) first_row ∙ opened.unanswered in
      let clocked = calm_row means graphs task lines state (look ∷ []) begins one clock_made.by (refl, tt {0})
      (λ answered. absurd (unanswered task (trail_of task lines begins) (asks_at (trail_of task lines begins) started.state_is) unfound answered)) started in
      let written = ap (λ (trail : Trail). trail.written) clock_row ∙ ap (λ (trail : Trail). trail.written) first_row in
      let there = after_steps reads_flag.steps (world_of one) in
      let Stood : World → Type 0 = Stands a.from a.read old.engine.corb.address old.engine.rirb.address old.engine.rings in
      let kept = keeps_standing a.from a.read old.engine.corb.address old.engine.rirb.address old.engine.rings responses_apart in
      let stood = kept_steps Stood kept reads_flag.steps (world_of one) (subst Stood (sym (world_after look begins one reads_clock)) (kept_steps Stood kept reads_clock.steps (world_of begins) looked.stood)) in
      let to_one : Later (world_of before) (world_of one) = record {
        on = both_on (world_of before) (world_of begins) (world_of one) (row_on first before begins looked.first_made) (row_on (look ∷ []) begins one clock_made);
        remembers = λ start begun is. row_remembers (look ∷ []) begins one clock_made start begun (row_remembers first before begins looked.first_made start begun is);
      } in
      let later = later_steps reads_flag.steps (world_of before) (world_of one) to_one in
      access_fine means graphs task lines state (Read RIRBSTS One reads.flag) one looked.look_made.by.2.0 reads_flag clocked refl
      (λ good answered. found_there old (trail_of task lines before).written (world_of before) there (trail_of task lines one) reads.flag asking graphs_are a later stood clocked.state_is written answered)

  -- and all of a stretch with one
  looked_fine : (left : List DriverLine) (turn : Option DriverLine) (old : BringUp) (state' : State) (made first : List Event) (clock : ℕ) (reads : PollReads) (rest : List Event) (before after : Telling) → IsOpen task lines left turn (state_of old) before
      → Makes made before after → is_asking old.phase ≡ true → IsSilent task (state_of old) turn → graphs_in (world_of before).codecs ≡ graphs → (a : IsAsking means verbs graphs task (trail_of task lines before).written old (world_of before))
      → Looked old made first clock reads rest a.from a.read before after → AreNoLooks rest → IsDone task lines left state' after → Fine (state_of old) before → Fine (state_of old) after
  looked_fine left turn old state' made first clock reads rest before after opened makes asking silent graphs_are a looked none done fine =
      let rings = old.engine.rings in
      let rirb = old.engine.rirb.address in
      let state = state_of old in
      let batch = if has_bit reads.flag 0 then batch_accesses rirb rings reads.pointer reads.entries else [] in
      let flagged = flagged_fine left turn old made first clock reads rest before after opened asking graphs_are a looked fine in
      let polled = calm_row means graphs task lines state batch looked.look_made.by.2.0 looked.ends looked.look_made.by.2.2 (batch_no_looks (has_bit reads.flag 0) rirb rings reads)
      (λ answered. batch_calm (has_bit reads.flag 0) rirb rings reads) flagged in
      let are = looked_accesses old made first clock reads rest a.from a.read before after looked (no_looks_accesses rest none) in
      let calm : IsLast task state → AreCalm (requests_of rest) = λ last.
      calm_after (ask_accesses rirb clock rings reads) rest (calm_after first (ask_accesses rirb clock rings reads ++ rest)
      (subst (λ (made : List Event). AreCalm (requests_of made)) looked.made_is (calm_made task lines left turn state state' made before after opened makes.by are done silent last))) in
      calm_row means graphs task lines state rest looked.ends after looked.rest_made.by none (λ answered. calm (last_of task (trail_of task lines looked.ends) state polled.state_is old.early answered)) polled

  -- ---- by phase

  pub asking_in : (phase : Phase) (written : ℕ) (bring_up : BringUp) (world : World) → is_asking phase ≡ true → StandsIn phase means verbs graphs task written bring_up world → IsAsking means verbs graphs task written bring_up world
  asking_in Walking written bring_up world is stage = stage
  asking_in SettingUp written bring_up world is stage = stage
  asking_in Playing written bring_up world is stage = absurd stage
  asking_in Drained written bring_up world is stage = absurd stage
  asking_in NothingRouted written bring_up world is stage = absurd stage
  asking_in (Late from to limit) written bring_up world is stage = absurd stage
  asking_in (Malformed codec fault) written bring_up world is stage = absurd stage
  asking_in phase written bring_up world is stage = absurd (false≢true is)

  -- at its beginning
  pub called_fine : (left : List DriverLine) (turn : Option DriverLine) (old : BringUp) (before : Telling) → IsOpen task lines left turn (state_of old) before → IsBroughtUp means verbs graphs task (trail_of task lines before).written old (world_of before)
      → StaysSetUp means graphs task lines before → Fine (state_of old) before
  called_fine left turn old before opened stands set_up = record {
    set_up = set_up;
    good = λ answered. ready_for_good means verbs graphs task laws of setter (trail_of task lines before).written old (world_of before)
        (sym (ap (λ (state : State). state.phase) opened.state_is) ∙ unlooked task (trail_of task lines before) (early_as (trail_of task lines before).state (state_of old) opened.state_is old.early) opened.unanswered answered) stands;
    state_is = opened.state_is;
  }

  asking_fine : (left : List DriverLine) (budget : ℕ) (irq : Bool) (old new : BringUp) (before after : Telling) → IsOpen task lines left (Some (record { irq = irq; budget = budget })) (state_of old) before → graphs_in (world_of before).codecs ≡ graphs
      → (a : IsAsking means verbs graphs task (trail_of task lines before).written old (world_of before)) → (leads : Leads means irq old new (Some before) (Some after)) → (old.phase ≡ Ready → task.plays ≡ false) → is_asking old.phase ≡ true
      → IsDone task lines left (state_of new) after → Fine (state_of old) before → LooksOn irq old new leads.made a.from a.read before after ⊎ IsStill old new leads.made a.from a.read after → Fine (state_of old) after
  asking_fine left budget irq old new before after opened graphs_are a leads silent asking done fine (inl on) =
      let corb = old.engine.corb.address in
      let rings = rings_polled old.engine.rings on.reads in
      looked_fine left (Some (record { irq = irq; budget = budget })) old (state_of new) leads.made on.first on.clock on.reads (submit_made corb rings on.order) before after opened leads.by.is asking silent graphs_are a on.looked (submit_no_looks corb rings on.order) done fine
  asking_fine left budget irq old new before after opened graphs_are a leads silent asking done fine (inr still) =
      unlooked_fine left (Some (record { irq = irq; budget = budget })) (state_of old) (state_of new) leads.made before after opened leads.by.is (unread_no_looks leads.made still.unread) old.early done silent fine

  pub call_fine : (left : List DriverLine) (budget : ℕ) (irq : Bool) (old new : BringUp) (before after : Telling) → IsOpen task lines left (Some (record { irq = irq; budget = budget })) (state_of old) before
      → IsBroughtUp means verbs graphs task (trail_of task lines before).written old (world_of before) → Leads means irq old new (Some before) (Some after) → (old.phase ≡ Ready → task.plays ≡ false)
      → IsDone task lines left (state_of new) after → Fine (state_of old) before → Fine (state_of old) after
  call_fine left budget irq old new before after opened stands leads silent done fine = by (is_asking old.phase) refl
    where
      by : (asks : Bool) → is_asking old.phase ≡ asks → Fine (state_of old) after
      by false not = unlooked_fine left (Some (record { irq = irq; budget = budget })) (state_of old) (state_of new) leads.made before after opened leads.by.is (unread_no_looks leads.made (leads.unread not)) old.early done silent fine
      by true asking =
          let a = asking_in old.phase (trail_of task lines before).written old (world_of before) asking stands.stage in
          asking_fine left budget irq old new before after opened stands.graphs_are a leads silent asking done fine ((leads.stays (asking_goes_on old.phase asking)).is a.from a.read a.stands)

  -- ---- the last call

  -- it leaves all set up where it leads to Ready
  pub record LeavesFine (old new : BringUp) (after : Telling) : Type 0 where
    pub fine : Fine (state_of old) after
    pub ready : are_set_up new.phase ≡ true → AreSetUpForGood means graphs (world_of after)

  -- where the last access leads by what was read
  closed_to : (left : List DriverLine) (old new : BringUp) (made : List Event) (before after : Telling) → IsOpen task lines left None (state_of old) before → Makes made before after → AreAccesses made → IsDone task lines left (state_of new) after
      → (let seen = seen_in (trail_of task lines after) in (closed task (state_of old) seen (tally_next task (state_of old) None seen) old.phase).phase ≡ new.phase)
  closed_to left old new made before after opened makes are done =
      let row = accesses_row task lines made before after makes.by are in
      let seen = seen_in (trail_of task lines after) in
      ap (λ (state : State). (next task state None seen).phase) (sym (row.state_is ∙ opened.state_is))
      ∙ ap (λ (turn : Option DriverLine). (next task (trail_of task lines after).state turn seen).phase) (sym (row.turn_is ∙ opened.turn_is))
      ∙ ap (λ (state : State). state.phase) done.leads

  quiet_fine : (left : List DriverLine) (old new : BringUp) (before after : Telling) → IsOpen task lines left None (state_of old) before → Ends means old new (Some before) (Some after) → is_asking old.phase ≡ false
      → IsDone task lines left (state_of new) after → Fine (state_of old) before → LeavesFine old new after
  quiet_fine left old new before after opened ends not done fine =
      let none = unread_no_looks ends.made (ends.unread not) in
      let leaves = unlooked_fine left None (state_of old) (state_of new) ends.made before after opened ends.by.is none old.early done (tt {0}) fine in
      let seen = seen_in (trail_of task lines after) in
      let still = closed_still task (state_of old) seen (tally_next task (state_of old) None seen) old.phase not old.early in
      let same : old.phase ≡ new.phase = sym (ap (λ (state : State). state.phase) still) ∙ closed_to left old new ends.made before after opened ends.by.is (no_looks_accesses ends.made none) done in record {
        fine = leaves;
        ready = λ ready. leaves.good (ready_answered task (trail_of task lines after) (ap (λ (state : State). state.phase) leaves.state_is ∙ same ∙ ready_phase new.phase new.early ready));
      }

  -- the outstanding command is the last, and was answered
  last_answered : (sent : ℕ) (outstanding : Option Outstanding) (answered : Bool) → IsLastSent task.orders sent outstanding → (outstanding ≡ None → ⊥) → outstanding_if answered outstanding ≡ None → length task.orders ≤ sent
      → ((sent == length task.orders) ≡ true) × (answered ≡ true)
  last_answered sent None answered last some none all = absurd (some refl)
  last_answered sent (Some command) false last some none all = absurd (some none)
  last_answered sent (Some command) true last some none all =
      let within = slice_get_within task.orders last.0 (record { codec = command.codec; word = command.word }) last.2 in
      let is = last.1 in
      (same_are sent (length task.orders) (omega (arith, within, is, all)), refl)

  -- while commands are sent one is outstanding
  some_outstanding : (written : ℕ) (old : BringUp) (world : World) → is_asking old.phase ≡ true → IsAsking means verbs graphs task written old world → length task.orders ≤ old.sent → old.engine.rings.outstanding ≡ None → ⊥
  some_outstanding written old world asking a all none =
      let count = ap (λ (outstanding : Option Outstanding). answers_of old.sent outstanding) none in
      let agrees = laws.agrees old.sent old.agenda task (subst (λ (count : ℕ). Follows means verbs graphs count old.agenda) count a.follows) of.is_for in
      let ready = old.led (asking_goes_on old.phase asking) ∙ agrees.phase ∙ ap (λ (all : Bool). if all then Ready else (if nat_le task.walks old.sent then SettingUp else Walking)) (is_at_most (length task.orders) old.sent all) in
      false≢true (sym (ap is_asking ready) ∙ asking)
    where
      is_at_most : (a b : ℕ) → a ≤ b → nat_le a b ≡ true
      is_at_most a b less = search (rules, tests)

  last_fine : (left : List DriverLine) (old new : BringUp) (before after : Telling) → IsOpen task lines left None (state_of old) before → graphs_in (world_of before).codecs ≡ graphs
      → (a : IsAsking means verbs graphs task (trail_of task lines before).written old (world_of before)) → Ends means old new (Some before) (Some after) → is_asking old.phase ≡ true
      → IsDone task lines left (state_of new) after → Fine (state_of old) before → LeavesFine old new after
  last_fine left old new before after opened graphs_are a ends asking done fine =
      let on = (ends.looks asking).is a.from a.read a.stands in
      let none : AreNoLooks shut_accesses = (tt {0}, (tt {0}, (tt {0}, tt {0}))) in
      let leaves = looked_fine left None old (state_of new) ends.made [] on.clock on.reads shut_accesses before after opened ends.by.is asking (tt {0}) graphs_are a on.looked none done fine in
      let are = looked_accesses old ends.made [] on.clock on.reads shut_accesses a.from a.read before after on.looked shut_are in
      let trail = trail_of task lines after in
      let seen = seen_in trail in
      let closes = closed_to left old new ends.made before after opened ends.by.is are done in record {
        fine = leaves;
        ready = λ ready.
            let by = closed_ready task (state_of old) seen (tally_next task (state_of old) None seen) old.phase asking asking (closes ∙ ready_phase new.phase new.early ready) in
            let last = last_answered old.sent old.engine.rings.outstanding trail.answered a.last (some_outstanding (trail_of task lines before).written old (world_of before) asking a by.all) by.none by.all in
            leaves.good (found_answered task trail (record {
              asks_is = ap (λ (state : State). is_asking state.phase) leaves.state_is ∙ asking;
              within_is = done.within;
              sent_is = ap (λ (state : State). state.sent == length task.orders) leaves.state_is ∙ last.0;
              answered_is = last.1;
            }));
      }

  pub end_fine : (left : List DriverLine) (old new : BringUp) (before after : Telling) → IsOpen task lines left None (state_of old) before → IsBroughtUp means verbs graphs task (trail_of task lines before).written old (world_of before)
      → Ends means old new (Some before) (Some after) → IsDone task lines left (state_of new) after → Fine (state_of old) before → LeavesFine old new after
  end_fine left old new before after opened stands ends done fine = by (is_asking old.phase) refl
    where
      by : (asks : Bool) → is_asking old.phase ≡ asks → LeavesFine old new after
      by false not = quiet_fine left old new before after opened ends not done fine
      by true asking = last_fine left old new before after opened stands.graphs_are (asking_in old.phase (trail_of task lines before).written old (world_of before) asking stands.stage) ends asking done fine
