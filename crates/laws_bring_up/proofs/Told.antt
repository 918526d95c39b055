-- Every call of a bring-up that is told keeps to progress, and stands to the world as before.
use Rattle.std.proofs.Common.{◌≡◌, ◌≢◌, ℕ, Bool, true, false, List, [], ◌∷◌, map, length, Option, Some, None, refl, sym, ap, subst, ◌∙◌, arith, ◌⊎◌, inl, inr}
use Rattle.std.proofs.lemmas.Bool.{false≢true}
use Rattle.std.specs.Prelude.{All, slice_index}
use Rattle.std.specs.Option.{is_some}
use Rattle.std.proofs.lemmas.List.{length-map}
use Rattle.verb_codes.specs.declared.verbs.Command.{Command}
use Rattle.codec_graph.specs.declared.raw.RawCodec.{RawCodec}
use Rattle.codec_graph.specs.CodecStates.{CodecState}
use Rattle.route_planner.specs.declared.routes.Plan.{Plan}
use Rattle.route_setup.specs.Means.{Means}
use Rattle.world_rings.specs.declared.response.Response.{Response}
use Rattle.hda_registers.specs.declared.places.TheConstants.{STATESTS, WALCLK}
use Rattle.hda_world.specs.Worlds.{World}
use Rattle.hda_world.specs.Events.{Event}
use Rattle.hda_world.specs.Tellings.{Telling, world_of}
use Rattle.hda_world.specs.Discovery.{addresses_of}
use Rattle.command_engine.specs.declared.answers.Outstanding.{Outstanding}
use Rattle.command_engine.specs.Fetchings.{AscendFrom, graphs_in}
use Rattle.command_engine.specs.Polling.{asked_of}
use Rattle.command_engine.specs.Starting.{codecs_in}
use Rattle.driver_agenda.specs.declared.agenda.Agenda.{Agenda}
use Rattle.driver_agenda.specs.Agendas.{BeginsWalk}
use Rattle.driver_agenda.specs.Following.{Follows}
use Rattle.laws_settings.specs.Readings.{KeepsDefaults}
use Rattle.laws_settings.proofs.Callers.{remembers_itself}
use Rattle.driver_progress.specs.declared.phase.Phase.{Phase}
use Rattle.driver_progress.specs.declared.phase.Phase.TheVariants.{Reset, Settling, Walking, SettingUp, Ready}
use Rattle.driver_progress.specs.declared.phase.Phase.TheVariants.{Unanswered, Failed}
use Rattle.driver_progress.specs.Phases.{is_asking, goes_on}
use Rattle.driver_progress.specs.Tasks.{Task, DriverLine}
use Rattle.driver_progress.specs.Seen.{Seen, seen_by, values_of}
use Rattle.driver_progress.specs.States.{State}
use Rattle.driver_progress.specs.Progress.{Trail, trail_of}
use Rattle.driver_progress.proofs.Callers.{trail_row}
use Rattle.driver_progress.specs.Answers.{AnswersAgree}
use Rattle.driver_progress.specs.Beginning.{CanReset, IsSettling, IsUntaken}
use Rattle.driver_progress.specs.Unread.{AreUnread}
use Rattle.period_writer.specs.Runs.{Tally}
use Rattle.driver_progress.specs.Next.{led, tally_next}
use Rattle.driver_progress.specs.Announcing.{AreCodecs}
use Rattle.driver_bring_up.specs.Standing.{Agrees, answers_of}
use Rattle.driver_bring_up.specs.Commanding.{IsStretch, answer_in}
use Rattle.driver_bring_up.specs.declared.bringing.BringUp.{BringUp}
use Rattle.driver_bring_up.specs.Calls.{state_of, AgreesAfter, Leads, IsKept, IsTaskOf, Begins}
use Rattle.driver_bring_up.specs.Told.{found_none, Settles, IsStill, LooksOn}
use Rattle.driver_bring_up.proofs.Callers.{unread_none, answer_none}
use Rattle.laws_bring_up.specs.Stretches.{FindsIn, IsOpen}
use Rattle.laws_bring_up.specs.Standing.{IsTaskOfCodecs, IsLastSent, IsAsking, HaveTaken, CanBegin, Announce, StandsIn}
use Rattle.laws_bring_up.proofs.Finding.{reset_finds, settle_finds, going_finds}
use Rattle.laws_bring_up.proofs.Rows.{unread_done, written_within}
use Rattle.laws_bring_up.proofs.Grows.{row_on}
use Rattle.laws_bring_up.proofs.Noting.{Laws}
use Rattle.laws_bring_up.proofs.Following.{AgendaLaws, Later, row_remembers, stage_on}
use Rattle.laws_bring_up.proofs.Calling.{not_over, stands_in, Kept, looks_on, at_blocks}
use Rattle.laws_bring_up.proofs.Codecs.{IsAbove, above, codecs_found}
use Rattle.laws_bring_up.proofs.Beginning.{IsSettledOn, settles_on, resets_on, over_on, over_sent, over_outstanding, unchanged}
use Rattle.laws_bring_up.proofs.Walked.{walked_on}

no_word : (word : ℕ) → None ≡ Some word → ⊥
no_word word is = cc

no_reset : Reset ≡ Settling → ⊥
no_reset is = cc

settling_reset : {phase : Phase} → phase ≡ Reset → phase ≡ Settling → ⊥
settling_reset {phase} was settling = no_reset (sym was ∙ settling)

no_unanswered : (codec command issued noticed : ℕ) → Unanswered codec command issued noticed ≡ Settling → ⊥
no_unanswered codec command issued noticed is = cc

no_failed : Failed ≡ Settling → ⊥
no_failed is = cc

no_walking : Settling ≡ Walking → ⊥
no_walking is = cc

settling_walks : {phase : Phase} → phase ≡ Settling → phase ≡ Walking → ⊥
settling_walks {phase} was walking = no_walking (sym was ∙ walking)

addresses_are : (codecs : List CodecState) → addresses_of codecs ≡ map (λ (graph : RawCodec). graph.address) (graphs_in codecs)
addresses_are [] = refl
addresses_are (codec ∷ codecs) = ap (λ (rest : List ℕ). codec.graph.address ∷ rest) (addresses_are codecs)

-- where no call for an interrupt found none, the reset was made
settled_else : {A B C D : Type 0} (none : Bool) → none ≡ false → (A × B) ⊎ ((none ≡ true) × C × D) → B
settled_else none some (inl settles) = settles.1
settled_else none some (inr left) = absurd (false≢true (sym some ∙ left.0))

module _ (means : Means) (verbs : RawCodec → List Command) (graphs : List RawCodec) (task : Task) (laws : AgendaLaws means verbs graphs)
    (begins : (agenda : Agenda) → agenda.addresses.items ≡ map (λ (graph : RawCodec). graph.address) graphs → BeginsWalk agenda.addresses.items [] agenda → Follows means verbs graphs 0 agenda)
    (of : IsTaskOfCodecs means verbs graphs task) (notes : Laws) where
  -- a call in a stretch that is open, as it is told
  pub record Called (lines left : List DriverLine) (budget : ℕ) (irq : Bool) (old new : BringUp) (before after : Telling) : Type 0 where
    pub silent : old.phase ≡ Ready → task.plays ≡ false
    pub opened : IsOpen task lines left (Some (record { irq = irq; budget = budget })) (state_of old) before
    pub blocks : IsTaskOf old task
    pub leads : Leads means irq old new (Some before) (Some after)
    pub kept : IsKept old new
    pub graphs_are : graphs_in (world_of before).codecs ≡ graphs

  abbrev Ends : (lines left : List DriverLine) (new : BringUp) (after : Telling) → Type 0
  Ends lines left new after = Kept means verbs graphs task laws of lines left new after

  -- ---- calls that look for no answer

  stretch_of : (lines left : List DriverLine) (budget : ℕ) (irq : Bool) (old new : BringUp) (before after : Telling) (call : Called lines left budget irq old new before after) → AreUnread call.leads.made → AgreesAfter old new task
      → IsStretch task (state_of old) (Some (record { irq = irq; budget = budget })) call.leads.made false (state_of new)
  stretch_of lines left budget irq old new before after call unread agrees =
      let leads = call.leads in
      let none = answer_none old.engine.rings leads.made (unread_none leads.made unread) in
      let line = Some (record { irq = irq; budget = budget }) in
      subst (λ (found : Option ℕ). IsStretch task (state_of old) line leads.made (is_some found) (state_of new)) none
      (leads.is task budget call.blocks call.silent (not_over old.phase new.phase (answer_in old.engine.rings leads.made) (λ word some. absurd (no_word word (sym none ∙ some)))) agrees)

  -- the agenda stays then, but where the first walk begins
  same_agenda : {lines left : List DriverLine} {budget : ℕ} {irq : Bool} {old new : BringUp} {before after : Telling} (call : Called lines left budget irq old new before after) → AreUnread call.leads.made → (old.phase ≡ Settling → new.phase ≡ Walking → ⊥) → new.agenda ≡ old.agenda
  same_agenda {lines} {left} {budget} {irq} {old} {new} {before} {after} call unread still =
      call.leads.reads.left (λ asking. answer_none old.engine.rings call.leads.made (unread_none call.leads.made unread)) still

  graphs_on : (lines left : List DriverLine) (budget : ℕ) (irq : Bool) (old new : BringUp) (before after : Telling) (call : Called lines left budget irq old new before after) → graphs_in (world_of after).codecs ≡ graphs
  graphs_on lines left budget irq old new before after call =
      (row_remembers call.leads.made before after call.leads.by.is (world_of before).codecs (length (world_of before).commands) (remembers_itself (world_of before))).graphs ∙ call.graphs_are

  unasked : (old new : BringUp) → is_asking old.phase ≡ false → AgreesAfter old new task
  unasked old new not asking = absurd (false≢true (sym not ∙ asking))

  -- ---- the reset

  reset_told : (lines left : List DriverLine) (budget : ℕ) (irq : Bool) (old new : BringUp) (before after : Telling) → Called lines left budget irq old new before after → old.phase ≡ Reset → CanBegin old (world_of before) → Ends lines left new after
  reset_told lines left budget irq old new before after call was can =
      let leads = call.leads in
      let line : DriverLine = record { irq = irq; budget = budget } in
      let not = ap is_asking was in
      let unread = leads.unread not in
      let stretch = stretch_of lines left budget irq old new before after call unread (unasked old new not) in
      let seen = seen_by (values_of leads.made) false in
      let untaken = (leads.untaken was).is (world_of before).commands (record { stopped = can.stopped; commands_are = refl }) in
      let same = unchanged leads.made before after leads.by.is untaken.commands_are in
      let defaults = same.defaults can.defaults in
      let sent = ap (λ (state : State). state.sent) stretch.leads ∙ resets_on task (state_of old) line seen was ∙ can.none_sent in
      let resets = (leads.resets was).is old.engine.corb.address old.engine.rirb.address can.can in
      let corb = ap (λ corb. corb.address) call.kept.corb in
      let rirb = ap (λ rirb. rirb.address) call.kept.rirb in record {
        done = unread_done task lines left (Some line) (state_of old) (state_of new) leads.made before after call.opened leads.by.is unread stretch
            (reset_finds task (state_of old) line seen was (λ some. sym (ap (λ (state : State). state.phase) stretch.leads) ∙ settled_else (found_none irq leads.made) some resets));
        graphs_are = graphs_on lines left budget irq old new before after call;
        stage = by leads.made corb rirb sent (ap (λ (agenda : Agenda). agenda.graphs.items) (same_agenda call unread (λ settling walking. settling_reset was settling)) ∙ can.none_walked) defaults untaken resets;
      }
    where
      by : (made : List Event) → new.engine.corb.address ≡ old.engine.corb.address → new.engine.rirb.address ≡ old.engine.rirb.address → new.sent ≡ 0 → new.agenda.graphs.items ≡ [] → All KeepsDefaults (world_of after).codecs → IsUntaken (world_of before).commands (world_of after)
          → (IsSettling old.engine.corb.address old.engine.rirb.address (world_of after) × (new.phase ≡ Settling)) ⊎ ((found_none irq made ≡ true) × CanReset old.engine.corb.address old.engine.rirb.address (world_of after) × (new.phase ≡ Reset))
          → StandsIn new.phase means verbs graphs task (trail_of task lines after).written new (world_of after)
      by made corb rirb sent none defaults untaken (inl settles) =
          subst (λ (phase : Phase). StandsIn phase means verbs graphs task (trail_of task lines after).written new (world_of after)) (sym settles.1)
          (record { settling = subst (λ (rirb : ℕ). IsSettling new.engine.corb.address rirb (world_of after)) (sym rirb) (subst (λ (corb : ℕ). IsSettling corb old.engine.rirb.address (world_of after)) (sym corb) settles.0); defaults = defaults; none_sent = sent; none_walked = none })
      by made corb rirb sent none defaults untaken (inr still) =
          subst (λ (phase : Phase). StandsIn phase means verbs graphs task (trail_of task lines after).written new (world_of after)) (sym still.2)
          (record {
            can = subst (λ (rirb : ℕ). CanReset new.engine.corb.address rirb (world_of after)) (sym rirb) (subst (λ (corb : ℕ). CanReset corb old.engine.rirb.address (world_of after)) (sym corb) still.1);
            stopped = untaken.stopped;
            defaults = defaults;
            none_sent = sent;
            none_walked = none;
          })

  -- ---- the rings are set going

  map_none : (items : List RawCodec) → map (λ (graph : RawCodec). graph.address) items ≡ [] → items ≡ []
  map_none [] is = refl
  map_none (graph ∷ items) is = cc

  some_codec : (world : World) → graphs_in world.codecs ≡ graphs → addresses_of world.codecs ≢ []
  some_codec world are none = of.some (sym are ∙ map_none (graphs_in world.codecs) (sym (addresses_are world.codecs) ∙ none))

  walks_first : (status : ℕ) (agenda : Agenda) (world : World) → graphs_in world.codecs ≡ graphs → AscendFrom 0 (graphs_in world.codecs) → AreCodecs (codecs_in status) (addresses_of world.codecs) → Begins status agenda → Follows means verbs graphs 0 agenda
  walks_first status agenda world are ascend codecs begun =
      let same = addresses_are world.codecs ∙ ap (λ (graphs : List RawCodec). map (λ (graph : RawCodec). graph.address) graphs) are in
      let high = subst (IsAbove 0) (sym same) (above 0 graphs (subst (AscendFrom 0) are ascend)) in
      let long = ap (λ (addresses : List ℕ). length addresses) same ∙ length-map graphs (λ (graph : RawCodec). graph.address) in
      let few = of.few in
      let found = codecs_found (codecs_in status) (addresses_of world.codecs) high (omega (arith, long, few)) codecs in
      begins agenda (begun.addresses ∙ found ∙ same) (subst (λ (addresses : List ℕ). BeginsWalk addresses [] agenda) (sym begun.addresses) begun.begins)

  settle_told : (lines left : List DriverLine) (budget : ℕ) (irq : Bool) (old new : BringUp) (before after : Telling) → Called lines left budget irq old new before after → old.phase ≡ Settling → Announce old (world_of before) → Ends lines left new after
  settle_told lines left budget irq old new before after call was announce =
      let leads = call.leads in
      let line : DriverLine = record { irq = irq; budget = budget } in
      let not = ap is_asking was in
      let unread = leads.unread not in
      let stretch = stretch_of lines left budget irq old new before after call unread (unasked old new not) in
      let settles = (leads.settles was).is announce.settling (some_codec (world_of before) call.graphs_are) in
      let seen = seen_by (values_of leads.made) false in
      let on = subst (IsSettledOn (state_of old)) (sym stretch.leads) (settles_on task (state_of old) line seen was) in record {
        done = unread_done task lines left (Some line) (state_of old) (state_of new) leads.made before after call.opened leads.by.is unread stretch
            (settle_finds task (state_of old) line seen was (λ some settled. sym (ap (λ (state : State). state.phase) stretch.leads) ∙ settles.late some settled));
        graphs_are = graphs_on lines left budget irq old new before after call;
        stage = by call settles (on.sent ∙ announce.none_sent) on.phase;
      }
    where
      by : (call : Called lines left budget irq old new before after) → Settles (found_none irq call.leads.made) (slice_index (values_of call.leads.made WALCLK) 0) (slice_index (values_of call.leads.made STATESTS) 0) (addresses_of (world_of before).codecs) (world_of before).commands old new (world_of after) → new.sent ≡ 0
          → (new.phase ≡ old.phase) ⊎ ((new.phase ≡ Walking) × (new.engine.rings.outstanding ≡ None)) → StandsIn new.phase means verbs graphs task (trail_of task lines after).written new (world_of after)
      by call settles sent (inl same) =
          let phase = same ∙ was in
          let none = ap (λ (agenda : Agenda). agenda.graphs.items) (same_agenda call (call.leads.unread (ap is_asking was)) (λ settling walking. settling_walks phase walking)) ∙ announce.none_walked in
          let corb = ap (λ corb. corb.address) call.kept.corb in
          let rirb = ap (λ rirb. rirb.address) call.kept.rirb in
          let stays = unchanged call.leads.made before after call.leads.by.is (settles.untaken phase) in
          subst (λ (phase : Phase). StandsIn phase means verbs graphs task (trail_of task lines after).written new (world_of after)) (sym phase)
          (record {
            settling = subst (λ (rirb : ℕ). IsSettling new.engine.corb.address rirb (world_of after)) (sym rirb) (subst (λ (corb : ℕ). IsSettling corb old.engine.rirb.address (world_of after)) (sym corb) (settles.early phase));
            defaults = stays.defaults announce.defaults;
            none_sent = sent;
            none_walked = none;
          })
      by call settles sent (inr walks) =
          let started = settles.started walks.0 in
          let begun = length (world_of before).commands in
          let none = ap (λ (outstanding : Option Outstanding). answers_of new.sent outstanding) walks.1 ∙ sent in
          let taken : HaveTaken task.orders 0 begun (world_of after) = record {
            start = (world_of before).codecs;
            begun = begun;
            defaults = announce.defaults;
            remembers = row_remembers call.leads.made before after call.leads.by.is (world_of before).codecs begun (remembers_itself (world_of before));
            from_is = omega arith;
            words = refl;
          } in
          let read_within = started.stands.reading.within in
          subst (λ (phase : Phase). StandsIn phase means verbs graphs task (trail_of task lines after).written new (world_of after)) (sym walks.0)
          (record {
            from = begun;
            read = started.read;
            stands = at_blocks means verbs graphs task laws of begun started.read old new (world_of after) call.kept started.stands;
            agree = subst (λ (outstanding : Option Outstanding). AnswersAgree (asked_of outstanding) (trail_of task lines after).written started.read (world_of after).written) (sym walks.1)
                (notes.none (trail_of task lines after).written started.read (world_of after).written (written_within task lines after) read_within);
            last = subst (λ (outstanding : Option Outstanding). IsLastSent task.orders new.sent outstanding) (sym walks.1) (tt {0});
            follows = subst (λ (count : ℕ). Follows means verbs graphs count new.agenda) (sym none)
                (walks_first (slice_index (values_of call.leads.made STATESTS) 0) new.agenda (world_of before) call.graphs_are announce.settling.can_start.quiet.ascend (settles.codecs walks.0) (call.leads.begun was walks.0));
            taken = subst (λ (count : ℕ). HaveTaken task.orders count begun (world_of after)) (sym none) taken;
          })

  -- ---- while commands are sent

  still_told : (lines left : List DriverLine) (budget : ℕ) (irq : Bool) (old new : BringUp) (before after : Telling) (call : Called lines left budget irq old new before after) → goes_on old.phase ≡ true
      → (a : IsAsking means verbs graphs task (trail_of task lines before).written old (world_of before)) → IsStill old new call.leads.made a.from a.read after → Ends lines left new after
  still_told lines left budget irq old new before after call goes a still =
      let leads = call.leads in
      let line : DriverLine = record { irq = irq; budget = budget } in
      let agrees = λ (asking : is_asking old.phase ≡ true) (on : goes_on new.phase ≡ true). subst (λ (bring_up : BringUp). Agrees task (answers_of bring_up.sent bring_up.engine.rings.outstanding) bring_up.agenda) (sym still.same) (laws.agrees _ old.agenda task a.follows of.is_for) in
      let row = trail_row task lines leads.made before after leads.by.is still.plain in
      let on = row_on leads.made before after leads.by.is in
      let written : (trail_of task lines before).written ≡ (trail_of task lines after).written = sym (ap (λ (trail : Trail). trail.written) row.0) in
      let later : Later (world_of before) (world_of after) = record { on = on; remembers = row_remembers leads.made before after leads.by.is } in
      let stage = stage_on means verbs graphs task laws of.is_for of.right.well_formed old.sent old.engine.rings.outstanding old.agenda a.from (world_of before) (world_of after) a.stands.from_within later (record { last = a.last; follows = a.follows; taken = a.taken }) in
      let asking : IsAsking means verbs graphs task (trail_of task lines after).written old (world_of after) = record {
        from = a.from;
        read = a.read;
        stands = still.stands;
        agree = subst (λ (written : ℕ). AnswersAgree (asked_of old.engine.rings.outstanding) written a.read (world_of after).written) written
            (subst (λ (all : List Response). AnswersAgree (asked_of old.engine.rings.outstanding) (trail_of task lines before).written a.read all) (sym on.written)
            (notes.grows (asked_of old.engine.rings.outstanding) (trail_of task lines before).written a.read (world_of before).written on.more_written a.agree));
        last = stage.last;
        follows = stage.follows;
        taken = stage.taken;
      } in record {
        done = unread_done task lines left (Some line) (state_of old) (state_of new) leads.made before after call.opened leads.by.is still.unread (stretch_of lines left budget irq old new before after call still.unread agrees)
            (λ some. going_finds old.phase (state_of old) (seen_by (values_of leads.made) false) goes);
        graphs_are = graphs_on lines left budget irq old new before after call;
        stage = subst (λ (bring_up : BringUp). StandsIn bring_up.phase means verbs graphs task (trail_of task lines after).written bring_up (world_of after)) (sym still.same)
            (stands_in means verbs graphs task laws of old.phase (trail_of task lines after).written old (world_of after) goes asking);
      }

  asking_told : (lines left : List DriverLine) (budget : ℕ) (irq : Bool) (old new : BringUp) (before after : Telling) → Called lines left budget irq old new before after → goes_on old.phase ≡ true
      → IsAsking means verbs graphs task (trail_of task lines before).written old (world_of before) → Ends lines left new after
  asking_told lines left budget irq old new before after call goes a = by call ((call.leads.stays goes).is a.from a.read a.stands)
    where
      by : (call : Called lines left budget irq old new before after) → LooksOn irq old new call.leads.made a.from a.read before after ⊎ IsStill old new call.leads.made a.from a.read after → Ends lines left new after
      by call (inl on) =
          looks_on means verbs graphs task laws of notes lines left budget irq old new call.leads.made before after call.opened goes call.graphs_are a call.leads.reads
          (λ ended agrees. call.leads.is task budget call.blocks call.silent ended agrees) call.kept call.leads.by.is on
      by call (inr still) = still_told lines left budget irq old new before after call goes a still

  -- ---- once it is over

  over_told : (lines left : List DriverLine) (budget : ℕ) (irq : Bool) (old new : BringUp) (before after : Telling) (phase : Phase) → Called lines left budget irq old new before after → old.phase ≡ phase → is_asking phase ≡ false
      → ((seen : Seen) (tally : Tally) → led task (state_of old) seen tally phase ≡ state_of old) → (phase ≡ Settling → ⊥) → ((seen : Seen) → FindsIn phase (state_of old) seen)
      → (new.agenda ≡ old.agenda → new.sent ≡ old.sent → new.engine.rings.outstanding ≡ old.engine.rings.outstanding → StandsIn phase means verbs graphs task (trail_of task lines after).written new (world_of after)) → Ends lines left new after
  over_told lines left budget irq old new before after phase call was not still unsettled finds stage =
      let leads = call.leads in
      let line : DriverLine = record { irq = irq; budget = budget } in
      let unasking = ap is_asking was ∙ not in
      let unread = leads.unread unasking in
      let stretch = stretch_of lines left budget irq old new before after call unread (unasked old new unasking) in
      let seen = seen_by (values_of leads.made) false in
      let tally = tally_next task (state_of old) (Some line) seen in
      let stays = ap (λ (phase : Phase). led task (state_of old) seen tally phase) was ∙ still seen tally in
      let same = ap (λ (state : State). state.phase) stretch.leads ∙ over_on task (state_of old) line seen stays ∙ was in
      let sent = ap (λ (state : State). state.sent) stretch.leads ∙ over_sent task (state_of old) line seen stays in
      let outstanding = ap (λ (state : State). state.rings.outstanding) stretch.leads ∙ over_outstanding task (state_of old) line seen stays in record {
        done = unread_done task lines left (Some line) (state_of old) (state_of new) leads.made before after call.opened leads.by.is unread stretch
            (λ some. subst (λ (phase : Phase). FindsIn phase (state_of old) seen) (sym was) (finds seen));
        graphs_are = graphs_on lines left budget irq old new before after call;
        stage = subst (λ (phase : Phase). StandsIn phase means verbs graphs task (trail_of task lines after).written new (world_of after)) (sym same) (stage (same_agenda call unread (λ settling walking. unsettled (sym was ∙ settling))) sent outstanding);
      }

  -- ---- by phase

  pub call_told : (lines left : List DriverLine) (budget : ℕ) (irq : Bool) (old new : BringUp) (before after : Telling) (phase : Phase) → old.phase ≡ phase → Called lines left budget irq old new before after
      → StandsIn phase means verbs graphs task (trail_of task lines before).written old (world_of before) → Ends lines left new after
  call_told lines left budget irq old new before after Reset was call stage = reset_told lines left budget irq old new before after call was stage
  call_told lines left budget irq old new before after Settling was call stage = settle_told lines left budget irq old new before after call was stage
  call_told lines left budget irq old new before after Walking was call stage = asking_told lines left budget irq old new before after call (ap goes_on was) stage
  call_told lines left budget irq old new before after SettingUp was call stage = asking_told lines left budget irq old new before after call (ap goes_on was) stage
  call_told lines left budget irq old new before after Ready was call stage = asking_told lines left budget irq old new before after call (ap goes_on was) stage
  call_told lines left budget irq old new before after (Unanswered codec command issued noticed) was call stage =
      over_told lines left budget irq old new before after (Unanswered codec command issued noticed) call was refl (λ seen tally. refl) (λ is. no_unanswered codec command issued noticed is) (λ seen. tt {0}) (λ same sent outstanding. walked_on graphs task old new same sent outstanding stage)
  call_told lines left budget irq old new before after Failed was call stage = over_told lines left budget irq old new before after Failed call was refl (λ seen tally. refl) (λ is. no_failed is) (λ seen. tt {0}) (λ same sent outstanding. walked_on graphs task old new same sent outstanding stage)
  call_told lines left budget irq old new before after phase was call stage = absurd stage
