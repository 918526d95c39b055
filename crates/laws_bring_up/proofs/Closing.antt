-- The last call of a bring-up that is told keeps to progress.
use Rattle.std.proofs.Common.{◌≡◌, ◌≤◌, ℕ, Bool, true, false, List, [], ◌++◌, length, Option, Some, None, refl, sym, ap, subst, ◌∙◌, arith, append_assoc, length-append, ◌⊎◌, inl, inr, ◌+◌, nat_le, if◌then◌else◌}
use Rattle.std.proofs.lemmas.Bool.{false≢true}
use Rattle.std.specs.Option.{is_some}
use Rattle.verb_codes.specs.declared.verbs.Command.{Command}
use Rattle.codec_graph.specs.declared.raw.RawCodec.{RawCodec}
use Rattle.route_planner.specs.declared.routes.Plan.{Plan}
use Rattle.route_setup.specs.Means.{Means}
use Rattle.world_rings.specs.declared.response.Response.{Response}
use Rattle.hda_world.specs.Worlds.{TakenCommand}
use Rattle.hda_world.specs.Events.{Event}
use Rattle.hda_world.specs.Tellings.{Telling, world_of, Makes}
use Rattle.command_engine.specs.declared.ring_places.RingPlaces.{RingPlaces}
use Rattle.command_engine.specs.declared.answers.Outstanding.{Outstanding}
use Rattle.command_engine.specs.Fetchings.{AscendFrom, graphs_in}
use Rattle.command_engine.specs.Polling.{asked_of, still_outstanding}
use Rattle.driver_progress.specs.declared.phase.Phase.{Phase}
use Rattle.driver_progress.specs.declared.phase.Phase.TheVariants.{Reset, Settling, Walking, SettingUp, Ready, Playing}
use Rattle.driver_progress.specs.declared.phase.Phase.TheVariants.{Unanswered, Failed}
use Rattle.driver_progress.specs.Phases.{is_asking, goes_on, is_early}
use Rattle.driver_progress.specs.Tasks.{Task, DriverLine}
use Rattle.driver_progress.specs.States.{State}
use Rattle.driver_progress.specs.Seen.{Seen, seen_by, values_of, clock_of}
use Rattle.driver_progress.specs.Next.{closed, tally_next, phase_polled, outstanding_if}
use Rattle.period_writer.specs.Runs.{Tally}
use Rattle.command_engine.specs.Polling.{answer_limit}
use Rattle.driver_agenda.specs.declared.agenda.Agenda.{Agenda}
use Rattle.driver_agenda.specs.Following.{Follows}
use Rattle.laws_bring_up.specs.Standing.{HasWalked, WalkedIn, IsEnded}
use Rattle.laws_bring_up.proofs.Ready.{all_answered, at_most}
use Rattle.laws_bring_up.proofs.Walked.{none_walked, walked_on, walked_by, walked_in}
use Rattle.driver_progress.specs.Progress.{Trail, trail_of}
use Rattle.driver_progress.specs.Noting.{with_accesses}
use Rattle.driver_progress.proofs.Callers.{ConformsTo, asking_goes_on}
use Rattle.driver_progress.specs.Answers.{AnswersAgree}
use Rattle.driver_progress.specs.Commands.{ask_accesses}
use Rattle.driver_progress.specs.Shutting.{shut_accesses}
use Rattle.driver_progress.specs.Unread.{AreUnread}
use Rattle.driver_bring_up.specs.Standing.{answers_of}
use Rattle.driver_bring_up.specs.Commanding.{IsStretch, answer_in}
use Rattle.driver_bring_up.specs.declared.bringing.BringUp.{BringUp}
use Rattle.driver_bring_up.specs.Calls.{state_of, Ends, IsTaskOf}
use Rattle.driver_bring_up.specs.Told.{LooksLast}
use Rattle.driver_bring_up.proofs.Callers.{unread_none, answer_none}
use Rattle.laws_bring_up.specs.Stretches.{IsOpen, IsDone}
use Rattle.laws_bring_up.specs.Standing.{IsTaskOfCodecs, IsAsking, StandsIn}
use Rattle.laws_bring_up.proofs.Accesses.{shut_are, looked_accesses}
use Rattle.laws_bring_up.proofs.Rows.{unread_row, unread_done, stretch_done}
use Rattle.laws_bring_up.proofs.Grows.{row_on}
use Rattle.laws_bring_up.proofs.Looking.{look_noted}
use Rattle.laws_bring_up.proofs.Noting.{Laws, answered_same}
use Rattle.laws_bring_up.proofs.Following.{AgendaLaws, Later, row_remembers, stage_on, looks_by}
use Rattle.laws_bring_up.proofs.Calling.{not_over, led_of}

no_word : (word : ℕ) → None ≡ Some word → ⊥
no_word word is = cc

no_walking : Settling ≡ Walking → ⊥
no_walking is = cc

-- ---- the trail

-- over the look and the shutting
pub record LastNoted (task : Task) (lines : List DriverLine) (made : List Event) (found : Bool) (old new : Telling) : Type 0 where
  pub written : ℕ
  pub trail : trail_of task lines new ≡ record (with_accesses (trail_of task lines old) made) { written = written; answered = found }
  pub conforms : ConformsTo task lines old → ConformsTo task lines new

shut_unread : AreUnread shut_accesses
shut_unread = (tt {0}, (tt {0}, (tt {0}, tt {0})))

same_start : (begins before : Telling) → Makes [] before begins → begins ≡ before
same_start begins before makes = makes.by

pub last_noted : Laws → (task : Task) (lines left : List DriverLine) (old new : BringUp) (made : List Event) (from read : ℕ) (before after : Telling) → IsOpen task lines left None (state_of old) before
    → AnswersAgree (asked_of old.engine.rings.outstanding) (trail_of task lines before).written read (world_of before).written → (on : LooksLast old new made from read before after)
    → LastNoted task lines made (is_some (answer_in old.engine.rings made)) before after
last_noted laws task lines left old new made from read before after opened agree on =
    let looked = on.looked in
    let rings = old.engine.rings in
    let corb = old.engine.corb.address in
    let rirb = old.engine.rirb.address in
    let c0 = trail_of task lines before in
    let ask = ask_accesses rirb on.clock rings on.reads in
    let begun = trail_of task lines looked.begins in
    let start = ap (trail_of task lines) (same_start looked.begins before looked.first_made) in
    let look = look_noted laws.polls task lines from read corb rirb on.clock rings on.reads looked.begins looked.ends looked.look_made looked.stood in
    let ended = world_of looked.ends in
    let on_look = row_on ask looked.begins looked.ends looked.look_made in
    let written = on_look.written ∙ ap (λ (telling : Telling). (world_of telling).written ++ on_look.more_written) (same_start looked.begins before looked.first_made) in
    let agree_ends = subst (λ (written : List Response). AnswersAgree (asked_of rings.outstanding) c0.written read written) (sym written)
    (laws.grows (asked_of rings.outstanding) c0.written read (world_of before).written on_look.more_written agree) in
    let found = answered_same laws rings c0.written read ended begun (answer_in rings made)
    (ap (λ (trail : Trail). trail.state.rings) start ∙ ap (λ (state : State). state.rings) opened.state_is) (ap (λ (trail : Trail). trail.written) start) agree_ends looked.found in
    let row = unread_row task lines shut_accesses looked.ends after looked.rest_made.by shut_unread in record {
      written = row.written;
      trail = row.trail
          ∙ ap (λ (trail : Trail). record (with_accesses trail shut_accesses) { written = row.written }) look.trail
          ∙ ap (λ (answered : Bool). record (with_accesses (with_accesses begun ask) shut_accesses) { written = row.written; answered = answered }) found
          ∙ ap (λ (trail : Trail). record (with_accesses (with_accesses trail ask) shut_accesses) { written = row.written; answered = is_some (answer_in rings made) }) start
          ∙ ap (λ (all : List Event). record c0 { made = all; written = row.written; answered = is_some (answer_in rings made) })
          (append_assoc c0.made ask shut_accesses ∙ ap (λ (made : List Event). c0.made ++ made) (sym looked.made_is));
      conforms = λ conforms. row.conforms (look.conforms (subst (ConformsTo task lines) (sym (same_start looked.begins before looked.first_made)) conforms));
    }

-- ---- where it leads

pub closed_still : (task : Task) (state : State) (seen : Seen) (tally : Tally) (phase : Phase) → is_asking phase ≡ false → is_early phase ≡ true → closed task state seen tally phase ≡ state
closed_still task state seen tally Walking not early = absurd (false≢true (sym not))
closed_still task state seen tally SettingUp not early = absurd (false≢true (sym not))
closed_still task state seen tally Playing not early = absurd (false≢true early)
closed_still task state seen tally phase not early = refl

-- to a phase where commands may come, or one was given up
record WasGivenUp (phase : Phase) : Type 0 where
  codec : ℕ
  command : ℕ
  issued : ℕ
  noticed : ℕ
  is : phase ≡ Unanswered codec command issued noticed

abbrev EndsIn : Phase → Type 0
EndsIn phase = (goes_on phase ≡ true) ⊎ WasGivenUp phase

answers_go : (all walked : Bool) → goes_on (if all then Ready else (if walked then SettingUp else Walking)) ≡ true
answers_go true walked = refl
answers_go false true = refl
answers_go false false = refl

polled_ends : (task : Task) (state : State) (clock : ℕ) (outstanding : Option Outstanding) → goes_on state.phase ≡ true → EndsIn (phase_polled task state clock outstanding)
polled_ends task state clock None goes = inl (answers_go (nat_le (length task.orders) state.sent) (nat_le task.walks state.sent))
polled_ends task state clock (Some command) goes = by (nat_le (command.issued + answer_limit) clock)
  where
    by : (late : Bool) → EndsIn (if late then Unanswered command.codec command.word command.issued clock else state.phase)
    by true = inr (record { codec = command.codec; command = command.word; issued = command.issued; noticed = clock; is = refl })
    by false = inl goes

closed_ends : (task : Task) (state : State) (seen : Seen) (tally : Tally) (phase : Phase) → is_asking phase ≡ true → goes_on state.phase ≡ true → EndsIn (closed task state seen tally phase).phase
closed_ends task state seen tally Walking asking goes = polled_ends task state (clock_of seen) (outstanding_if seen.answered state.rings.outstanding) goes
closed_ends task state seen tally SettingUp asking goes = polled_ends task state (clock_of seen) (outstanding_if seen.answered state.rings.outstanding) goes
closed_ends task state seen tally phase asking goes = absurd (false≢true asking)

-- to Ready only where the outstanding command is answered, and all were sent
pub record IsReadyBy (task : Task) (sent : ℕ) (outstanding : Option Outstanding) : Type 0 where
  pub none : outstanding ≡ None
  pub all : length task.orders ≤ sent

polled_ready : (task : Task) (state : State) (clock : ℕ) (outstanding : Option Outstanding) → is_asking state.phase ≡ true → phase_polled task state clock outstanding ≡ Ready → IsReadyBy task state.sent outstanding
polled_ready task state clock None asking is = record { none = refl; all = at_most (length task.orders) state.sent (all_answered (nat_le (length task.orders) state.sent) (nat_le task.walks state.sent) is) }
polled_ready task state clock (Some command) asking is = absurd (by (nat_le (command.issued + answer_limit) clock) is)
  where
    by : (late : Bool) → (if late then Unanswered command.codec command.word command.issued clock else state.phase) ≡ Ready → ⊥
    by true is = cc
    by false is = false≢true (sym (ap is_asking is) ∙ asking)

pub closed_ready : (task : Task) (state : State) (seen : Seen) (tally : Tally) (phase : Phase) → is_asking phase ≡ true → is_asking state.phase ≡ true → (closed task state seen tally phase).phase ≡ Ready
    → IsReadyBy task state.sent (outstanding_if seen.answered state.rings.outstanding)
closed_ready task state seen tally Walking asking asks is = polled_ready task state (clock_of seen) (outstanding_if seen.answered state.rings.outstanding) asks is
closed_ready task state seen tally SettingUp asking asks is = polled_ready task state (clock_of seen) (outstanding_if seen.answered state.rings.outstanding) asks is
closed_ready task state seen tally phase asking asks is = absurd (false≢true asking)

-- ---- the call

module _ (means : Means) (verbs : RawCodec → List Command) (graphs : List RawCodec) (task : Task) (laws : AgendaLaws means verbs graphs)
    (of : IsTaskOfCodecs means verbs graphs task) (notes : Laws) where
  pub record Shut (lines left : List DriverLine) (new : BringUp) (after : Telling) : Type 0 where
    pub done : IsDone task lines left (state_of new) after
    pub ended : IsEnded graphs task new

  -- where nothing is outstanding that may be answered, all stays
  record Stayed (lines left : List DriverLine) (old new : BringUp) (after : Telling) : Type 0 where
    done : IsDone task lines left (state_of new) after
    phase_is : new.phase ≡ old.phase
    sent_is : new.sent ≡ old.sent
    agenda_is : new.agenda ≡ old.agenda
    outstanding_is : new.engine.rings.outstanding ≡ old.engine.rings.outstanding

  quiet_ends : (lines left : List DriverLine) (old new : BringUp) (before after : Telling) → IsOpen task lines left None (state_of old) before → IsTaskOf old task → Ends means old new (Some before) (Some after) → is_asking old.phase ≡ false
      → Stayed lines left old new after
  quiet_ends lines left old new before after opened blocks ends not =
      let unread = ends.unread not in
      let none = answer_none old.engine.rings ends.made (unread_none ends.made unread) in
      let stretch = subst (λ (found : Option ℕ). IsStretch task (state_of old) None ends.made (is_some found) (state_of new)) none
      (ends.is task blocks (not_over old.phase new.phase (answer_in old.engine.rings ends.made) (λ word some. absurd (no_word word (sym none ∙ some)))) (λ asking. absurd (false≢true (sym not ∙ asking)))) in
      let seen = seen_by (values_of ends.made) false in
      let leads = stretch.leads in
      let still = closed_still task (state_of old) seen (tally_next task (state_of old) None seen) old.phase not old.early in
      let phase : new.phase ≡ old.phase = ap (λ (state : State). state.phase) leads ∙ ap (λ (state : State). state.phase) still in record {
        done = unread_done task lines left None (state_of old) (state_of new) ends.made before after opened ends.by.is unread stretch (tt {0});
        phase_is = phase;
        sent_is = ap (λ (state : State). state.sent) leads ∙ ap (λ (state : State). state.sent) still;
        outstanding_is = ap (λ (state : State). state.rings.outstanding) leads ∙ ap (λ (state : State). state.rings.outstanding) still;
        agenda_is = ends.reads.left (λ asking. none) (λ settling walking. no_walking (sym (phase ∙ settling) ∙ walking));
      }

  ended_on : (lines left : List DriverLine) (old new : BringUp) (after : Telling) → Stayed lines left old new after → HasWalked graphs task old → WalkedIn old.phase (old.agenda.graphs.items ≡ graphs) → Shut lines left new after
  ended_on lines left old new after stayed walked by_phase = record {
    done = stayed.done;
    ended = record {
      walked = walked_on graphs task old new stayed.agenda_is stayed.sent_is stayed.outstanding_is walked;
      by_phase = subst (λ (phase : Phase). WalkedIn phase (new.agenda.graphs.items ≡ graphs)) (sym stayed.phase_is) (subst (λ (agenda : Agenda). WalkedIn old.phase (agenda.graphs.items ≡ graphs)) (sym stayed.agenda_is) by_phase);
    };
  }

  ended_in : (bring_up : BringUp) → Follows means verbs graphs (answers_of bring_up.sent bring_up.engine.rings.outstanding) bring_up.agenda → EndsIn bring_up.phase → WalkedIn bring_up.phase (bring_up.agenda.graphs.items ≡ graphs)
  ended_in bring_up follows (inl goes) =
      let count = answers_of bring_up.sent bring_up.engine.rings.outstanding in
      let agrees = laws.agrees count bring_up.agenda task follows of.is_for in
      walked_in means verbs graphs task of count bring_up.agenda bring_up.phase follows (bring_up.led goes ∙ agrees.phase) goes
  ended_in bring_up follows (inr given_up) = subst (λ (phase : Phase). WalkedIn phase (bring_up.agenda.graphs.items ≡ graphs)) (sym given_up.is) (tt {0})

  -- where a command is
  last_look : (lines left : List DriverLine) (old new : BringUp) (before after : Telling) → IsOpen task lines left None (state_of old) before → IsTaskOf old task → (ends : Ends means old new (Some before) (Some after)) → is_asking old.phase ≡ true
      → graphs_in (world_of before).codecs ≡ graphs → (a : IsAsking means verbs graphs task (trail_of task lines before).written old (world_of before)) → Shut lines left new after
  last_look lines left old new before after opened blocks ends asking graphs_are a =
      let on = (ends.looks asking).is a.from a.read a.stands in
      let looked = on.looked in
      let rings = old.engine.rings in
      let made = ends.made in
      let found = answer_in rings made in
      let goes = asking_goes_on old.phase asking in
      let ask = ask_accesses old.engine.rirb.address on.clock rings on.reads in
      let at = same_start looked.begins before looked.first_made in
      let look = subst (λ (telling : Telling). Makes ask telling looked.ends) at looked.look_made in
      let later : Later (world_of before) (world_of looked.ends) = record { on = row_on ask before looked.ends look; remembers = row_remembers ask before looked.ends look } in
      let known = later.remembers a.taken.start a.taken.begun a.taken.remembers in
      let graphs_ends = known.graphs ∙ sym a.taken.remembers.graphs ∙ graphs_are in
      let ascend = subst (AscendFrom 0) graphs_ends looked.stands.ascend in
      let from_within = a.stands.from_within in
      let long = ap (λ (commands : List TakenCommand). length commands) later.on.taken ∙ length-append (world_of before).commands later.on.more_taken in
      let within : a.from ≤ length (world_of looked.ends).commands = omega (arith, from_within, long) in
      let stage = stage_on means verbs graphs task laws of.is_for of.right.well_formed old.sent rings.outstanding old.agenda a.from (world_of before) (world_of looked.ends) from_within later (record { last = a.last; follows = a.follows; taken = a.taken }) in
      let looks = looks_by means verbs graphs task laws of.is_for of.right.well_formed old.sent rings.outstanding found old.agenda new.agenda a.from new.phase (world_of looked.ends) ascend graphs_ends within stage looked.belongs
      (led_of means verbs graphs task laws of made old new found goes refl ends.reads) in
      let outstanding : new.engine.rings.outstanding ≡ still_outstanding rings.outstanding found =
      ap (λ (rings : RingPlaces). rings.outstanding) on.rings ∙ ap (λ (found : Option ℕ). still_outstanding rings.outstanding found) looked.found_is in
      let count : answers_of old.sent (still_outstanding rings.outstanding found) ≡ answers_of new.sent new.engine.rings.outstanding =
      ap (λ (outstanding : Option Outstanding). answers_of old.sent outstanding) (sym outstanding) ∙ ap (λ (sent : ℕ). answers_of sent new.engine.rings.outstanding) (sym on.sent) in
      let follows = subst (λ (count : ℕ). Follows means verbs graphs count new.agenda) count looks.stage.follows in
      let agrees = λ (asking : is_asking old.phase ≡ true) (goes : goes_on new.phase ≡ true). laws.agrees _ new.agenda task follows of.is_for in
      let stretch = ends.is task blocks (not_over old.phase new.phase found looks.goes) agrees in
      let seen = seen_by (values_of made) (is_some found) in
      let phase = ap (λ (state : State). state.phase) stretch.leads in
      let noted = last_noted notes task lines left old new made a.from a.read before after opened a.agree on in record {
        done = stretch_done task lines left None (state_of old) (state_of new) made (is_some found) noted.written before after opened ends.by.is.by
            (looked_accesses old made [] on.clock on.reads shut_accesses a.from a.read before after looked shut_are) noted.trail (noted.conforms opened.conforms) stretch (tt {0});
        ended = record {
          walked = walked_by means verbs graphs task of new.sent new.engine.rings.outstanding new.agenda follows;
          by_phase = ended_in new follows (subst EndsIn (sym phase) (closed_ends task (state_of old) seen (tally_next task (state_of old) None seen) old.phase asking goes));
        };
      }

  pub end_told : (lines left : List DriverLine) (old new : BringUp) (before after : Telling) (phase : Phase) → old.phase ≡ phase → IsOpen task lines left None (state_of old) before → IsTaskOf old task → Ends means old new (Some before) (Some after)
      → graphs_in (world_of before).codecs ≡ graphs → StandsIn phase means verbs graphs task (trail_of task lines before).written old (world_of before) → Shut lines left new after
  end_told lines left old new before after Reset was opened blocks ends graphs_are stage =
      ended_on lines left old new after (quiet_ends lines left old new before after opened blocks ends (ap is_asking was)) (none_walked graphs old.agenda.graphs.items task.walks old.sent old.engine.rings.outstanding stage.none_walked stage.none_sent)
      (subst (λ (phase : Phase). WalkedIn phase (old.agenda.graphs.items ≡ graphs)) (sym was) (tt {0}))
  end_told lines left old new before after Settling was opened blocks ends graphs_are stage =
      ended_on lines left old new after (quiet_ends lines left old new before after opened blocks ends (ap is_asking was)) (none_walked graphs old.agenda.graphs.items task.walks old.sent old.engine.rings.outstanding stage.none_walked stage.none_sent)
      (subst (λ (phase : Phase). WalkedIn phase (old.agenda.graphs.items ≡ graphs)) (sym was) (tt {0}))
  end_told lines left old new before after Walking was opened blocks ends graphs_are stage = last_look lines left old new before after opened blocks ends (ap is_asking was) graphs_are stage
  end_told lines left old new before after SettingUp was opened blocks ends graphs_are stage = last_look lines left old new before after opened blocks ends (ap is_asking was) graphs_are stage
  end_told lines left old new before after Ready was opened blocks ends graphs_are stage =
      ended_on lines left old new after (quiet_ends lines left old new before after opened blocks ends (ap is_asking was))
      (walked_by means verbs graphs task of old.sent old.engine.rings.outstanding old.agenda stage.follows) (ended_in old stage.follows (inl (ap goes_on was)))
  end_told lines left old new before after (Unanswered codec command issued noticed) was opened blocks ends graphs_are stage =
      ended_on lines left old new after (quiet_ends lines left old new before after opened blocks ends (ap is_asking was)) stage (subst (λ (phase : Phase). WalkedIn phase (old.agenda.graphs.items ≡ graphs)) (sym was) (tt {0}))
  end_told lines left old new before after Failed was opened blocks ends graphs_are stage =
      ended_on lines left old new after (quiet_ends lines left old new before after opened blocks ends (ap is_asking was)) stage (subst (λ (phase : Phase). WalkedIn phase (old.agenda.graphs.items ≡ graphs)) (sym was) (tt {0}))
  end_told lines left old new before after phase was opened blocks ends graphs_are stage = absurd stage
