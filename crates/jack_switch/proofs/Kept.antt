-- What a driver keeps from call to call.
use Rattle.std.proofs.Common.{◌≡◌, ◌≤◌, ◌<◌, ◌+◌, ℕ, Bool, true, false, not, List, [], ◌∷◌, length, Option, None, Some, nat_le, inl, inr, refl, sym, ap, subst, ◌∙◌, arith}
use Rattle.std.specs.Prelude.{Contains, map, find}
use Rattle.std.specs.Option.{is_none, option_map}
use Rattle.std.proofs.lemmas.Bool.{and_parts, leb-true}
use Rattle.codec_graph.specs.declared.raw.RawCodec.{RawCodec}
use Rattle.route_planner.specs.declared.routes.Plan.{Plan}
use Rattle.dma_pool.specs.declared.blocks.Lent.{Lent}
use Rattle.dma_pool.specs.Blocks.{run_at}
use Rattle.dma_pool.specs.Pools.{PoolState}
use Rattle.command_engine.specs.Blocks.{corb_bytes, rirb_bytes}
use Rattle.command_engine.specs.declared.answers.Event.{Event}
use Rattle.command_engine.specs.declared.answers.Outstanding.{Outstanding}
use Rattle.command_engine.specs.declared.ring_places.RingPlaces.{RingPlaces}
use Rattle.command_engine.specs.Engines.{EngineState}
use Rattle.command_engine.specs.Entries.{responses_in, unasked_events_of}
use Rattle.command_engine.specs.Polling.{PollReads, answer_limit, found_by, rings_polled, still_outstanding}
use Rattle.hda_world.specs.Tellings.{Telling}
use Rattle.period_writer.specs.declared.geometry.Geometry.{Geometry}
use Rattle.period_writer.specs.Rings.{period_bytes, list_bytes}
use Rattle.period_writer.specs.Blocks.{are_apart, addresses_of, IsBesideAll}
use Rattle.period_writer.specs.Writers.{WriterState, KeepsRing, OwnsBlocks, tally_of}
use Rattle.period_writer.proofs.Callers.{owns_on}
use Rattle.driver_bring_up.specs.Commanding.{rings_with}
use Rattle.driver_progress.specs.Tasks.{order_of}
use Rattle.audio_driver.specs.Parting.{IsBesideRing}
use Rattle.verb_codes.specs.Verbs.{word_of}
use Rattle.jack_rules.specs.declared.pins.JackPin.{JackPin}
use Rattle.jack_rules.specs.declared.pins.SpeakerPin.{SpeakerPin}
use Rattle.jack_rules.specs.declared.pins.JackState.{JackState}
use Rattle.jack_rules.specs.declared.pins.SpeakerState.{SpeakerState}
use Rattle.jack_rules.specs.JackPins.{jacks_of, speakers_of}
use Rattle.jack_rules.specs.Switching as spec
use Rattle.jack_rules.specs.Switching.{SwitchingState, KeepsPins}
use Rattle.jack_switch.proofs.Words.{reach_on}
use Rattle.jack_switch.specs.SwitchRules.{choice_if, is_overdue}
use Rattle.jack_switch.specs.JackSteps.{LooksNow, PlaysNow}
use Rattle.audio_driver.specs.States.{is_open, played_as}
use Rattle.jack_switch.specs.JackDrivers.{JackDriverState, IsJackDriver, IsAskedBy, IsSwitchingOf, is_on_now, phase_if, phase_of}
use Rattle.jack_switch.specs.JackCalls.{IsUnanswered}
use Rattle.period_writer.specs.declared.course.Ran.{Ran}
use Rattle.period_writer.specs.declared.course.Ran.TheVariants.{Playing, Drained, Late}
use Rattle.period_writer.specs.Runs.{Tally}
use Rattle.driver_progress.specs.declared.phase.Phase.TheVariants.{Ready, Unanswered}

-- ---- where it begins

opened_jacks : (jacks : List JackPin) → map spec.pin_of (map spec.jack_opened jacks) ≡ jacks
opened_jacks [] = refl
opened_jacks (jack ∷ jacks) = ap (λ (rest : List JackPin). jack ∷ rest) (opened_jacks jacks)

opened_speakers : (speakers : List SpeakerPin) → map (λ (state : SpeakerState). state.speaker) (map spec.speaker_opened speakers) ≡ speakers
opened_speakers [] = refl
opened_speakers (speaker ∷ speakers) = ap (λ (rest : List SpeakerPin). speaker ∷ rest) (opened_speakers speakers)

pub opened_of : (graphs : List RawCodec) (plans : List Plan) → IsSwitchingOf graphs plans (spec.switching_opened graphs plans)
opened_of graphs plans = record { jacks = opened_jacks (jacks_of graphs plans); speakers = opened_speakers (speakers_of graphs plans) }

none_jack : (jack : JackPin) → None ≡ Some jack → ⊥
none_jack jack is = cc

pub none_asked : (outstanding : Option Outstanding) → IsAskedBy outstanding None
none_asked outstanding = record { asks = λ jack is. absurd (none_jack jack is) }

pub none_given : (noticed : ℕ) → None ≡ Some noticed → ⊥
none_given noticed is = cc

-- ---- the jack that is asked

asking_events : (switching : SwitchingState) (events : List Event) → (spec.told_events switching events).asking ≡ switching.asking
asking_events switching [] = refl
asking_events switching (event ∷ events) = asking_events (spec.told_event switching event) events

answered_none : (asking : Option JackPin) (switching : SwitchingState) (word : ℕ) → switching.asking ≡ asking → (spec.told_by asking switching word).asking ≡ None
answered_none None switching word is = is
answered_none (Some asked) switching word is = refl

-- after a look
asked_found : (outstanding : Option Outstanding) (switching : SwitchingState) (found : Option ℕ) → IsAskedBy outstanding switching.asking
    → IsAskedBy (still_outstanding outstanding found) (spec.told_found switching found).asking
asked_found outstanding switching None asked = asked
asked_found outstanding switching (Some word) asked =
    subst (λ (asking : Option JackPin). IsAskedBy None asking) (sym (answered_none switching.asking switching word refl)) (none_asked None)

pub asked_told : (outstanding : Option Outstanding) (switching : SwitchingState) (events : List Event) (found : Option ℕ) → IsAskedBy outstanding switching.asking
    → IsAskedBy (still_outstanding outstanding found) (spec.told_all switching events found).asking
asked_told outstanding switching events found asked =
    asked_found outstanding (spec.told_events switching events) found (subst (λ (asking : Option JackPin). IsAskedBy outstanding asking) (sym (asking_events switching events)) asked)

pub asked_looked : (old new : EngineState) (clock : ℕ) (switching switching' : SwitchingState) (overdue : Bool) (reads : PollReads) (before after : Option Telling)
    → LooksNow old new clock switching switching' overdue reads before after → IsAskedBy old.rings.outstanding switching.asking → IsAskedBy new.rings.outstanding switching'.asking
asked_looked old new clock switching switching' overdue reads before after looks asked =
    subst (λ (rings : RingPlaces). IsAskedBy rings.outstanding switching'.asking) (sym looks.rings)
    (subst (λ (switching : SwitchingState). IsAskedBy (rings_polled old.rings reads).outstanding switching.asking) (sym looks.told)
    (asked_told old.rings.outstanding switching (unasked_events_of (responses_in reads.entries)) (found_by old.rings reads) asked))

-- after the next command
asked_of : (jack asked : JackPin) (clock : ℕ) → Some jack ≡ Some asked
    → (command : Outstanding)
    × (Some (record { codec = (order_of (spec.sense_command jack)).codec; word = (order_of (spec.sense_command jack)).word; issued = clock }) ≡ Some command)
    × (command.codec ≡ asked.codec)
    × (command.word ≡ word_of (spec.sense_command asked))
asked_of jack asked clock is =
    let same : jack ≡ asked = cc in (
      record { codec = jack.codec; word = word_of (spec.sense_command jack); issued = clock },
      refl,
      ap (λ (jack : JackPin). jack.codec) same,
      ap (λ (jack : JackPin). word_of (spec.sense_command jack)) same,
    )

jack_asked : (rings : RingPlaces) (switching : SwitchingState) (found : Option JackState) (clock : ℕ) → IsAskedBy rings.outstanding switching.asking
    → IsAskedBy (rings_with (option_map order_of (spec.choice_by_jack switching found).command) clock rings).outstanding (spec.choice_by_jack switching found).next.asking
jack_asked rings switching None clock asked = asked
jack_asked rings switching (Some state) clock asked = record { asks = λ jack is. asked_of state.jack jack clock is }

speaker_asked : (rings : RingPlaces) (switching : SwitchingState) (found : Option SpeakerState) (clock : ℕ) → IsAskedBy rings.outstanding switching.asking
    → IsAskedBy (rings_with (option_map order_of (spec.choice_by_speaker switching found).command) clock rings).outstanding (spec.choice_by_speaker switching found).next.asking
speaker_asked rings switching None clock asked = jack_asked rings switching (find spec.is_to_ask switching.jacks) clock asked
speaker_asked rings switching (Some state) clock asked = none_asked (rings_with (option_map order_of (spec.choice_by_speaker switching (Some state)).command) clock rings).outstanding

pub asked_next : (may : Bool) (rings : RingPlaces) (switching : SwitchingState) (clock : ℕ) → IsAskedBy rings.outstanding switching.asking
    → IsAskedBy (rings_with (option_map order_of (choice_if may switching).command) clock rings).outstanding (choice_if may switching).next.asking
asked_next true rings switching clock asked = speaker_asked rings switching (find (spec.is_wrong switching.jacks) switching.speakers) clock asked
asked_next false rings switching clock asked = asked

-- and the pins stay
pub same_pins : (switching : SwitchingState) → KeepsPins switching switching
same_pins switching = record { jacks = refl; speakers = refl }

pub both_pins : (first second third : SwitchingState) → KeepsPins first second → KeepsPins second third → KeepsPins first third
both_pins first second third one other = record { jacks = other.jacks ∙ one.jacks; speakers = other.speakers ∙ one.speakers }

-- ---- what a call keeps

beside_on : (address address' bytes : ℕ) (old new : WriterState) → address' ≡ address → KeepsRing old new → IsBesideRing address bytes old → IsBesideRing address' bytes new
beside_on address address' bytes old new at keeps beside = record {
  list = ap (λ (address : ℕ). are_apart address bytes new.list.address (list_bytes new.geometry.periods)) at
      ∙ ap (λ (list : Lent). are_apart address bytes list.address (list_bytes new.geometry.periods)) keeps.list
      ∙ ap (λ (geometry : Geometry). are_apart address bytes old.list.address (list_bytes geometry.periods)) keeps.geometry
      ∙ beside.list;
  periods = subst (λ (address : ℕ). IsBesideAll address bytes (period_bytes new.geometry.period) (addresses_of new.periods)) (sym at)
      (subst (λ (geometry : Geometry). IsBesideAll address bytes (period_bytes geometry.period) (addresses_of new.periods)) (sym keeps.geometry)
      (subst (λ (periods : List Lent). IsBesideAll address bytes (period_bytes old.geometry.period) (addresses_of periods)) (sym keeps.periods) beside.periods));
}

never : false ≡ true → ⊥
never is = cc

not_on : (b : Bool) → b ≡ true → b ≡ false → ⊥
not_on b on off = never (sym off ∙ on)

-- where a run comes next it did not give up, and the stream was not stopped
given_none : (given : Option ℕ) → is_none given ≡ true → given ≡ None
given_none None is = refl
given_none (Some noticed) is = cc

pub on_parts : (driver : JackDriverState) → is_on_now driver ≡ true → (is_open driver.writer.course.ran ≡ true) × (driver.given_up ≡ None)
on_parts driver on =
    let both = and_parts (is_open driver.writer.course.ran) (is_none driver.given_up) on in
    (both.0, given_none driver.given_up both.1)

pub not_given : (given : Option ℕ) → given ≡ None → (noticed : ℕ) → given ≡ Some noticed → ⊥
not_given given none noticed is = none_given noticed (sym none ∙ is)

pub given_by : (outstanding : Option Outstanding) (clock noticed : ℕ) → Some clock ≡ Some noticed → is_overdue outstanding clock ≡ true → is_overdue outstanding noticed ≡ true
given_by outstanding clock noticed is overdue =
    let same : clock ≡ noticed = cc in
    subst (λ (n : ℕ). is_overdue outstanding n ≡ true) same overdue

-- a driver is one after a run, or after it gave up
pub kept_on : (old new : JackDriverState) → IsJackDriver old → length old.writer.runs < old.calls → new.engine.rings.started ≡ old.engine.rings.started → new.engine.events ≡ []
    → new.engine.corb ≡ old.engine.corb → new.engine.rirb ≡ old.engine.rirb → KeepsRing old.writer new.writer → length new.writer.runs ≤ length old.writer.runs + 1 → new.writer.course.started ≡ true
    → KeepsPins old.switching new.switching → IsAskedBy new.engine.rings.outstanding new.switching.asking
    → ((noticed : ℕ) → new.given_up ≡ Some noticed → is_overdue new.engine.rings.outstanding noticed ≡ true)
    → new.pool ≡ old.pool → new.graphs ≡ old.graphs → new.plans ≡ old.plans → new.runs ≡ old.runs → new.calls ≡ old.calls → IsJackDriver new
kept_on old new is free started quiet corb rirb keeps recorded on pins asked given pool graphs plans runs calls = record {
  started = started ∙ is.started;
  quiet = quiet;
  owns_corb = subst (λ (pool : PoolState). Contains pool.taken (run_at new.engine.corb.address corb_bytes)) (sym pool)
      (subst (λ (corb : Lent). Contains old.pool.taken (run_at corb.address corb_bytes)) (sym corb) is.owns_corb);
  owns_rirb = subst (λ (pool : PoolState). Contains pool.taken (run_at new.engine.rirb.address rirb_bytes)) (sym pool)
      (subst (λ (rirb : Lent). Contains old.pool.taken (run_at rirb.address rirb_bytes)) (sym rirb) is.owns_rirb);
  owns_ring = subst (λ (pool : PoolState). OwnsBlocks pool.taken new.writer) (sym pool) (owns_on old.pool.taken old.writer new.writer keeps is.owns_ring);
  beside_corb = beside_on old.engine.corb.address new.engine.corb.address corb_bytes old.writer new.writer (ap (λ (corb : Lent). corb.address) corb) keeps is.beside_corb;
  beside_rirb = beside_on old.engine.rirb.address new.engine.rirb.address rirb_bytes old.writer new.writer (ap (λ (rirb : Lent). rirb.address) rirb) keeps is.beside_rirb;
  records = (let room = is.records in let same = keeps.records in omega (arith, room, same, runs));
  few_calls = (let few = is.few_calls in omega (arith, few, runs, calls));
  few_recorded = omega (arith, free, recorded, calls);
  pins = record {
    jacks = pins.jacks ∙ is.pins.jacks ∙ ap (λ (graphs : List RawCodec). jacks_of graphs old.plans) (sym graphs) ∙ ap (λ (plans : List Plan). jacks_of new.graphs plans) (sym plans);
    speakers = pins.speakers ∙ is.pins.speakers ∙ ap (λ (graphs : List RawCodec). speakers_of graphs old.plans) (sym graphs) ∙ ap (λ (plans : List Plan). speakers_of new.graphs plans) (sym plans);
  };
  reach = reach_on old.switching new.switching pins is.reach;
  asked = asked;
  fresh = λ off. absurd (not_on new.writer.course.started on off);
  idle = λ off. absurd (not_on new.writer.course.started on off);
  kept = λ off. absurd (not_on new.writer.course.started on off);
  given = given;
}

-- ---- a call more

pub was_not : (b : Bool) → not b ≡ true → b ≡ false
was_not true is = cc
was_not false is = refl

pub was_so : (b : Bool) → not b ≡ false → b ≡ true
was_so true is = refl
was_so false is = cc

-- a driver is one with a call more
pub called : (driver : JackDriverState) → IsJackDriver driver → driver.calls < driver.runs → IsJackDriver (record driver { calls = driver.calls + 1 })
called driver is few = record {
  started = is.started;
  quiet = is.quiet;
  owns_corb = is.owns_corb;
  owns_rirb = is.owns_rirb;
  owns_ring = is.owns_ring;
  beside_corb = is.beside_corb;
  beside_rirb = is.beside_rirb;
  records = is.records;
  few_calls = omega (arith, few);
  few_recorded = (let recorded = is.few_recorded in omega (arith, recorded));
  pins = is.pins;
  reach = is.reach;
  asked = is.asked;
  fresh = is.fresh;
  idle = is.idle;
  kept = is.kept;
  given = is.given;
}

-- what a call does goes by no number of calls
pub plays_called : (budget calls : ℕ) (old new : JackDriverState) (before after : Option Telling) → PlaysNow budget (record old { calls = calls }) new before after → PlaysNow budget old new before after
plays_called budget calls old new before after (inl now) = inl (record {
  fresh = now.fresh;
  ran = now.ran;
  starts = now.starts;
  tells = now.tells;
  after_run = now.after_run;
  jacks = now.jacks;
  given_up = now.given_up;
})
plays_called budget calls old new before after (inr (inl now)) = inr (inl (record {
  started = now.started;
  looked = now.looked;
  middle = now.middle;
  switching = now.switching;
  looks = record { reads = now.looks.reads; looks = now.looks.looks; counted = now.looks.counted };
  ran = now.ran;
  plays = now.plays;
  tells = now.tells;
  after_run = now.after_run;
  given_up = now.given_up;
}))
plays_called budget calls old new before after (inr (inr now)) = inr (inr (record {
  started = now.started;
  looked = now.looked;
  looks = record { reads = now.looks.reads; looks = now.looks.looks; counted = now.looks.counted };
  stopped = now.stopped;
  writer = now.writer;
  supply = now.supply;
  clock = now.clock;
  given_up = now.given_up;
}))

-- ---- a driver that gave up

played_never : (was : Ran) (codec command issued noticed : ℕ) → played_as was ≡ Unanswered codec command issued noticed → ⊥
played_never Playing codec command issued noticed is = cc
played_never Drained codec command issued noticed is = cc
played_never (Late from to limit) codec command issued noticed is = cc

ready_never : (codec command issued noticed : ℕ) → Ready ≡ Unanswered codec command issued noticed → ⊥
ready_never codec command issued noticed is = cc

abbrev outstanding_of : (codec word issued : ℕ) → Outstanding
outstanding_of codec word issued = record { codec = codec; word = word; issued = issued }

unanswered_is : (one : Outstanding) (given codec command issued noticed : ℕ) → Unanswered one.codec one.word one.issued given ≡ Unanswered codec command issued noticed
    → (Some one ≡ Some (record { codec = codec; word = command; issued = issued })) × (Some given ≡ Some noticed)
unanswered_is one given codec command issued noticed is =
    let of_codec : one.codec ≡ codec = cc in
    let of_word : one.word ≡ command = cc in
    let of_issued : one.issued ≡ issued = cc in
    let of_given : given ≡ noticed = cc in (
      ap (λ (n : ℕ). Some (outstanding_of n one.word one.issued)) of_codec ∙ ap (λ (n : ℕ). Some (outstanding_of codec n one.issued)) of_word ∙ ap (λ (n : ℕ). Some (outstanding_of codec command n)) of_issued,
      ap (λ (n : ℕ). Some n) of_given,
    )

phase_unanswered : (started : Bool) (given : Option ℕ) (outstanding : Option Outstanding) (tally : Tally) (codec command issued noticed : ℕ)
    → phase_if started given outstanding tally ≡ Unanswered codec command issued noticed
    → (outstanding ≡ Some (record { codec = codec; word = command; issued = issued })) × (given ≡ Some noticed)
phase_unanswered false given outstanding tally codec command issued noticed is = absurd (ready_never codec command issued noticed is)
phase_unanswered true None outstanding tally codec command issued noticed is = absurd (played_never tally.course.ran codec command issued noticed is)
phase_unanswered true (Some clock) None tally codec command issued noticed is = absurd (ready_never codec command issued noticed is)
phase_unanswered true (Some clock) (Some one) tally codec command issued noticed is = unanswered_is one clock codec command issued noticed is

pub unanswered_now : (driver : JackDriverState) → IsJackDriver driver → (codec command issued noticed : ℕ) → phase_of driver ≡ Unanswered codec command issued noticed → IsUnanswered driver codec command issued noticed
unanswered_now driver is codec command issued noticed phase =
    let parts = phase_unanswered driver.writer.course.started driver.given_up driver.engine.rings.outstanding (tally_of driver.writer) codec command issued noticed phase in
    let overdue : nat_le (issued + answer_limit) noticed ≡ true =
    ap (λ (outstanding : Option Outstanding). is_overdue outstanding noticed) (sym parts.0) ∙ is.given noticed parts.1 in
    record {
      outstanding = parts.0;
      given = parts.1;
      over = leb-true (issued + answer_limit) noticed overdue;
    }
