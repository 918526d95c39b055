-- How far a call of a driver that switches came, and its next command.
use Rattle.std.proofs.Common.{◌≡◌, inr, ℕ, Bool, true, false, List, [], ◌++◌, drop, map, Option, None, Some, refl, sym, ap, subst, ◌∙◌}
use Rattle.std.specs.Option.{is_some, is_none, option_map}
use Rattle.std.proofs.lemmas.Bool.{false≢true}
use Rattle.verb_codes.specs.declared.verbs.Command.{Command}
use Rattle.verb_codes.specs.Verbs.{word_of, reading_of}
use Rattle.codec_graph.specs.declared.raw.RawCodec.{RawCodec}
use Rattle.codec_graph.specs.CodecStates.{CodecState}
use Rattle.stream_format.specs.declared.format.Format.{Format}
use Rattle.route_planner.specs.declared.routes.Plan.{Plan}
use Rattle.hda_world.specs.Events.{Event}
use Rattle.hda_world.specs.Tellings.{Telling, world_of, Makes}
use Rattle.hda_world.proofs.Callers.{Weaving, woven, world_of-went}
use Rattle.command_engine.specs.declared.answers.Outstanding.{Outstanding}
use Rattle.command_engine.specs.declared.ring_places.RingPlaces.{RingPlaces}
use Rattle.command_engine.specs.Fetchings.{Stands, AscendFrom}
use Rattle.command_engine.specs.Submitting.{submit_accesses}
use Rattle.period_writer.specs.Writers.{tally_of, ring_of}
use Rattle.driver_progress.specs.Answers.{AnswersAgree}
use Rattle.driver_progress.specs.Tasks.{Task, Order, DriverLine, order_of}
use Rattle.driver_progress.specs.Progress.{Trail}
use Rattle.driver_bring_up.specs.Commanding.{submit_made, rings_with}
use Rattle.driver_rules.specs.Onward.{onward_of}
use Rattle.driver_rules.proofs.Callers.{submits_noted}
use Rattle.audio_driver.specs.States.{is_open}
use Rattle.jack_rules.specs.JackPins.{speakers_of}
use Rattle.jack_rules.specs.declared.pins.SpeakerState.{SpeakerState}
use Rattle.jack_rules.specs.Switching.{SwitchingState, AreInReach, next_choice}
use Rattle.jack_switch.specs.SwitchRules.{switch_rules, may_submit, choice_if, choice_by, order_by}
use Rattle.jack_switch.specs.JackDrivers.{JackDriverState}
use Rattle.jack_switch.specs.JackCalls.{Submits}
use Rattle.laws_bring_up.proofs.Looking.{NextNoted, one_next}
use Rattle.laws_stream.specs.Lives.{Lives, IsGoing}
use Rattle.laws_stream.specs.Going.{StreamGoes, is_left_open}
use Rattle.laws_switching.specs.Speakers.{is_switched}
use Rattle.laws_switching.specs.Since.{since_ready}
use Rattle.laws_switching.specs.Senses.{Senses, KnowsJacks, senses_after, senses_opened, AreDecided}
use Rattle.laws_switching.proofs.SinceTurn.{since_went, senses_both, decided_both, woven_senses, woven_decided}
use Rattle.laws_switching.proofs.Between.{going_runs, ran_between}
use Rattle.laws_switching.proofs.Choosing.{choice_tells, both_of}
use Rattle.laws_switching.proofs.Taken.{Grown, went_grown, Sends, AreWords, standing_words, words_more, Takes, takes_running}
use Rattle.laws_switching.proofs.Moments.{turned_went, stays_but}
use Rattle.laws_switching.proofs.Core.{Core, Hears, SensesAt, going_of, switches_by, ascends}
use Rattle.laws_switching.proofs.Given.{Given}
use Rattle.laws_switching.proofs.Opened.{Agrees}
use Rattle.laws_switching.proofs.Running.{AreBesideRing}
use Rattle.laws_switching.proofs.CallLaws.{CallLaws, none_in_common}
use Rattle.laws_switching.proofs.Words as words
use Rattle.laws_switching.proofs.Words.{switch_word, none_chosen, chosen_word}

-- a driver with what the next command left of its rings, and of what the jack rules keep
abbrev pub sent_to : JackDriverState → RingPlaces → SwitchingState → JackDriverState
sent_to driver rings switching = record driver { engine = record driver.engine { rings = rings }; switching = switching }

module _ (format : Format) (graphs : List RawCodec) (plans : List Plan) (task : Task) (given : Given format graphs plans task) (lines : List DriverLine) where
  abbrev pub Goes : JackDriverState → Telling → Type 0
  Goes driver telling = StreamGoes (is_some driver.given_up) (ring_of driver.writer) task.pcm (tally_of driver.writer) telling

  -- a call came so far, and its look, if one came, found an answer or none
  pub record HasReached (start : List CodecState) (tf : ℕ) (answered : Bool) (driver : JackDriverState) (telling : Telling) : Type 0 where
    pub from : ℕ
    pub read : ℕ
    pub core : Core format graphs plans task given lines start tf from read driver telling
    pub hears : Hears format graphs plans task given lines driver telling
    pub agree : Agrees format graphs plans task given lines driver read telling
    pub answered_is : (onward_of (switch_rules task graphs plans) task lines telling).answered ≡ answered

  module _ (laws : CallLaws) (driver : JackDriverState) (beside : AreBesideRing driver) (pins : map (λ (state : SpeakerState). state.speaker) driver.switching.speakers ≡ speakers_of graphs plans) (reach : AreInReach driver.switching)
      (kept : driver.given_up ≡ None) (start : List CodecState) (tf : ℕ) (answered : Bool) (clock : ℕ) (old new : Telling) (was : HasReached start tf answered driver old) (goes : Goes driver old) where
    abbrev Sent : RingPlaces → SwitchingState → Telling → Type 0
    Sent rings switching telling = HasReached start tf answered (sent_to driver rings switching) telling

    -- none comes
    none_sent : (switching : SwitchingState) → switching ≡ driver.switching → Makes [] old new → Sent driver.engine.rings switching new
    none_sent switching same makes =
        subst (λ (telling : Telling). Sent driver.engine.rings switching telling) (sym makes.by) (subst (λ (switching : SwitchingState). Sent driver.engine.rings switching old) (sym same) was)

    -- one comes
    module _ (command : Command) (opens : is_open driver.writer.course.ran ≡ true) (idle : driver.engine.rings.outstanding ≡ None) (is : (next_choice driver.switching).command ≡ Some command)
        (makes : Makes (submit_accesses driver.engine.corb.address driver.engine.rings (word_of command)) old new)
        (leads : Stands was.from was.read driver.engine.corb.address driver.engine.rirb.address (rings_with (Some (order_of command)) clock driver.engine.rings) (world_of new)) where
      abbrev after : JackDriverState
      after = sent_to driver (rings_with (Some (order_of command)) clock driver.engine.rings) (next_choice driver.switching).next

      word : words.AreWords command
      word = chosen_word command (next_choice driver.switching).command (laws.chosen driver.switching reach) is

      weaving : Weaving (submit_accesses driver.engine.corb.address driver.engine.rings (word_of command)) old new
      weaving = woven makes

      grown : Grown (world_of old) (world_of new)
      grown = went_grown old new weaving.events weaving.went

      sends_on : Sends (is_switched graphs plans) (Some (record { codec = command.codec; word = word_of command; issued = clock }))
      sends_on = λ sent same.
          let one : word_of command ≡ sent.word = cc in
          switch_word graphs plans driver.switching pins command is sent.word (ap reading_of (sym one) ∙ word.reads)

      going : going_of format graphs plans task given lines driver ≡ true
      going = ap (λ (given : Option ℕ). is_left_open (is_some given) driver.writer.course.ran) kept ∙ opens

      words_on : AreWords (is_switched graphs plans) (drop tf (world_of new).commands)
      words_on =
          words_more (is_switched graphs plans) tf was.from (world_of old) (world_of new) grown was.core.by.remembers.within was.core.stands.from_within
          (standing_words (is_switched graphs plans) was.from was.read driver.engine.corb.address driver.engine.rirb.address (rings_with (Some (order_of command)) clock driver.engine.rings) (world_of new) leads sends_on) was.core.switching.words

      goes_on : Goes driver new
      goes_on =
          given.stream.rows (is_some driver.given_up) (ring_of driver.writer) task.pcm (tally_of driver.writer) (submit_accesses driver.engine.corb.address driver.engine.rings (word_of command)) old new makes
          (laws.submissions (ring_of driver.writer) driver.engine.corb.address driver.engine.rings (word_of command) (none_in_common (ring_of driver.writer) driver.engine.corb.address _ beside.corb)) goes

      takes_on : Takes true tf (world_of new)
      takes_on =
          let first : IsGoing old = subst (λ (still : Bool). Lives still old) going goes.lives in
          let second : IsGoing new = subst (λ (still : Bool). Lives still new) going goes_on.lives in
          subst (Takes true tf) (sym (world_of-went old new weaving.events weaving.went))
          (takes_running given.took tf weaving.events (world_of old) (ran_between old new weaving.events weaving.went (going_runs old first) second) was.core.by.remembers.within (was.core.taken going))

      ascend : AscendFrom 0 graphs
      ascend = ascends format graphs plans task given lines start tf was.from was.read driver.engine.corb.address driver.engine.rirb.address driver.engine.rings (world_of old) was.core.by was.core.stands

      sent_core : Core format graphs plans task given lines start tf was.from was.read after new
      sent_core =
          let switching = switches_by format graphs plans task given lines true tf (world_of old) (world_of new) grown was.core.by.remembers.within was.core.switching words_on takes_on in record {
            by = turned_went format graphs plans start tf old new weaving.events weaving.went was.core.by;
            switching = switching;
            taken = λ still. takes_on;
            set_up = stays_but format graphs plans start tf given.set_up given.well ascend given.planned task lines old new weaving.events weaving.went was.core.by switching was.core.set_up;
            stands = leads;
            sends = sends_on;
            stream = inr goes_on;
          }

      sent_hears : Hears format graphs plans task given lines after new
      sent_hears =
          let corb = driver.engine.corb.address in
          let rirb = driver.engine.rirb.address in
          let made = submit_accesses corb driver.engine.rings (word_of command) in
          let senses = SensesAt format graphs plans task given lines driver old in
          let law = choice_tells graphs plans senses driver.switching ascend was.hears.knows pins corb rirb driver.engine.rings command (word_of command) is word.reads word.small in
          let since : since_ready task lines new ≡ since_ready task lines old ++ weaving.events = since_went task lines old new weaving.events weaving.went was.hears.begun in record {
            begun = record { first = was.hears.begun.first; rest = was.hears.begun.rest ++ weaving.events; is = since ∙ ap (λ (part : List Event). part ++ weaving.events) was.hears.begun.is };
            decided = subst (λ (events : List Event). AreDecided corb rirb (speakers_of graphs plans) events (senses_opened graphs plans)) (sym since)
                (decided_both corb rirb (speakers_of graphs plans) (since_ready task lines old) weaving.events (senses_opened graphs plans) was.hears.decided
                (woven_decided corb rirb (speakers_of graphs plans) made weaving.events senses weaving.woven law.1));
            knows = subst (λ (senses : Senses). KnowsJacks senses (next_choice driver.switching).next)
                (sym (ap (λ (events : List Event). senses_after corb rirb events (senses_opened graphs plans)) since
                ∙ senses_both corb rirb (since_ready task lines old) weaving.events (senses_opened graphs plans)
                ∙ woven_senses corb rirb made weaving.events senses weaving.woven)) law.0;
          }

      sent_agree : Agrees format graphs plans task given lines after was.read new
      sent_agree =
          let next : NextNoted task lines (submit_made driver.engine.corb.address driver.engine.rings (Some (order_of command))) (Some command.codec) was.read old new =
          one_next laws.submitted task lines was.from was.read driver.engine.corb.address driver.engine.rirb.address driver.engine.rings (order_of command) clock (Some command.codec) old new idle makes was.core.stands in
          subst (λ (trail : Trail). AnswersAgree (Some command.codec) trail.written was.read (world_of new).written) (sym next.trail) next.agree

      one_sent : Sent (rings_with (Some (order_of command)) clock driver.engine.rings) (next_choice driver.switching).next new
      one_sent = record {
        from = was.from;
        read = was.read;
        core = sent_core;
        hears = sent_hears;
        agree = sent_agree;
        answered_is = (submits_noted (switch_rules task graphs plans) task lines driver.engine.corb.address driver.engine.rings (word_of command) old new makes).answered_is ∙ was.answered_is;
      }

    none_of : (outstanding : Option Outstanding) → is_none outstanding ≡ true → outstanding ≡ None
    none_of None is = refl
    none_of (Some command) is = absurd (false≢true is)

    -- by whether the run left the stream open and no command is outstanding
    sent_if : (may : Bool) → may_submit driver.writer.course.ran driver.engine.rings ≡ may → (rings : RingPlaces) (switching : SwitchingState) (order : Option Order) → order ≡ option_map order_of (choice_if may driver.switching).command
        → switching ≡ (choice_if may driver.switching).next → Makes (submit_made driver.engine.corb.address driver.engine.rings order) old new → rings ≡ rings_with order clock driver.engine.rings
        → Stands was.from was.read driver.engine.corb.address driver.engine.rirb.address rings (world_of new) → Sent rings switching new
    sent_if false may rings switching order order_is switching_is makes rings_is leads =
        subst (λ (rings : RingPlaces). Sent rings switching new) (sym (rings_is ∙ ap (λ (order : Option Order). rings_with order clock driver.engine.rings) order_is))
        (none_sent switching switching_is (subst (λ (order : Option Order). Makes (submit_made driver.engine.corb.address driver.engine.rings order) old new) order_is makes))
    sent_if true may rings switching order order_is switching_is makes rings_is leads = by (next_choice driver.switching).command refl
      where
        free : (is_open driver.writer.course.ran ≡ true) × (is_none driver.engine.rings.outstanding ≡ true)
        free = both_of (is_open driver.writer.course.ran) (is_none driver.engine.rings.outstanding) may

        by : (chosen : Option Command) → (next_choice driver.switching).command ≡ chosen → Sent rings switching new
        by None none =
            let same : order ≡ None = order_is ∙ ap (λ (chosen : Option Command). option_map order_of chosen) none in
            subst (λ (rings : RingPlaces). Sent rings switching new) (sym (rings_is ∙ ap (λ (order : Option Order). rings_with order clock driver.engine.rings) same))
            (none_sent switching (switching_is ∙ none_chosen graphs plans driver.switching pins none) (subst (λ (order : Option Order). Makes (submit_made driver.engine.corb.address driver.engine.rings order) old new) same makes))
        by (Some command) is =
            let same : order ≡ Some (order_of command) = order_is ∙ ap (λ (chosen : Option Command). option_map order_of chosen) is in
            let rings_same : rings ≡ rings_with (Some (order_of command)) clock driver.engine.rings = rings_is ∙ ap (λ (order : Option Order). rings_with order clock driver.engine.rings) same in
            subst (λ (rings : RingPlaces). Sent rings switching new) (sym rings_same)
            (subst (λ (switching : SwitchingState). Sent (rings_with (Some (order_of command)) clock driver.engine.rings) switching new) (sym switching_is)
            (one_sent command free.0 (none_of driver.engine.rings.outstanding free.1) is
            (subst (λ (order : Option Order). Makes (submit_made driver.engine.corb.address driver.engine.rings order) old new) same makes)
            (subst (λ (rings : RingPlaces). Stands was.from was.read driver.engine.corb.address driver.engine.rirb.address rings (world_of new)) rings_same leads)))

    pub reached_sent : (rings : RingPlaces) (switching : SwitchingState) (order : Option Order) → Submits driver.engine.corb.address driver.engine.rirb.address driver.engine.rings rings order clock old new
        → order ≡ order_by driver.writer.course.ran driver.engine.rings driver.switching → switching ≡ (choice_by driver.writer.course.ran driver.engine.rings driver.switching).next → Sent rings switching new
    reached_sent rings switching order submits order_is switching_is =
        sent_if (may_submit driver.writer.course.ran driver.engine.rings) refl rings switching order order_is switching_is submits.made submits.rings_are (submits.tells was.from was.read was.core.stands)
