-- A driver that switches goes on over steps of the device.
use Rattle.std.proofs.Common.{◌≡◌, ◌≤◌, inl, inr, ℕ, Bool, true, false, List, [], ◌∷◌, ◌++◌, length, drop, take, map, Option, Some, refl, sym, ap, subst, ◌∙◌, append-nil}
use Rattle.std.specs.Prelude.{All}
use Rattle.std.specs.Option.{is_some}
use Rattle.std.proofs.lemmas.Bool.{false≢true}
use Rattle.std.proofs.lemmas.List.{take-append-le}
use Rattle.codec_graph.specs.declared.raw.RawCodec.{RawCodec}
use Rattle.codec_graph.specs.CodecStates.{CodecState}
use Rattle.stream_format.specs.declared.format.Format.{Format}
use Rattle.route_planner.specs.declared.routes.Plan.{Plan}
use Rattle.world_rings.specs.declared.response.Response.{Response}
use Rattle.world_steps.specs.declared.Step.{Step}
use Rattle.hda_registers.specs.Fields.{Descriptor, is_running}
use Rattle.hda_world.specs.Leaving.{StepsLeave}
use Rattle.hda_world.specs.Worlds.{World, TakenCommand}
use Rattle.hda_world.specs.Steps.{after_steps}
use Rattle.hda_world.specs.Events.{Event, Stepped, Begin, End, happens, after}
use Rattle.hda_world.specs.Tellings.{Telling, world_of, Went}
use Rattle.hda_world.proofs.Callers.{steps_leave, steps_after, world_of-went}
use Rattle.command_engine.specs.declared.ring_places.RingPlaces.{RingPlaces}
use Rattle.command_engine.specs.Fetchings.{Stands, AscendFrom}
use Rattle.command_engine.specs.Polling.{asked_of}
use Rattle.command_engine.proofs.Callers.{responses_apart, steps_keep_standing}
use Rattle.period_writer.specs.Runs.{Tally}
use Rattle.period_writer.specs.Writers.{tally_of, ring_of}
use Rattle.driver_progress.specs.Answers.{AnswersAgree}
use Rattle.driver_progress.specs.Tasks.{Task, DriverLine}
use Rattle.driver_progress.specs.Progress.{Trail, trail_of}
use Rattle.driver_progress.proofs.Callers.{trail_went, steps_leave_trail}
use Rattle.driver_rules.proofs.Callers.{rest_steps}
use Rattle.jack_switch.specs.SwitchRules.{switch_rules}
use Rattle.jack_switch.specs.JackDrivers.{JackDriverState, switch_state}
use Rattle.laws_stream.specs.Resting.{Rests}
use Rattle.laws_stream.specs.Lives.{Along, IsStopped, Lives, IsGoing, HasStopped, sets_going, stops}
use Rattle.laws_stream.specs.Going.{is_left_open}
use Rattle.laws_stream.proofs.Callers.{Along-end, Along-append}
use Rattle.laws_speakers.specs.SwitchWords.{AreSwitching}
use Rattle.laws_switching.specs.Speakers.{is_switched}
use Rattle.laws_switching.specs.Since.{since_ready}
use Rattle.laws_switching.specs.Senses.{Senses, KnowsJacks, senses_after, senses_opened, AreDecided}
use Rattle.laws_switching.specs.Switching.{IsEngineStanding, StreamSwitches, SwitchGoesOn}
use Rattle.jack_rules.specs.JackPins.{speakers_of}
use Rattle.laws_switching.proofs.SinceTurn.{HasBegun, begun_by, since_went, senses_both, decided_both, steps_sense, steps_decided}
use Rattle.laws_switching.proofs.Between.{going_runs, ran_between}
use Rattle.laws_switching.proofs.BesideRules.{steps_beside}
use Rattle.laws_switching.proofs.Taken.{Grown, went_grown, AreWords, standing_words, words_more, none_more, IsRunning, Takes, takes_weak, takes_running, takes_stopped}
use Rattle.laws_switching.proofs.Moments.{TurnedBy, turned_by, turned_went, stays_but}
use Rattle.laws_switching.proofs.Given.{Given}

-- ---- a stopped stream stays so at each moment, over steps and marks

abbrev pub IsQuiet : Event → Type 0
IsQuiet (Stepped step) = Unit {0}
IsQuiet Begin = Unit {0}
IsQuiet End = Unit {0}
IsQuiet _ = ⊥

quiet_stopped : (event : Event) (world : World) → IsQuiet event → IsStopped world → IsStopped (happens world event)
quiet_stopped (Stepped step) world quiet stopped =
    let leaves : StepsLeave world (happens world (Stepped step)) = steps_leave (step ∷ []) world in
    let same = leaves.registers.output.still stopped.stopped in
    record { stopped = ap is_running same ∙ stopped.stopped; no_error = ap (λ (output : Descriptor). output.descriptor_error) same ∙ stopped.no_error }
quiet_stopped Begin world quiet stopped = stopped
quiet_stopped End world quiet stopped = stopped
quiet_stopped event world quiet stopped = absurd quiet

abbrev pub AreQuiet : List Event → Type 0
AreQuiet [] = Unit {0}
AreQuiet (event ∷ events) = IsQuiet event × AreQuiet events

pub along_stopped : (events : List Event) (world : World) → AreQuiet events → IsStopped world → Along IsStopped events world
along_stopped [] world quiet stopped = stopped
along_stopped (event ∷ events) world quiet stopped = (stopped, along_stopped events (happens world event) quiet.1 (quiet_stopped event world quiet.0 stopped))

pub steps_quiet : (steps : List Step) → AreQuiet (map Stepped steps)
steps_quiet [] = tt {0}
steps_quiet (step ∷ steps) = (tt {0}, steps_quiet steps)

after_split : (before : List Event) (event : Event) (during : List Event) (world : World) → after (before ++ event ∷ during) world ≡ after during (after (before ++ event ∷ []) world)
after_split [] event during world = refl
after_split (first ∷ before) event during world = after_split before event during (happens world first)

pub stopped_now : (telling : Telling) → HasStopped telling → IsStopped (world_of telling)
stopped_now telling was =
    subst IsStopped
    (sym (ap (λ (journal : List Event). after journal telling.start) was.journal ∙ after_split was.before sets_going (was.during ++ stops ∷ was.later) telling.start
    ∙ after_split was.during stops was.later (after (was.before ++ sets_going ∷ []) telling.start)
    ∙ ap (λ (world : World). after was.later world) (sym (after_split was.before sets_going (was.during ++ stops ∷ []) telling.start))))
    (Along-end IsStopped was.later (after (was.before ++ sets_going ∷ (was.during ++ stops ∷ [])) telling.start) was.stays)

-- ---- over steps of the device

-- the histories of responses
written_on : (steps : List Step) (world : World) → (more : List Response) × ((after_steps steps world).written ≡ world.written ++ more)
written_on steps world = let leaves : StepsLeave world (after_steps steps world) = steps_leave steps world in leaves.written

module _ (format : Format) (graphs : List RawCodec) (plans : List Plan) (task : Task) (given : Given format graphs plans task) (lines : List DriverLine) where
  abbrev pub On : (left : List DriverLine) (supply : List ℕ) → JackDriverState → Telling → Type 0
  On left supply driver telling = SwitchGoesOn format graphs plans task lines left supply driver telling

  -- codecs stand by address
  pub ascends : (start : List CodecState) (from : ℕ) (from' read corb rirb : ℕ) (rings : RingPlaces) (world : World) → TurnedBy format graphs plans start from world → Stands from' read corb rirb rings world → AscendFrom 0 graphs
  ascends start from from' read corb rirb rings world by stands = subst (AscendFrom 0) (by.remembers.graphs ∙ by.graphs_are) stands.ascend

  -- what the codecs took switches, where the words do and the stream ran or was over
  pub switches_by : (going : Bool) (start : List CodecState) (from : ℕ) (old new : World) → Grown old new → from ≤ length old.commands → AreSwitching (is_switched graphs plans) from old → AreWords (is_switched graphs plans) (drop from new.commands)
      → Takes going from new → AreSwitching (is_switched graphs plans) from new
  switches_by going start from old new grown within was words takes = record {
    before = subst (All (λ (one : TakenCommand). one.running ≡ false)) (sym (ap (λ (commands : List TakenCommand). take from commands) grown.commands ∙ take-append-le from old.commands grown.more within)) was.before;
    words = words;
    during = takes_weak going from new takes;
  }

  module _ (left : List DriverLine) (supply : List ℕ) (driver : JackDriverState) (steps : List Step) (old new : Telling) (went : Went old new (map Stepped steps)) (on : On left supply driver old) where
    abbrev going : Bool
    going = is_left_open (is_some driver.given_up) driver.writer.course.ran

    abbrev tf : ℕ
    tf = on.turned.from

    stepped : world_of new ≡ after_steps steps (world_of old)
    stepped = world_of-went old new (map Stepped steps) went ∙ steps_after steps (world_of old)

    stands_on : Stands on.engine.from on.engine.read driver.engine.corb.address driver.engine.rirb.address driver.engine.rings (world_of new)
    stands_on =
        subst (Stands on.engine.from on.engine.read driver.engine.corb.address driver.engine.rirb.address driver.engine.rings) (sym stepped)
        (steps_keep_standing on.engine.from on.engine.read driver.engine.corb.address driver.engine.rirb.address driver.engine.rings responses_apart steps (world_of old) on.engine.stands)

    trail_same : trail_of task lines new ≡ trail_of task lines old
    trail_same = trail_went task lines old new (map Stepped steps) went ∙ steps_leave_trail task steps (world_of old) (trail_of task lines old)

    grown : Grown (world_of old) (world_of new)
    grown = went_grown old new (map Stepped steps) went

    within : tf ≤ length (world_of old).commands
    within = on.turned.remembers.within

    engine_on : IsEngineStanding driver (trail_of task lines new).written (world_of new)
    engine_on =
        let more = written_on steps (world_of old) in record {
          from = on.engine.from;
          read = on.engine.read;
          stands = stands_on;
          agree = subst (λ (trail : Trail). AnswersAgree (asked_of driver.engine.rings.outstanding) trail.written on.engine.read (world_of new).written) (sym trail_same)
              (subst (AnswersAgree (asked_of driver.engine.rings.outstanding) (trail_of task lines old).written on.engine.read) (sym (ap (λ (world : World). world.written) stepped ∙ more.1))
              (given.grows (asked_of driver.engine.rings.outstanding) (trail_of task lines old).written on.engine.read (world_of old).written more.0 on.engine.agree));
        }

    words_on : AreWords (is_switched graphs plans) (drop tf (world_of new).commands)
    words_on =
        words_more (is_switched graphs plans) tf on.engine.from (world_of old) (world_of new) grown within on.engine.stands.from_within
        (standing_words (is_switched graphs plans) on.engine.from on.engine.read driver.engine.corb.address driver.engine.rirb.address driver.engine.rings (world_of new) stands_on on.sends) on.turned.switching.words

    -- the stream
    along_rests : (steps : List Step) (world : World) → Rests driver.writer.geometry.fifo world → Along (Rests driver.writer.geometry.fifo) (map Stepped steps) world
    along_rests [] world rests = rests
    along_rests (step ∷ steps) world rests = (rests, along_rests steps (happens world (Stepped step)) (given.rest_steps driver.writer.geometry.fifo (step ∷ []) world rests))

    stream_on : StreamSwitches task driver old → StreamSwitches task driver new
    stream_on (inl has) = inl (record {
      idle = has.idle;
      fresh = has.fresh;
      kept = has.kept;
      apart = has.apart;
      rests = subst (λ (start : World). Along (Rests driver.writer.geometry.fifo) new.journal start) (sym went.start)
          (subst (λ (journal : List Event). Along (Rests driver.writer.geometry.fifo) journal old.start) (sym went.journal)
          (Along-append (Rests driver.writer.geometry.fifo) old.journal (map Stepped steps) old.start has.rests
          (along_rests steps (world_of old) (Along-end (Rests driver.writer.geometry.fifo) old.journal old.start has.rests))));
    })
    stream_on (inr goes) = inr (given.stream.steps (is_some driver.given_up) (ring_of driver.writer) task.pcm (tally_of driver.writer) steps old new went goes)

    -- commands that were taken while it ran, or after it
    took_open : StreamSwitches task driver old → going ≡ true → Takes true tf (world_of old) → Takes true tf (world_of new)
    took_open (inl has) still was =
        subst (λ (commands : List TakenCommand). All IsRunning (drop tf commands))
        (sym (none_more on.engine.from on.engine.read driver.engine.corb.address driver.engine.rirb.address driver.engine.rings (world_of old) (world_of new) on.engine.stands stands_on has.idle grown)) was
    took_open (inr goes) still was =
        let later = given.stream.steps (is_some driver.given_up) (ring_of driver.writer) task.pcm (tally_of driver.writer) steps old new went goes in
        let first : IsGoing old = subst (λ (still : Bool). Lives still old) still goes.lives in
        let second : IsGoing new = subst (λ (still : Bool). Lives still new) still later.lives in
        subst (Takes true tf) (sym (world_of-went old new (map Stepped steps) went))
        (takes_running given.took tf (map Stepped steps) (world_of old) (ran_between old new (map Stepped steps) went (going_runs old first) second) within was)

    took_over : StreamSwitches task driver old → going ≡ false → Takes false tf (world_of old) → Takes false tf (world_of new)
    took_over (inl has) over was =
        let is : going ≡ true =
        ap (λ (given : Option ℕ). is_left_open (is_some given) driver.writer.course.ran) has.kept ∙ ap (λ (tally : Tally). is_left_open false tally.course.ran) has.fresh in
        absurd (false≢true (sym over ∙ is))
    took_over (inr goes) over was =
        let first : HasStopped old = subst (λ (still : Bool). Lives still old) over goes.lives in
        subst (Takes false tf) (sym (world_of-went old new (map Stepped steps) went))
        (takes_stopped given.took tf (map Stepped steps) (world_of old) (along_stopped (map Stepped steps) (world_of old) (steps_quiet steps) (stopped_now old first)) within was)

    takes_on : (still : Bool) → going ≡ still → Takes still tf (world_of new)
    takes_on true is = took_open on.stream is (on.taken is)
    takes_on false is = took_over on.stream is on.turned.switching.during

    switching_on : AreSwitching (is_switched graphs plans) tf (world_of new)
    switching_on = switches_by going on.turned.start tf (world_of old) (world_of new) grown within on.turned.switching words_on (takes_on going refl)

    by_now : TurnedBy format graphs plans on.turned.start tf (world_of new)
    by_now = turned_went format graphs plans on.turned.start tf old new (map Stepped steps) went (turned_by format graphs plans (world_of old) on.turned)

    -- what the journal says of jacks
    begun : HasBegun task lines old
    begun = begun_by task lines (switch_rules task graphs plans) (switch_state driver) old on.rest.later_is

    abbrev senses_old : Senses
    senses_old = senses_after driver.engine.corb.address driver.engine.rirb.address (since_ready task lines old) (senses_opened graphs plans)

    since_is : since_ready task lines new ≡ since_ready task lines old ++ map Stepped steps
    since_is = since_went task lines old new (map Stepped steps) went begun

    no_more : map Stepped steps ++ [] ≡ map Stepped steps
    no_more = append-nil (map Stepped steps)

    pub switch_steps : On left supply driver new
    switch_steps =
        let corb = driver.engine.corb.address in
        let rirb = driver.engine.rirb.address in
        let beside = steps_beside task lines driver.sent steps old new went (record { finds = on.finds; phase_is = on.phase_is; sent_is = on.sent_is }) in
        let by = by_now in record {
          rest = rest_steps (switch_rules task graphs plans) task lines left (Some (switch_state driver)) steps old new went on.rest;
          finds = beside.finds;
          phase_is = beside.phase_is;
          sent_is = beside.sent_is;
          tally_is = ap (λ (trail : Trail). trail.state.tally) trail_same ∙ on.tally_is;
          task_is = on.task_is;
          walked = on.walked;
          planned = on.planned;
          enough = on.enough;
          set_up = stays_but format graphs plans on.turned.start tf given.set_up given.well
              (ascends on.turned.start tf on.engine.from on.engine.read corb rirb driver.engine.rings (world_of old) (turned_by format graphs plans (world_of old) on.turned) on.engine.stands) given.planned
              task lines old new (map Stepped steps) went (turned_by format graphs plans (world_of old) on.turned) switching_on on.set_up;
          turned = record {
            start = on.turned.start;
            from = tf;
            remembers = by.remembers;
            frames = by.frames;
            switching = switching_on;
            graphs_are = by.graphs_are;
            settings = by.settings;
            set_up = by.set_up;
            routes = by.routes;
          };
          taken = λ is. takes_on true is;
          engine = engine_on;
          sends = on.sends;
          stream = stream_on on.stream;
          decided = subst (λ (events : List Event). AreDecided corb rirb (speakers_of graphs plans) events (senses_opened graphs plans)) (sym since_is)
              (decided_both corb rirb (speakers_of graphs plans) (since_ready task lines old) (map Stepped steps) (senses_opened graphs plans) on.decided
              (subst (λ (events : List Event). AreDecided corb rirb (speakers_of graphs plans) events senses_old) no_more (steps_decided corb rirb (speakers_of graphs plans) steps [] senses_old (tt {0}))));
          knows = subst (λ (senses : Senses). KnowsJacks senses driver.switching)
              (sym (ap (λ (events : List Event). senses_after corb rirb events (senses_opened graphs plans)) since_is
              ∙ senses_both corb rirb (since_ready task lines old) (map Stepped steps) (senses_opened graphs plans)
              ∙ ap (λ (events : List Event). senses_after corb rirb events senses_old) (sym no_more) ∙ steps_sense corb rirb steps [] senses_old)) on.knows;
        }
