-- How a driver that switches stands to the world and to the journal, and that steps of the device and marks keep it.
use Rattle.std.proofs.Common.{◌≡◌, ◌≤◌, inl, inr, ℕ, Bool, true, false, List, [], ◌∷◌, ◌++◌, length, drop, take, map, Option, refl, sym, ap, subst, ◌∙◌}
use Rattle.std.specs.Prelude.{All}
use Rattle.std.specs.Option.{is_some}
use Rattle.std.proofs.lemmas.Bool.{false≢true}
use Rattle.std.proofs.lemmas.List.{take-append-le}
use Rattle.codec_graph.specs.declared.raw.RawCodec.{RawCodec}
use Rattle.codec_graph.specs.CodecStates.{CodecState}
use Rattle.stream_format.specs.declared.format.Format.{Format}
use Rattle.route_planner.specs.declared.routes.Plan.{Plan}
use Rattle.world_steps.specs.declared.Step.{Step}
use Rattle.hda_registers.specs.Fields.{Descriptor, is_running}
use Rattle.hda_world.specs.Leaving.{StepsLeave}
use Rattle.hda_world.specs.Worlds.{World, TakenCommand}
use Rattle.hda_world.specs.Events.{Event, Stepped, Begin, End, happens, after}
use Rattle.hda_world.specs.Tellings.{Telling, world_of, Went}
use Rattle.hda_world.proofs.Callers.{steps_leave, world_of-went}
use Rattle.command_engine.specs.declared.ring_places.RingPlaces.{RingPlaces}
use Rattle.command_engine.specs.Fetchings.{Stands, AscendFrom}
use Rattle.command_engine.proofs.Callers.{responses_apart, steps_keep_standing}
use Rattle.period_writer.specs.Runs.{Tally}
use Rattle.driver_progress.specs.Tasks.{Task, DriverLine}
use Rattle.jack_switch.specs.JackDrivers.{JackDriverState}
use Rattle.laws_stream.specs.Lives.{Along, IsStopped, Lives, IsGoing, HasStopped, sets_going, stops}
use Rattle.laws_stream.specs.Going.{is_left_open}
use Rattle.laws_stream.proofs.Callers.{Along-end}
use Rattle.laws_speakers.specs.SwitchWords.{AreSwitching}
use Rattle.laws_switching.specs.Speakers.{is_switched}
use Rattle.laws_switching.specs.Since.{since_ready}
use Rattle.laws_switching.specs.Senses.{Senses, KnowsJacks, senses_after, senses_opened, AreDecided, SensesDecide, IsBesideSenses}
use Rattle.laws_switching.specs.Switching.{SendsSwitch, HasNotPlayed, StreamSwitches}
use Rattle.laws_switching.specs.SettingUp.{StaysSetUpBut}
use Rattle.jack_rules.specs.declared.pins.SpeakerPin.{SpeakerPin}
use Rattle.jack_rules.specs.JackPins.{speakers_of}
use Rattle.laws_switching.proofs.SinceTurn.{HasBegun, since_went, senses_both, decided_both}
use Rattle.laws_switching.proofs.Between.{going_runs, ran_between}
use Rattle.laws_switching.proofs.Taken.{Grown, went_grown, AreWords, standing_words, words_more, none_more, IsRunning, Takes, takes_weak, takes_running, takes_stopped}
use Rattle.laws_switching.proofs.Moments.{TurnedBy, turned_went, stays_but}
use Rattle.laws_switching.proofs.Given.{Given}

-- ---- a stopped stream stays so at each moment, over steps and marks

abbrev pub IsQuiet : Event → Type 0
IsQuiet (Stepped step) = Unit {0}
IsQuiet Begin = Unit {0}
IsQuiet End = Unit {0}
IsQuiet _ = ⊥

quiet_stopped : (event : Event) (world : World) → IsQuiet event → IsStopped world → IsStopped (happens world event)
quiet_stopped (Stepped step) world quiet stopped =
    let leaves : StepsLeave world (happens world (Stepped step)) = steps_leave (step ∷ []) world in
    let same = leaves.registers.output.still stopped.stopped in
    record { stopped = ap is_running same ∙ stopped.stopped; no_error = ap (λ (output : Descriptor). output.descriptor_error) same ∙ stopped.no_error }
quiet_stopped Begin world quiet stopped = stopped
quiet_stopped End world quiet stopped = stopped
quiet_stopped event world quiet stopped = absurd quiet

abbrev pub AreQuiet : List Event → Type 0
AreQuiet [] = Unit {0}
AreQuiet (event ∷ events) = IsQuiet event × AreQuiet events

pub along_stopped : (events : List Event) (world : World) → AreQuiet events → IsStopped world → Along IsStopped events world
along_stopped [] world quiet stopped = stopped
along_stopped (event ∷ events) world quiet stopped = (stopped, along_stopped events (happens world event) quiet.1 (quiet_stopped event world quiet.0 stopped))

pub steps_quiet : (steps : List Step) → AreQuiet (map Stepped steps)
steps_quiet [] = tt {0}
steps_quiet (step ∷ steps) = (tt {0}, steps_quiet steps)

after_split : (before : List Event) (event : Event) (during : List Event) (world : World) → after (before ++ event ∷ during) world ≡ after during (after (before ++ event ∷ []) world)
after_split [] event during world = refl
after_split (first ∷ before) event during world = after_split before event during (happens world first)

pub stopped_now : (telling : Telling) → HasStopped telling → IsStopped (world_of telling)
stopped_now telling was =
    subst IsStopped
    (sym (ap (λ (journal : List Event). after journal telling.start) was.journal ∙ after_split was.before sets_going (was.during ++ stops ∷ was.later) telling.start
    ∙ after_split was.during stops was.later (after (was.before ++ sets_going ∷ []) telling.start)
    ∙ ap (λ (world : World). after was.later world) (sym (after_split was.before sets_going (was.during ++ stops ∷ []) telling.start))))
    (Along-end IsStopped was.later (after (was.before ++ sets_going ∷ (was.during ++ stops ∷ [])) telling.start) was.stays)

-- the engine stands as it did
quiet_stands : (from read corb rirb : ℕ) (rings : RingPlaces) (events : List Event) (world : World) → AreQuiet events → Stands from read corb rirb rings world → Stands from read corb rirb rings (after events world)
quiet_stands from read corb rirb rings [] world quiet stands = stands
quiet_stands from read corb rirb rings (Stepped step ∷ events) world quiet stands =
    quiet_stands from read corb rirb rings events (happens world (Stepped step)) quiet.1 (steps_keep_standing from read corb rirb rings responses_apart (step ∷ []) world stands)
quiet_stands from read corb rirb rings (Begin ∷ events) world quiet stands = quiet_stands from read corb rirb rings events world quiet.1 stands
quiet_stands from read corb rirb rings (End ∷ events) world quiet stands = quiet_stands from read corb rirb rings events world quiet.1 stands
quiet_stands from read corb rirb rings (event ∷ events) world quiet stands = absurd quiet.0

-- and the journal says nothing of jacks
quiet_decided : (corb rirb : ℕ) (speakers : List SpeakerPin) (events : List Event) (senses : Senses) → AreQuiet events → AreDecided corb rirb speakers events senses
quiet_decided corb rirb speakers [] senses quiet = tt {0}
quiet_decided corb rirb speakers (Stepped step ∷ events) senses quiet = (tt {0}, quiet_decided corb rirb speakers events senses quiet.1)
quiet_decided corb rirb speakers (Begin ∷ events) senses quiet = (tt {0}, quiet_decided corb rirb speakers events senses quiet.1)
quiet_decided corb rirb speakers (End ∷ events) senses quiet = (tt {0}, quiet_decided corb rirb speakers events senses quiet.1)
quiet_decided corb rirb speakers (event ∷ events) senses quiet = absurd quiet.0

quiet_senses : (corb rirb : ℕ) (events : List Event) (senses : Senses) → AreQuiet events → senses_after corb rirb events senses ≡ senses
quiet_senses corb rirb [] senses quiet = refl
quiet_senses corb rirb (Stepped step ∷ events) senses quiet = quiet_senses corb rirb events senses quiet.1
quiet_senses corb rirb (Begin ∷ events) senses quiet = quiet_senses corb rirb events senses quiet.1
quiet_senses corb rirb (End ∷ events) senses quiet = quiet_senses corb rirb events senses quiet.1
quiet_senses corb rirb (event ∷ events) senses quiet = absurd quiet.0

-- ---- how it stands to the world and to the journal, beside the rules

module _ (format : Format) (graphs : List RawCodec) (plans : List Plan) (task : Task) (given : Given format graphs plans task) (lines : List DriverLine) where
  abbrev pub going_of : JackDriverState → Bool
  going_of driver = is_left_open (is_some driver.given_up) driver.writer.course.ran

  abbrev pub SensesAt : JackDriverState → Telling → Senses
  SensesAt driver telling = senses_after driver.engine.corb.address driver.engine.rirb.address (since_ready task lines telling) (senses_opened graphs plans)

  abbrev pub StandsAt : (from read : ℕ) → JackDriverState → Telling → Type 0
  StandsAt from read driver telling = Stands from read driver.engine.corb.address driver.engine.rirb.address driver.engine.rings (world_of telling)

  -- at any moment of its calls and between them
  pub record Core (start : List CodecState) (tf from read : ℕ) (driver : JackDriverState) (telling : Telling) : Type 0 where
    pub by : TurnedBy format graphs plans start tf (world_of telling)
    pub switching : AreSwitching (is_switched graphs plans) tf (world_of telling)
    pub taken : going_of driver ≡ true → Takes true tf (world_of telling)
    pub set_up : StaysSetUpBut format 1 graphs plans task lines telling
    pub stands : StandsAt from read driver telling
    pub sends : SendsSwitch graphs plans driver
    pub stream : StreamSwitches task driver telling

  -- what the journal says of jacks since the turn
  pub record Hears (driver : JackDriverState) (telling : Telling) : Type 0 where
    pub begun : HasBegun task lines telling
    pub decided : SensesDecide driver.engine.corb.address driver.engine.rirb.address graphs plans (since_ready task lines telling)
    pub knows : KnowsJacks (SensesAt driver telling) driver.switching

  -- codecs stand by address
  pub ascends : (start : List CodecState) (from from' read corb rirb : ℕ) (rings : RingPlaces) (world : World) → TurnedBy format graphs plans start from world → Stands from' read corb rirb rings world → AscendFrom 0 graphs
  ascends start from from' read corb rirb rings world by stands = subst (AscendFrom 0) (by.remembers.graphs ∙ by.graphs_are) stands.ascend

  -- what the codecs took switches, where the words do and the stream ran or was over
  pub switches_by : (going : Bool) (from : ℕ) (old new : World) → Grown old new → from ≤ length old.commands → AreSwitching (is_switched graphs plans) from old → AreWords (is_switched graphs plans) (drop from new.commands)
      → Takes going from new → AreSwitching (is_switched graphs plans) from new
  switches_by going from old new grown within was words takes = record {
    before = subst (All (λ (one : TakenCommand). one.running ≡ false)) (sym (ap (λ (commands : List TakenCommand). take from commands) grown.commands ∙ take-append-le from old.commands grown.more within)) was.before;
    words = words;
    during = takes_weak going from new takes;
  }

  -- a driver that has not played goes on to play
  pub fresh_goes : (driver : JackDriverState) (telling : Telling) → HasNotPlayed driver telling → going_of driver ≡ true
  fresh_goes driver telling has =
      ap (λ (given : Option ℕ). is_left_open (is_some given) driver.writer.course.ran) has.kept ∙ ap (λ (tally : Tally). is_left_open false tally.course.ran) has.fresh

  -- ---- over events after which the engine stands as it did, and that leave a stopped stream so

  module _ (start : List CodecState) (tf from read : ℕ) (driver : JackDriverState) (events : List Event) (old new : Telling) (went : Went old new events) (stands_on : StandsAt from read driver new)
      (stopped : going_of driver ≡ false → Along IsStopped events (world_of old)) (was : Core start tf from read driver old) where
    abbrev going : Bool
    going = going_of driver

    grown : Grown (world_of old) (world_of new)
    grown = went_grown old new events went

    within : tf ≤ length (world_of old).commands
    within = was.by.remembers.within

    words_on : AreWords (is_switched graphs plans) (drop tf (world_of new).commands)
    words_on =
        words_more (is_switched graphs plans) tf from (world_of old) (world_of new) grown within was.stands.from_within
        (standing_words (is_switched graphs plans) from read driver.engine.corb.address driver.engine.rirb.address driver.engine.rings (world_of new) stands_on was.sends) was.switching.words

    -- commands that were taken while it ran, or after it
    took_open : StreamSwitches task driver old → StreamSwitches task driver new → going ≡ true → Takes true tf (world_of old) → Takes true tf (world_of new)
    took_open (inl has) later still before =
        subst (λ (commands : List TakenCommand). All IsRunning (drop tf commands))
        (sym (none_more from read driver.engine.corb.address driver.engine.rirb.address driver.engine.rings (world_of old) (world_of new) was.stands stands_on has.idle grown)) before
    took_open (inr goes) (inl has) still before = absurd (false≢true (ap (λ (tally : Tally). tally.course.started) (sym has.fresh) ∙ goes.started))
    took_open (inr goes) (inr later) still before =
        let first : IsGoing old = subst (λ (still : Bool). Lives still old) still goes.lives in
        let second : IsGoing new = subst (λ (still : Bool). Lives still new) still later.lives in
        subst (Takes true tf) (sym (world_of-went old new events went))
        (takes_running given.took tf events (world_of old) (ran_between old new events went (going_runs old first) second) within before)

    took_over : going ≡ false → Takes false tf (world_of old) → Takes false tf (world_of new)
    took_over over before = subst (Takes false tf) (sym (world_of-went old new events went)) (takes_stopped given.took tf events (world_of old) (stopped over) within before)

    takes_on : StreamSwitches task driver new → (still : Bool) → going ≡ still → Takes still tf (world_of new)
    takes_on later true is = took_open was.stream later is (was.taken is)
    takes_on later false is = took_over is was.switching.during

    switching_on : StreamSwitches task driver new → AreSwitching (is_switched graphs plans) tf (world_of new)
    switching_on later = switches_by going tf (world_of old) (world_of new) grown within was.switching words_on (takes_on later going refl)

    pub events_core : StreamSwitches task driver new → Core start tf from read driver new
    events_core later =
        let corb = driver.engine.corb.address in
        let rirb = driver.engine.rirb.address in record {
          by = turned_went format graphs plans start tf old new events went was.by;
          switching = switching_on later;
          taken = takes_on later true;
          set_up = stays_but format graphs plans start tf given.set_up given.well (ascends start tf from read corb rirb driver.engine.rings (world_of old) was.by was.stands) given.planned
              task lines old new events went was.by (switching_on later) was.set_up;
          stands = stands_on;
          sends = was.sends;
          stream = later;
        }

  -- so do steps of the device and marks
  quiet_over : (driver : JackDriverState) (events : List Event) (old : Telling) → AreQuiet events → StreamSwitches task driver old → going_of driver ≡ false → Along IsStopped events (world_of old)
  quiet_over driver events old quiet (inl has) over = absurd (false≢true (sym over ∙ fresh_goes driver old has))
  quiet_over driver events old quiet (inr goes) over = along_stopped events (world_of old) quiet (stopped_now old (subst (λ (still : Bool). Lives still old) over goes.lives))

  pub quiet_core : (start : List CodecState) (tf from read : ℕ) (driver : JackDriverState) (events : List Event) (old new : Telling) → Went old new events → AreQuiet events → Core start tf from read driver old → StreamSwitches task driver new
      → Core start tf from read driver new
  quiet_core start tf from read driver events old new went quiet was later =
      events_core start tf from read driver events old new went
      (subst (Stands from read driver.engine.corb.address driver.engine.rirb.address driver.engine.rings) (sym (world_of-went old new events went))
      (quiet_stands from read driver.engine.corb.address driver.engine.rirb.address driver.engine.rings events (world_of old) quiet was.stands))
      (quiet_over driver events old quiet was.stream) was later

  module _ (driver : JackDriverState) (events : List Event) (old new : Telling) (went : Went old new events) (quiet : AreQuiet events) (was : Hears driver old) where
    since_is : since_ready task lines new ≡ since_ready task lines old ++ events
    since_is = since_went task lines old new events went was.begun

    begun_on : HasBegun task lines new
    begun_on = record { first = was.begun.first; rest = was.begun.rest ++ events; is = since_is ∙ ap (λ (part : List Event). part ++ events) was.begun.is }

    pub quiet_hears : Hears driver new
    quiet_hears =
        let corb = driver.engine.corb.address in
        let rirb = driver.engine.rirb.address in record {
          begun = begun_on;
          decided = subst (λ (events : List Event). AreDecided corb rirb (speakers_of graphs plans) events (senses_opened graphs plans)) (sym since_is)
              (decided_both corb rirb (speakers_of graphs plans) (since_ready task lines old) events (senses_opened graphs plans) was.decided
              (quiet_decided corb rirb (speakers_of graphs plans) events (SensesAt driver old) quiet));
          knows = subst (λ (senses : Senses). KnowsJacks senses driver.switching)
              (sym (ap (λ (events : List Event). senses_after corb rirb events (senses_opened graphs plans)) since_is
              ∙ senses_both corb rirb (since_ready task lines old) events (senses_opened graphs plans)
              ∙ quiet_senses corb rirb events (SensesAt driver old) quiet)) was.knows;
        }

  -- so it is beside both rings
  pub beside_hears : (driver : JackDriverState) (events : List Event) (old new : Telling) → Went old new events → All (IsBesideSenses driver.engine.corb.address driver.engine.rirb.address) events → Hears driver old → Hears driver new
  beside_hears driver events old new went beside was =
      let corb = driver.engine.corb.address in
      let rirb = driver.engine.rirb.address in
      let law = given.beside corb rirb (speakers_of graphs plans) (SensesAt driver old) events beside in
      let since : since_ready task lines new ≡ since_ready task lines old ++ events = since_went task lines old new events went was.begun in record {
        begun = record { first = was.begun.first; rest = was.begun.rest ++ events; is = since ∙ ap (λ (part : List Event). part ++ events) was.begun.is };
        decided = subst (λ (events : List Event). AreDecided corb rirb (speakers_of graphs plans) events (senses_opened graphs plans)) (sym since)
            (decided_both corb rirb (speakers_of graphs plans) (since_ready task lines old) events (senses_opened graphs plans) was.decided law.1);
        knows = subst (λ (senses : Senses). KnowsJacks senses driver.switching)
            (sym (ap (λ (events : List Event). senses_after corb rirb events (senses_opened graphs plans)) since
            ∙ senses_both corb rirb (since_ready task lines old) events (senses_opened graphs plans) ∙ law.0)) was.knows;
      }
