-- A run of a driver that switches: its engine of commands stands as it did, and its stream is led on.
use Rattle.std.proofs.Common.{◌≡◌, ◌≤◌, inr, ℕ, Bool, true, false, List, length, drop, Option, None, refl, sym, ap, subst, ◌∙◌}
use Rattle.std.specs.Prelude.{All}
use Rattle.std.specs.Option.{is_some}
use Rattle.hda_registers.specs.Fields.{is_running}
use Rattle.codec_graph.specs.declared.raw.RawCodec.{RawCodec}
use Rattle.codec_graph.specs.CodecStates.{CodecState}
use Rattle.stream_format.specs.declared.format.Format.{Format}
use Rattle.route_planner.specs.declared.routes.Plan.{Plan}
use Rattle.hda_world.specs.Worlds.{TakenCommand}
use Rattle.hda_world.specs.Events.{Event, after}
use Rattle.hda_world.specs.Tellings.{Telling, world_of, Makes}
use Rattle.hda_world.proofs.Callers.{Weaving, woven, world_of-went}
use Rattle.command_engine.specs.Blocks.{corb_bytes, rirb_bytes}
use Rattle.command_engine.specs.Polling.{asked_of}
use Rattle.period_writer.specs.Touching.{IsOfRing}
use Rattle.period_writer.specs.Writers.{WriterState, tally_of, ring_of}
use Rattle.driver_progress.specs.Answers.{AnswersAgree}
use Rattle.driver_progress.specs.Noting.{ArePlain}
use Rattle.driver_progress.specs.Tasks.{Task, DriverLine}
use Rattle.driver_progress.specs.Progress.{Trail, trail_of}
use Rattle.driver_rules.specs.Onward.{onward_of}
use Rattle.driver_rules.proofs.Callers.{plain_noted, trail_is}
use Rattle.jack_switch.specs.SwitchRules.{switch_rules}
use Rattle.jack_switch.specs.JackDrivers.{JackDriverState}
use Rattle.laws_bring_up.proofs.Callers.{row_on}
use Rattle.laws_stream.specs.Lives.{Lives, IsGoing}
use Rattle.laws_stream.specs.Going.{StreamGoes}
use Rattle.laws_stream.proofs.Callers.{woven_all}
use Rattle.laws_switching.specs.Speakers.{is_switched}
use Rattle.laws_switching.specs.Senses.{IsBesideSenses}
use Rattle.laws_switching.specs.Switching.{StreamSwitches}
use Rattle.laws_switching.proofs.Between.{StoppedAt, going_runs, ran_between, stopped_between}
use Rattle.laws_switching.proofs.Taken.{Grown, went_grown, AreWords, standing_words, words_more, none_more, IsRunning, Takes, takes_weak, takes_running, takes_stopping}
use Rattle.laws_switching.proofs.Moments.{turned_went, stays_but}
use Rattle.laws_switching.proofs.Core.{Core, Hears, StandsAt, going_of, switches_by, ascends, beside_hears}
use Rattle.laws_switching.proofs.Given.{Given}
use Rattle.laws_switching.proofs.RunRows.{IsBesideBlocks, run_stands}
use Rattle.laws_switching.proofs.RunAccesses.{IsRunAccess, are_plain, are_beside}

-- a driver with what its writer recorded after a run
abbrev pub ran_to : JackDriverState → WriterState → JackDriverState
ran_to driver writer = record driver { writer = writer }

-- both rings lie beside the blocks of the stream's ring
pub record AreBesideRing (driver : JackDriverState) : Type 0 where
  pub corb : IsBesideBlocks (ring_of driver.writer) driver.engine.corb.address corb_bytes
  pub rirb : IsBesideBlocks (ring_of driver.writer) driver.engine.rirb.address rirb_bytes

module _ (format : Format) (graphs : List RawCodec) (plans : List Plan) (task : Task) (given : Given format graphs plans task) (lines : List DriverLine) where
  -- ---- plain accesses

  module _ (made : List Event) (old new : Telling) (makes : Makes made old new) (plain : ArePlain made) where
    -- which responses answer is the same
    pub plain_agree : (asked : Option ℕ) (read : ℕ) → AnswersAgree asked (trail_of task lines old).written read (world_of old).written → AnswersAgree asked (trail_of task lines new).written read (world_of new).written
    plain_agree asked read agree =
        let rules = switch_rules task graphs plans in
        let on = row_on made old new makes in
        let noted = plain_noted rules task lines made old new makes plain in
        let same : (trail_of task lines new).written ≡ (trail_of task lines old).written =
        ap (λ (trail : Trail). trail.written) (sym (trail_is rules task lines new)) ∙ noted.written_is ∙ ap (λ (trail : Trail). trail.written) (trail_is rules task lines old) in
        subst (λ (written : ℕ). AnswersAgree asked written read (world_of new).written) (sym same)
        (subst (AnswersAgree asked (trail_of task lines old).written read) (sym on.written) (given.grows asked (trail_of task lines old).written read (world_of old).written on.more_written agree))

    pub plain_answered : (onward_of (switch_rules task graphs plans) task lines new).answered ≡ (onward_of (switch_rules task graphs plans) task lines old).answered
    plain_answered = (plain_noted (switch_rules task graphs plans) task lines made old new makes plain).answered_is

    pub plain_later : (onward_of (switch_rules task graphs plans) task lines new).later ≡ (onward_of (switch_rules task graphs plans) task lines old).later
    plain_later = (plain_noted (switch_rules task graphs plans) task lines made old new makes plain).later_is

  -- ---- a run

  module _ (driver : JackDriverState) (writer : WriterState) (beside : AreBesideRing driver) (made : List Event) (old new : Telling) (makes : Makes made old new) (all : All (IsRunAccess (ring_of driver.writer)) made) where
    weaving : Weaving made old new
    weaving = woven makes

    grown : Grown (world_of old) (world_of new)
    grown = went_grown old new weaving.events weaving.went

    pub run_hears : Hears format graphs plans task given lines driver old → Hears format graphs plans task given lines (ran_to driver writer) new
    run_hears was =
        let corb = driver.engine.corb.address in
        let rirb = driver.engine.rirb.address in
        let all_beside = woven_all (IsBesideSenses corb rirb) (λ step. tt {0}) made weaving.events weaving.woven (are_beside (ring_of driver.writer) corb rirb beside.corb made all) in
        let hears = beside_hears format graphs plans task given lines driver weaving.events old new weaving.went all_beside was in
        record { begun = hears.begun; decided = hears.decided; knows = hears.knows }

    pub run_agree : (read : ℕ) → AnswersAgree (asked_of driver.engine.rings.outstanding) (trail_of task lines old).written read (world_of old).written
        → AnswersAgree (asked_of driver.engine.rings.outstanding) (trail_of task lines new).written read (world_of new).written
    run_agree read agree = plain_agree made old new makes (are_plain (ring_of driver.writer) made all) (asked_of driver.engine.rings.outstanding) read agree

    module _ (start : List CodecState) (tf from read : ℕ) (was : Core format graphs plans task given lines start tf from read driver old) (of_ring : All (IsOfRing (ring_of driver.writer)) made) (input : is_running (world_of old).registers.input ≡ false) where
      within : tf ≤ length (world_of old).commands
      within = was.by.remembers.within

      stands_on : StandsAt format graphs plans task given lines from read driver new
      stands_on =
          run_stands (ring_of driver.writer) driver.engine.corb.address driver.engine.rirb.address beside.corb beside.rirb from read driver.engine.rings made old new makes of_ring input was.stands

      words_on : AreWords (is_switched graphs plans) (drop tf (world_of new).commands)
      words_on =
          words_more (is_switched graphs plans) tf from (world_of old) (world_of new) grown within was.stands.from_within
          (standing_words (is_switched graphs plans) from read driver.engine.corb.address driver.engine.rirb.address driver.engine.rings (world_of new) stands_on was.sends) was.switching.words

      pub run_core : ((still : Bool) → going_of format graphs plans task given lines (ran_to driver writer) ≡ still → Takes still tf (world_of new)) → StreamSwitches task (ran_to driver writer) new
          → Core format graphs plans task given lines start tf from read (ran_to driver writer) new
      run_core takes later =
          let corb = driver.engine.corb.address in
          let rirb = driver.engine.rirb.address in
          let going = going_of format graphs plans task given lines (ran_to driver writer) in
          let switching = switches_by format graphs plans task given lines going tf (world_of old) (world_of new) grown within was.switching words_on (takes going refl) in record {
            by = turned_went format graphs plans start tf old new weaving.events weaving.went was.by;
            switching = switching;
            taken = λ still. takes true still;
            set_up = stays_but format graphs plans start tf given.set_up given.well (ascends format graphs plans task given lines start tf from read corb rirb driver.engine.rings (world_of old) was.by was.stands) given.planned
                task lines old new weaving.events weaving.went was.by switching was.set_up;
            stands = stands_on;
            sends = was.sends;
            stream = later;
          }

      -- where no command is outstanding none is taken
      idle_takes : driver.engine.rings.outstanding ≡ None → Takes true tf (world_of old) → (still : Bool) → Takes still tf (world_of new)
      idle_takes idle before = by
        where
          took : Takes true tf (world_of new)
          took =
              subst (λ (commands : List TakenCommand). All IsRunning (drop tf commands))
              (sym (none_more from read driver.engine.corb.address driver.engine.rirb.address driver.engine.rings (world_of old) (world_of new) was.stands stands_on idle grown)) before

          by : (still : Bool) → Takes still tf (world_of new)
          by true = took
          by false = takes_weak true tf (world_of new) took

      pub first_core : driver.engine.rings.outstanding ≡ None → going_of format graphs plans task given lines driver ≡ true → StreamSwitches task (ran_to driver writer) new → Core format graphs plans task given lines start tf from read (ran_to driver writer) new
      first_core idle going later = run_core (λ still is. idle_takes idle (was.taken going) still) later

      -- those that are taken over a later run are taken while the stream runs, or after it
      going_takes : IsGoing old → Takes true tf (world_of old) → (still : Bool) → Lives still new → Takes still tf (world_of new)
      going_takes first before true second =
          subst (Takes true tf) (sym (world_of-went old new weaving.events weaving.went))
          (takes_running given.took tf weaving.events (world_of old) (ran_between old new weaving.events weaving.went (going_runs old first) second) within before)
      going_takes first before false second =
          let stop : StoppedAt old new weaving.events weaving.went = stopped_between old new weaving.events weaving.went (going_runs old first) second in
          subst (Takes false tf) (sym (world_of-went old new weaving.events weaving.went ∙ ap (λ (events : List Event). after events (world_of old)) stop.events_are))
          (takes_stopping given.took tf stop.front stop.back (world_of old) stop.runs stop.stays within before)

      pub later_core : going_of format graphs plans task given lines driver ≡ true → StreamGoes (is_some driver.given_up) (ring_of driver.writer) task.pcm (tally_of driver.writer) old
          → StreamGoes (is_some driver.given_up) (ring_of writer) task.pcm (tally_of writer) new → Core format graphs plans task given lines start tf from read (ran_to driver writer) new
      later_core going goes later =
          let first : IsGoing old = subst (λ (still : Bool). Lives still old) going goes.lives in
          run_core (λ still is. going_takes first (was.taken going) still (subst (λ (still : Bool). Lives still new) is later.lives)) (inr later)
