-- The turn: the first line that begins at `Ready` is the first call of a driver that switches.
use Rattle.std.proofs.Common.{◌≡◌, ◌≤◌, inl, inr, ℕ, true, false, List, [], ◌∷◌, ◌++◌, length, map, Option, None, Some, refl, sym, ap, subst, ◌∙◌}
use Rattle.std.specs.Prelude.{All}
use Rattle.std.proofs.lemmas.Bool.{false≢true}
use Rattle.std.proofs.lemmas.List.Elements.{All-nil}
use Rattle.verb_codes.specs.declared.verbs.Command.{Command}
use Rattle.codec_graph.specs.declared.raw.RawCodec.{RawCodec}
use Rattle.stream_format.specs.declared.format.Format.{Format}
use Rattle.route_planner.specs.declared.routes.Plan.{Plan}
use Rattle.hda_world.specs.Events.{Event, Stepped, Begin}
use Rattle.hda_world.specs.Tellings.{Telling, world_of, Accessed}
use Rattle.command_engine.specs.declared.ring_places.RingPlaces.{RingPlaces}
use Rattle.command_engine.specs.declared.answers.Outstanding.{Outstanding}
use Rattle.command_engine.specs.Engines.{EngineState}
use Rattle.command_engine.specs.Fetchings.{Stands, AscendFrom, graphs_in}
use Rattle.command_engine.specs.Polling.{asked_of}
use Rattle.period_writer.specs.Runs.{Tally, tally_opened}
use Rattle.period_writer.specs.Writers.{WriterState, tally_of, ring_of}
use Rattle.driver_progress.specs.declared.phase.Phase.{Phase}
use Rattle.driver_progress.specs.declared.phase.Phase.TheVariants.{Ready}
use Rattle.driver_progress.specs.Phases.{is_ready}
use Rattle.driver_progress.specs.Answers.{AnswersAgree}
use Rattle.driver_progress.specs.States.{State}
use Rattle.driver_progress.specs.Tasks.{Task, DriverLine, walks_over}
use Rattle.driver_progress.specs.Progress.{Trail, trail_of}
use Rattle.driver_rules.specs.Onward.{is_turn, IsOnwardOpen}
use Rattle.driver_rules.proofs.Callers.{rest_waits, rules_turn, begins_noted, tally_begins}
use Rattle.jack_rules.specs.declared.pins.JackPin.{JackPin}
use Rattle.jack_rules.specs.declared.pins.JackState.{JackState}
use Rattle.jack_rules.specs.JackPins.{jacks_of, speakers_of}
use Rattle.jack_rules.specs.Switching.{SwitchingState, jack_opened, switching_opened}
use Rattle.laws_bring_up.specs.Standing.{IsAsking, StandsIn}
use Rattle.laws_bring_up.proofs.Callers.{trail_access}
use Rattle.laws_driver.specs.Sounding.{Parts, tally_in}
use Rattle.laws_driver.specs.Keeping.{IsSilent, DriverGoesOn}
use Rattle.laws_driver.specs.Leaving.{IsLeftStanding, IsLeftReady}
use Rattle.laws_stream.specs.Resting.{Rests, AreApartFrom}
use Rattle.laws_stream.specs.Lives.{Along}
use Rattle.jack_switch.specs.SwitchRules.{SwitchState, switch_begun, switch_rules}
use Rattle.jack_switch.specs.JackDrivers.{JackDriverState, switch_state, IsTaskOfSwitching}
use Rattle.laws_switching.specs.Coming.{IsComing}
use Rattle.laws_switching.specs.Senses.{KnowsJacks, senses_after, senses_opened, AreDecided, presence_of}
use Rattle.laws_switching.specs.Since.{since_ready}
use Rattle.laws_switching.specs.Switching.{IsMadeOf, HasNotPlayed}
use Rattle.laws_switching.specs.Turned.{outputs}
use Rattle.laws_switching.proofs.SinceTurn.{since_turned}
use Rattle.laws_switching.proofs.Taken.{IsRunning}
use Rattle.laws_switching.proofs.Moments.{turned_by}
use Rattle.laws_switching.proofs.BeforeTurn.{TurnLaws, HasTurnedNow, turned_now, set_up_but}
use Rattle.laws_switching.proofs.BesideRules.{begin_beside}
use Rattle.laws_switching.proofs.Core.{Core, quiet_core}
use Rattle.laws_switching.proofs.Given.{Given}
use Rattle.laws_switching.proofs.Opened.{IsOpened, mark_quiet, quiet_agree, begin_stream}

-- what is known of jacks before any is asked
jacks_opened : (jacks : List JackPin) → map presence_of (map jack_opened jacks) ≡ map jack_opened jacks
jacks_opened [] = refl
jacks_opened (jack ∷ jacks) = ap (λ (rest : List JackState). jack_opened jack ∷ rest) (jacks_opened jacks)

-- a task that plays nothing is silent until then
silent_by : (verbs : RawCodec → List Command) (format : Format) (graphs : List RawCodec) (task : Task) (lines left : List DriverLine) (parts : Parts) (telling : Telling) → task.plays ≡ false
    → DriverGoesOn (outputs format) verbs graphs task lines left parts telling → IsSilent (outputs format) verbs graphs task lines left parts telling
silent_by verbs format graphs task lines left parts telling silent (inl is) = is
silent_by verbs format graphs task lines left parts telling silent (inr heard) = absurd (false≢true (sym silent ∙ heard.sounds.task_is.plays))

-- the law of the parts that a driver leaves
abbrev pub PartsStand : (format : Format) (verbs : RawCodec → List Command) (graphs : List RawCodec) → Task → Type 0
PartsStand format verbs graphs task =
    (lines left : List DriverLine) (parts : Parts) (telling : Telling) → parts.bring_up.phase ≡ Ready → tally_in parts ≡ tally_opened → DriverGoesOn (outputs format) verbs graphs task lines left parts telling
    → IsLeftStanding (outputs format) graphs parts (world_of telling) × IsLeftReady task lines parts telling

module _ (format : Format) (verbs : RawCodec → List Command) (graphs : List RawCodec) (plans : List Plan) (task : Task) (given : Given format graphs plans task) (laws : TurnLaws) (stand : PartsStand format verbs graphs task)
    (lines left : List DriverLine) (line : DriverLine) (parts : Parts) (driver : JackDriverState) (supply : List ℕ) (telling : Telling) (ready : parts.bring_up.phase ≡ Ready) (of : IsMadeOf parts plans driver)
    (task_is : IsTaskOfSwitching driver supply task) (coming : IsComing (outputs format) verbs graphs plans task lines (line ∷ left) parts telling) where
  silent : IsSilent (outputs format) verbs graphs task lines (line ∷ left) parts telling
  silent = silent_by verbs format graphs task lines (line ∷ left) parts telling given.silent coming.under_way

  left_so : IsLeftStanding (outputs format) graphs parts (world_of telling) × IsLeftReady task lines parts telling
  left_so = stand lines (line ∷ left) parts telling ready silent.silent.fresh coming.under_way

  standing : IsLeftStanding (outputs format) graphs parts (world_of telling)
  standing = left_so.0

  progress : IsLeftReady task lines parts telling
  progress = left_so.1

  pub asking : IsAsking (outputs format) verbs graphs task (trail_of task lines telling).written parts.bring_up (world_of telling)
  asking = subst (λ (phase : Phase). StandsIn phase (outputs format) verbs graphs task (trail_of task lines telling).written parts.bring_up (world_of telling)) ready silent.under_way.stands.stage

  graphs_are : graphs_in (world_of telling).codecs ≡ graphs
  graphs_are = standing.graphs_are

  ascend : AscendFrom 0 graphs
  ascend = subst (AscendFrom 0) graphs_are asking.stands.ascend

  pub turned : HasTurnedNow format graphs plans (world_of telling)
  turned =
      turned_now laws format graphs plans given.well ascend given.planned task lines parts.writer.geometry.fifo telling coming.none_taken coming.defaults silent.silent.rests graphs_are standing.good.set_up

  idle : driver.engine.rings.outstanding ≡ None
  idle = ap (λ (engine : EngineState). engine.rings.outstanding) of.engine ∙ standing.answered

  fresh : tally_of driver.writer ≡ tally_opened
  fresh = ap tally_of of.writer ∙ silent.silent.fresh

  unplayed : HasNotPlayed driver telling
  unplayed = record {
    idle = idle;
    fresh = fresh;
    kept = of.given_up;
    apart = subst (λ (writer : WriterState). AreApartFrom (ring_of writer) driver.engine.rirb.address) (sym of.writer)
        (subst (λ (engine : EngineState). AreApartFrom (ring_of parts.writer) engine.rirb.address) (sym of.engine) silent.silent.apart);
    rests = subst (λ (writer : WriterState). Along (Rests writer.geometry.fifo) telling.journal telling.start) (sym of.writer) silent.silent.rests;
  }

  none_sent : (outstanding : Option Outstanding) → outstanding ≡ None → (command : Outstanding) → outstanding ≡ Some command → ⊥
  none_sent outstanding none command is = some_none command (sym is ∙ none)
    where
      some_none : (command : Outstanding) → Some command ≡ None → ⊥
      some_none command is = cc

  core_at : Core format graphs plans task given lines turned.0.start turned.0.from asking.from asking.read driver telling
  core_at = record {
    by = turned_by format graphs plans (world_of telling) turned.0;
    switching = turned.0.switching;
    taken = λ still. subst (All IsRunning) (sym turned.1) (All-nil IsRunning);
    set_up = set_up_but laws format graphs plans given.well ascend given.planned task lines parts.writer.geometry.fifo telling coming.none_taken coming.defaults silent.silent.rests graphs_are silent.under_way.set_up;
    stands = subst (λ (engine : EngineState). Stands asking.from asking.read engine.corb.address engine.rirb.address engine.rings (world_of telling)) (sym of.engine) asking.stands;
    sends = λ command is. absurd (none_sent driver.engine.rings.outstanding idle command is);
    stream = inl unplayed;
  }

  -- the rules begin
  state_is : (rings : RingPlaces) → driver.engine.rings ≡ rings → switch_begun graphs plans rings ≡ switch_state driver
  state_is rings same =
      let state : RingPlaces → Tally → ℕ → SwitchingState → Option ℕ → SwitchState = λ rings tally clock switching given. record { rings = rings; tally = tally; clock = clock; switching = switching; given_up = given } in
      let switching : driver.switching ≡ switching_opened graphs plans =
      of.switching ∙ ap (λ (graphs : List RawCodec). switching_opened graphs driver.plans) (of.graphs ∙ standing.walked) ∙ ap (λ (plans : List Plan). switching_opened graphs plans) of.plans_are in
      ap (λ (rings : RingPlaces). state rings tally_opened 0 (switching_opened graphs plans) None) (sym same)
      ∙ ap (λ (tally : Tally). state driver.engine.rings tally 0 (switching_opened graphs plans) None) (sym fresh)
      ∙ ap (λ (clock : ℕ). state driver.engine.rings (tally_of driver.writer) clock (switching_opened graphs plans) None) (sym of.clock)
      ∙ ap (λ (switching : SwitchingState). state driver.engine.rings (tally_of driver.writer) driver.clock switching None) (sym switching)
      ∙ ap (λ (given : Option ℕ). state driver.engine.rings (tally_of driver.writer) driver.clock driver.switching given) (sym of.given_up)

  switching_is : driver.switching ≡ switching_opened graphs plans
  switching_is =
      of.switching ∙ ap (λ (graphs : List RawCodec). switching_opened graphs driver.plans) (of.graphs ∙ standing.walked) ∙ ap (λ (plans : List Plan). switching_opened graphs plans) of.plans_are

  knows_opened : KnowsJacks (senses_opened graphs plans) driver.switching
  knows_opened = subst (KnowsJacks (senses_opened graphs plans)) (sym switching_is) (record { jacks = jacks_opened (jacks_of graphs plans); asked = refl })

  turns_now : is_turn (trail_of task lines telling) ≡ true
  turns_now =
      ap (λ (phase : Phase). is_turn (record (trail_of task lines telling) { state = record (trail_of task lines telling).state { phase = phase } })) progress.phase
      ∙ ap (λ (left : List DriverLine). is_turn (record (trail_of task lines telling) { state = record (trail_of task lines telling).state { phase = Ready }; left = left })) silent.under_way.rest.left_is

  pub turn_opens : (begun : Telling) → Accessed telling begun Begin → IsOpened format graphs plans task given lines left (Some line) supply turned.0.start turned.0.from driver begun
  turn_opens begun begins =
      let rules = switch_rules task graphs plans in
      let rings = parts.bring_up.engine.rings in
      let rest = silent.under_way.rest in
      let events = map Stepped begins.steps ++ Begin ∷ [] in
      let quiet = mark_quiet begins.steps Begin (tt {0}, tt {0}) in
      let since : since_ready task lines begun ≡ Begin ∷ [] = since_turned task lines rules telling begun begins turns_now coming.waits in
      let waits = rest_waits rules task lines (line ∷ left) telling rest.conforms rest.within rest.left_is coming.waits in
      let opened = rules_turn rules task lines left line rings telling begun begins (ap is_ready progress.phase) progress.rings waits in
      let agree : AnswersAgree (asked_of driver.engine.rings.outstanding) (trail_of task lines telling).written asking.read (world_of telling).written =
      subst (λ (engine : EngineState). AnswersAgree (asked_of engine.rings.outstanding) (trail_of task lines telling).written asking.read (world_of telling).written) (sym of.engine) asking.agree in record {
        opened = subst (λ (state : SwitchState). IsOnwardOpen rules task lines left (Some line) (Some state) [] begun) (state_is rings (ap (λ (engine : EngineState). engine.rings) of.engine)) opened;
        beside = begin_beside task lines driver.sent telling begun begins (record { finds = rest.finds; phase_is = progress.phase; sent_is = progress.sent ∙ sym of.sent });
        tallies = tally_begins rules (λ (state : SwitchState). state.tally) task lines telling begun begins turns_now coming.waits (sym (ap (λ (state : State). state.tally) rest.state_is));
        of = record {
          task_is = task_is;
          walked = of.graphs ∙ standing.walked;
          planned = of.plans_are;
          enough = subst (λ (sent : ℕ). length (walks_over graphs) ≤ sent) (sym of.sent) standing.enough;
        };
        from = asking.from;
        read = asking.read;
        core = quiet_core format graphs plans task given lines turned.0.start turned.0.from asking.from asking.read driver events telling begun begins.went quiet core_at
            (begin_stream format graphs plans task given lines driver telling begun begins (inl unplayed));
        hears = record {
          begun = record { first = Begin; rest = []; is = since };
          decided = subst (λ (events : List Event). AreDecided driver.engine.corb.address driver.engine.rirb.address (speakers_of graphs plans) events (senses_opened graphs plans)) (sym since) (tt {0}, tt {0});
          knows = subst (λ (events : List Event). KnowsJacks (senses_after driver.engine.corb.address driver.engine.rirb.address events (senses_opened graphs plans)) driver.switching) (sym since) knows_opened;
        };
        agree = subst (λ (trail : Trail). AnswersAgree (asked_of driver.engine.rings.outstanding) trail.written asking.read (world_of begun).written) (sym (trail_access task lines Begin telling begun begins))
            (quiet_agree format graphs plans task given lines (asked_of driver.engine.rings.outstanding) (trail_of task lines telling).written asking.read events telling begun begins.went quiet agree);
        unanswered = (begins_noted rules task lines telling begun begins).0;
      }
