-- Codecs that were set up at the turn are so at every moment, but for the speakers that are off.
use Rattle.std.proofs.Common.{◌≡◌, ◌≤◌, ◌+◌, ◌⊎◌, inl, inr, ℕ, true, false, List, [], ◌∷◌, ◌++◌, length, drop, take, sym, ap, subst, ◌∙◌, arith}
use Rattle.std.specs.Prelude.{All, Contains}
use Rattle.std.specs.List.{AllZip}
use Rattle.std.proofs.lemmas.List.{drop-append-le, length-append, take-append-le}
use Rattle.std.proofs.lemmas.List.Elements.{All-weaker}
use Rattle.codec_graph.specs.declared.raw.RawCodec.{RawCodec}
use Rattle.codec_graph.specs.Cycles.{IsWellFormed}
use Rattle.codec_graph.specs.CodecStates.{CodecState}
use Rattle.codec_graph.specs.Settings.{IsSettingsOf}
use Rattle.stream_format.specs.declared.format.Format.{Format}
use Rattle.route_planner.specs.declared.routes.Plan.{Plan}
use Rattle.hda_world.specs.Worlds.{World, TakenCommand}
use Rattle.hda_world.specs.Events.{Event, happens, after}
use Rattle.hda_world.specs.Tellings.{Telling, world_of, Went}
use Rattle.hda_world.proofs.Callers.{world_of-went}
use Rattle.command_engine.specs.Fetchings.{AscendFrom, graphs_in}
use Rattle.driver_agenda.specs.Planned.{ArePlansBy}
use Rattle.driver_progress.specs.Tasks.{Task, DriverLine}
use Rattle.driver_progress.specs.Progress.{Trail, trail_of, trail_after, trail_opened, noted}
use Rattle.laws_settings.specs.Histories.{Remembers, words_of, words_to}
use Rattle.laws_settings.specs.Frames.{RemembersFrames}
use Rattle.laws_settings.specs.PinControls.{last_control}
use Rattle.laws_settings.proofs.Callers.{events_remember, events_remember_frames}
use Rattle.laws_bring_up.specs.SettingUp.{Always, IsThere}
use Rattle.laws_speakers.specs.SwitchWords.{IsSwitchWord, AreSwitching}
use Rattle.laws_speakers.specs.SetUpBut.{AreRoutesOn}
use Rattle.laws_switching.specs.Speakers.{is_switched}
use Rattle.laws_switching.specs.SettingUp.{AreSetUpBut, SetUpButAt, StaysSetUpBut}
use Rattle.laws_switching.specs.Turned.{outputs, HasTurned}
use Rattle.laws_switching.proofs.Taken.{Grown, events_grown, all_front, words_both}

-- what holds at every moment, over events in a row
pub always_both : (Holds : World → Trail → Type 0) (task : Task) (front back : List Event) (world : World) (trail : Trail) → Always Holds task front world trail
    → Always Holds task back (after front world) (trail_after task front world trail) → Always Holds task (front ++ back) world trail
always_both Holds task [] back world trail first second = second
always_both Holds task (event ∷ front) back world trail first second = (first.0, always_both Holds task front back (happens world event) (noted task trail world event) first.1 second)

pub always_went : (Holds : World → Trail → Type 0) (task : Task) (lines : List DriverLine) (old new : Telling) (events : List Event) → Went old new events
    → Always Holds task events (world_of old) (trail_of task lines old) → Always Holds task old.journal old.start (trail_opened lines) → Always Holds task new.journal new.start (trail_opened lines)
always_went Holds task lines old new events went more before =
    subst (λ (start : World). Always Holds task new.journal start (trail_opened lines)) (sym went.start)
    (subst (λ (journal : List Event). Always Holds task journal old.start (trail_opened lines)) (sym went.journal)
    (always_both Holds task old.journal events old.start (trail_opened lines) before more))

-- the law of codecs that were set up at the turn
abbrev pub SetUpLaw : Type 0
SetUpLaw = (format : Format) (graphs : List RawCodec) (plans : List Plan) (world : World) → HasTurned format graphs plans world → All IsWellFormed graphs → AscendFrom 0 graphs
    → ArePlansBy (outputs format).IsPlanBy graphs plans → AreSetUpBut format 1 graphs plans world

module _ (format : Format) (graphs : List RawCodec) (plans : List Plan) where
  abbrev pub RoutesOn : ℕ → World → Type 0
  RoutesOn from world = AllZip (λ (graph : RawCodec) (plan : Plan). AreRoutesOn (λ pin. last_control pin (words_to graph.address (take from world.commands))) plan) graphs plans

  -- what the codecs were at the turn, with the codecs and how many commands they had taken
  pub record TurnedBy (start : List CodecState) (from : ℕ) (world : World) : Type 0 where
    pub remembers : Remembers start from world
    pub frames : RemembersFrames start from 0 world
    pub graphs_are : graphs_in start ≡ graphs
    pub settings : All (λ (codec : CodecState). IsSettingsOf codec.graph codec.settings) start
    pub set_up : (graph : RawCodec) → Contains graphs graph → IsThere (outputs format) graph start
    pub routes : RoutesOn from world

  pub turned_by : (world : World) (turned : HasTurned format graphs plans world) → TurnedBy turned.start turned.from world
  turned_by world turned = record {
    remembers = turned.remembers;
    frames = turned.frames;
    graphs_are = turned.graphs_are;
    settings = turned.settings;
    set_up = turned.set_up;
    routes = turned.routes;
  }

  pub by_turned : (start : List CodecState) (from : ℕ) (world : World) → TurnedBy start from world → AreSwitching (is_switched graphs plans) from world → HasTurned format graphs plans world
  by_turned start from world by switching = record {
    start = start;
    from = from;
    remembers = by.remembers;
    frames = by.frames;
    switching = switching;
    graphs_are = by.graphs_are;
    settings = by.settings;
    set_up = by.set_up;
    routes = by.routes;
  }

  module _ (start : List CodecState) (from : ℕ) where
    taken_same : (old new : World) → Grown old new → from ≤ length old.commands → take from new.commands ≡ take from old.commands
    taken_same old new grown within = ap (λ (commands : List TakenCommand). take from commands) grown.commands ∙ take-append-le from old.commands grown.more within

    -- over events
    pub turned_events : (events : List Event) (world : World) → TurnedBy start from world → TurnedBy start from (after events world)
    turned_events events world by = record {
      remembers = events_remember start from events world by.remembers;
      frames = events_remember_frames start from 0 events world by.remembers by.frames;
      graphs_are = by.graphs_are;
      settings = by.settings;
      set_up = by.set_up;
      routes = subst
          (λ (commands : List TakenCommand). AllZip (λ (graph : RawCodec) (plan : Plan). AreRoutesOn (λ pin. last_control pin (words_to graph.address commands)) plan) graphs plans)
          (sym (taken_same world (after events world) (events_grown events world) by.remembers.within)) by.routes;
    }

    -- what switches later switches by then
    switching_before : (old new : World) → Grown old new → from ≤ length old.commands → AreSwitching (is_switched graphs plans) from new → AreSwitching (is_switched graphs plans) from old
    switching_before old new grown within switching =
        let rest : drop from new.commands ≡ drop from old.commands ++ grown.more = ap (λ (commands : List TakenCommand). drop from commands) grown.commands ∙ drop-append-le from old.commands grown.more within in
        let long : length new.carried ≡ length old.carried + length grown.frames = ap length grown.carried ∙ length-append old.carried grown.frames in
        let weaker : (one : TakenCommand) → (one.running ≡ true) ⊎ (length new.carried ≤ one.carried) → (one.running ≡ true) ⊎ (length old.carried ≤ one.carried) =
        λ one is. weaker_one one long is in record {
          before = subst (All (λ (one : TakenCommand). one.running ≡ false)) (taken_same old new grown within) switching.before;
          words = all_front (IsSwitchWord (is_switched graphs plans)) (words_of (drop from old.commands)) (words_of grown.more)
              (subst (All (IsSwitchWord (is_switched graphs plans))) (ap words_of rest ∙ words_both (drop from old.commands) grown.more) switching.words);
          during = All-weaker (λ (one : TakenCommand). (one.running ≡ true) ⊎ (length new.carried ≤ one.carried)) (λ (one : TakenCommand). (one.running ≡ true) ⊎ (length old.carried ≤ one.carried)) weaker
              (drop from old.commands) (all_front (λ (one : TakenCommand). (one.running ≡ true) ⊎ (length new.carried ≤ one.carried)) (drop from old.commands) grown.more
              (subst (All (λ (one : TakenCommand). (one.running ≡ true) ⊎ (length new.carried ≤ one.carried))) rest switching.during));
        }
      where
        weaker_one : (one : TakenCommand) → length new.carried ≡ length old.carried + length grown.frames → (one.running ≡ true) ⊎ (length new.carried ≤ one.carried) → (one.running ≡ true) ⊎ (length old.carried ≤ one.carried)
        weaker_one one long (inl is) = inl is
        weaker_one one long (inr is) = inr (omega (arith, long, is))

    -- ---- at every moment

    module _ (law : SetUpLaw) (well : All IsWellFormed graphs) (ascend : AscendFrom 0 graphs) (planned : ArePlansBy (outputs format).IsPlanBy graphs plans) (task : Task) where
      moments : (events : List Event) (world : World) (trail : Trail) → TurnedBy start from world → AreSwitching (is_switched graphs plans) from (after events world) → Always (SetUpButAt format 1 graphs plans task) task events world trail
      moments [] world trail by switching = λ answered. law format graphs plans world (by_turned start from world by switching) well ascend planned
      moments (event ∷ events) world trail by switching = (
        λ answered. law format graphs plans world
            (by_turned start from world by (switching_before world (after events (happens world event)) (events_grown (event ∷ events) world) by.remembers.within switching)) well ascend planned,
        moments events (happens world event) (noted task trail world event) (turned_events (event ∷ []) world by) switching,
      )

      pub stays_but : (lines : List DriverLine) (old new : Telling) (events : List Event) → Went old new events → TurnedBy start from (world_of old) → AreSwitching (is_switched graphs plans) from (world_of new)
          → StaysSetUpBut format 1 graphs plans task lines old → StaysSetUpBut format 1 graphs plans task lines new
      stays_but lines old new events went by switching before =
          always_went (SetUpButAt format 1 graphs plans task) task lines old new events went
          (moments events (world_of old) (trail_of task lines old) by (subst (AreSwitching (is_switched graphs plans) from) (world_of-went old new events went) switching)) before

    pub turned_went : (old new : Telling) (events : List Event) → Went old new events → TurnedBy start from (world_of old) → TurnedBy start from (world_of new)
    turned_went old new events went by = subst (TurnedBy start from) (sym (world_of-went old new events went)) (turned_events events (world_of old) by)
