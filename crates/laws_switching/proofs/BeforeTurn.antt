-- Where a driver is to switch that brought its codecs up: they can be those of the turn, and were set up so at every
-- moment before it.
use Rattle.std.proofs.Common.{◌≡◌, ℕ, false, List, [], ◌∷◌, length, drop, sym, ap, subst, ◌∙◌}
use Rattle.std.specs.Prelude.{All}
use Rattle.std.proofs.lemmas.List.Elements.{All-append, All-nil, All-weaker}
use Rattle.codec_graph.specs.declared.raw.RawCodec.{RawCodec}
use Rattle.codec_graph.specs.Cycles.{IsWellFormed}
use Rattle.codec_graph.specs.CodecStates.{CodecState}
use Rattle.codec_graph.specs.Settings.{IsSettingsOf}
use Rattle.stream_format.specs.declared.format.Format.{Format}
use Rattle.route_planner.specs.declared.routes.Plan.{Plan}
use Rattle.hda_world.specs.Worlds.{World, TakenCommand}
use Rattle.hda_world.specs.Events.{Event, happens, after}
use Rattle.hda_world.specs.Tellings.{Telling, world_of}
use Rattle.command_engine.specs.Fetchings.{AscendFrom, graphs_in}
use Rattle.driver_agenda.specs.Planned.{ArePlansBy}
use Rattle.driver_progress.specs.Tasks.{Task, DriverLine}
use Rattle.driver_progress.specs.Progress.{Trail, trail_opened, noted}
use Rattle.laws_settings.specs.Histories.{Remembers}
use Rattle.laws_settings.specs.Readings.{KeepsDefaults}
use Rattle.laws_settings.proofs.Callers.{remembers_itself, events_remember}
use Rattle.laws_bring_up.specs.SettingUp.{AreSetUp, Always, SetUpAt, StaysSetUp}
use Rattle.laws_stream.specs.Resting.{Rests}
use Rattle.laws_stream.specs.Lives.{Along, HasNotBegun}
use Rattle.laws_stream.specs.Going.{TookWhile}
use Rattle.laws_stream.proofs.Callers.{Along-end}
use Rattle.laws_switching.specs.SettingUp.{SetUpButAt, StaysSetUpBut}
use Rattle.laws_switching.specs.Turned.{outputs, HasTurned}
use Rattle.laws_switching.proofs.Moments.{SetUpLaw}

abbrev pub IsOff : TakenCommand → Type 0
IsOff one = one.running ≡ false

-- they are those of the turn, and no command was taken since then
abbrev pub HasTurnedNow : (format : Format) (graphs : List RawCodec) (plans : List Plan) → World → Type 0
HasTurnedNow format graphs plans world = (turned : HasTurned format graphs plans world) × (drop turned.from world.commands ≡ [])

pub record TurnLaws : Type 0 where
  pub turn : (format : Format) (graphs : List RawCodec) (plans : List Plan) (start : List CodecState) (world : World) → Remembers start 0 world → graphs_in world.codecs ≡ graphs
      → All (λ (codec : CodecState). IsSettingsOf codec.graph codec.settings) start → AreSetUp (outputs format) graphs world → world.carried ≡ [] → All IsOff world.commands → All IsWellFormed graphs
      → ArePlansBy (outputs format).IsPlanBy graphs plans → HasTurnedNow format graphs plans world
  pub set_up : SetUpLaw
  pub silent : (events : List Event) (world : World) → Along HasNotBegun events world → TookWhile false world (after events world)

module _ (laws : TurnLaws) (format : Format) (graphs : List RawCodec) (plans : List Plan) (well : All IsWellFormed graphs) (ascend : AscendFrom 0 graphs) (planned : ArePlansBy (outputs format).IsPlanBy graphs plans)
    (task : Task) (fifo : ℕ) (start : List CodecState) (graphs_are : graphs_in start ≡ graphs) (settings : All (λ (codec : CodecState). IsSettingsOf codec.graph codec.settings) start) where
  silent_at : (world : World) → Rests fifo world → HasNotBegun world
  silent_at world rests = record { stopped = rests.output_stopped; no_error = rests.no_error; none = rests.none_carried }

  pub turned_there : (world : World) → Remembers start 0 world → All IsOff world.commands → Rests fifo world → AreSetUp (outputs format) graphs world → HasTurnedNow format graphs plans world
  turned_there world remembers off rests set_up =
      laws.turn format graphs plans start world remembers (remembers.graphs ∙ graphs_are) settings set_up rests.none_carried off well planned

  off_more : (world : World) (event : Event) → All IsOff world.commands → Rests fifo world → Rests fifo (happens world event) → All IsOff (happens world event).commands
  off_more world event off rests rests' =
      let took = laws.silent (event ∷ []) world (silent_at world rests, silent_at (happens world event) rests') in
      subst (All IsOff) (sym took.commands) (All-append IsOff world.commands took.more off took.each)

  along_first : (events : List Event) (world : World) → Along (Rests fifo) events world → Rests fifo world
  along_first [] world along = along
  along_first (event ∷ events) world along = along.0

  pub off_after : (events : List Event) (world : World) → All IsOff world.commands → Along (Rests fifo) events world → All IsOff (after events world).commands
  off_after [] world off along = off
  off_after (event ∷ events) world off along =
      off_after events (happens world event) (off_more world event off along.0 (along_first events (happens world event) along.1)) along.1

  set_up_there : (world : World) (trail : Trail) → Remembers start 0 world → All IsOff world.commands → Rests fifo world → SetUpAt (outputs format) graphs task world trail → SetUpButAt format 1 graphs plans task world trail
  set_up_there world trail remembers off rests set_up = λ answered.
      laws.set_up format graphs plans world (turned_there world remembers off rests (set_up answered)).0 well ascend planned

  pub set_up_before : (events : List Event) (world : World) (trail : Trail) → Remembers start 0 world → All IsOff world.commands → Along (Rests fifo) events world → Always (SetUpAt (outputs format) graphs task) task events world trail
      → Always (SetUpButAt format 1 graphs plans task) task events world trail
  set_up_before [] world trail remembers off along set_up = set_up_there world trail remembers off along set_up
  set_up_before (event ∷ events) world trail remembers off along set_up = (
    set_up_there world trail remembers off along.0 set_up.0,
    set_up_before events (happens world event) (noted task trail world event) (events_remember start 0 (event ∷ []) world remembers)
        (off_more world event off along.0 (along_first events (happens world event) along.1)) along.1 set_up.1,
  )

-- ---- as it is told

module _ (laws : TurnLaws) (format : Format) (graphs : List RawCodec) (plans : List Plan) (well : All IsWellFormed graphs) (ascend : AscendFrom 0 graphs) (planned : ArePlansBy (outputs format).IsPlanBy graphs plans)
    (task : Task) (lines : List DriverLine) (fifo : ℕ) (telling : Telling) (none : telling.start.commands ≡ []) (defaults : All KeepsDefaults telling.start.codecs) (rests : Along (Rests fifo) telling.journal telling.start)
    (graphs_are : graphs_in (world_of telling).codecs ≡ graphs) where
  first_remembers : Remembers telling.start.codecs 0 telling.start
  first_remembers = subst (λ (from : ℕ). Remembers telling.start.codecs from telling.start) (ap (λ (commands : List TakenCommand). length commands) none) (remembers_itself telling.start)

  now_remembers : Remembers telling.start.codecs 0 (world_of telling)
  now_remembers = events_remember telling.start.codecs 0 telling.journal telling.start first_remembers

  start_graphs : graphs_in telling.start.codecs ≡ graphs
  start_graphs = sym now_remembers.graphs ∙ graphs_are

  start_settings : All (λ (codec : CodecState). IsSettingsOf codec.graph codec.settings) telling.start.codecs
  start_settings = All-weaker KeepsDefaults (λ (codec : CodecState). IsSettingsOf codec.graph codec.settings) (λ codec is. is.settings) telling.start.codecs defaults

  start_off : All IsOff telling.start.commands
  start_off = subst (All IsOff) (sym none) (All-nil IsOff)

  pub turned_now : AreSetUp (outputs format) graphs (world_of telling) → HasTurnedNow format graphs plans (world_of telling)
  turned_now set_up =
      turned_there laws format graphs plans well ascend planned task fifo telling.start.codecs start_graphs start_settings (world_of telling) now_remembers
      (off_after laws format graphs plans well ascend planned task fifo telling.start.codecs start_graphs start_settings telling.journal telling.start start_off rests)
      (Along-end (Rests fifo) telling.journal telling.start rests) set_up

  pub set_up_but : StaysSetUp (outputs format) graphs task lines telling → StaysSetUpBut format 1 graphs plans task lines telling
  set_up_but set_up =
      set_up_before laws format graphs plans well ascend planned task fifo telling.start.codecs start_graphs start_settings telling.journal telling.start (trail_opened lines) first_remembers start_off rests set_up
