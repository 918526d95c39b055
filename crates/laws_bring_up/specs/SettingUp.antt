-- That all codecs are set up at every moment from the last answer on. This project's own.
use Rattle.std.specs.Prelude.{◌≡◌, ◌==◌, ◌&&◌, ◌||◌, Bool, true, false, List, [], ◌∷◌, length, Contains, Some}
use Rattle.codec_graph.specs.declared.raw.RawCodec.{RawCodec}
use Rattle.codec_graph.specs.CodecStates.{CodecState}
use Rattle.codec_graph.specs.Settings.{Entries}
use Rattle.route_planner.specs.declared.routes.Plan.{Plan}
use Rattle.route_setup.specs.Means.{Means}
use Rattle.hda_world.specs.Worlds.{World, codec_at}
use Rattle.hda_world.specs.Events.{Event, happens}
use Rattle.hda_world.specs.Tellings.{Telling, world_of}
use Rattle.driver_progress.specs.Phases.{is_asking, are_set_up}
use Rattle.driver_progress.specs.Tasks.{Task, DriverLine}
use Rattle.driver_progress.specs.Progress.{Trail, trail_of, trail_opened, noted}
use Rattle.driver_bring_up.specs.declared.bringing.BringUp.{BringUp}

-- ---- the moments

-- whether all commands were sent, and the look of a stretch that is open found the answer to the last of them
abbrev pub found_last : Task → Trail → Bool
found_last task trail = trail.within && ((trail.state.sent == length task.orders) && trail.answered)

-- whether all commands are answered: the state says so, or the look of the open stretch
abbrev pub are_answered : Task → Trail → Bool
are_answered task trail = are_set_up trail.state.phase || (is_asking trail.state.phase && found_last task trail)

-- something holds of world and trail before the first of these events and after each of them
abbrev pub Always : (World → Trail → Type 0) → Task → List Event → World → Trail → Type 0
Always Holds task [] world trail = Holds world trail
Always Holds task (event ∷ events) world trail = Holds world trail
    × Always Holds task events (happens world event) (noted task trail world event)

-- ---- the codecs

-- the codec with this graph is there, and its settings are open for its plan
pub record IsThere (means : Means) (graph : RawCodec) (codecs : List CodecState) : Type 0 where
  pub now : CodecState
  pub found : codec_at graph.address codecs ≡ Some now
  pub graph_is : now.graph ≡ graph
  pub opened : (plan : Plan) → means.IsPlanBy graph plan → means.IsOpenBy graph now.settings plan

abbrev pub AreSetUp : (means : Means) (graphs : List RawCodec) → World → Type 0
AreSetUp means graphs world = (graph : RawCodec) → Contains graphs graph → IsThere means graph world.codecs

-- wherever all commands are answered, all codecs are set up
abbrev pub SetUpAt : (means : Means) (graphs : List RawCodec) → Task → World → Trail → Type 0
SetUpAt means graphs task world trail = are_answered task trail ≡ true → AreSetUp means graphs world

-- at every moment that is told
abbrev pub StaysSetUp : (means : Means) (graphs : List RawCodec) → Task → (lines : List DriverLine) → Telling → Type 0
StaysSetUp means graphs task lines telling =
    Always (SetUpAt means graphs task) task telling.journal telling.start (trail_opened lines)

-- ---- why it stays so

-- CORB has no command that was not fetched
abbrev pub IsIdle : World → Type 0
IsIdle world = world.registers.global.corb_read_pointer ≡ world.registers.global.corb_write_pointer

-- all codecs are set up, and no command comes
pub record AreSetUpForGood (means : Means) (graphs : List RawCodec) (world : World) : Type 0 where
  pub idle : IsIdle world
  pub set_up : AreSetUp means graphs world

-- so it is in an open stretch whose accesses were made, where all commands are answered then or by where it leads
pub record RemainSetUp (means : Means) (graphs : List RawCodec) (task : Task) (lines : List DriverLine)
    (bring_up : BringUp) (telling : Telling) : Type 0 where
  pub before : are_answered task (trail_of task lines telling) ≡ true → AreSetUpForGood means graphs (world_of telling)
  pub after : are_set_up bring_up.phase ≡ true → AreSetUpForGood means graphs (world_of telling)
