-- How a bring-up stands to the world that is told. This project's own.
use Rattle.std.specs.Prelude.{◌≡◌, ◌≢◌, ◌≤◌, ◌<◌, ℕ, ◌+◌, List, [], ◌∷◌, ◌++◌, length, map, take, drop, slice_get, All}
use Rattle.std.specs.Prelude.{Option, Some, None}
use Rattle.verb_codes.specs.declared.verbs.Command.{Command}
use Rattle.codec_graph.specs.declared.raw.RawCodec.{RawCodec}
use Rattle.route_planner.specs.declared.routes.Plan.{Plan}
use Rattle.route_setup.specs.Means.{Means}
use Rattle.codec_graph.specs.CodecStates.{CodecState}
use Rattle.hda_world.specs.Worlds.{World}
use Rattle.command_engine.specs.declared.answers.Outstanding.{Outstanding}
use Rattle.command_engine.specs.Fetchings.{Stands, graphs_in}
use Rattle.command_engine.specs.Polling.{asked_of}
use Rattle.driver_agenda.specs.Following.{AreRight, Follows}
use Rattle.laws_settings.specs.Histories.{Remembers, words_of}
use Rattle.laws_settings.specs.Readings.{KeepsDefaults}
use Rattle.driver_progress.specs.declared.phase.Phase.{Phase}
use Rattle.driver_progress.specs.declared.phase.Phase.TheVariants.{Reset, Settling, Walking, SettingUp, Ready, Playing}
use Rattle.driver_progress.specs.declared.phase.Phase.TheVariants.{Drained, NothingRouted, Unanswered, Late, Malformed}
use Rattle.driver_progress.specs.declared.phase.Phase.TheVariants.{Failed}
use Rattle.codec_walk.specs.Commands.{walk_commands}
use Rattle.driver_progress.specs.Tasks.{Task, Order, IsTaskFor, walks_over}
use Rattle.driver_progress.specs.Answers.{AnswersAgree}
use Rattle.driver_progress.specs.Beginning.{CanReset, IsSettling}
use Rattle.driver_bring_up.specs.Addresses.{most_codecs}
use Rattle.driver_bring_up.specs.Standing.{answers_of}
use Rattle.driver_bring_up.specs.declared.bringing.BringUp.{BringUp}
use Rattle.driver_bring_up.specs.Calls.{IsTaskOf}

-- ---- what is to be done

-- the commands of codecs with these graphs: well-formed, one to four of them, with some pin that has a route
pub record IsTaskOfCodecs (means : Means) (verbs : RawCodec → List Command) (graphs : List RawCodec) (task : Task)
    : Type 0 where
  pub right : AreRight means verbs graphs
  pub is_for : IsTaskFor verbs graphs task
  pub some : graphs ≢ []
  pub few : length graphs ≤ most_codecs

-- ---- while commands are sent

-- the outstanding command is the last of those that were sent
abbrev pub IsLastSent : List Order → (sent : ℕ) → Option Outstanding → Type 0
IsLastSent orders sent None = Unit {0}
IsLastSent orders sent (Some command) =
    (count : ℕ) × (sent ≡ count + 1)
    × (slice_get orders count ≡ Some (record { codec = command.codec; word = command.word }))

-- codecs that had their pins' defaults had taken so many commands, and since then took the words of those that were
-- answered
pub record HaveTaken (orders : List Order) (answers from : ℕ) (world : World) : Type 0 where
  pub start : List CodecState
  pub begun : ℕ
  pub defaults : All KeepsDefaults start
  pub remembers : Remembers start begun world
  pub from_is : from ≡ begun + answers
  pub words : words_of (take answers (drop begun world.commands)) ≡ map (λ (order : Order). order.word)
      (take answers orders)

-- the engine stands to the world, the agenda follows the codecs' commands, and so many responses were written when the
-- last of them was submitted
pub record IsAsking (means : Means) (verbs : RawCodec → List Command) (graphs : List RawCodec) (task : Task)
    (written : ℕ) (bring_up : BringUp) (world : World) : Type 0 where
  pub from : ℕ
  pub read : ℕ
  pub stands : Stands from read bring_up.engine.corb.address bring_up.engine.rirb.address bring_up.engine.rings world
  pub agree : AnswersAgree (asked_of bring_up.engine.rings.outstanding) written read world.written
  pub last : IsLastSent task.orders bring_up.sent bring_up.engine.rings.outstanding
  pub follows : Follows means verbs graphs (answers_of bring_up.sent bring_up.engine.rings.outstanding) bring_up.agenda
  pub taken : HaveTaken task.orders (answers_of bring_up.sent bring_up.engine.rings.outstanding) from world

-- ---- before

-- before the reset: it can be made, CORB's engine does not run, and codecs have their pins' defaults
pub record CanBegin (bring_up : BringUp) (world : World) : Type 0 where
  pub can : CanReset bring_up.engine.corb.address bring_up.engine.rirb.address world
  pub stopped : world.registers.global.corb_run ≡ 0
  pub defaults : All KeepsDefaults world.codecs
  pub none_sent : bring_up.sent ≡ 0
  pub none_walked : bring_up.agenda.graphs.items ≡ []

-- while the codecs announce themselves
pub record Announce (bring_up : BringUp) (world : World) : Type 0 where
  pub settling : IsSettling bring_up.engine.corb.address bring_up.engine.rirb.address world
  pub defaults : All KeepsDefaults world.codecs
  pub none_sent : bring_up.sent ≡ 0
  pub none_walked : bring_up.agenda.graphs.items ≡ []

-- ---- what was walked

-- the graphs that were walked are the first of those on the link, as many as so many answers told: all commands of the
-- walks over them were answered, and not all of the walk over the next one. So they are all once more commands were
-- sent than those of the walks
pub record AreWalked (graphs walked : List RawCodec) (walks sent answers : ℕ) : Type 0 where
  pub rest : List RawCodec
  pub first : graphs ≡ walked ++ rest
  pub told : length (walks_over walked) ≤ answers
  pub untold : (next : RawCodec) (later : List RawCodec) → rest ≡ next ∷ later
      → answers < length (walks_over walked) + length (walk_commands next)
  pub all : walks < sent → walked ≡ graphs

abbrev pub HasWalked : (graphs : List RawCodec) (task : Task) → BringUp → Type 0
HasWalked graphs task bring_up =
    AreWalked graphs bring_up.agenda.graphs.items task.walks bring_up.sent
    (answers_of bring_up.sent bring_up.engine.rings.outstanding)

-- ---- by phase

abbrev pub StandsIn : Phase → (means : Means) (verbs : RawCodec → List Command) (graphs : List RawCodec) (task : Task)
    (written : ℕ) (bring_up : BringUp) (world : World) → Type 0
StandsIn Reset means verbs graphs task written bring_up world = CanBegin bring_up world
StandsIn Settling means verbs graphs task written bring_up world = Announce bring_up world
StandsIn Walking means verbs graphs task written bring_up world = IsAsking means verbs graphs task written bring_up
    world
StandsIn SettingUp means verbs graphs task written bring_up world = IsAsking means verbs graphs task written bring_up
    world
StandsIn Ready means verbs graphs task written bring_up world = IsAsking means verbs graphs task written bring_up world
StandsIn (Unanswered codec command issued noticed) means verbs graphs task written bring_up world = HasWalked graphs
    task bring_up
StandsIn Failed means verbs graphs task written bring_up world = HasWalked graphs task bring_up
StandsIn phase means verbs graphs task written bring_up world = ⊥

-- a bring-up for a task over the codecs with these graphs, as it stands to the world
pub record IsBroughtUp (means : Means) (verbs : RawCodec → List Command) (graphs : List RawCodec) (task : Task)
    (written : ℕ) (bring_up : BringUp) (world : World) : Type 0 where
  pub blocks : IsTaskOf bring_up task
  pub graphs_are : graphs_in world.codecs ≡ graphs
  pub stage : StandsIn bring_up.phase means verbs graphs task written bring_up world

-- ---- at its end

-- by phase: once the walks are over, all are walked
abbrev pub WalkedIn : Phase → (all : Type 0) → Type 0
WalkedIn SettingUp all = all
WalkedIn Ready all = all
WalkedIn Playing all = ⊥
WalkedIn Drained all = ⊥
WalkedIn NothingRouted all = ⊥
WalkedIn (Late from to limit) all = ⊥
WalkedIn (Malformed codec fault) all = ⊥
WalkedIn phase all = Unit {0}

-- what a bring-up leaves: which graphs were walked, by how many commands were sent and by the phase
pub record IsEnded (graphs : List RawCodec) (task : Task) (bring_up : BringUp) : Type 0 where
  pub walked : HasWalked graphs task bring_up
  pub by_phase : WalkedIn bring_up.phase (bring_up.agenda.graphs.items ≡ graphs)
