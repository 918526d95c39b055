-- What is promised of a driver's run over a machine by a schedule, whether it plays sound or not. This project's own.
use Rattle.std.specs.Prelude.{◌≡◌, ℕ, true, List, ◌++◌, length, Contains, Some}
use Rattle.stream_format.specs.declared.format.Format.{Format}
use Rattle.codec_graph.specs.declared.raw.RawCodec.{RawCodec}
use Rattle.codec_graph.specs.CodecStates.{CodecState}
use Rattle.codec_graph.specs.declared.pin_kind.PinKind.{PinKind}
use Rattle.route_planner.specs.declared.routes.Plan.{Plan}
use Rattle.route_planner.specs.Plans.{IsPlanAs}
use Rattle.setup_verbs.specs.SetUp.{IsSetUpFor}
use Rattle.schedule_reader.specs.declared.schedule.Schedule.{Schedule}
use Rattle.hda_files.specs.declared.machine.Machine.{Machine}
use Rattle.hda_files.specs.Machines.{IsSound}
use Rattle.hda_world.specs.declared.world.TheConstants.{REGION_BYTES}
use Rattle.hda_world.specs.Worlds.{World, codec_at}
use Rattle.hda_world.specs.Events.{Event, AreHonest, after}
use Rattle.hda_world.specs.JournalEvents.{events_of}
use Rattle.hda_world.specs.Tellings.{Telling}
use Rattle.driver_progress.specs.Phases.{walked_all}
use Rattle.driver_progress.specs.Tasks.{Task}
use Rattle.driver_progress.specs.States.{State}
use Rattle.driver_progress.specs.Progress.{state_of, trail_after, trail_opened, IsProgress}
use Rattle.driver_bring_up.specs.Standing.{answers_of}
use Rattle.laws_bring_up.specs.Stretches.{HasFound}
use Rattle.laws_bring_up.specs.Standing.{AreWalked}
use Rattle.laws_bring_up.specs.SettingUp.{are_answered}
use Rattle.sound_report.specs.declared.played.Played.{Played}
use Rattle.rig.specs.Follows.{Follows}
use Rattle.rig.specs.Replays.{start_of, telling_from}
use Rattle.heard_lists.specs.Listings.{graphs_in}
use Rattle.laws_start.specs.Tasks.{stream_tag}
use Rattle.program_runs.specs.Lines.{lines_of}
use Rattle.program_runs.specs.Outputs.{commands_as}

-- what driver and device did, and what it tells from the machine's start on
abbrev pub journal_of : Played → List Event
journal_of played = events_of played.journal

abbrev pub telling_of_run : Machine → Played → Telling
telling_of_run machine played = telling_from REGION_BYTES machine (journal_of played)

-- what went into the run is kept with it: the machine, which is sound, with the plans of its codecs, and the format and
-- the frames of its sound
pub record HasInput (format : Format) (frames : ℕ) (machine : Machine) (plans : List Plan) (played : Played) : Type 0
  where
    pub sound : IsSound machine
    pub machine_is : played.machine ≡ machine
    pub plans_are : played.plans ≡ plans
    pub format_is : played.format ≡ format
    pub frames_are : played.total ≡ frames

-- one history: the journal replays from the machine's start, each access with the answer that the device gives, and
-- follows the schedule
pub record IsHistory (machine : Machine) (schedule : Schedule) (journal : List Event) : Type 0 where
  pub replays : AreHonest journal (start_of REGION_BYTES machine)
  pub follows : Follows schedule journal

-- progress: in each call the driver made the accesses that are to be made, and no others, and they lead to this state
-- of its task. The graphs that it was told are the first of the machine's, as many as the answers that came told, and
-- all of them from the set-up on
pub record MakesProgress (machine : Machine) (schedule : Schedule) (task : Task) (state : State) (telling : Telling)
    (graphs : List RawCodec) : Type 0 where
  pub progress : IsProgress task (lines_of schedule) telling
  pub finds : HasFound task (lines_of schedule) telling
  pub state_is : state_of task (lines_of schedule) telling ≡ state
  pub walked : AreWalked (graphs_in machine.codecs) graphs task.walks state.sent
      (answers_of state.sent state.rings.outstanding)
  pub all_walked : walked_all state.phase ≡ true → graphs ≡ graphs_in machine.codecs

-- ---- open routes

-- the codec with this graph is there, and its settings are what the plan of its pins of the kind for the format asks
pub record IsOpenFor (kind : PinKind) (format : Format) (world : World) (graph : RawCodec) : Type 0 where
  pub now : CodecState
  pub found : codec_at graph.address world.codecs ≡ Some now
  pub graph_is : now.graph ≡ graph
  pub set_up : (plan : Plan) → IsPlanAs kind graph format plan
      → IsSetUpFor kind graph now.settings plan format stream_tag

-- open: from the answer to the last command on, at every moment all codecs are set up by the plans of their pins of the
-- kind for the format. A moment stands between the events of the journal before it and the later ones
abbrev pub StaysOpen : PinKind → Format → Machine → Schedule → Task → Telling → Type 0
StaysOpen kind format machine schedule task telling =
    (before later : List Event) → telling.journal ≡ before ++ later
    → are_answered task (trail_after task before telling.start (trail_opened (lines_of schedule))) ≡ true
    → (graph : RawCodec) → Contains (graphs_in machine.codecs) graph
    → IsOpenFor kind format (after before telling.start) graph

-- ---- commands

-- the number of commands that it takes to walk over the machine's codecs and to set their pins of the kind up
abbrev pub command_total : PinKind → Format → Machine → List Plan → ℕ
command_total kind format machine plans = length (commands_as kind format machine.codecs plans)
