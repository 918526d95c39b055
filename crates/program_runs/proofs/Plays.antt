-- A driver that plays a sound over a machine by a schedule that serves it.
use Rattle.std.proofs.Common.{◌≡◌, ◌⊎◌, inl, inr, ◌+◌, ◌*◌, ◌≤◌, ℕ, List, true, length, refl, sym, ap, subst, ◌∙◌}
use Rattle.std.specs.Prelude.{All}
use Rattle.std.proofs.lemmas.List.{length-map}
use Rattle.codec_graph.specs.Cycles.{IsWellFormed}
use Rattle.stream_format.specs.Cadence.{block_bytes}
use Rattle.codec_graph.specs.declared.pin_kind.PinKind.{PinKind}
use Rattle.route_planner.specs.declared.routes.Plan.{Plan}
use Rattle.schedule_reader.specs.declared.schedule.Item.{Item}
use Rattle.schedule_reader.specs.declared.schedule.Schedule.{Schedule}
use Rattle.schedule_reader.specs.Counts.{items_of}
use Rattle.schedule_reader.specs.Schedules.{IsLimited}
use Rattle.hda_files.specs.declared.machine.Machine.{Machine}
use Rattle.hda_files.specs.Machines.{IsSound}
use Rattle.hda_world.specs.Tellings.{Telling}
use Rattle.wav_reader.specs.declared.wav.Wav.{Wav}
use Rattle.heard_lists.specs.Listings.{graphs_in}
use Rattle.laws_stream.specs.Lives.{HasStopped}
use Rattle.period_writer.specs.declared.course.Run.{Run}
use Rattle.period_writer.specs.declared.course.Span.{Span}
use Rattle.period_writer.specs.declared.geometry.Geometry.{Geometry}
use Rattle.period_writer.specs.Runs.{Tally, measures}
use Rattle.driver_progress.specs.declared.phase.Phase.{Phase}
use Rattle.driver_progress.specs.declared.phase.Phase.TheVariants.{Playing, Drained}
use Rattle.driver_progress.specs.States.{State}
use Rattle.driver_progress.specs.Tasks.{Task, DriverLine, order_of}
use Rattle.driver_progress.specs.Progress.{state_of}
use Rattle.sound_report.specs.declared.played.Played.{Played}
use Rattle.program_runs.specs.Outputs.{HavePlansOf, commands_as}
use Rattle.program_runs.specs.Histories.{command_total, journal_of, telling_of_run}
use Rattle.program_runs.specs.Plays.{Lived, IsPlayed, end_in_phase, play_fault, played_task}
use Rattle.laws_serving.specs.Rounds.{rounds_of}
use Rattle.laws_serving.specs.ServingSchedules.{IsCalmRound, ServesCommands, ServesSound, MayFillTheRing}
use Rattle.laws_serving.specs.Coming.{HasComeTo}
use Rattle.laws_serving.specs.Runs.{IsTaskTo, IsStartFor, IsRunOf, calls_of}
use Rattle.laws_serving.specs.Feeding.{HasSentBefore, IsUnbroken}
use Rattle.program_runs.specs.Served.{machine_addresses, all_rounds, line_count, ServesPlay, ServedPlayEnds, IsFedWhole, PlaysAll}
use Rattle.program_runs.proofs.Orders.{orders_go}
use Rattle.program_runs.proofs.Blocks.{lie_well}
use Rattle.program_runs.proofs.Starts.{starts, run_of, calls_are}
use Rattle.program_runs.proofs.Ends.{play_ends}

-- a stream that a run set going was stopped
run_stopped : (phase : Phase) (tally : Tally) (telling : Telling) → (phase ≡ Playing) ⊎ (phase ≡ Drained) → Lived (end_in_phase phase) tally telling → HasStopped telling
run_stopped phase tally telling (inl is) lived = subst (λ (phase : Phase). Lived (end_in_phase phase) tally telling) is lived
run_stopped phase tally telling (inr is) lived = subst (λ (phase : Phase). Lived (end_in_phase phase) tally telling) is lived

-- what laws say of a driver that plays a sound
abbrev pub PlayLaw : Type 0
PlayLaw =
    (task : Task) (codecs : List ℕ) (items : List Item) (telling : Telling) → task.plays ≡ true → IsTaskTo codecs task → IsStartFor codecs task telling.start → IsRunOf task items telling → ServesCommands codecs (length task.orders) (rounds_of items)
    → ServesSound (length task.orders) (measures task.geometry).limit (measures task.geometry).slack (rounds_of items).rounds → HasComeTo (length task.orders) (length (rounds_of items).rounds) task.plays (state_of task (calls_of items) telling)

abbrev pub FedLaw : Type 0
FedLaw =
    (task : Task) (codecs : List ℕ) (items : List Item) (telling : Telling) (frames : ℕ) → task.plays ≡ true → IsTaskTo codecs task → IsStartFor codecs task telling.start → IsRunOf task items telling
    → ServesCommands codecs (length task.orders) (rounds_of items) → ServesSound (length task.orders) (measures task.geometry).limit (measures task.geometry).slack (rounds_of items).rounds
    → MayFillTheRing (length task.orders) (measures task.geometry).ring (rounds_of items).rounds → HasStopped telling → length task.pcm ≡ frames * block_bytes task.geometry.format
    → HasSentBefore (4 + length task.orders) (length task.pcm) telling.start telling.journal
    → ((state_of task (calls_of items) telling).phase ≡ Drained) × IsUnbroken (length task.pcm) (state_of task (calls_of items) telling).tally.silences

abbrev pub LinesLaw : Type 0
LinesLaw =
    (task : Task) (items : List Item) (telling : Telling) (calls bytes : ℕ) → IsRunOf task items telling → All IsCalmRound (rounds_of items).rounds → HasSentBefore calls bytes telling.start telling.journal → calls ≤ length (rounds_of items).rounds

module _ (kind : PinKind) (machine : Machine) (plans : List Plan) (wav : Wav) (geometry : Geometry) (schedule : Schedule) (played : Played) (sound : IsSound machine) (well_formed : All IsWellFormed (graphs_in machine.codecs)) (have : HavePlansOf kind wav.format machine.codecs plans)
    (limited : IsLimited schedule) (serves : ServesPlay kind wav.format machine plans geometry schedule) (is : IsPlayed kind machine plans wav geometry schedule played) where
  abbrev pub task : Task
  task = played_task kind machine plans wav geometry is.blocks

  abbrev pub commands : ℕ
  commands = command_total kind wav.format machine plans

  abbrev pub items : List Item
  items = items_of schedule

  abbrev pub telling : Telling
  telling = telling_of_run machine played

  pub counted : length task.orders ≡ commands
  counted = length-map (commands_as kind wav.format machine.codecs plans) order_of

  pub to : IsTaskTo (machine_addresses machine) task
  to =
      let well = lie_well geometry is.blocks is.first_fits in
      record { orders = orders_go kind wav.format machine.codecs plans have well_formed sound.each; corb_block = well.corb; rirb_block = well.rirb }

  pub start : IsStartFor (machine_addresses machine) task telling.start
  start = starts machine task sound (lie_well geometry is.blocks is.first_fits)

  pub run : IsRunOf task items telling
  run = run_of machine schedule task (journal_of played) limited is.run.history is.run.progress.progress is.run.progress.finds

  pub commands_served : ServesCommands (machine_addresses machine) (length task.orders) (all_rounds schedule)
  commands_served = subst (λ (commands : ℕ). ServesCommands (machine_addresses machine) commands (all_rounds schedule)) (sym counted) serves.commands

  pub sound_served : ServesSound (length task.orders) (measures geometry).limit (measures geometry).slack (all_rounds schedule).rounds
  sound_served = subst (λ (commands : ℕ). ServesSound commands (measures geometry).limit (measures geometry).slack (all_rounds schedule).rounds) (sym counted) serves.sound

  pub state_is : state_of task (calls_of items) telling ≡ is.run.state
  state_is = ap (λ (lines : List DriverLine). state_of task lines telling) (calls_are items) ∙ is.run.progress.state_is

  -- how far the driver came
  comes : HasComeTo (length task.orders) (line_count schedule) true (state_of task (calls_of items) telling) → HasComeTo commands (line_count schedule) true is.run.state
  comes come = subst (λ (commands : ℕ). HasComeTo commands (line_count schedule) true is.run.state) counted (subst (HasComeTo (length task.orders) (line_count schedule) true) state_is come)

  -- so it ends
  ends : HasComeTo commands (line_count schedule) true is.run.state → ServedPlayEnds commands (line_count schedule) (block_bytes wav.format) played.total played.runs played.silences played.fault
  ends come =
      let fault = is.run.fault
      ∙ ap (λ (silences : List Span). play_fault is.run.state.phase is.run.state.sent played.commands (block_bytes wav.format) played.total is.run.state.tally.runs silences) (sym is.run.runs.silences)
      ∙ ap (λ (runs : List Run). play_fault is.run.state.phase is.run.state.sent played.commands (block_bytes wav.format) played.total runs played.silences) (sym is.run.runs.runs) in
      play_ends commands (line_count schedule) played.commands (block_bytes wav.format) played.total is.run.state played.runs played.silences played.fault come is.run.commands fault

  -- its stream was set going once, and stopped
  pub stopped : 4 + commands ≤ line_count schedule → HasComeTo commands (line_count schedule) true is.run.state → HasStopped telling
  stopped enough come = run_stopped is.run.state.phase is.run.state.tally telling (come.sounds enough refl) is.run.runs.stream

  fed_sent : IsFedWhole commands (measures geometry).ring (length wav.pcm) (all_rounds schedule) telling.start (journal_of played) → HasSentBefore (4 + length task.orders) (length wav.pcm) telling.start telling.journal
  fed_sent fed = subst (λ (commands : ℕ). HasSentBefore (4 + commands) (length wav.pcm) telling.start telling.journal) (sym counted) fed.sent

  may_fill : IsFedWhole commands (measures geometry).ring (length wav.pcm) (all_rounds schedule) telling.start (journal_of played) → MayFillTheRing (length task.orders) (measures geometry).ring (all_rounds schedule).rounds
  may_fill fed = subst (λ (commands : ℕ). MayFillTheRing commands (measures geometry).ring (all_rounds schedule).rounds) (sym counted) fed.budgets

  -- and all is played
  all_played : (state_of task (calls_of items) telling).phase ≡ Drained → IsUnbroken (length wav.pcm) (state_of task (calls_of items) telling).tally.silences → PlaysAll (length wav.pcm) played.silences played.fault
  all_played drained unbroken =
      let drained' : is.run.state.phase ≡ Drained = ap (λ (state : State). state.phase) (sym state_is) ∙ drained in record {
        done = is.run.fault ∙ ap (λ (phase : Phase). play_fault phase is.run.state.sent played.commands (block_bytes wav.format) played.total is.run.state.tally.runs is.run.state.tally.silences) drained';
        unbroken = subst (IsUnbroken (length wav.pcm)) (sym is.run.runs.silences) (subst (λ (state : State). IsUnbroken (length wav.pcm) state.tally.silences) state_is unbroken);
      }

  -- by the laws
  pub comes_by : PlayLaw → HasComeTo commands (line_count schedule) true is.run.state
  comes_by law = comes (law task (machine_addresses machine) items telling refl to start run commands_served sound_served)

  pub plays_end : PlayLaw → ServedPlayEnds commands (line_count schedule) (block_bytes wav.format) played.total played.runs played.silences played.fault
  plays_end law = ends (comes_by law)

  pub plays_whole : PlayLaw → FedLaw → LinesLaw → (frames : ℕ) → length wav.pcm ≡ frames * block_bytes geometry.format
      → IsFedWhole commands (measures geometry).ring (length wav.pcm) (all_rounds schedule) telling.start (journal_of played) → PlaysAll (length wav.pcm) played.silences played.fault
  plays_whole law fed_law lines_law frames long fed =
      let enough = lines_law task items telling (4 + commands) (length wav.pcm) run serves.commands.rounds fed.sent in
      let stays = stopped enough (comes_by law) in
      let all = fed_law task (machine_addresses machine) items telling frames refl to start run commands_served sound_served (may_fill fed) stays long (fed_sent fed) in
      all_played all.0 all.1
