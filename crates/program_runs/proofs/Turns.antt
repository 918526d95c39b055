-- A driver that plays a sound in turns over a machine.
use Rattle.std.proofs.Common.{◌≡◌, ◌+◌, ◌*◌, ◌≤◌, ℕ, List, [], ◌∷◌, true, length, map, get_or, refl, sym, ap, subst, ◌∙◌, arith}
use Rattle.std.specs.Prelude.{All}
use Rattle.std.specs.List.{flat_map, zip}
use Rattle.std.proofs.lemmas.List.Elements.{All-nil, All-append, All-map}
use Rattle.codec_graph.specs.Cycles.{IsWellFormed}
use Rattle.heard_frames.specs.HeardLists.{heard}
use Rattle.stream_format.specs.Cadence.{block_bytes}
use Rattle.stream_format.specs.declared.format.Rate.TheVariants.{R48}
use Rattle.codec_graph.specs.declared.pin_kind.PinKind.TheVariants.{Analog}
use Rattle.route_planner.specs.declared.routes.Plan.{Plan}
use Rattle.route_planner.specs.declared.routes.PinPlan.{PinPlan}
use Rattle.schedule_reader.specs.declared.schedule.Item.{Item}
use Rattle.schedule_reader.specs.declared.schedule.Schedule.{Schedule}
use Rattle.schedule_reader.specs.Schedules.{IsLimited}
use Rattle.hda_files.specs.declared.machine.CodecFile.{CodecFile}
use Rattle.hda_files.specs.declared.machine.Machine.{Machine}
use Rattle.hda_files.specs.Machines.{IsSound}
use Rattle.hda_world.specs.Worlds.{CarriedFrame}
use Rattle.hda_world.specs.Tellings.{Telling, world_of}
use Rattle.wav_reader.specs.declared.wav.Wav.{Wav}
use Rattle.heard_lists.specs.Listings.{graphs_in}
use Rattle.laws_stream.specs.Lives.{HasStopped}
use Rattle.period_writer.specs.declared.course.Run.{Run}
use Rattle.period_writer.specs.declared.geometry.Geometry.{Geometry}
use Rattle.period_writer.specs.Runs.{measures}
use Rattle.driver_progress.specs.declared.phase.Phase.{Phase}
use Rattle.driver_progress.specs.States.{State}
use Rattle.driver_progress.specs.Tasks.{Task}
use Rattle.driver_progress.specs.Progress.{state_of}
use Rattle.laws_start.specs.Tasks.{HavePlans}
use Rattle.sound_report.specs.declared.played.Played.{Played}
use Rattle.program_runs.specs.Hearing.{heard_of, heard_by, lists_heard}
use Rattle.program_runs.specs.Plays.{IsPlayed, play_fault}
use Rattle.laws_serving.specs.Rounds.{Round, rounds_of}
use Rattle.laws_serving.specs.ServingSchedules.{ServesCommands, ServesSound}
use Rattle.laws_serving.specs.Runs.{IsTaskTo, IsStartFor, IsRunOf, calls_of}
use Rattle.laws_serving.specs.Turns.{PlaysInTurns, EndsInTheLast, CarriedBytes, HasPlayedInTurns, IsNoHole}
use Rattle.program_runs.specs.Served.{machine_addresses, all_rounds, line_count, ServesPlay, PlaysTurns, HasNoHole, PlaysByTurns}
use Rattle.program_runs.proofs.Plays as plays
use Rattle.program_runs.proofs.Plays.{PlayLaw}

-- what laws say of turns
abbrev pub TurnLaw : Type 0
TurnLaw =
    (task : Task) (codecs : List ℕ) (items : List Item) (telling : Telling) (frames : ℕ) (lengths : List ℕ) → task.plays ≡ true → IsTaskTo codecs task → IsStartFor codecs task telling.start → IsRunOf task items telling
    → ServesCommands codecs (length task.orders) (rounds_of items) → ServesSound (length task.orders) (measures task.geometry).limit (measures task.geometry).slack (rounds_of items).rounds
    → PlaysInTurns (length task.orders) (measures task.geometry).ring (measures task.geometry).block telling.start.registers.shape.fifo lengths (rounds_of items).rounds
    → HasStopped telling → task.geometry.format.rate ≡ R48 → length task.pcm ≡ frames * block_bytes task.geometry.format → EndsInTheLast frames lengths
    → HasPlayedInTurns (measures task.geometry).ring (measures task.geometry).block frames lengths (state_of task (calls_of items) telling) (world_of telling)

abbrev pub HoleLaw : Type 0
HoleLaw = (block address pin : ℕ) (carried : List CarriedFrame) → All (CarriedBytes block) carried → All IsNoHole (heard address pin carried)

abbrev pub LineLaw : Type 0
LineLaw = (commands ring block fifo : ℕ) (lengths : List ℕ) (rounds : List Round) → PlaysInTurns commands ring block fifo lengths rounds → length rounds ≡ 4 + commands + length lengths

-- ---- what pins heard

module _ (block : ℕ) (carried : List CarriedFrame) (sent : All (CarriedBytes block) carried) (law : HoleLaw) where
  pins_no_hole : (file : CodecFile) (entries : List PinPlan) → All HasNoHole (map (heard_of Analog carried file) entries)
  pins_no_hole file entries = All-map HasNoHole (heard_of Analog carried file) entries (λ k d lt. law block file.graph.address (get_or entries k d).pin carried sent)

  codecs_no_hole : (codecs : List (CodecFile × Plan)) → All HasNoHole (flat_map (heard_by Analog carried) codecs)
  codecs_no_hole [] = All-nil HasNoHole
  codecs_no_hole (codec ∷ codecs) =
      All-append HasNoHole (heard_by Analog carried codec) (flat_map (heard_by Analog carried) codecs) (pins_no_hole codec.0 codec.1.pins) (codecs_no_hole codecs)

  pub lists_no_hole : (files : List CodecFile) (plans : List Plan) → All HasNoHole (lists_heard Analog carried files plans)
  lists_no_hole files plans = codecs_no_hole (zip files plans)

-- ---- the run

at_least : (lines commands turns : ℕ) → lines ≡ 4 + commands + turns → 4 + commands ≤ lines
at_least lines commands turns is = omega (arith, is)

module _ (machine : Machine) (plans : List Plan) (wav : Wav) (geometry : Geometry) (schedule : Schedule) (played : Played) (sound : IsSound machine) (well_formed : All IsWellFormed (graphs_in machine.codecs)) (have : HavePlans wav.format machine.codecs plans)
    (limited : IsLimited schedule) (serves : ServesPlay Analog wav.format machine plans geometry schedule) (is : IsPlayed Analog machine plans wav geometry schedule played) where
  abbrev task : Task
  task = plays.task Analog machine plans wav geometry schedule played sound well_formed have limited serves is

  abbrev telling : Telling
  telling = plays.telling Analog machine plans wav geometry schedule played sound well_formed have limited serves is

  abbrev items : List Item
  items = plays.items Analog machine plans wav geometry schedule played sound well_formed have limited serves is

  -- what is told of the state is kept with the run
  kept : (frames : ℕ) (lengths : List ℕ) → HoleLaw → HasPlayedInTurns (measures geometry).ring (measures geometry).block frames lengths is.run.state (world_of telling)
      → PlaysByTurns (measures geometry).ring (measures geometry).block frames lengths played
  kept frames lengths law has = record {
    done = is.run.fault ∙ ap (λ (phase : Phase). play_fault phase is.run.state.sent played.commands (block_bytes wav.format) played.total is.run.state.tally.runs is.run.state.tally.silences) has.phase;
    runs = ap (λ (runs : List Run). length runs) is.run.runs.runs ∙ has.runs;
    silences = is.run.runs.silences ∙ has.silences;
    heard = subst (All HasNoHole) (sym is.run.heard.lists_are) (lists_no_hole (measures geometry).block (world_of telling).carried has.sent law machine.codecs plans);
  }

  pub plays_by_turns : PlayLaw → TurnLaw → HoleLaw → LineLaw → (frames : ℕ) (lengths : List ℕ) → geometry.format.rate ≡ R48 → length wav.pcm ≡ frames * block_bytes geometry.format → PlaysTurns wav.format machine plans geometry lengths schedule
      → EndsInTheLast frames lengths → PlaysByTurns (measures geometry).ring (measures geometry).block frames lengths played
  plays_by_turns play_law law hole_law line_law frames lengths rate long turns ends =
      let m = measures geometry in
      let commands = plays.commands Analog machine plans wav geometry schedule played sound well_formed have limited serves is in
      let counted = plays.counted Analog machine plans wav geometry schedule played sound well_formed have limited serves is in
      let to = plays.to Analog machine plans wav geometry schedule played sound well_formed have limited serves is in
      let start = plays.start Analog machine plans wav geometry schedule played sound well_formed have limited serves is in
      let run = plays.run Analog machine plans wav geometry schedule played sound well_formed have limited serves is in
      let commands_served = plays.commands_served Analog machine plans wav geometry schedule played sound well_formed have limited serves is in
      let sound_served = plays.sound_served Analog machine plans wav geometry schedule played sound well_formed have limited serves is in
      let state_is = plays.state_is Analog machine plans wav geometry schedule played sound well_formed have limited serves is in
      let come = plays.comes_by Analog machine plans wav geometry schedule played sound well_formed have limited serves is play_law in
      let enough = at_least (line_count schedule) commands (length lengths) (line_law commands m.ring m.block machine.fifo lengths (all_rounds schedule).rounds turns) in
      let stays = plays.stopped Analog machine plans wav geometry schedule played sound well_formed have limited serves is enough come in
      let turns' : PlaysInTurns (length task.orders) m.ring m.block machine.fifo lengths (all_rounds schedule).rounds =
      subst (λ (commands : ℕ). PlaysInTurns commands m.ring m.block machine.fifo lengths (all_rounds schedule).rounds) (sym counted) turns in
      let has = law task (machine_addresses machine) items telling frames lengths refl to start run commands_served sound_served turns' stays rate long ends in
      kept frames lengths hole_law (subst (λ (state : State). HasPlayedInTurns m.ring m.block frames lengths state (world_of telling)) state_is has)
