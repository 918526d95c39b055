-- A run that reads its sound while it plays, as it is driven: over the sound that was read it has gone where a run goes.
use Rattle.std.proofs.Common.{◌≡◌, ◌≤◌, ◌*◌, ◌+◌, ℕ, Bool, true, List, [], ◌++◌, length, Option, Some, None, refl, sym, ap, subst, arith}
use Rattle.stream_format.specs.Cadence.{block_bytes}
use Rattle.stream_format.specs.Layouts.{layout}
use Rattle.codec_graph.specs.declared.pin_kind.PinKind.{PinKind}
use Rattle.route_planner.specs.declared.routes.Plan.{Plan}
use Rattle.hda_files.specs.declared.machine.Machine.{Machine}
use Rattle.hda_world.specs.declared.world.TheConstants.{REGION_BYTES}
use Rattle.hda_outside.specs.declared.pieces.Cut.{Cut}
use Rattle.schedule_reader.specs.declared.schedule.Schedule.{Schedule}
use Rattle.schedule_reader.specs.Schedules.{IsLimited}
use Rattle.wav_reader.specs.declared.opened.WavHead.{WavHead}
use Rattle.wav_reader.specs.declared.wav.Wav.{Wav}
use Rattle.wav_reader.specs.Heads.{frame_length}
use Rattle.wav_reader.specs.Supplies.{Supplied}
use Rattle.driver_progress.specs.Tasks.{Task, Blocks}
use Rattle.laws_driver.specs.Sounding.{Parts}
use Rattle.period_writer.specs.declared.geometry.Geometry.{Geometry}
use Rattle.period_writer.specs.Runs.{Measures, measures}
use Rattle.period_writer.specs.Writers.{WriterState}
use Rattle.driver_bring_up.specs.declared.bringing.BringUp.{BringUp}
use Rattle.digital_out.specs.Means.{outputs}
use Rattle.audio_driver.specs.declared.driver.closing.Closed.{Closed}
use Rattle.rig.specs.Rigs.{telling_of}
use Rattle.rig.specs.Replays.{telling_from}
use Rattle.rig.specs.declared.rig.Rig.{Rig}
use Rattle.laws_start.specs.Tasks.{blocks_of}
use Rattle.program_runs.specs.Ends.{play_can_end}
use Rattle.program_runs.specs.Feeding.{Shelves, Streams, IsFed}
use Rattle.program_runs.specs.FrameCounts.{written_by}
use Rattle.program_runs.specs.Going.{HasDriven, IsDriven, parts_with, stand_of}
use Rattle.program_runs.specs.Plays.{played_task, sound_with}
use Rattle.program_runs.proofs.FedRings.{first_supply}
use Rattle.program_runs.proofs.Goes.{Keeps}
use Rattle.program_runs.proofs.Gone.{CanGo, Gone, gone, told_at_end, used_in_runs}
use Rattle.program_runs.proofs.Played.{playing_ends, written_few}
use Rattle.program_runs.proofs.PlayedFrom.{source_for, fed_at_open, later, may, ends, long, less_if, few_bytes}
use Rattle.stream_format.proofs.Callers.{some_block as some_bytes}

-- a driver that was opened for a sound of which no byte was read yet, over a machine at rest
pub record CanPlayFrom (kind : PinKind) (machine : Machine) (plans : List Plan) (head : WavHead) (name : List ℕ) (geometry : Geometry) (schedule : Schedule)
    (bring_up : BringUp) (writer : WriterState) (supply : Supplied) (play : Bool) (rig : Rig) : Type 0 where
  pub keeps : (format : _) → Keeps (outputs kind) format
  pub plays : play ≡ true
  pub supply_is : supply ≡ first_supply (source_for name head (measures geometry).ring)
  pub ring_is : writer.geometry ≡ geometry
  pub format_is : geometry.format ≡ head.format
  pub short : head.length ≤ 67108864
  pub within : head.from + head.frames * frame_length head.mono (layout head.format) ≤ head.length
  pub limited : IsLimited schedule
  pub start : Some (telling_of rig) ≡ Some (telling_from REGION_BYTES machine [])
  pub can_go : (pcm : List ℕ) → CanGo (outputs kind) machine head.format plans play (played_task kind machine plans (sound_with head pcm) geometry (blocks_of bring_up writer))
      (parts_with bring_up writer pcm)

module _ (kind : PinKind) (machine : Machine) (plans : List Plan) (head : WavHead) (name : List ℕ) (geometry : Geometry) (schedule : Schedule) (bring_up : BringUp) (writer : WriterState)
    (supply : Supplied) (play : Bool) (opened closed_rig : Rig) (first now : Shelves) (cut : Option Cut) (closed : Closed) (read : ℕ)
    (can : CanPlayFrom kind machine plans head name geometry schedule bring_up writer supply play opened)
    (driven : HasDriven (outputs kind) bring_up.agenda.format play schedule (stand_of bring_up writer supply first None opened) closed read now cut (telling_of closed_rig)) where
  abbrev pub m : Measures
  m = measures geometry

  pub block_is : block_bytes head.format ≡ (measures geometry).block
  block_is = ap block_bytes (sym can.format_is)

  pub some_block : 1 ≤ (measures geometry).block
  some_block =
      let some = some_bytes head.format in
      let same = block_is in
      omega (arith, some, same)

  pub streams : Streams (measures geometry) (source_for name head (measures geometry).ring) (first name) (now name) cut driven.last driven.course
  streams =
      let source = source_for name head (measures geometry).ring in
      subst (λ (geometry : Geometry). IsFed (measures geometry) (Some source) first now cut driven.last driven.course) can.ring_is
      (driven.fed (Some source) first (fed_at_open name head geometry first supply writer can.supply_is can.ring_is can.format_is))

  -- the sound that was read
  abbrev pub sound : List ℕ
  sound = driven.gave ++ later name head (measures geometry) driven.gave first now cut supply driven.last driven.course driven.took can.supply_is some_block streams

  abbrev pub wav : Wav
  wav = sound_with head sound

  abbrev pub blocks : Blocks
  blocks = blocks_of bring_up writer

  abbrev pub task : Task
  task = played_task kind machine plans wav geometry blocks

  abbrev pub parts : Parts
  parts = parts_with bring_up writer sound

  may_end : IsDriven (outputs kind) bring_up.agenda.format play schedule parts closed (telling_of opened) (telling_of closed_rig)
  may_end =
      driven.driven (later name head (measures geometry) driven.gave first now cut supply driven.last driven.course driven.took can.supply_is some_block streams)
      (may name head (measures geometry) driven.gave first now cut supply driven.last driven.course driven.took can.supply_is some_block streams)
      (ends name head (measures geometry) driven.gave first now cut supply driven.last driven.course driven.took can.supply_is some_block streams)

  -- where it has gone
  pub over : Gone (outputs kind) machine head.format true task schedule parts closed (telling_of closed_rig).journal
  over =
      subst (λ (play : Bool). Gone (outputs kind) machine head.format play task schedule parts closed (telling_of closed_rig).journal) can.plays
      (gone (outputs kind) can.keeps machine head.format plans play task schedule parts closed (telling_of opened) (telling_of closed_rig) (telling_of closed_rig).journal
      (can.can_go sound) can.limited can.start refl may_end)

  -- what the rig tells at the end
  pub ends_at : telling_of closed_rig ≡ telling_from REGION_BYTES machine (telling_of closed_rig).journal
  ends_at =
      told_at_end (outputs kind) can.keeps machine head.format plans play task schedule parts closed (telling_of opened) (telling_of closed_rig) (telling_of closed_rig).journal
      (can.can_go sound) can.limited can.start refl may_end

  -- what was taken until the last call was written by the recorded runs
  pub used : driven.course.used ≤ written_by closed.runs.items
  unfolding may_end
  used =
      used_in_runs (outputs kind) can.keeps machine head.format plans play task schedule parts closed (telling_of opened) (telling_of closed_rig) (telling_of closed_rig).journal
      (can.can_go sound) can.limited can.start refl may_end driven.course.used
      (driven.grows (later name head (measures geometry) driven.gave first now cut supply driven.last driven.course driven.took can.supply_is some_block streams)
      (may name head (measures geometry) driven.gave first now cut supply driven.last driven.course driven.took can.supply_is some_block streams)
      (ends name head (measures geometry) driven.gave first now cut supply driven.last driven.course driven.took can.supply_is some_block streams))

  pub end_is : play_can_end closed.phase ≡ true
  end_is = playing_ends kind machine plans wav geometry blocks schedule parts closed (telling_of closed_rig).journal over

  -- a file has fewer bytes than 64 bits count
  pub few : written_by closed.runs.items ≤ 0xFFFFFFFFFFFFFFFF
  few =
      let most = written_few kind machine plans wav geometry blocks schedule parts closed (telling_of closed_rig).journal over in
      let all = long name head (measures geometry) driven.gave first now cut supply driven.last driven.course driven.took can.supply_is some_block streams in
      let bytes = few_bytes head cut (driven.last.taken + length driven.last.held) (measures geometry).block block_is can.short can.within
      (less_if name head (measures geometry) driven.gave first now cut supply driven.last driven.course driven.took can.supply_is some_block streams) in
      omega (arith, most, all, bytes)
