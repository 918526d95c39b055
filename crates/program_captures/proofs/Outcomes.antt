-- What is known of what is left of a capture, whether it recorded or not.
use Rattle.std.proofs.Common.{◌≡◌, ◌≤◌, ◌+◌, ◌*◌, ◌%◌, inl, inr, ℕ, Bool, true, false, List, [], ◌∷◌, ◌++◌, length, take, refl, sym, ap, subst, ◌∙◌, Some, append-nil, arith, if◌then◌else◌}
use Rattle.std.specs.Prelude.{All, None, Option}
use Rattle.std.proofs.Math.Nat.{zero-mod}
use Rattle.stream_format.specs.declared.format.Format.{Format}
use Rattle.stream_format.specs.Cadence.{block_bytes}
use Rattle.codec_graph.specs.declared.raw.RawCodec.{RawCodec}
use Rattle.codec_walk.specs.Commands.{walk_commands}
use Rattle.command_engine.specs.declared.answers.Outstanding.{Outstanding}
use Rattle.wav_reader.specs.declared.wav.Wav.{Wav}
use Rattle.wav_reader.specs.Laws.{CanBeWritten}
use Rattle.schedule_reader.specs.declared.schedule.Schedule.{Schedule}
use Rattle.hda_world.specs.Worlds.{World}
use Rattle.hda_world.specs.Tellings.{Telling, world_of}
use Rattle.hda_world.specs.Streaming.{taken_sound}
use Rattle.period_writer.specs.declared.geometry.Geometry.{Geometry}
use Rattle.hda_capture.specs.declared.course.Recorded.{Recorded}
use Rattle.hda_capture.specs.declared.course.Recorded.TheVariants as recorded
use Rattle.hda_capture.specs.declared.course.RecordedRun.{RecordedRun}
use Rattle.hda_capture.specs.Recordings.{record_measures}
use Rattle.hda_capture.specs.Recorders.{RecorderState, IsRecorder, IsAtBlocks, bytes_read}
use Rattle.driver_progress.specs.declared.phase.Phase.{Phase}
use Rattle.driver_progress.specs.declared.phase.Phase.TheVariants.{Ready, Drained}
use Rattle.driver_progress.specs.Phases.{walked_all}
use Rattle.driver_progress.specs.Tasks.{Task, walks_over}
use Rattle.driver_progress.specs.States.{State}
use Rattle.driver_progress.specs.Progress.{state_of, trail_of, trail_opened}
use Rattle.driver_rules.specs.Onward.{IsOnward, later_of}
use Rattle.driver_bring_up.specs.Calls as bringing
use Rattle.driver_bring_up.specs.Standing.{answers_of}
use Rattle.laws_bring_up.specs.Stretches.{HasFound}
use Rattle.laws_bring_up.specs.Standing.{AreWalked, WalkedIn}
use Rattle.laws_bring_up.specs.SettingUp.{StaysSetUp}
use Rattle.laws_recording.specs.Sound.{RecordsGiven}
use Rattle.recording_driver.specs.RecordRules.{RecordState, record_rules}
use Rattle.recording_driver.specs.RecordStretches.{record_tally_of, record_stretches_of}
use Rattle.recording_driver.specs.RecordingDrivers.{record_state, recorded_as, phase_recorded}
use Rattle.program_runs.specs.Ends.{play_can_end}
use Rattle.program_runs.specs.Lines.{lines_of}
use Rattle.program_runs.proofs.Callers.{is_failed, trail_well, ended_well, ends, plays_too, walked_in, some_same}
use Rattle.program_captures.specs.declared.closing.Driven.{Driven}
use Rattle.program_captures.specs.declared.terms.CaptureTerms.{CaptureTerms}
use Rattle.program_captures.specs.Captures.{runs_in, recorded_sound, limit_in, capture_phase}
use Rattle.program_captures.specs.Capturing.{means_of, total_of}
use Rattle.program_captures.specs.Ending.{EndedComing, EndedRecording, IsOver}

-- where the journal leads, what the rules keep, and what was recorded
pub record Outcome (terms : CaptureTerms) (graphs : List RawCodec) (sound : List ℕ) (schedule : Schedule) (task : Task) (telling : Telling) (driven : Driven) : Type 0 where
  pub state : State
  pub later : Option RecordState
  pub onward : IsOnward (record_rules task (total_of terms)) task (lines_of schedule) telling
  pub finds : HasFound task (lines_of schedule) telling
  pub state_is : state_of task (lines_of schedule) telling ≡ state
  pub later_is : later_of (record_rules task (total_of terms)) task (lines_of schedule) telling ≡ later
  pub walked : AreWalked graphs driven.graphs.items task.walks state.sent (answers_of state.sent state.rings.outstanding)
  pub all_walked : walked_all state.phase ≡ true → driven.graphs.items ≡ graphs
  pub set_up : StaysSetUp (means_of terms) graphs task (lines_of schedule) telling
  pub runs : driven.runs.items ≡ runs_in later
  pub stretches : (state : RecordState) → later ≡ Some state → state.tally ≡ record_tally_of (record_measures terms.geometry (total_of terms)) (record_stretches_of telling.journal)
  pub bytes : driven.bytes.items ≡ recorded_sound terms.geometry.format sound (world_of telling).came driven.runs.items
  pub read : length driven.bytes.items ≡ bytes_read driven.runs.items
  pub can : CanBeWritten terms.geometry.format driven.bytes.items
  pub phase : driven.phase ≡ capture_phase (limit_in terms.geometry) state later
  pub sent : driven.sent ≡ state.sent
  pub ends : play_can_end driven.phase ≡ true
  pub complete : driven.phase ≡ Drained → bytes_read driven.runs.items ≡ total_of terms

-- the laws that are needed
abbrev pub WholeCanBeWritten : Type 0
WholeCanBeWritten =
    (recorder : RecorderState) → IsRecorder recorder → All (IsAtBlocks (block_bytes recorder.geometry.format)) recorder.runs → CanBeWritten recorder.geometry.format recorder.bytes

-- ---- it did not record

none_taken : (sound : List ℕ) → take (bytes_read []) sound ≡ []
none_taken sound = refl

none_there : (state : RecordState) → None ≡ Some state → ⊥
none_there state same = cc

none_drained : (phase : Phase) (all : Type 0) → phase ≡ Drained → WalkedIn phase all → ⊥
none_drained phase all drained walked = subst (λ (p : Phase). WalkedIn p all) drained walked

module _ (terms : CaptureTerms) (graphs : List RawCodec) (sound : List ℕ) (schedule : Schedule) (task : Task) (telling : Telling) (driven : Driven) where
  well : (over : EndedComing terms graphs task (lines_of schedule) driven telling) → is_failed over.ended.phase ≡ false
  well over =
      let trail = trail_of task (lines_of schedule) telling in
      sym (ap (λ (state : State). is_failed state.phase) over.has.state_is) ∙ ended_well trail.within task trail (trail_well task telling.journal telling.start (trail_opened (lines_of schedule)) refl)

  pub came_none : EndedComing terms graphs task (lines_of schedule) driven telling → Outcome terms graphs sound schedule task telling driven
  came_none over =
      let ended = over.ended in
      let has = over.has in
      let by_phase : WalkedIn ended.phase (driven.graphs.items ≡ graphs) = subst (λ (walked : List RawCodec). WalkedIn ended.phase (walked ≡ graphs)) (sym over.graphs_are) has.ended_is.by_phase in
      record {
        state = bringing.state_of ended;
        later = None;
        onward = has.onward;
        finds = has.finds;
        state_is = has.state_is;
        later_is = has.later_is;
        walked = subst (λ (walked : List RawCodec). AreWalked graphs walked task.walks ended.sent (answers_of ended.sent ended.engine.rings.outstanding)) (sym over.graphs_are) has.ended_is.walked;
        all_walked = λ walked. walked_in ended.phase (driven.graphs.items ≡ graphs) walked by_phase;
        set_up = has.set_up;
        runs = over.runs;
        stretches = λ state same. absurd (none_there state same);
        bytes = over.bytes ∙ sym (ap (λ (runs : List RecordedRun). recorded_sound terms.geometry.format sound (world_of telling).came runs) over.runs ∙ none_taken (taken_sound (block_bytes terms.geometry.format) sound (world_of telling).came));
        read = ap (λ (bytes : List ℕ). length bytes) over.bytes ∙ sym (ap bytes_read over.runs);
        can = subst (λ (bytes : List ℕ). CanBeWritten terms.geometry.format bytes) (sym over.bytes) (record { whole = zero-mod (block_bytes terms.geometry.format); few = omega arith });
        phase = over.phase;
        sent = over.sent;
        ends = subst (λ (phase : Phase). play_can_end phase ≡ true) (sym over.phase) (plays_too ended.phase (ends ended.phase (driven.graphs.items ≡ graphs) (well over) by_phase));
        complete = λ drained. absurd (none_drained ended.phase (driven.graphs.items ≡ graphs) (sym over.phase ∙ drained) by_phase);
      }

-- ---- it recorded

-- all of the codecs were walked, and all that was sent was answered
all_are : (graphs : List RawCodec) (walks sent : ℕ) → length (walks_over graphs) ≤ sent → AreWalked graphs graphs walks sent sent
all_are graphs walks sent enough = record {
  rest = [];
  first = sym (append-nil graphs);
  told = enough;
  untold = λ next later same. absurd (none next later same);
  all = λ more. refl;
} where
  none : (next : RawCodec) (later : List RawCodec) → [] ≡ next ∷ later → ⊥
  none next later same = cc

-- a record ends in a phase in which a run can
record_ends : (limit : ℕ) (started : Bool) (how : Recorded) → play_can_end (if started then recorded_as limit how else Ready) ≡ true
record_ends limit false how = refl
record_ends limit true recorded.Recording = refl
record_ends limit true recorded.Complete = refl
record_ends limit true (recorded.Late from to) = refl

-- it has drained only where all was recorded
record_drained : (limit : ℕ) (started : Bool) (how : Recorded) → (if started then recorded_as limit how else Ready) ≡ Drained → how ≡ recorded.Complete
record_drained limit false how drained = cc
record_drained limit true recorded.Recording drained = cc
record_drained limit true recorded.Complete drained = refl
record_drained limit true (recorded.Late from to) drained = cc

-- what was recorded is the first of what was taken
first_bytes : (format : Format) (sound given : List ℕ) (world : World) (recorder : RecorderState) (bytes : List ℕ) (runs : List RecordedRun) → recorder.geometry.format ≡ format → world.given ≡ sound → IsRecorder recorder → RecordsGiven recorder world
    → bytes ≡ recorder.bytes → runs ≡ recorder.runs → bytes ≡ recorded_sound format sound world.came runs
first_bytes format sound given world recorder bytes runs format_is given_is is records bytes_are runs_are =
    let count : length recorder.bytes ≡ bytes_read runs = is.bytes_are ∙ sym is.reads ∙ sym (ap bytes_read runs_are) in
    bytes_are ∙ records ∙ ap (λ (n : ℕ). take n (taken_sound (block_bytes recorder.geometry.format) world.given world.came)) count
    ∙ ap (λ (f : Format). take (bytes_read runs) (taken_sound (block_bytes f) world.given world.came)) format_is
    ∙ ap (λ (given : List ℕ). take (bytes_read runs) (taken_sound (block_bytes format) given world.came)) given_is

module _ (terms : CaptureTerms) (graphs : List RawCodec) (sound : List ℕ) (schedule : Schedule) (task : Task) (telling : Telling) (driven : Driven) (whole : WholeCanBeWritten) (given : (world_of telling).given ≡ sound) where
  came_all : EndedRecording terms graphs task (lines_of schedule) driven telling → Outcome terms graphs sound schedule task telling driven
  came_all over =
      let ended = over.ended in
      let has = over.has in
      let state : State = state_of task (lines_of schedule) telling in
      let recorder = ended.recorder in
      let same : driven.graphs.items ≡ graphs = over.graphs_are ∙ has.walked in
      let format_is : recorder.geometry.format ≡ terms.geometry.format = ap (λ (ring : Geometry). ring.format) over.geometry in
      let phase_is : driven.phase ≡ phase_recorded (limit_in terms.geometry) (record_state ended).tally = over.phase ∙ ap (λ (ring : Geometry). phase_recorded (limit_in ring) (record_state ended).tally) over.geometry in
      record {
        state = state;
        later = Some (record_state ended);
        onward = subst (λ (total : ℕ). IsOnward (record_rules task total) task (lines_of schedule) telling) over.total_is has.onward;
        finds = has.finds;
        state_is = refl;
        later_is = subst (λ (total : ℕ). later_of (record_rules task total) task (lines_of schedule) telling ≡ Some (record_state ended)) over.total_is has.later_is;
        walked = subst (λ (outstanding : Option Outstanding). AreWalked graphs driven.graphs.items task.walks state.sent (answers_of state.sent outstanding)) (sym has.answered)
            (subst (λ (walked : List RawCodec). AreWalked graphs walked task.walks state.sent state.sent) (sym same)
            (all_are graphs task.walks state.sent (subst (λ (sent : ℕ). length (walks_over graphs) ≤ sent) (sym has.sent_is) has.enough)));
        all_walked = λ all. same;
        set_up = has.set_up;
        runs = over.runs;
        stretches = λ kept same.
            (ap (λ (one : RecordState). one.tally) (sym (some_same same)) ∙ has.recorded
            ∙ ap (λ (ring : Geometry). record_tally_of (record_measures ring recorder.total) (record_stretches_of telling.journal)) over.geometry
            ∙ ap (λ (total : ℕ). record_tally_of (record_measures terms.geometry total) (record_stretches_of telling.journal)) over.total_is);
        bytes = first_bytes terms.geometry.format sound sound (world_of telling) recorder driven.bytes.items driven.runs.items format_is given over.recorder has.records over.bytes over.runs;
        read = ap (λ (bytes : List ℕ). length bytes) over.bytes ∙ over.recorder.bytes_are ∙ sym over.recorder.reads ∙ sym (ap bytes_read over.runs);
        can = subst (λ (bytes : List ℕ). CanBeWritten terms.geometry.format bytes) (sym over.bytes) (subst (λ (format : Format). CanBeWritten format recorder.bytes) format_is (whole recorder over.recorder has.whole));
        phase = phase_is;
        sent = over.sent ∙ sym has.sent_is;
        ends = subst (λ (phase : Phase). play_can_end phase ≡ true) (sym phase_is) (record_ends (limit_in terms.geometry) recorder.course.started recorder.course.recorded);
        complete = λ drained.
            (let complete = record_drained (limit_in terms.geometry) recorder.course.started recorder.course.recorded (sym phase_is ∙ drained) in
            ap bytes_read over.runs ∙ over.recorder.reads ∙ over.recorder.course_is.complete complete ∙ over.total_is);
      }

  -- in any case
  pub outcome : IsOver terms graphs task (lines_of schedule) driven telling → Outcome terms graphs sound schedule task telling driven
  outcome (inl coming) = came_none terms graphs sound schedule task telling driven coming
  outcome (inr recording) = came_all recording
