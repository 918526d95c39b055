-- What is known of a capture over a machine that ran a whole schedule from the machine's start.
use Rattle.std.proofs.Common.{◌≡◌, ◌≤◌, ◌+◌, ◌*◌, ◌/◌, ℕ, Bool, true, false, List, [], ◌∷◌, ◌++◌, length, refl, sym, ap, subst, ◌∙◌, arith}
use Rattle.stream_format.specs.declared.format.Format.{Format}
use Rattle.stream_format.specs.Cadence.{block_bytes}
use Rattle.codec_graph.specs.declared.raw.RawCodec.{RawCodec}
use Rattle.route_planner.specs.declared.routes.Plan.{Plan}
use Rattle.analog_in.specs.declared.input.Input.{Input}
use Rattle.wav_reader.specs.declared.wav.Wav.{Wav}
use Rattle.wav_reader.specs.Laws.{CanBeWritten}
use Rattle.wav_reader.specs.Written.{block_file}
use Rattle.schedule_reader.specs.declared.schedule.Schedule.{Schedule}
use Rattle.schedule_reader.specs.Schedules.{IsLimited}
use Rattle.hda_files.specs.declared.machine.Machine.{Machine}
use Rattle.hda_world.specs.declared.world.TheConstants.{REGION_BYTES}
use Rattle.hda_world.specs.Worlds.{World}
use Rattle.hda_world.specs.Events.{Event, AreHonest, happens, after}
use Rattle.hda_world.specs.Tellings.{Telling, Went, world_of}
use Rattle.command_engine.specs.Fetchings.{AscendFrom}
use Rattle.period_writer.specs.declared.geometry.Geometry.{Geometry}
use Rattle.period_writer.specs.Writers.{ring_of}
use Rattle.hda_capture.specs.Recordings.{record_measures}
use Rattle.hda_capture.specs.Recorders.{bytes_read}
use Rattle.hda_capture.specs.declared.course.RecordedRun.{RecordedRun}
use Rattle.driver_progress.specs.declared.phase.Phase.{Phase}
use Rattle.driver_progress.specs.Progress.{Trail, trail_after, trail_opened, noted}
use Rattle.driver_progress.specs.Tasks.{Task}
use Rattle.driver_rules.specs.Onward.{IsOnward, later_of}
use Rattle.recording_driver.specs.RecordRules.{record_rules}
use Rattle.recording_driver.specs.RecordStretches.{record_tally_of, record_stretches_of}
use Rattle.driver_bring_up.specs.Standing.{answers_of}
use Rattle.audio_driver.specs.Drivers.{DriverState}
use Rattle.audio_driver.specs.Opening.{IsOpened}
use Rattle.laws_bring_up.specs.Standing.{AreWalked, StandsIn}
use Rattle.laws_bring_up.specs.SettingUp.{Always, SetUpAt, StaysSetUp}
use Rattle.laws_stream.specs.Resting.{Rests, AreApartFrom}
use Rattle.laws_start.specs.Tasks.{verbs_meant}
use Rattle.laws_start.specs.Starting.{BeginsAt}
use Rattle.laws_capture.specs.Capturing.{IsComing}
use Rattle.capture_report.specs.declared.captured.Captured.{Captured}
use Rattle.rig.specs.Follows.{Follows}
use Rattle.rig.specs.Rigs.{telling_of}
use Rattle.rig.specs.Replays.{start_of, start_given, telling_given}
use Rattle.rig.specs.declared.rig.Rig.{Rig}
use Rattle.heard_lists.specs.Listings.{graphs_in}
use Rattle.program_runs.specs.Ends.{play_can_end}
use Rattle.program_runs.specs.LinkFrames.{IsShort}
use Rattle.program_runs.specs.Lines.{lines_of}
use Rattle.program_runs.proofs.Callers.{follows_frames}
use Rattle.program_captures.specs.declared.closing.Driven.{Driven}
use Rattle.program_captures.specs.declared.terms.CaptureTerms.{CaptureTerms}
use Rattle.program_captures.specs.Inputs.{capture_means, capture_total}
use Rattle.program_captures.specs.Captures.{StaysInputOpen, IsGivenHistory, CapturesTask, captured_task, capture_phase, capture_fault, limit_in, recorded_sound}
use Rattle.program_captures.specs.Capturing.{IsCaptureTask, IsComingFor, means_of, total_of, parts_with}
use Rattle.program_captures.specs.Ending.{CaptureDriven, IsOver}
use Rattle.program_captures.proofs.Going.{KeepsFor}
use Rattle.program_captures.proofs.Started.{comes_from}
use Rattle.program_captures.proofs.Outcomes.{Outcome}

-- ---- the open input

-- what holds always holds at each moment
at_moment : (Holds : World → Trail → Type 0) (task : Task) (before later : List Event) (world : World) (trail : Trail) → Always Holds task (before ++ later) world trail
    → Holds (after before world) (trail_after task before world trail)
at_moment Holds task [] [] world trail always = always
at_moment Holds task [] (event ∷ later) world trail always = always.0
at_moment Holds task (event ∷ before) later world trail always = at_moment Holds task before later (happens world event) (noted task trail world event) always.1

stays_open : (address : ℕ) (format : Format) (machine : Machine) (schedule : Schedule) (task : Task) (telling : Telling) → StaysSetUp (capture_means address format) (graphs_in machine.codecs) task (lines_of schedule) telling
    → StaysInputOpen address format machine schedule task telling
stays_open address format machine schedule task telling always = λ before later split answered graph among.
    let opened : Trail = trail_opened (lines_of schedule) in
    let Holds : World → Trail → Type 0 = SetUpAt (capture_means address format) (graphs_in machine.codecs) task in
    at_moment Holds task before later telling.start opened (subst (λ (journal : List Event). Always Holds task journal telling.start opened) split always) answered graph among

-- ---- from the start

-- all that was told went on since the start
whole_journal : (start : World) (before after : Telling) (events : List Event) → before ≡ record { start = start; journal = [] } → Went before after events → events ≡ after.journal
whole_journal start before after events at went = sym (went.journal ∙ ap (λ (telling : Telling). telling.journal ++ events) at)

told_since : (start : World) (before after : Telling) (events : List Event) → before ≡ record { start = start; journal = [] } → Went before after events → after ≡ record { start = start; journal = after.journal }
told_since start before after events at went = ap (λ (world : World). record { start = world; journal = after.journal }) (went.start ∙ ap (λ (telling : Telling). telling.start) at)

-- a schedule has few link frames
short_since : (machine : Machine) (sound : List ℕ) (schedule : Schedule) (journal : List Event) → Follows schedule journal → IsLimited schedule → IsShort (telling_given REGION_BYTES machine sound journal)
short_since machine sound schedule journal follows limited =
    let all = follows_frames schedule journal follows in
    let few = limited.frames in
    let none : (start_given REGION_BYTES machine sound).frames ≡ 0 = refl in
    omega (arith, all, few, none)

-- codecs stand by address
pub ascend_there : (terms : CaptureTerms) (machine : Machine) (plans : List Plan) (task : Task) (most : ℕ) (driver : DriverState Input) → IsOpened terms.geometry most driver.bring_up driver.writer → BeginsAt (means_of terms) machine plans task driver.bring_up
    → AscendFrom 0 (graphs_in machine.codecs)
ascend_there terms machine plans task most driver opened begins =
    let stands = begins.stands in
    let can = subst (λ (phase : Phase). StandsIn phase (means_of terms) (verbs_meant (means_of terms) machine.codecs plans) (graphs_in machine.codecs) task 0 driver.bring_up (start_of REGION_BYTES machine)) opened.phase stands.stage in
    subst (λ (graphs : List RawCodec). AscendFrom 0 graphs) stands.graphs_are can.can.ascend

module _ (terms : CaptureTerms) (keeps : KeepsFor terms) (machine : Machine) (plans : List Plan) (sound : List ℕ) (schedule : Schedule) (limited : IsLimited schedule) (driver : DriverState Input) (driven : Driven) (before after : Rig)
    (at : telling_of before ≡ telling_given REGION_BYTES machine sound []) (drives : CaptureDriven terms schedule driver driven before after) where
  start : World
  start = start_given REGION_BYTES machine sound

  abbrev pub task_for : Task
  task_for = captured_task terms.input.codec machine plans terms.geometry drives.blocks

  pub all_told : drives.events ≡ (telling_of after).journal
  all_told = whole_journal (start_given REGION_BYTES machine sound) (telling_of before) (telling_of after) drives.events at drives.went

  pub told_then : telling_of after ≡ telling_given REGION_BYTES machine sound (telling_of after).journal
  told_then = told_since (start_given REGION_BYTES machine sound) (telling_of before) (telling_of after) drives.events at drives.went

  pub history : IsGivenHistory machine sound schedule (telling_of after).journal
  history = record {
    replays = subst (λ (events : List Event). AreHonest events (start_given REGION_BYTES machine sound)) all_told (subst (λ (telling : Telling). AreHonest drives.events (world_of telling)) at drives.went.honest);
    follows = subst (Follows schedule) all_told drives.follows;
  }

  pub over : (first : Task) (nid most : ℕ) → IsOpened terms.geometry most driver.bring_up driver.writer → IsComingFor terms driver → AreApartFrom (ring_of driver.writer) driver.bring_up.engine.rirb.address → terms.geometry.fifo ≡ machine.fifo
      → BeginsAt (means_of terms) machine plans first driver.bring_up → Rests machine.fifo (start_of REGION_BYTES machine) → IsCaptureTask terms (verbs_meant (means_of terms) machine.codecs plans) (graphs_in machine.codecs) task_for nid
      → IsOver terms (graphs_in machine.codecs) task_for (lines_of schedule) driven (telling_of after)
  over first nid most opened coming apart fifo begins rests is =
      let verbs = verbs_meant (means_of terms) machine.codecs plans in
      let comes = comes_from terms keeps machine plans sound schedule first task_for nid most driver.bring_up driver.writer opened coming.fresh apart fifo begins rests drives.corb drives.rirb is in
      let short : IsShort (telling_of after) = subst IsShort (sym told_then) (short_since machine sound schedule (telling_of after).journal history.follows limited) in
      drives.over verbs (graphs_in machine.codecs) task_for nid is refl refl short
      (subst (λ (telling : Telling). IsComing (means_of terms) verbs (graphs_in machine.codecs) task_for (total_of terms) (lines_of schedule) (lines_of schedule) (parts_with driver.bring_up driver.writer) telling) (sym at) comes)

-- ---- what is kept

-- what is left of the driver is kept, with the marks of the blocks that came
pub record KeepsAll (terms : CaptureTerms) (machine : Machine) (plans : List Plan) (wav : Wav) (driven : Driven) (telling : Telling) (captured : Captured) : Type 0 where
  pub graphs : captured.graphs ≡ driven.graphs.items
  pub runs : captured.runs ≡ driven.runs.items
  pub taken : captured.taken ≡ (world_of telling).came
  pub file : captured.file ≡ block_file wav.format driven.bytes.items
  pub commands : captured.commands ≡ capture_total terms.input.codec wav.format machine.codecs plans
  pub fault : captured.fault ≡ capture_fault driven.phase driven.sent captured.commands (length driven.bytes.items / block_bytes wav.format) captured.total

pub captures : (terms : CaptureTerms) (machine : Machine) (plans : List Plan) (wav : Wav) (schedule : Schedule) (task : Task) (telling : Telling) (driven : Driven) (captured : Captured) → terms.geometry.format ≡ wav.format → terms.frames ≡ wav.frames
    → task.geometry ≡ terms.geometry → Outcome terms (graphs_in machine.codecs) wav.pcm schedule task telling driven → IsGivenHistory machine wav.pcm schedule telling.journal → KeepsAll terms machine plans wav driven telling captured
    → CapturesTask terms.input.codec machine plans wav schedule task telling captured
captures terms machine plans wav schedule task telling driven captured format_is frames_is ring_is out history kept = record {
  state = out.state;
  later = out.later;
  history = history;
  progress = record {
    onward = subst (λ (total : ℕ). IsOnward (record_rules task total) task (lines_of schedule) telling) total_is out.onward;
    finds = out.finds;
    state_is = out.state_is;
    later_is = subst (λ (total : ℕ). later_of (record_rules task total) task (lines_of schedule) telling ≡ out.later) total_is out.later_is;
    walked = subst (λ (walked : List RawCodec). AreWalked (graphs_in machine.codecs) walked task.walks out.state.sent (answers_of out.state.sent out.state.rings.outstanding)) (sym kept.graphs) out.walked;
    all_walked = λ all. (kept.graphs ∙ out.all_walked all);
  };
  opened = subst (λ (format : Format). StaysInputOpen terms.input.codec format machine schedule task telling) format_is (stays_open terms.input.codec terms.geometry.format machine schedule task telling out.set_up);
  recorded = record {
    runs = kept.runs ∙ out.runs;
    taken = kept.taken;
    can = subst (λ (bytes : List ℕ). CanBeWritten wav.format bytes) sound_is (subst (λ (format : Format). CanBeWritten format driven.bytes.items) format_is out.can);
    all_read = ap (λ (bytes : List ℕ). length bytes) (sym sound_is) ∙ out.read ∙ sym (ap bytes_read kept.runs);
    file = kept.file ∙ ap (block_file wav.format) sound_is;
  };
  stretches = λ kept_state same.
      (out.stretches kept_state same ∙ ap (λ (total : ℕ). record_tally_of (record_measures terms.geometry total) (record_stretches_of telling.journal)) total_is
      ∙ ap (λ (ring : Geometry). record_tally_of (record_measures ring (wav.frames * block_bytes wav.format)) (record_stretches_of telling.journal)) (sym ring_is));
  commands = kept.commands;
  ends = subst (λ (phase : Phase). play_can_end phase ≡ true) phase_is out.ends;
  complete = λ drained. (ap bytes_read kept.runs ∙ out.complete (phase_is ∙ drained) ∙ total_is);
  fault = kept.fault
      ∙ ap (λ (bytes : ℕ). capture_fault driven.phase driven.sent captured.commands (bytes / block_bytes wav.format) captured.total) (out.read ∙ sym (ap bytes_read kept.runs))
      ∙ ap (λ (sent : ℕ). capture_fault driven.phase sent captured.commands (bytes_read captured.runs / block_bytes wav.format) captured.total) out.sent
      ∙ ap (λ (phase : Phase). capture_fault phase out.state.sent captured.commands (bytes_read captured.runs / block_bytes wav.format) captured.total) phase_is;
} where
  total_is : total_of terms ≡ wav.frames * block_bytes wav.format
  total_is = ap (λ (f : Format). terms.frames * block_bytes f) format_is ∙ ap (λ (n : ℕ). n * block_bytes wav.format) frames_is

  phase_is : driven.phase ≡ capture_phase (limit_in task.geometry) out.state out.later
  phase_is = out.phase ∙ ap (λ (ring : Geometry). capture_phase (limit_in ring) out.state out.later) (sym ring_is)

  sound_is : driven.bytes.items ≡ recorded_sound wav.format wav.pcm captured.taken captured.runs
  sound_is =
      out.bytes ∙ ap (λ (f : Format). recorded_sound f wav.pcm (world_of telling).came driven.runs.items) format_is
      ∙ ap (λ (marks : List Bool). recorded_sound wav.format wav.pcm marks driven.runs.items) (sym kept.taken)
      ∙ ap (λ (runs : List RecordedRun). recorded_sound wav.format wav.pcm captured.taken runs) (sym kept.runs)
