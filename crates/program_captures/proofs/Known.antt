-- What is known of a driver of a capture that was just opened, over a machine that is given a sound, once its schedule was run.
use Rattle.std.proofs.Common.{◌≡◌, ◌/◌, ℕ, false, List, [], length, refl, sym, ap, subst, ◌∙◌}
use Rattle.stream_format.specs.declared.format.Format.{Format}
use Rattle.stream_format.specs.Cadence.{block_bytes}
use Rattle.wav_reader.specs.Written.{block_file}
use Rattle.hda_files.specs.Machines.{IsSound}
use Rattle.hda_world.specs.JournalEvents.{events_of}
use Rattle.capture_report.specs.declared.captured.Captured.{Captured}
use Rattle.program_captures.specs.Inputs.{capture_total}
use Rattle.program_captures.specs.Kept.{IsKept}
use Rattle.wav_reader.specs.declared.wav.Wav.{Wav}
use Rattle.analog_in.specs.declared.input.Input.{Input}
use Rattle.route_planner.specs.declared.routes.Plan.{Plan}
use Rattle.schedule_reader.specs.declared.schedule.Schedule.{Schedule}
use Rattle.schedule_reader.specs.Schedules.{IsLimited}
use Rattle.hda_files.specs.declared.machine.Machine.{Machine}
use Rattle.hda_world.specs.declared.world.TheConstants.{REGION_BYTES}
use Rattle.hda_world.specs.Worlds.{World}
use Rattle.hda_world.specs.Events.{Event, after}
use Rattle.hda_world.specs.Tellings.{Telling}
use Rattle.command_engine.specs.Fetchings.{AscendFrom}
use Rattle.period_writer.specs.Writers.{ring_of}
use Rattle.driver_progress.specs.Tasks.{Blocks, Task}
use Rattle.audio_driver.specs.Drivers.{DriverState}
use Rattle.audio_driver.specs.Opening.{IsOpened}
use Rattle.laws_bring_up.specs.Standing.{IsTaskOfCodecs}
use Rattle.laws_stream.specs.Resting.{Rests, AreApartFrom}
use Rattle.laws_start.specs.Tasks.{verbs_meant}
use Rattle.laws_start.specs.Starting.{BeginsAt}
use Rattle.laws_capture.specs.Listening.{HearsWhereOpen}
use Rattle.rig.specs.Rigs.{telling_of, setting_of}
use Rattle.rig.specs.Replays.{start_of, telling_given}
use Rattle.rig.specs.declared.rig.Rig.{Rig}
use Rattle.heard_lists.specs.Listings.{graphs_in}
use Rattle.program_captures.specs.declared.closing.Driven.{Driven}
use Rattle.program_captures.specs.declared.terms.CaptureTerms.{CaptureTerms}
use Rattle.program_captures.specs.Captures.{captured_task, capture_fault, CapturesTask, IsCaptured}
use Rattle.program_captures.specs.Capturing.{IsCaptureTask, IsComingFor, means_of}
use Rattle.program_captures.specs.Ending.{CaptureDriven}
use Rattle.program_captures.proofs.Going.{KeepsFor}
use Rattle.program_captures.proofs.Outcomes.{Outcome, WholeCanBeWritten, outcome}
use Rattle.program_captures.proofs.Finished.{ascend_there, over, told_then, history, KeepsAll, captures}

-- what holds of the start, and the laws over it
pub record IsReady (terms : CaptureTerms) (machine : Machine) (plans : List Plan) (driver : DriverState Input) : Type 0 where
  pub keeps : KeepsFor terms
  pub whole : WholeCanBeWritten
  pub stays : (events : List Event) (world : World) → (after events world).given ≡ world.given
  pub opened : IsOpened terms.geometry terms.runs driver.bring_up driver.writer
  pub coming : IsComingFor terms driver
  pub apart : AreApartFrom (ring_of driver.writer) driver.bring_up.engine.rirb.address
  pub fifo : terms.geometry.fifo ≡ machine.fifo
  pub first : Task
  pub begins : BeginsAt (means_of terms) machine plans first driver.bring_up
  pub rests : Rests machine.fifo (start_of REGION_BYTES machine)
  pub of_codecs : (blocks : Blocks) → IsTaskOfCodecs (means_of terms) (verbs_meant (means_of terms) machine.codecs plans) (graphs_in machine.codecs) (captured_task terms.input.codec machine plans terms.geometry blocks)
  pub nid : ℕ
  pub hears : AscendFrom 0 (graphs_in machine.codecs) → HearsWhereOpen (means_of terms) (graphs_in machine.codecs) terms.geometry.format nid

module _ (terms : CaptureTerms) (machine : Machine) (plans : List Plan) (wav : Wav) (schedule : Schedule) (driver : DriverState Input) (driven : Driven) (before later : Rig) (drives : CaptureDriven terms schedule driver driven before later)
    (ready : IsReady terms machine plans driver) (limited : IsLimited schedule) (at : telling_of before ≡ telling_given REGION_BYTES machine wav.pcm []) where
  pub known : Outcome terms (graphs_in machine.codecs) wav.pcm schedule (captured_task terms.input.codec machine plans terms.geometry drives.blocks) (telling_of later) driven
  known =
      let task = captured_task terms.input.codec machine plans terms.geometry drives.blocks in
      let given : (after (telling_of later).journal (telling_of later).start).given ≡ wav.pcm =
      ready.stays (telling_of later).journal (telling_of later).start ∙ ap (λ (telling : Telling). telling.start.given) (told_then terms ready.keeps machine plans wav.pcm schedule limited driver driven before later at drives) in
      let is : IsCaptureTask terms (verbs_meant (means_of terms) machine.codecs plans) (graphs_in machine.codecs) task ready.nid =
      record { of_codecs = ready.of_codecs drives.blocks; silent = refl; hears = ready.hears (ascend_there terms machine plans ready.first terms.runs driver ready.opened ready.begins) } in
      outcome terms (graphs_in machine.codecs) wav.pcm schedule task (telling_of later) driven ready.whole given
      (over terms ready.keeps machine plans wav.pcm schedule limited driver driven before later at drives ready.first ready.nid terms.runs ready.opened ready.coming ready.apart ready.fifo ready.begins ready.rests is)

  -- what is kept is all that was told
  keeps_all : (commands : ℕ) (captured : Captured) → terms.geometry.format ≡ wav.format → commands ≡ capture_total terms.input.codec wav.format machine.codecs plans → IsKept terms later plans driven commands captured
      → KeepsAll terms machine plans wav driven (telling_of later) captured
  keeps_all commands captured format_is commands_is kept = record {
    graphs = kept.graphs;
    runs = kept.runs;
    taken = kept.taken;
    file = kept.file ∙ ap (λ (format : Format). block_file format driven.bytes.items) format_is;
    commands = kept.commands_are ∙ commands_is;
    fault = kept.fault
        ∙ ap (λ (of : ℕ). capture_fault driven.phase driven.sent of (length driven.bytes.items / block_bytes terms.geometry.format) terms.frames) (sym kept.commands_are)
        ∙ ap (λ (format : Format). capture_fault driven.phase driven.sent captured.commands (length driven.bytes.items / block_bytes format) terms.frames) format_is
        ∙ ap (λ (total : ℕ). capture_fault driven.phase driven.sent captured.commands (length driven.bytes.items / block_bytes wav.format) total) (sym kept.total_is);
  }

  pub finished : (commands : ℕ) (captured : Captured) → IsSound machine → terms.geometry.format ≡ wav.format → terms.frames ≡ wav.frames → (setting_of later).machine ≡ machine
      → commands ≡ capture_total terms.input.codec wav.format machine.codecs plans → IsKept terms later plans driven commands captured → IsCaptured terms.input.codec machine plans wav terms.geometry schedule captured
  finished commands captured sound format_is frames_is there commands_is kept =
      let task = captured_task terms.input.codec machine plans terms.geometry drives.blocks in
      let told : telling_of later ≡ telling_given REGION_BYTES machine wav.pcm (events_of captured.journal) =
      told_then terms ready.keeps machine plans wav.pcm schedule limited driver driven before later at drives ∙ ap (λ (journal : List Event). telling_given REGION_BYTES machine wav.pcm journal) (sym kept.journal) in
      record {
        input = record {
          sound = sound;
          machine_is = kept.machine ∙ there;
          plans_are = kept.plans_are;
          format_is = kept.format_is ∙ format_is;
          frames_are = kept.total_is ∙ frames_is;
        };
        blocks = drives.blocks;
        first_fits = drives.first_fits;
        run = subst (λ (telling : Telling). CapturesTask terms.input.codec machine plans wav schedule task telling captured) told
            (captures terms machine plans wav schedule task (telling_of later) driven captured format_is frames_is refl known
            (history terms ready.keeps machine plans wav.pcm schedule limited driver driven before later at drives) (keeps_all commands captured format_is commands_is kept));
      }
