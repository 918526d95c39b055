-- The laws that a driver that captures goes by, as they are handed in.
use Rattle.std.specs.Prelude.{◌≡◌, ℕ, false, List, All, Some, length}
use Rattle.verb_codes.specs.declared.verbs.Command.{Command}
use Rattle.codec_graph.specs.declared.raw.RawCodec.{RawCodec}
use Rattle.stream_format.specs.declared.format.Format.{Format}
use Rattle.route_setup.specs.Means.{Means}
use Rattle.hda_registers.specs.declared.shapes.Width.TheVariants.{One}
use Rattle.world_steps.specs.declared.Step.{Step}
use Rattle.hda_world.specs.declared.world.TheConstants.{REGION_BYTES}
use Rattle.hda_world.specs.Worlds.{World}
use Rattle.hda_world.specs.Steps.{after_steps}
use Rattle.hda_world.specs.Events.{Event, Write, happens, after}
use Rattle.hda_world.specs.Tellings.{Telling, world_of, Makes}
use Rattle.command_engine.specs.declared.ring_places.RingPlaces.{RingPlaces}
use Rattle.command_engine.specs.Fetchings.{Stands}
use Rattle.command_engine.specs.Polling.{PollReads, poll_accesses}
use Rattle.period_writer.specs.Runs.{tally_opened}
use Rattle.period_writer.specs.Standing.{Ring}
use Rattle.period_writer.specs.Outcomes.{CanBegin, HasNotWrapped}
use Rattle.hda_capture.specs.declared.course.Recorded.{Recorded}
use Rattle.hda_capture.specs.declared.registers.TheConstants.{CONTROL}
use Rattle.hda_capture.specs.Recorders.{RecorderState, IsRecorder, KeepsRecorderRing}
use Rattle.hda_capture.specs.Calls.{StartsRecording, RecordsRun}
use Rattle.driver_progress.specs.declared.phase.Phase.TheVariants.{Ready}
use Rattle.driver_progress.specs.Tasks.{Task, DriverLine}
use Rattle.laws_bring_up.specs.Standing.{IsTaskOfCodecs}
use Rattle.laws_bring_up.specs.Keeping.{KeepsToProgress}
use Rattle.laws_bring_up.proofs.Callers.{AgendaLaws, SetterLaws, Laws}
use Rattle.laws_stream.specs.Resting.{Rests, AreApartFrom}
use Rattle.laws_recording.specs.Filling.{recorder_ring}
use Rattle.laws_recording.specs.Recording.{IsRecording, HasRecorded, RecordedAs}
use Rattle.laws_recording.specs.Beside.{LeavesFilling, LeavesStoppedInput}
use Rattle.laws_recording.specs.Sound.{HearsGiven, TookGiven, RecordsGiven}
use Rattle.laws_driver.specs.Sounding.{Parts, tally_in}
use Rattle.laws_driver.specs.Keeping.{DriverGoesOn, KeepsPlaying}
use Rattle.laws_driver.specs.Leaving.{IsLeftStanding, IsLeftReady}
use Rattle.laws_capture.specs.Listening.{HearsWhereOpen}
use Rattle.laws_capture.proofs.BringUps.{StretchesRest}
use Rattle.laws_capture.proofs.NoneCame.{CameLaws}

-- of a recorder
pub record RecorderLaws : Type 0 where
  pub can_begin : (ring : Ring) (from read corb rirb : ℕ) (rings : RingPlaces) (world : World) → Rests ring.geometry.fifo world → Stands from read corb rirb rings world → AreApartFrom ring rirb → CanBegin ring world
  pub first : (old new : RecorderState) (before after : Telling) → IsRecorder old → KeepsRecorderRing old new → old.course.started ≡ false → StartsRecording old new (Some before) (Some after) → length (world_of before).memory ≡ REGION_BYTES
      → CanBegin (recorder_ring old) (world_of before) → HasNotWrapped (world_of after) → IsRecording new (world_of after)
  pub later : (old new : RecorderState) (answer : Recorded) (before after : Telling) → IsRecorder old → KeepsRecorderRing old new → RecordsRun old answer new (Some before) (Some after) → IsRecording old (world_of before)
      → HasNotWrapped (world_of after) → RecordedAs answer new (world_of after)
  pub steps : (recorder : RecorderState) (steps : List Step) (world : World) → IsRecording recorder world → IsRecording recorder (after_steps steps world)
  pub events : (recorder : RecorderState) (events : List Event) (world : World) → All (LeavesFilling (recorder_ring recorder)) events → IsRecording recorder world → IsRecording recorder (after events world)
  pub rows : (recorder : RecorderState) (made : List Event) (old new : Telling) → Makes made old new → All (LeavesFilling (recorder_ring recorder)) made → IsRecording recorder (world_of old) → IsRecording recorder (world_of new)
  pub polls : (ring : Ring) (rirb : ℕ) (rings : RingPlaces) (reads : PollReads) → All (LeavesFilling ring) (poll_accesses rirb rings reads)
  pub stop : (recorder : RecorderState) (world : World) → IsRecording recorder world → HasRecorded recorder (happens world (Write CONTROL One 0))
  pub over : (recorder : RecorderState) (events : List Event) (world : World) → All LeavesStoppedInput events → HasRecorded recorder world → HasRecorded recorder (after events world)

-- of the sound that it takes
pub record TakenLaws : Type 0 where
  pub first : (nid : ℕ) (old new : RecorderState) (before after : Telling) → IsRecorder old → StartsRecording old new (Some before) (Some after) → length (world_of before).memory ≡ REGION_BYTES
      → CanBegin (recorder_ring old) (world_of before) → HearsGiven old.geometry.format nid (world_of before) → HearsGiven old.geometry.format nid (world_of after) × TookGiven old.geometry.format (world_of after)
  pub later : (nid : ℕ) (old new : RecorderState) (answer : Recorded) (before after : Telling) → RecordsRun old answer new (Some before) (Some after) → IsRecording old (world_of before)
      → HearsGiven old.geometry.format nid (world_of before) → TookGiven old.geometry.format (world_of before) → HearsGiven old.geometry.format nid (world_of after) × TookGiven old.geometry.format (world_of after)
  pub steps : (nid : ℕ) (recorder : RecorderState) (steps : List Step) (world : World) → IsRecording recorder world → HearsGiven recorder.geometry.format nid world → TookGiven recorder.geometry.format world
      → HearsGiven recorder.geometry.format nid (after_steps steps world) × TookGiven recorder.geometry.format (after_steps steps world)
  pub events : (nid : ℕ) (recorder : RecorderState) (events : List Event) (world : World) → All (LeavesFilling (recorder_ring recorder)) events → IsRecording recorder world → HearsGiven recorder.geometry.format nid world
      → TookGiven recorder.geometry.format world → HearsGiven recorder.geometry.format nid (after events world) × TookGiven recorder.geometry.format (after events world)
  pub rows : (nid : ℕ) (recorder : RecorderState) (made : List Event) (old new : Telling) → Makes made old new → All (LeavesFilling (recorder_ring recorder)) made → IsRecording recorder (world_of old)
      → HearsGiven recorder.geometry.format nid (world_of old) → TookGiven recorder.geometry.format (world_of old)
      → HearsGiven recorder.geometry.format nid (world_of new) × TookGiven recorder.geometry.format (world_of new)
  pub stop : (recorder : RecorderState) (world : World) → IsRecording recorder world → TookGiven recorder.geometry.format world → TookGiven recorder.geometry.format (happens world (Write CONTROL One 0))
  pub over : (format : Format) (events : List Event) (world : World) (recorder : RecorderState) → All LeavesStoppedInput events → HasRecorded recorder world → TookGiven format world → TookGiven format (after events world)
  pub given : (recorder : RecorderState) (world : World) → HasRecorded recorder world → TookGiven recorder.geometry.format world → RecordsGiven recorder world

pub record Given (means : Means) (verbs : RawCodec → List Command) (graphs : List RawCodec) (task : Task) (nid : ℕ) : Type 0 where
  pub of : IsTaskOfCodecs means verbs graphs task
  pub silent : task.plays ≡ false
  pub hears : HearsWhereOpen means graphs task.geometry.format nid
  pub told : KeepsToProgress means verbs graphs task
  pub driver : KeepsPlaying means verbs graphs task
  pub stand : (lines left : List DriverLine) (parts : Parts) (telling : Telling) → parts.bring_up.phase ≡ Ready → tally_in parts ≡ tally_opened → DriverGoesOn means verbs graphs task lines left parts telling
      → IsLeftStanding means graphs parts (world_of telling) × IsLeftReady task lines parts telling
  pub agenda : AgendaLaws means verbs graphs
  pub setter : SetterLaws means
  pub notes : Laws
  pub stretches : StretchesRest
  pub came : CameLaws
  pub recorder : RecorderLaws
  pub taken : TakenLaws
