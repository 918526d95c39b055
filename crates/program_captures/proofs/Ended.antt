-- How the last call of the driver of a capture leads on, and a whole schedule with it.
use Rattle.std.proofs.Common.{Box, Global, ◌≡◌, inl, inr, ℕ, Bool, false, List, [], ◌∷◌, ◌++◌, length, refl, sym, ap, subst, ◌∙◌, Some, None, append-nil, arith}
use Rattle.verb_codes.specs.declared.verbs.Command.{Command}
use Rattle.codec_graph.specs.declared.raw.RawCodec.{RawCodec}
use Rattle.stream_format.specs.declared.format.Format.{Format}
use Rattle.route_setup.specs.Means.{Means}
use Rattle.analog_in.specs.declared.input.Input.{Input}
use Rattle.analog_in.specs.Means.{analog_in}
use Rattle.wav_reader.specs.Supplies.{Supplied, MayGive, EndsWith}
use Rattle.schedule_reader.specs.declared.schedule.Schedule.{Schedule}
use Rattle.schedule_reader.specs.Counts.{items_of}
use Rattle.hda_world.specs.Events.{Event, Begin, End}
use Rattle.hda_world.specs.Tellings.{Telling, Went, Accessed}
use Rattle.hda_world.proofs.Callers.{went_both}
use Rattle.period_writer.specs.Runs.{Tally, tally_opened}
use Rattle.hda_capture.specs.Recorders.{IsRecorder}
use Rattle.driver_progress.specs.Tasks.{Blocks, Task, DriverLine}
use Rattle.driver_bring_up.specs.declared.answers.TheConstants.{TAG}
use Rattle.audio_driver.specs.States.{phase_with}
use Rattle.audio_driver.specs.Drivers.{DriverState}
use Rattle.audio_driver.specs.Closing.{Closes}
use Rattle.audio_driver.specs.declared.driver.closing.Closed.{Closed}
use Rattle.recording_driver.specs.RecordingDrivers.{RecordingState, IsRecordingDriver}
use Rattle.recording_driver.specs.RecordingClosing.{ClosesRecording}
use Rattle.recording_driver.specs.declared.driver.closing.RecordingClosed.{RecordingClosed}
use Rattle.laws_driver.specs.Keeping as driving
use Rattle.rig.specs.Rigs.{telling_of, setting_of}
use Rattle.rig.specs.Stretches.{IsStretchFrom, accesses_of, stretch}
use Rattle.rig.specs.declared.rig.Rig.{Rig}
use Rattle.program_runs.specs.FirstFits.{AreFirstFits}
use Rattle.program_runs.specs.Lines.{lines_of}
use Rattle.program_runs.proofs.Callers.{IsWithoutSteps, TakesAccesses, Run, run_of, short_before, never_wrapped}
use Rattle.program_captures.specs.declared.closing.Driven.{Driven}
use Rattle.program_captures.specs.declared.terms.CaptureTerms.{CaptureTerms}
use Rattle.program_captures.specs.declared.capturer.Capturer.{Capturer}
use Rattle.program_captures.specs.declared.capturer.Capturer.TheVariants.{Coming, Recording}
use Rattle.program_captures.specs.Capturing.{CaptureRan, IsComingFor, IsRecordingFor, IsCapturerFor, HasTask, GoesOn, blocks_in, means_of, total_of, parts_with}
use Rattle.program_captures.specs.Ending.{CaptureEnds, CaptureDriven}
use Rattle.program_captures.proofs.Going.{KeepsFor}

-- ---- a supply without sound gives nothing

pub may_none : (supply : Supplied) → supply ≡ record { held = []; left = 0; taken = 0; source = None } → MayGive supply []
may_none supply is = subst (λ (s : Supplied). MayGive s []) (sym is) (record { later = []; is = refl; most = omega arith })

pub ends_none : (supply : Supplied) → supply ≡ record { held = []; left = 0; taken = 0; source = None } → EndsWith supply []
ends_none supply is = λ none. ap (λ (s : Supplied). s.left) is

-- ---- the last call of a driver that did not record

-- what is left of the driver is what is left of a capture in which nothing was recorded
pub record LeavesComing (closed : Closed) (driven : Driven) : Type 0 where
  pub phase : driven.phase ≡ closed.phase
  pub sent : driven.sent ≡ closed.sent
  pub graphs : driven.graphs.items ≡ closed.graphs.items
  pub runs : driven.runs.items ≡ []
  pub bytes : driven.bytes.items ≡ []

-- and of one that recorded
pub record LeavesRecording (closed : RecordingClosed) (driven : Driven) : Type 0 where
  pub phase : driven.phase ≡ closed.phase
  pub sent : driven.sent ≡ closed.sent
  pub graphs : driven.graphs.items ≡ closed.graphs.items
  pub runs : driven.runs.items ≡ closed.runs.items
  pub bytes : driven.bytes.items ≡ closed.bytes.items

-- by what the setter means, as the terms say
abbrev means_by : Input → Format → Means
means_by input format = analog_in input.codec format TAG

closes_so : (terms : CaptureTerms) (driver : DriverState Input) (closed : Closed) (begun made : Telling) → IsComingFor terms driver
    → Closes (means_by driver.setter driver.bring_up.agenda.format) driver.play driver.bring_up driver.writer [] closed (Some begun) (Some made)
    → Closes (means_of terms) false driver.bring_up driver.writer [] closed (Some begun) (Some made)
closes_so terms driver closed begun made coming closes =
    subst (λ (play : Bool). Closes (means_of terms) play driver.bring_up driver.writer [] closed (Some begun) (Some made)) coming.play
    (subst (λ (format : Format). Closes (means_by terms.input format) driver.play driver.bring_up driver.writer [] closed (Some begun) (Some made)) coming.format
    (subst (λ (input : Input). Closes (means_by input driver.bring_up.agenda.format) driver.play driver.bring_up driver.writer [] closed (Some begun) (Some made)) coming.setter closes))

module _ (terms : CaptureTerms) (keeps : KeepsFor terms) (without : IsWithoutSteps) (takes : TakesAccesses) (before after : Rig) (begun made : Telling) (driven : Driven) where
  pub coming_ends : (boxed : Box (DriverState Input) Global) (closed : Closed) → IsComingFor terms boxed.value → Accessed (telling_of before) begun Begin
      → Closes (means_by boxed.value.setter boxed.value.bring_up.agenda.format) boxed.value.play boxed.value.bring_up boxed.value.writer [] closed (Some begun) (Some made) → Accessed made (telling_of after) End
      → IsStretchFrom (length (telling_of before).journal) [] (telling_of after).journal → (setting_of after).machine ≡ (setting_of before).machine → LeavesComing closed driven
      → CaptureEnds terms (Coming boxed) driven before after
  coming_ends boxed closed coming opened closing ended stretched machine leaves =
      let driver = boxed.value in
      let closes : Closes (means_of terms) false driver.bring_up driver.writer [] closed (Some begun) (Some made) = closes_so terms driver closed begun made coming closing in
      let ends = closes.ends refl in
      let last : driving.Closes (means_of terms) false (parts_with driver.bring_up driver.writer) closes.ended closes.tally (Some begun) (Some made) = record { ends = closes.ends; recorded = closes.recorded; sounds = closes.sounds } in
      let run : Run ends.made (telling_of before) (telling_of after) = run_of ends.made (telling_of before) begun made (telling_of after) opened ends.by.is.by ended in
      let laid : run.events ≡ stretch [] (accesses_of run.events) =
      without (telling_of before).journal run.events (subst (λ (journal : List Event). IsStretchFrom (length (telling_of before).journal) [] journal) run.went.journal stretched) in
      let went : Went (telling_of before) (telling_of after) (stretch [] (accesses_of run.events)) = subst (Went (telling_of before) (telling_of after)) laid run.went in
      let fresh : closes.tally ≡ tally_opened = closes.recorded refl ∙ coming.fresh in
      record {
        accesses = accesses_of run.events;
        are = takes run.events;
        went = went;
        over = λ verbs graphs task nid all is has short on. inl (record {
          ended = closes.ended;
          has = (keeps verbs graphs task nid is).shuts all (parts_with driver.bring_up driver.writer) closes.ended closes.tally (stretch [] (accesses_of run.events)) (telling_of before) begun made (telling_of after) opened
              last ended went (never_wrapped (telling_of before) (telling_of after) (stretch [] (accesses_of run.events)) went short) on;
          phase = leaves.phase ∙ closes.phase ∙ ap (λ (tally : Tally). phase_with closes.ended tally) fresh;
          sent = leaves.sent ∙ closes.sent;
          graphs_are = leaves.graphs ∙ ap (λ graphs. graphs.items) closes.graphs;
          runs = leaves.runs;
          bytes = leaves.bytes;
        });
        machine = machine;
      }

  -- and of one that recorded
  pub recording_ends : (boxed : Box RecordingState Global) (closed : RecordingClosed) → IsRecordingFor terms boxed.value → IsRecordingDriver boxed.value → IsRecorder boxed.value.recorder → Accessed (telling_of before) begun Begin
      → ClosesRecording boxed.value closed (Some begun) (Some made) → Accessed made (telling_of after) End
      → IsStretchFrom (length (telling_of before).journal) [] (telling_of after).journal → (setting_of after).machine ≡ (setting_of before).machine → LeavesRecording closed driven
      → CaptureEnds terms (Recording boxed) driven before after
  recording_ends boxed closed recording of_driver of_recorder opened closes ended stretched machine leaves =
      let driver = boxed.value in
      let ends = closes.ends in
      let run : Run ends.made (telling_of before) (telling_of after) = run_of ends.made (telling_of before) begun made (telling_of after) opened ends.by.is.by ended in
      let laid : run.events ≡ stretch [] (accesses_of run.events) =
      without (telling_of before).journal run.events (subst (λ (journal : List Event). IsStretchFrom (length (telling_of before).journal) [] journal) run.went.journal stretched) in
      let went : Went (telling_of before) (telling_of after) (stretch [] (accesses_of run.events)) = subst (Went (telling_of before) (telling_of after)) laid run.went in
      record {
        accesses = accesses_of run.events;
        are = takes run.events;
        went = went;
        over = λ verbs graphs task nid all is has short on. inr (record {
          ended = closes.ended;
          has = (keeps verbs graphs task nid is).records_ends all driver closes.ended (stretch [] (accesses_of run.events)) (telling_of before) begun made (telling_of after) of_driver of_recorder opened ends ended went
              (never_wrapped (telling_of before) (telling_of after) (stretch [] (accesses_of run.events)) went short) on;
          recorder = closes.recorder;
          total_is = ends.keeps.total ∙ recording.total_is;
          geometry = ends.keeps.geometry ∙ recording.geometry;
          phase = leaves.phase ∙ closes.phase;
          sent = leaves.sent ∙ closes.sent ∙ sym ends.keeps.sent;
          graphs_are = leaves.graphs ∙ closes.graphs ∙ sym ends.keeps.graphs;
          runs = leaves.runs ∙ closes.runs;
          bytes = leaves.bytes ∙ closes.bytes;
        });
        machine = machine;
      }

-- ---- a schedule's items and then the last call

first_fits : (terms : CaptureTerms) (capturer : Capturer) → IsCapturerFor terms capturer → AreFirstFits terms.geometry (blocks_in capturer)
first_fits terms (Coming driver) is = record {
  free = is.free;
  taken = driver.value.pool;
  all_free = is.all_free;
  opens = is.takes;
  corb_aligned = driver.value.bring_up.engine.corb.aligned;
  rirb_aligned = driver.value.bring_up.engine.rirb.aligned;
}
first_fits terms (Recording driver) is = is.first_fits

has_task : (terms : CaptureTerms) (capturer : Capturer) (task : Task) → IsCapturerFor terms capturer → task.blocks ≡ blocks_in capturer → task.geometry ≡ terms.geometry → HasTask capturer task
has_task terms (Coming driver) task is blocks ring = tt
has_task terms (Recording driver) task is blocks ring = record {
  corb = ap (λ (b : Blocks). b.corb) blocks;
  rirb = ap (λ (b : Blocks). b.rirb) blocks;
  list = ap (λ (b : Blocks). b.list) blocks;
  periods = ap (λ (b : Blocks). b.periods) blocks;
  geometry = ring ∙ sym is.geometry;
}

pub both_drive : (terms : CaptureTerms) (schedule : Schedule) (old : Box (DriverState Input) Global) (middle : Capturer) (driven : Driven) (before between after : Rig) → CaptureRan terms (items_of schedule) (Coming old) middle before between
    → CaptureEnds terms middle driven between after → CaptureDriven terms schedule old.value driven before after
both_drive terms schedule old middle driven before between after ran ends = record {
  blocks = blocks_in middle;
  first_fits = first_fits terms middle ran.stays;
  corb = ran.corb;
  rirb = ran.rirb;
  events = ran.events ++ stretch [] ends.accesses;
  went = went_both (telling_of before) (telling_of between) (telling_of after) ran.events (stretch [] ends.accesses) ran.went ends.went;
  follows = record { followed = ran.events; closing = ends.accesses; items = ran.follow; accesses = ends.are; laid = refl };
  over = λ verbs graphs task nid is blocks ring short on.
      (let has = has_task terms middle task ran.stays blocks ring in
      ends.over verbs graphs task nid (lines_of schedule) is has short
      (ran.leads verbs graphs task nid (lines_of schedule) [] is has (short_before (telling_of between) (telling_of after) (stretch [] ends.accesses) ends.went short)
      (subst (λ (lines : List DriverLine). GoesOn terms verbs graphs task (lines_of schedule) lines (Coming old) (telling_of before)) (sym (append-nil (lines_of schedule))) on)));
  machine = ends.machine ∙ ran.machine;
}

-- so it is of the driver that it was made of
pub drives_as : {terms : CaptureTerms} {schedule : Schedule} {one other : DriverState Input} {driven : Driven} {before after : Rig} → one ≡ other → CaptureDriven terms schedule one driven before after → CaptureDriven terms schedule other driven before after
drives_as {terms} {schedule} {one} {other} {driven} {before} {after} same drives = subst (λ (driver : DriverState Input). CaptureDriven terms schedule driver driven before after) same drives
