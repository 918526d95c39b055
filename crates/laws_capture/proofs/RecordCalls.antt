-- A stretch of a driver that records: it begins, its call makes what the rules expect, and it ends.
use Rattle.std.proofs.Common.{◌≡◌, ◌≤◌, ℕ, Bool, true, false, List, [], ◌∷◌, map, length, Option, Some, sym, ap, subst, ◌∙◌}
use Rattle.std.specs.Prelude.{drop, slice_get}
use Rattle.verb_codes.specs.declared.verbs.Command.{Command}
use Rattle.codec_graph.specs.declared.raw.RawCodec.{RawCodec}
use Rattle.route_setup.specs.Means.{Means}
use Rattle.world_steps.specs.declared.Step.{Step}
use Rattle.hda_world.specs.Events.{Event, Stepped, Begin, End}
use Rattle.hda_world.specs.Tellings.{Telling, world_of, Went, Accessed, Makes}
use Rattle.period_writer.specs.declared.geometry.Geometry.{Geometry}
use Rattle.period_writer.specs.Outcomes.{HasNotWrapped}
use Rattle.period_writer.specs.Blocks.{addresses_of}
use Rattle.dma_pool.specs.declared.blocks.Lent.{Lent}
use Rattle.hda_capture.specs.Recorders.{IsRecorder}
use Rattle.driver_progress.specs.Requests.{requests_of}
use Rattle.driver_progress.specs.Seen.{values_of}
use Rattle.driver_progress.specs.Tasks.{Task, DriverLine, walks_over}
use Rattle.driver_progress.specs.Progress.{Trail, trail_of}
use Rattle.driver_progress.specs.Unread.{AreAccesses}
use Rattle.driver_rules.specs.Onward.{onward_of, IsAtOnwardRest, IsOnwardOpen, IsRuleStretch}
use Rattle.driver_rules.proofs.Callers.{trail_is, rules_open, rules_row, rules_close, rest_steps}
use Rattle.laws_bring_up.proofs.Callers.{AreCalm}
use Rattle.recording_driver.specs.RecordRules.{RecordState, record_rules}
use Rattle.recording_driver.specs.RecordingDrivers.{RecordingState, record_state, IsTaskOfRecording, KeepsRecording}
use Rattle.recording_driver.specs.RecordingCalls.{Records}
use Rattle.laws_capture.specs.Taking.{StreamTakes}
use Rattle.laws_capture.specs.Capturing.{CaptureGoesOn}
use Rattle.laws_capture.proofs.StaysGood.{StayGood, begin_good, end_good, steps_good, row_good}
use Rattle.laws_capture.proofs.RecordsCalm.{expected_calm}
use Rattle.laws_capture.proofs.BesideRules.{IsBesideRules, steps_beside, begin_beside, row_beside, end_beside}
use Rattle.laws_capture.proofs.Looks.{all_calm, before_looks}
use Rattle.laws_capture.proofs.RunsTold.{RecordsAll, AreRuns, steps_runs, begin_runs, stretch_runs}
use Rattle.laws_capture.proofs.StreamLooks.{steps_take, mark_takes}
use Rattle.laws_capture.proofs.StreamCalls.{StaysGoodOver, call_takes}
use Rattle.laws_capture.proofs.Given.{Given}

-- a task with the blocks of a driver is one of the driver after a call too
pub task_kept : (old new : RecordingState) (task : Task) → KeepsRecording old new → IsTaskOfRecording old task → IsTaskOfRecording new task
task_kept old new task keeps is = record {
  corb = is.corb ∙ sym (ap (λ (lent : Lent). lent.address) keeps.corb);
  rirb = is.rirb ∙ sym (ap (λ (lent : Lent). lent.address) keeps.rirb);
  list = is.list ∙ sym (ap (λ (lent : Lent). lent.address) keeps.list);
  periods = is.periods ∙ sym (ap addresses_of keeps.periods);
  geometry = is.geometry ∙ sym keeps.geometry;
}

module _ (means : Means) (verbs : RawCodec → List Command) (graphs : List RawCodec) (task : Task) (nid : ℕ)
    (laws : Given means verbs graphs task nid) (lines : List DriverLine) where
  abbrev pub Takes : RecordingState → Telling → Type 0
  Takes driver telling = StreamTakes graphs driver.engine driver.recorder (world_of telling)

  -- what stays of a driver that records
  pub record IsOfTask (driver : RecordingState) : Type 0 where
    pub task_is : IsTaskOfRecording driver task
    pub walked : driver.graphs ≡ graphs
    pub enough : length (walks_over graphs) ≤ driver.sent

  of_kept : (old new : RecordingState) → KeepsRecording old new → IsOfTask old → IsOfTask new
  of_kept old new keeps is = record {
    task_is = task_kept old new task keeps is.task_is;
    walked = keeps.graphs ∙ is.walked;
    enough = subst (λ (sent : ℕ). length (walks_over graphs) ≤ sent) (sym keeps.sent) is.enough;
  }

  -- at the beginning of a stretch
  pub record IsOpened (left : List DriverLine) (turn : Option DriverLine) (driver : RecordingState) (telling : Telling) : Type 0 where
    pub opened : IsOnwardOpen (record_rules task driver.recorder.total) task lines left turn (Some (record_state driver)) [] telling
    pub beside : IsBesideRules task lines driver.sent telling
    pub stays : StayGood means graphs task lines telling
    pub of : IsOfTask driver
    pub stream : Takes driver telling
    pub runs : AreRuns driver true [] telling

  -- ---- between two stretches

  abbrev On : (left : List DriverLine) → RecordingState → Telling → Type 0
  On left driver telling = CaptureGoesOn means graphs task lines left driver telling

  beside_of : (left : List DriverLine) (driver : RecordingState) (telling : Telling) → On left driver telling → IsBesideRules task lines driver.sent telling
  beside_of left driver telling on = record { finds = on.finds; phase_is = on.phase_is; sent_is = on.sent_is; answered = on.answered }

  goes_on : (left : List DriverLine) (driver : RecordingState) (telling : Telling) → IsAtOnwardRest (record_rules task driver.recorder.total) task lines left (Some (record_state driver)) telling
      → IsBesideRules task lines driver.sent telling → StayGood means graphs task lines telling → IsOfTask driver → Takes driver telling → RecordsAll driver telling → On left driver telling
  goes_on left driver telling rest beside stays of stream recorded = record {
    rest = rest;
    finds = beside.finds;
    phase_is = beside.phase_is;
    sent_is = beside.sent_is;
    answered = beside.answered;
    task_is = of.task_is;
    walked = of.walked;
    enough = of.enough;
    set_up = stays.set_up;
    good = stays.good;
    stream = stream;
    recorded = recorded;
  }

  -- no stretch is open
  closed_of : (left : List DriverLine) (driver : RecordingState) (telling : Telling) → On left driver telling → (trail_of task lines telling).within ≡ false
  closed_of left driver telling on = ap (λ (trail : Trail). trail.within) (sym (trail_is (record_rules task driver.recorder.total) task lines telling)) ∙ on.rest.within

  pub record_steps : (left : List DriverLine) (driver : RecordingState) (steps : List Step) (old new : Telling) → Went old new (map Stepped steps) → On left driver old → On left driver new
  record_steps left driver steps old new went on =
      goes_on left driver new (rest_steps (record_rules task driver.recorder.total) task lines left (Some (record_state driver)) steps old new went on.rest)
      (steps_beside task lines driver.sent steps old new went (beside_of left driver old on))
      (steps_good means graphs task lines steps old new went (record { set_up = on.set_up; good = on.good }))
      (record { task_is = on.task_is; walked = on.walked; enough = on.enough })
      (steps_take laws.came laws.recorder laws.taken graphs driver.engine driver.recorder steps old new went on.stream)
      (steps_runs task lines driver steps old new went (closed_of left driver old on) on.recorded)

  -- ---- a stretch begins

  pub record_opens : (left : List DriverLine) (driver : RecordingState) (old new : Telling) → Accessed old new Begin → On left driver old → IsOpened (drop 1 left) (slice_get left 0) driver new
  record_opens left driver old new begins on = record {
    opened = rules_open (record_rules task driver.recorder.total) task lines left (record_state driver) old new begins on.rest;
    beside = begin_beside task lines driver.sent old new begins (beside_of left driver old on);
    stays = begin_good means graphs task lines old new begins (record { set_up = on.set_up; good = on.good });
    of = record { task_is = on.task_is; walked = on.walked; enough = on.enough };
    stream = mark_takes laws.came laws.recorder laws.taken graphs driver.engine driver.recorder Begin old new (tt {0}) begins on.stream;
    runs = begin_runs task lines driver old new begins (closed_of left driver old on) on.recorded;
  }

  -- ---- it makes its accesses, and ends

  -- the accesses that the rules expect submit no command
  pub stretch_calm : (total : ℕ) (state state' : RecordState) (turn : Option DriverLine) (made : List Event) (answered : Bool) → IsRuleStretch (record_rules task total) state turn made answered state' → AreCalm (requests_of made)
  stretch_calm total state state' turn made answered stretch = subst AreCalm (sym stretch.fits) (expected_calm task total state (values_of made) turn)

  pub record StretchEnds (left : List DriverLine) (old new : RecordingState) (telling : Telling) : Type 0 where
    pub rest : IsAtOnwardRest (record_rules task new.recorder.total) task lines left (Some (record_state new)) telling
    pub beside : IsBesideRules task lines new.sent telling
    pub stays : StayGood means graphs task lines telling
    pub of : IsOfTask new
    pub recorded : RecordsAll new telling

  pub stretch_ends : (left : List DriverLine) (turn : Option DriverLine) (old new : RecordingState) (events : List Event) (begun made after : Telling) → Makes events begun made → AreAccesses events
      → ((answered : Bool) → IsRuleStretch (record_rules task old.recorder.total) (record_state old) turn events answered (record_state new)) → KeepsRecording old new → Accessed made after End → IsOpened left turn old begun → StretchEnds left old new after
  stretch_ends left turn old new events begun made after makes are stretch keeps ends opened =
      let total = old.recorder.total in
      let row = rules_row (record_rules task total) task lines left turn (record_state old) [] events begun made makes are opened.opened in
      let answered = (onward_of (record_rules task total) task lines made).answered in
      let rest = rules_close (record_rules task total) task lines left turn (record_state old) (record_state new) events made after ends (stretch answered) row in
      let calm = stretch_calm total (record_state old) (record_state new) turn events answered (stretch answered) in record {
        rest = subst (λ (total : ℕ). IsAtOnwardRest (record_rules task total) task lines left (Some (record_state new)) after) (sym keeps.total) rest;
        beside = subst (λ (sent : ℕ). IsBesideRules task lines sent after) (sym keeps.sent)
            (end_beside task lines old.sent made after laws.silent ends (row_beside task lines old.sent events begun made makes are opened.beside));
        stays = end_good means graphs task lines made after ends (row_good means graphs task lines events begun made makes.by calm opened.stays);
        of = of_kept old new keeps opened.of;
        recorded = stretch_runs task old new turn events answered begun made after makes are ends (stretch answered) keeps opened.of.task_is.geometry opened.runs;
      }

  pub record_call : (left : List DriverLine) (line : DriverLine) (old new : RecordingState) (begun made after : Telling) → IsRecorder old.recorder → Records line.irq old new (Some begun) (Some made) → Accessed made after End
      → HasNotWrapped (world_of made) → IsOpened left (Some line) old begun → On left new after
  record_call left line old new begun made after recorder call ends small opened =
      let ended = stretch_ends left (Some line) old new call.made begun made after call.by.is call.are (λ answered. call.is task line.budget answered opened.of.task_is) call.keeps ends opened in
      goes_on left new after ended.rest ended.beside ended.stays ended.of
      (mark_takes laws.came laws.recorder laws.taken graphs new.engine new.recorder End made after (tt {0}) ends takes) ended.recorded
    where
      good : StaysGoodOver laws.came laws.recorder laws.taken means graphs task.geometry.format nid laws.hears old new (ap (λ (geometry : Geometry). geometry.format) opened.of.task_is.geometry) call.keeps recorder begun
      good irq first begins is_before makes = (row_good means graphs task lines first begun begins makes.by (all_calm first (before_looks irq first is_before)) opened.stays).good

      takes : Takes new made
      takes =
          call_takes laws.came laws.recorder laws.taken means graphs task.geometry.format nid laws.hears old new (ap (λ (geometry : Geometry). geometry.format) opened.of.task_is.geometry) call.keeps recorder
          line.irq call.made begun made call.by.is call.tells.is good small opened.stream

  pub record_runs : (left : List DriverLine) (line : DriverLine) (old new : RecordingState) (before begun made after : Telling) → IsRecorder old.recorder → Accessed before begun Begin
      → Records line.irq old new (Some begun) (Some made) → Accessed made after End → HasNotWrapped (world_of made) → On (line ∷ left) old before → On left new after
  record_runs left line old new before begun made after recorder begins call ends small on =
      record_call left line old new begun made after recorder call ends small (record_opens (line ∷ left) old before begun begins on)
