-- How a driver line that was run for a capture leads on: while codecs come up, at the turn, and while it records.
use Rattle.std.specs.Box.{with_value}
use Rattle.std.proofs.Common.{Box, Global, ◌≡◌, ◌≢◌, ◌≤◌, ◌+◌, ℕ, Bool, true, false, List, [], ◌∷◌, ◌++◌, length, refl, sym, ap, subst, ◌∙◌, arith, Some}
use Rattle.std.specs.Prelude.{Option, None}
use Rattle.analog_in.specs.declared.input.Input.{Input}
use Rattle.dma_pool.specs.Pools.{PoolState}
use Rattle.dma_pool.specs.declared.blocks.Lent.{Lent}
use Rattle.schedule_reader.specs.declared.schedule.Item.{Item}
use Rattle.schedule_reader.specs.declared.schedule.Item.TheVariants.{Drive}
use Rattle.schedule_reader.specs.declared.schedule.DriverLine as scheduled
use Rattle.hda_world.specs.Events.{Event, Begin, End}
use Rattle.hda_world.specs.Tellings.{Telling, Accessed, MakesBy}
use Rattle.command_engine.specs.Engines.{EngineState}
use Rattle.period_writer.specs.declared.geometry.Geometry.{Geometry}
use Rattle.period_writer.specs.declared.course.Ran.{Ran}
use Rattle.period_writer.specs.Runs.{Tally}
use Rattle.period_writer.specs.Blocks.{addresses_of}
use Rattle.period_writer.specs.Writers.{WriterState, tally_of, periods_of}
use Rattle.hda_capture.specs.Recorders as recorders
use Rattle.driver_progress.specs.declared.phase.Phase.{Phase}
use Rattle.driver_progress.specs.declared.phase.Phase.TheVariants.{Ready}
use Rattle.driver_progress.specs.Phases.{is_ready}
use Rattle.driver_progress.specs.Tasks.{Task}
use Rattle.driver_bring_up.specs.Calls.{IsKept}
use Rattle.audio_driver.specs.States.{phase_of, phase_if}
use Rattle.audio_driver.specs.Drivers.{DriverState, KeepsTerms, TakesBlocks}
use Rattle.audio_driver.specs.Opening.{OpensDriver}
use Rattle.audio_driver.specs.Parting.{ArePartsOf}
use Rattle.audio_driver.specs.declared.driver.parting.Parts.{Parts as Left}
use Rattle.recording_driver.specs.RecordingDrivers.{RecordingState, IsRecordingDriver, IsTaskOfRecording, KeepsRecording, OpensRecording}
use Rattle.recording_driver.specs.RecordingCalls.{Records}
use Rattle.laws_driver.specs.Keeping.{Calls}
use Rattle.laws_capture.specs.Capturing.{IsMadeOf}
use Rattle.rig.specs.Rigs.{telling_of, setting_of, told_whole}
use Rattle.rig.specs.Stretches.{IsStretchFrom}
use Rattle.rig.specs.declared.rig.Rig.{Rig}
use Rattle.program_runs.specs.Lines.{driver_line_of}
use Rattle.program_runs.specs.FirstFits.{AreFirstFits}
use Rattle.program_runs.proofs.Callers.{FollowsLine, Run, run_of, short_before, not_wrapped}
use Rattle.program_captures.specs.declared.terms.CaptureTerms.{CaptureTerms}
use Rattle.program_captures.specs.declared.capturer.Capturer.{Capturer}
use Rattle.program_captures.specs.declared.capturer.Capturer.TheVariants.{Coming, Recording}
use Rattle.program_captures.specs.Capturing.{CaptureRan, RecordsLine, IsComingFor, IsRecordingFor, AreFitsOf, means_of, total_of, parts_with, recorder_blocks}
use Rattle.program_captures.proofs.Going.{KeepsFor}

-- ---- phases

pub not_ready : (phase : Phase) → phase ≢ Ready → is_ready phase ≡ false
not_ready Ready other = absurd (other refl)
not_ready phase other = refl

-- without a run the phase is that of the bring-up
pub silent_phase : (terms : CaptureTerms) (driver : DriverState Input) → IsComingFor terms driver → phase_of driver.bring_up driver.writer ≡ driver.bring_up.phase
silent_phase terms driver coming =
    ap (λ (tally : Tally). phase_if tally.course.started driver.bring_up.phase tally.course.ran) coming.fresh

-- ---- while codecs come up

-- a call leaves it as it is to be
pub coming_stays : (terms : CaptureTerms) (old new : DriverState Input) → IsComingFor terms old → IsKept old.bring_up new.bring_up → KeepsTerms old new → new.writer ≡ old.writer → new.supply ≡ old.supply → IsComingFor terms new
coming_stays terms old new coming kept keeps writer supply = record {
  setter = keeps.setter ∙ coming.setter;
  play = keeps.play ∙ coming.play;
  geometry = keeps.geometry ∙ coming.geometry;
  format = new.bring_up.formats ∙ kept.format ∙ sym old.bring_up.formats ∙ coming.format;
  fresh = ap (λ (w : WriterState). tally_of w) writer ∙ coming.fresh;
  silent = supply ∙ coming.silent;
  runs = keeps.runs ∙ coming.runs;
  free = coming.free;
  all_free = coming.all_free;
  takes = subst (λ (pool : PoolState). OpensDriver terms.geometry coming.free new.bring_up.engine.corb.address new.bring_up.engine.rirb.address new.writer.list.address (periods_of new.writer) pool) (sym keeps.pool)
      (subst (λ (w : WriterState). OpensDriver terms.geometry coming.free new.bring_up.engine.corb.address new.bring_up.engine.rirb.address w.list.address (periods_of w) old.pool) (sym writer)
      (subst (λ (rirb : Lent). OpensDriver terms.geometry coming.free new.bring_up.engine.corb.address rirb.address old.writer.list.address (periods_of old.writer) old.pool) (sym kept.rirb)
      (subst (λ (corb : Lent). OpensDriver terms.geometry coming.free corb.address old.bring_up.engine.rirb.address old.writer.list.address (periods_of old.writer) old.pool) (sym kept.corb) coming.takes)));
}

module _ (terms : CaptureTerms) (keeps : KeepsFor terms) (follows : FollowsLine) (line : scheduled.DriverLine) (old new : Box (DriverState Input) Global) (before after : Rig) (begun made : Telling) where
  pub coming_ran : Accessed (telling_of before) begun Begin → is_ready old.value.bring_up.phase ≡ false
      → Calls (means_of terms) false line.irq line.budget (parts_with old.value.bring_up old.value.writer) (parts_with new.value.bring_up new.value.writer) (Some begun) (Some made) → Accessed made (telling_of after) End
      → IsStretchFrom (length (telling_of before).journal) line.groups (telling_of after).journal → IsKept old.value.bring_up new.value.bring_up → new.value.calls ≡ old.value.calls + 1 → IsComingFor terms new.value
      → (setting_of after).in_run ≡ false → (setting_of after).machine ≡ (setting_of before).machine
      → CaptureRan terms (Drive line ∷ []) (Coming old) (Coming new) before after
  coming_ran opened early calls ended stretched kept more stays between machine =
      let leads = calls.leads refl in
      let run : Run leads.made (telling_of before) (telling_of after) = run_of leads.made (telling_of before) begun made (telling_of after) opened leads.by.is.by ended in
      record {
        events = run.events;
        went = run.went;
        follow = follows line (telling_of before).journal run.events (subst (λ (journal : List Event). IsStretchFrom (length (telling_of before).journal) line.groups journal) run.went.journal stretched);
        leads = λ verbs graphs task nid all left is has short on.
            ((keeps verbs graphs task nid is).calls all left (driver_line_of line) (parts_with old.value.bring_up old.value.writer) (parts_with new.value.bring_up new.value.writer) (telling_of before) begun made (telling_of after) opened early calls ended
            (not_wrapped made (short_before made (telling_of after) _ ended.went short)) on);
        keeps = λ task has. has;
        stays = stays;
        corb = ap (λ (lent : Lent). lent.address) kept.corb;
        rirb = ap (λ (lent : Lent). lent.address) kept.rirb;
        calls = omega (arith, more);
        between = between;
        machine = machine;
      }

-- what is said of a driver in memory of its own is said of it in any other
rehoused : (terms : CaptureTerms) (items : List Item) (old other : Box (DriverState Input) Global) (new : Capturer) (before after : Rig) → CaptureRan terms items (Coming old) new before after → CaptureRan terms items (Coming (with_value other old.value)) new before after
rehoused terms items old other new before after ran = record {
  events = ran.events;
  went = ran.went;
  follow = ran.follow;
  leads = ran.leads;
  keeps = ran.keeps;
  stays = ran.stays;
  corb = ran.corb;
  rirb = ran.rirb;
  calls = ran.calls;
  between = ran.between;
  machine = ran.machine;
}

pub ran_in : (terms : CaptureTerms) (items : List Item) (old other : Box (DriverState Input) Global) (new : Capturer) (before after : Rig) → old.value ≡ other.value → CaptureRan terms items (Coming old) new before after → CaptureRan terms items (Coming other) new before after
ran_in terms items old other new before after same ran = subst (λ (driver : DriverState Input). CaptureRan terms items (Coming (with_value other driver)) new before after) same (rehoused terms items old other new before after ran)

-- ---- while it records

-- a task of one is one of the other
pub task_before : (old new : RecordingState) (task : Task) → KeepsRecording old new → IsTaskOfRecording new task → IsTaskOfRecording old task
task_before old new task kept has = record {
  corb = has.corb ∙ ap (λ (lent : Lent). lent.address) kept.corb;
  rirb = has.rirb ∙ ap (λ (lent : Lent). lent.address) kept.rirb;
  list = has.list ∙ ap (λ (lent : Lent). lent.address) kept.list;
  periods = has.periods ∙ ap addresses_of kept.periods;
  geometry = has.geometry ∙ kept.geometry;
}

-- a call leaves it as it is to be
pub recording_stays : (terms : CaptureTerms) (old new : RecordingState) → IsRecordingFor terms old → KeepsRecording old new → IsRecordingFor terms new
recording_stays terms old new recording kept =
    let fits = recording.first_fits in record {
      geometry = kept.geometry ∙ recording.geometry;
      total_is = kept.total ∙ recording.total_is;
      runs = kept.runs ∙ recording.runs;
      first_fits = record {
        free = fits.free;
        taken = fits.taken;
        all_free = fits.all_free;
        opens = subst (λ (periods : List Lent). OpensDriver terms.geometry fits.free new.engine.corb.address new.engine.rirb.address new.recorder.list.address (addresses_of periods) fits.taken) (sym kept.periods)
            (subst (λ (list : Lent). OpensDriver terms.geometry fits.free new.engine.corb.address new.engine.rirb.address list.address (recorders.periods_of old.recorder) fits.taken) (sym kept.list)
            (subst (λ (rirb : Lent). OpensDriver terms.geometry fits.free new.engine.corb.address rirb.address old.recorder.list.address (recorders.periods_of old.recorder) fits.taken) (sym kept.rirb)
            (subst (λ (corb : Lent). OpensDriver terms.geometry fits.free corb.address old.engine.rirb.address old.recorder.list.address (recorders.periods_of old.recorder) fits.taken) (sym kept.corb) fits.opens)));
        corb_aligned = new.engine.corb.aligned;
        rirb_aligned = new.engine.rirb.aligned;
      };
    }

-- a line was run for it
pub line_recorded : (terms : CaptureTerms) → FollowsLine → (line : scheduled.DriverLine) (old new : RecordingState) (before after : Rig) (begun made : Telling) → IsRecordingFor terms old → IsRecordingDriver old → recorders.IsRecorder old.recorder
    → Accessed (telling_of before) begun Begin → Records line.irq old new (Some begun) (Some made) → Accessed made (telling_of after) End → IsStretchFrom (length (telling_of before).journal) line.groups (telling_of after).journal
    → KeepsRecording old new → new.calls ≡ old.calls + 1 → (setting_of after).in_run ≡ false → (setting_of after).machine ≡ (setting_of before).machine → RecordsLine terms line old new before after
line_recorded terms follows line old new before after begun made recording of_driver of_recorder opened records ended stretched kept more between machine =
    let run : Run records.made (telling_of before) (telling_of after) = run_of records.made (telling_of before) begun made (telling_of after) opened records.by.is.by ended in
    record {
      driver = of_driver;
      recorder = of_recorder;
      begun = begun;
      made = made;
      opened = opened;
      records = records;
      ended = ended;
      events = run.events;
      went = run.went;
      follow = follows line (telling_of before).journal run.events (subst (λ (journal : List Event). IsStretchFrom (length (telling_of before).journal) line.groups journal) run.went.journal stretched);
      kept = kept;
      stays = recording_stays terms old new recording kept;
      calls = more;
      between = between;
      machine = machine;
    }

pub recorded_ran : (terms : CaptureTerms) → KeepsFor terms → (line : scheduled.DriverLine) (old new : Box RecordingState Global) (before after : Rig) → RecordsLine terms line old.value new.value before after
    → CaptureRan terms (Drive line ∷ []) (Recording old) (Recording new) before after
recorded_ran terms keeps line old new before after ran =
    let more = ran.calls in record {
      events = ran.events;
      went = ran.went;
      follow = ran.follow;
      leads = λ verbs graphs task nid all left is has short on.
          ((keeps verbs graphs task nid is).records_runs all left (driver_line_of line) old.value new.value (telling_of before) ran.begun ran.made (telling_of after) ran.driver ran.recorder ran.opened ran.records ran.ended
          (not_wrapped ran.made (short_before ran.made (telling_of after) _ ran.ended.went short)) on);
      keeps = λ task has. task_before old.value new.value task ran.kept has;
      stays = ran.stays;
      corb = ap (λ (lent : Lent). lent.address) ran.kept.corb;
      rirb = ap (λ (lent : Lent). lent.address) ran.kept.rirb;
      calls = omega (arith, more);
      between = ran.between;
      machine = ran.machine;
    }

-- ---- the turn

-- the blocks of its parts are those of the driver
pub fits_of : (terms : CaptureTerms) (driver : DriverState Input) (parts : Left) → IsComingFor terms driver → ArePartsOf driver parts → AreFitsOf terms.geometry parts
fits_of terms driver parts coming are = record {
  free = coming.free;
  all_free = coming.all_free;
  opens = subst (λ (pool : PoolState). OpensDriver terms.geometry coming.free parts.engine.corb.address parts.engine.rirb.address parts.writer.list.address (periods_of parts.writer) pool) (sym are.pool)
      (subst (λ (w : WriterState). OpensDriver terms.geometry coming.free parts.engine.corb.address parts.engine.rirb.address w.list.address (periods_of w) driver.pool) (sym are.writer)
      (subst (λ (engine : EngineState). OpensDriver terms.geometry coming.free engine.corb.address engine.rirb.address driver.writer.list.address (periods_of driver.writer) driver.pool) (sym are.engine) coming.takes));
}

-- one that records was made of them
pub made_of : (terms : CaptureTerms) (driver : DriverState Input) (parts : Left) (opened : RecordingState) → ArePartsOf driver parts → OpensRecording parts terms.runs (total_of terms) opened
    → IsMadeOf (parts_with driver.bring_up driver.writer) (total_of terms) opened
made_of terms driver parts opened are opens = record {
  engine = opens.engine ∙ are.engine;
  geometry = opens.geometry ∙ ap (λ (w : WriterState). w.geometry) are.writer;
  sent = opens.sent ∙ are.sent;
  graphs = opens.graphs ∙ ap (λ v. v.items) are.graphs;
  total_is = opens.total_is;
  fresh = opens.fresh;
  none = opens.none;
}

pub opened_recording : (terms : CaptureTerms) (parts : Left) (opened : RecordingState) → parts.writer.geometry ≡ terms.geometry → OpensRecording parts terms.runs (total_of terms) opened → AreFirstFits terms.geometry (recorder_blocks opened)
    → IsRecordingFor terms opened
opened_recording terms parts opened ring opens fits = record { geometry = opens.geometry ∙ ring; total_is = opens.total_is; runs = opens.runs_is; first_fits = fits }

pub turned_ran : (terms : CaptureTerms) → KeepsFor terms → (line : scheduled.DriverLine) (boxed : Box (DriverState Input) Global) (parts : Left) (opened : RecordingState) (new : Box RecordingState Global) (before after : Rig) → IsComingFor terms boxed.value → ArePartsOf boxed.value parts
    → OpensRecording parts terms.runs (total_of terms) opened → RecordsLine terms line opened new.value before after → CaptureRan terms (Drive line ∷ []) (Coming boxed) (Recording new) before after
turned_ran terms keeps line boxed parts opened new before after coming are opens ran =
    let driver = boxed.value in
    let none = opens.calls_is in
    let more = ran.calls in
    let engine : opened.engine ≡ driver.bring_up.engine = opens.engine ∙ are.engine in
    let ready : driver.bring_up.phase ≡ Ready = sym (silent_phase terms driver coming) ∙ are.ready in
    record {
      events = ran.events;
      went = ran.went;
      follow = ran.follow;
      leads = λ verbs graphs task nid all left is has short on.
          ((keeps verbs graphs task nid is).turns all left (driver_line_of line) (parts_with driver.bring_up driver.writer) opened new.value (telling_of before) ran.begun ran.made (telling_of after) ready
          (made_of terms driver parts opened are opens) ran.driver ran.recorder (task_before opened new.value task ran.kept has) ran.opened ran.records ran.ended
          (not_wrapped ran.made (short_before ran.made (telling_of after) _ ran.ended.went short)) (told_whole before) on);
      keeps = λ task has. tt;
      stays = ran.stays;
      corb = ap (λ (lent : Lent). lent.address) ran.kept.corb ∙ ap (λ (e : EngineState). e.corb.address) engine;
      rirb = ap (λ (lent : Lent). lent.address) ran.kept.rirb ∙ ap (λ (e : EngineState). e.rirb.address) engine;
      calls = omega (arith, none, more);
      between = ran.between;
      machine = ran.machine;
    }
