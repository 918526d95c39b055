-- Where a driver begins that was just opened for a capture, and one that was made of its parts.
use Rattle.std.proofs.Common.{◌≡◌, ℕ, List, [], sym, ap, subst, ◌∙◌}
use Rattle.dma_pool.specs.Pools.{PoolState}
use Rattle.dma_pool.specs.declared.blocks.Lent.{Lent}
use Rattle.command_engine.specs.Engines.{EngineState}
use Rattle.period_writer.specs.declared.geometry.Geometry.{Geometry}
use Rattle.period_writer.specs.declared.course.Course.{Course}
use Rattle.period_writer.specs.declared.course.Run.{Run}
use Rattle.period_writer.specs.declared.course.Span.{Span}
use Rattle.period_writer.specs.Runs.{Tally, tally_opened}
use Rattle.period_writer.specs.Opening.{OpensWriter, GivesBack, HasNoRuns}
use Rattle.period_writer.specs.Writers.{WriterState, tally_of, periods_of}
use Rattle.hda_capture.specs.Recorders as recorders
use Rattle.driver_bring_up.specs.declared.bringing.BringUp.{BringUp}
use Rattle.audio_driver.specs.Opening.{IsOpened, OpensDriver}
use Rattle.audio_driver.specs.declared.driver.parting.Parts.{Parts}
use Rattle.recording_driver.specs.RecordingDrivers.{RecordingState, OpensRecording, HasNoRecorderRing}
use Rattle.laws_start.specs.Starting.{IsAllFree}
use Rattle.program_runs.specs.FirstFits.{AreFirstFits}
use Rattle.program_captures.specs.Capturing.{AreFitsOf, recorder_blocks}

abbrev tally_with : List Run → List Span → Course → Tally
tally_with runs silences course = record { runs = runs; silences = silences; course = course }

-- nothing was recorded
pub opened_tally : (geometry : Geometry) (most : ℕ) (bring_up : BringUp) (writer : WriterState) → IsOpened geometry most bring_up writer → tally_of writer ≡ tally_opened
opened_tally geometry most bring_up writer opened =
    ap (λ (runs : List Run). tally_with runs writer.silences writer.course) opened.runs
    ∙ ap (λ (silences : List Span). tally_with [] silences writer.course) opened.silences
    ∙ ap (λ (course : Course). tally_with [] [] course) opened.course

-- what the law says of the blocks of a recorder
abbrev pub HasRoom : Type 0
HasRoom =
    (geometry : Geometry) (free pool middle : PoolState) (corb rirb list : ℕ) (periods : List ℕ) → IsAllFree free → OpensDriver geometry free corb rirb list periods pool → GivesBack geometry pool list periods middle
    → HasNoRuns geometry middle → ⊥

abbrev pub AreFirstAgain : Type 0
AreFirstAgain =
    (geometry : Geometry) (before pool middle pool' : PoolState) (corb rirb list list' : ℕ) (periods periods' : List ℕ) → OpensDriver geometry before corb rirb list periods pool → GivesBack geometry pool list periods middle
    → OpensWriter geometry middle list' periods' pool' → OpensDriver geometry before corb rirb list' periods' pool'

module _ (ring : Geometry) (parts : Parts) (ring_is : parts.writer.geometry ≡ ring) (fits : AreFitsOf ring parts) where
  -- there are runs for them
  pub room_is : HasRoom → HasNoRecorderRing parts → ⊥
  room_is room none =
      room ring fits.free parts.pool none.middle parts.engine.corb.address parts.engine.rirb.address parts.writer.list.address (periods_of parts.writer) fits.all_free fits.opens
      (subst (λ (g : Geometry). GivesBack g parts.pool parts.writer.list.address (periods_of parts.writer) none.middle) ring_is none.gives) (subst (λ (g : Geometry). HasNoRuns g none.middle) ring_is none.none)

  -- and they are first fits again
  pub fits_again : AreFirstAgain → (runs total : ℕ) (driver : RecordingState) → OpensRecording parts runs total driver → AreFirstFits ring (recorder_blocks driver)
  fits_again again runs total driver opens = record {
    free = fits.free;
    taken = driver.pool;
    all_free = fits.all_free;
    opens = subst (λ (engine : EngineState). OpensDriver ring fits.free engine.corb.address engine.rirb.address driver.recorder.list.address (recorders.periods_of driver.recorder) driver.pool) (sym opens.engine)
        (again ring fits.free parts.pool opens.middle driver.pool parts.engine.corb.address parts.engine.rirb.address parts.writer.list.address driver.recorder.list.address (periods_of parts.writer) (recorders.periods_of driver.recorder) fits.opens
        (subst (λ (g : Geometry). GivesBack g parts.pool parts.writer.list.address (periods_of parts.writer) opens.middle) ring_is opens.gives)
        (subst (λ (g : Geometry). OpensWriter g opens.middle driver.recorder.list.address (recorders.periods_of driver.recorder) driver.pool) ring_is opens.takes));
    corb_aligned = driver.engine.corb.aligned;
    rirb_aligned = driver.engine.rirb.aligned;
  }
