use Rattle.std.proofs.Common.{◌≡◌, ◌%◌, ◌*◌, ◌∙◌, ℕ, length, None, sym, subst, ap, inl, inr, arith}
use Rattle.std.specs.Prelude.{All, Contains}
use Rattle.std.proofs.lemmas.List.{length-replicate}
use Rattle.std.proofs.Math.Nat.{zero-mod}
use Rattle.world_streams.specs.declared.buffers.TheConstants.{BUFFER_ENTRY_BYTES}
use Rattle.dma_pool.specs.declared.blocks.Lent.{Lent}
use Rattle.dma_pool.specs.Pools.{PoolState, AddsRun, HasNoRun, granules_for}
use Rattle.dma_pool.specs.Blocks.{run_at}
use Rattle.stream_format.specs.Cadence.{block_bytes}
use Rattle.period_writer.specs.Rings.{period_bytes, list_bytes}
use Rattle.dma_pool.specs.Several.{TakesFirst, TakesAll, MeetsNoRun}
use Rattle.period_writer.specs.Blocks.{IsBesideAll, addresses_of}
use Rattle.dma_pool.proofs.Callers.{at_error, at_success, given_back}
use Rattle.period_writer.proofs.Callers.{addresses_long, taken_apart, taken_beside, taken_owned, takes_keep}
use Rattle.hda_capture.specs.declared.course.RecordCourse.{RecordCourse}
use Rattle.hda_capture.specs.Recorders.{IsRecordCourse, bytes_read}
use Rattle.hda_capture.specs.Recordings.{record_measures}
use Rattle.hda_capture.proofs.RecordCourses.{course_opens}
use Rattle.hda_capture.proofs.recorder.Recorder.open_blocks.Goals as goal

pub returns-in_default-take-clause-no_run : goal.returns-in_default-take-clause-no_run
returns-in_default-take-clause-no_run c = λ is.
    let e : c.from.result ≡ c.args.geometry.periods = c.from.ensures ∙ c.periods.ensures in
    inl (subst (λ (n : ℕ). HasNoRun c.args.pool.now.granules c.args.pool.now.taken (granules_for (BUFFER_ENTRY_BYTES * n))) e c.in_default-take.ensures.none)

pub returns-then-is_err-clause-no_run : goal.returns-then-is_err-clause-no_run
returns-then-is_err-clause-no_run c = λ is.
    let e : c.from.result ≡ c.args.geometry.periods = c.from.ensures ∙ c.periods.ensures in
    let none = at_error c.take_periods.result _ c.if-is_err.ensures.value c.take_periods.ensures.none in
    inr (record {
      list = c.in-Ok-take.list.address;
      middle = c.take.new.self.taken;
      list_taken = subst (λ (n : ℕ). TakesFirst c.args.pool.now.granules (BUFFER_ENTRY_BYTES * n) c.args.pool.now.taken c.in-Ok-take.list.address c.take.new.self.taken) e
          (record { fits = c.in-Ok-take.ensures.fits; adds = c.in-Ok-take.ensures.takes });
      none = subst (λ (granules : ℕ). MeetsNoRun granules (period_bytes c.args.geometry.period) c.args.geometry.periods c.take.new.self.taken) c.in-Ok-take.ensures.granules
          (subst (λ (count : ℕ). MeetsNoRun c.take.new.self.granules (period_bytes c.args.geometry.period) count c.take.new.self.taken) (ap length c.in-Ok.ensures.places ∙ length-replicate c.args.geometry.periods None)
          (subst (λ (bytes : ℕ). MeetsNoRun c.take.new.self.granules bytes (length c.in-Ok.room.places.items) c.take.new.self.taken) c.period_bytes.ensures none));
    })

pub returns-then-is_err-clause-unchanged : goal.returns-then-is_err-clause-unchanged
returns-then-is_err-clause-unchanged c =
    let same : c.take_periods.new.pool ≡ c.take.new.self = at_error c.take_periods.result _ c.if-is_err.ensures.value c.take_periods.ensures.unchanged in
    let list = c.in-Ok-take.list in
    given_back c.args.pool.now c.take.new.self c.give.new.self (run_at c.in-Ok-take.list.address c.in-Ok-take.list.bytes) c.in-Ok-take.ensures.fresh
    (subst (λ (n : ℕ). AddsRun c.args.pool.now.taken (run_at c.in-Ok-take.list.address n) c.take.new.self.taken) (sym c.in-Ok-take.ensures.bytes) c.in-Ok-take.ensures.takes)
    (subst (λ (pool : PoolState). AddsRun c.give.new.self.taken (run_at c.in-Ok-take.list.address c.in-Ok-take.list.bytes) pool.taken) same c.give.ensures.gives)
    c.in-Ok-take.ensures.granules
    (subst (λ (pool : PoolState). c.give.new.self.granules ≡ pool.granules) same c.give.ensures.granules)

-- the periods that were taken, after the list
periods : (c : goal.After-course_opened) → TakesAll c.args.pool.now.granules (period_bytes c.args.geometry.period) c.take.new.self.taken (addresses_of c.take_periods.new.periods.items) c.take_periods.new.pool.taken
periods c =
    let takes = at_success c.take_periods.result _ c.if-is_err.ensures.value c.take_periods.ensures.takes in
    subst (λ (granules : ℕ). TakesAll granules (period_bytes c.args.geometry.period) c.take.new.self.taken (addresses_of c.take_periods.new.periods.items) c.take_periods.new.pool.taken) c.in-Ok-take.ensures.granules
    (subst (λ (bytes : ℕ). TakesAll c.take.new.self.granules bytes c.take.new.self.taken (addresses_of c.take_periods.new.periods.items) c.take_periods.new.pool.taken) c.period_bytes.ensures takes)

list_owned : (c : goal.After-course_opened) → Contains c.take.new.self.taken (run_at c.in-Ok-take.list.address (list_bytes c.args.geometry.periods))
list_owned c =
    let e : c.from.result ≡ c.args.geometry.periods = c.from.ensures ∙ c.periods.ensures in
    subst (λ (n : ℕ). Contains c.take.new.self.taken (run_at c.in-Ok-take.list.address n)) (c.in-Ok-take.ensures.bytes ∙ ap (λ (n : ℕ). BUFFER_ENTRY_BYTES * n) e) c.in-Ok-take.ensures.owned

pub invariant_of-result : goal.invariant_of-result
invariant_of-result c =
    let e : c.from.result ≡ c.args.geometry.periods = c.from.ensures ∙ c.periods.ensures in
    let number = at_success c.take_periods.result _ c.if-is_err.ensures.value c.take_periods.ensures.number in
    let none = ap length c.in-Ok.ensures.runs in
    let still : c.course_opened.result.read ≡ 0 = ap (λ (course : RecordCourse). course.read) c.course_opened.ensures in (
      record {
        list_size = c.lend.ensures.bytes ∙ c.in-Ok-take.ensures.bytes ∙ ap (λ (n : ℕ). BUFFER_ENTRY_BYTES * n) e;
        number = number ∙ ap length c.in-Ok.ensures.places ∙ length-replicate c.args.geometry.periods None;
        sizes = subst (λ (bytes : ℕ). All (λ (lent : Lent). lent.bytes ≡ bytes) c.take_periods.new.periods.items) c.period_bytes.ensures
            (at_success c.take_periods.result _ c.if-is_err.ensures.value c.take_periods.ensures.sizes);
        apart = taken_apart _ (period_bytes c.args.geometry.period) _ c.take_periods.new.periods.items _ (periods c);
        beside = subst (λ (address : ℕ). IsBesideAll address (list_bytes c.args.geometry.periods) (period_bytes c.args.geometry.period) (addresses_of c.take_periods.new.periods.items)) (sym c.lend.ensures.address)
            (taken_beside _ (period_bytes c.args.geometry.period) c.in-Ok-take.list.address (list_bytes c.args.geometry.periods) _ c.take_periods.new.periods.items _ c.in-Ok-take.list.aligned (list_owned c) (periods c));
        some_records = omega (arith, c.max-records.ensures);
        few_records = omega (arith, c.max-records.ensures);
        few_runs = omega (arith, none);
        few_bytes = c.requires.few;
        whole_total = c.requires.whole;
        course_is = subst (λ (runs : ℕ). IsRecordCourse (record_measures c.args.geometry c.args.total) runs c.course_opened.result) (sym none)
            (subst (IsRecordCourse (record_measures c.args.geometry c.args.total) 0) (sym c.course_opened.ensures) (course_opens _));
        bytes_are = ap length c.in-Ok.ensures.bytes ∙ sym still;
        reads = ap bytes_read c.in-Ok.ensures.runs ∙ sym still;
        whole_read = λ all. ap (λ (n : ℕ). n % block_bytes c.args.geometry.format) still ∙ zero-mod (block_bytes c.args.geometry.format);
      },
      record {
        buffer_size = c.in-Ok.ensures.buffer;
        runs_room = c.in-Ok.ensures.runs_room;
        bytes_room = c.in-Ok.ensures.bytes_room;
      },
    )

pub returns-clause-opens : goal.returns-clause-opens
returns-clause-opens c =
    let e : c.from.result ≡ c.args.geometry.periods = c.from.ensures ∙ c.periods.ensures in
    let number = at_success c.take_periods.result _ c.if-is_err.ensures.value c.take_periods.ensures.number in
    record {
      middle = c.take.new.self.taken;
      list_taken = subst (λ (address : ℕ). TakesFirst c.args.pool.now.granules (list_bytes c.args.geometry.periods) c.args.pool.now.taken address c.take.new.self.taken) (sym c.lend.ensures.address)
          (subst (λ (n : ℕ). TakesFirst c.args.pool.now.granules (BUFFER_ENTRY_BYTES * n) c.args.pool.now.taken c.in-Ok-take.list.address c.take.new.self.taken) e
          (record { fits = c.in-Ok-take.ensures.fits; adds = c.in-Ok-take.ensures.takes }));
      periods_taken = periods c;
      number = addresses_long c.take_periods.new.periods.items ∙ number ∙ ap length c.in-Ok.ensures.places ∙ length-replicate c.args.geometry.periods None;
      granules = c.take_periods.ensures.granules ∙ c.in-Ok-take.ensures.granules;
    }

pub returns-clause-owns : goal.returns-clause-owns
returns-clause-owns c = record {
  list = subst (λ (address : ℕ). Contains c.take_periods.new.pool.taken (run_at address (list_bytes c.args.geometry.periods))) (sym c.lend.ensures.address)
      (takes_keep _ (period_bytes c.args.geometry.period) _ (addresses_of c.take_periods.new.periods.items) _ _ (periods c) (list_owned c));
  periods = taken_owned _ (period_bytes c.args.geometry.period) _ c.take_periods.new.periods.items _ (periods c);
}
