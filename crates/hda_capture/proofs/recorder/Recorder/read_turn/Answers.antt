use Rattle.std.proofs.Common.{◌≡◌, ◌≤◌, ◌<◌, ◌+◌, ◌-◌, ◌∙◌, ℕ, List, length, take, ap, sym, subst, arith, if◌then◌else◌}
use Rattle.std.specs.List.{flat_map}
use Rattle.std.specs.Vec.{with_items}
use Rattle.dma_pool.specs.declared.blocks.Lent.{Lent}
use Rattle.stream_format.specs.Cadence.{block_bytes}
use Rattle.period_writer.specs.Rings.{period_bytes}
use Rattle.period_writer.specs.Blocks.{addresses_of}
use Rattle.period_writer.proofs.Callers.{ring_some}
use Rattle.hda_capture.specs.Recordings.{RecordMeasures, RecordTally, facts_of, tally_after, is_record_late, read_upto}
use Rattle.hda_capture.specs.Reading.{ReadsLine}
use Rattle.hda_capture.specs.Turns.{IsTurn, tally_by}
use Rattle.hda_capture.specs.Inside.{state_inside}
use Rattle.hda_capture.specs.Recorders.{RecorderState, tally_of, measures_of, periods_of}
use Rattle.hda_capture.specs.Calls.{ReadsTurn}
use Rattle.hda_capture.proofs.RecordCourses.{IsRecordTally, tally_keeps, whole_up, bytes_long}
use Rattle.hda_capture.proofs.RecordTurns.{turn_so}
use Rattle.hda_capture.proofs.recorder.Recorder.read_turn.Goals as goal

pub invariant_of-self : goal.invariant_of-self
invariant_of-self g c =
    let recorder = state_inside c.self.inside in
    let is = c.self.invariant.0 in
    let room = c.self.invariant.1 in
    let m = measures_of recorder in
    let block = block_bytes recorder.geometry.format in
    let facts = facts_of c.args.turn.from c.args.turn.lpib c.read-to.result in
    let turn : IsTurn m recorder.course c.args.turn = subst (λ (recorder : RecorderState). IsTurn (measures_of recorder) recorder.course c.args.turn) (sym c.self.view_is) c.requires.turn in
    let free : length recorder.runs < recorder.records = subst (λ (recorder : RecorderState). length recorder.runs < recorder.records) (sym c.self.view_is) c.requires.free in
    let measures = c.measures-measures.ensures.value ∙ ap measures_of (sym c.self.view_is) in
    let tally : tally_by c.keep_turn.new.runs.items c.keep_turn.new.course ≡ tally_after m (tally_of recorder) facts =
    subst (λ (m : RecordMeasures). tally_by c.keep_turn.new.runs.items c.keep_turn.new.course ≡ tally_after m (tally_of recorder) facts) measures c.keep_turn.ensures.tally in
    let kept = tally_keeps m block (tally_of recorder) facts (ring_some recorder.geometry.periods recorder.geometry.period recorder.geometry.some_periods recorder.geometry.some) (whole_up block recorder.geometry.fifo) is.whole_total
    (record { course_is = is.course_is; reads = is.reads; whole = is.whole_read }) in
    let now = subst (IsRecordTally m block) (sym tally) kept in
    let bytes : c.keep_turn.new.bytes.items ≡ (if is_record_late m recorder.course c.read-to.result then take recorder.course.read c.read_line.new.recorded.items else c.read_line.new.recorded.items) =
    subst (λ (m : RecordMeasures). c.keep_turn.new.bytes.items ≡ (if is_record_late m recorder.course c.read-to.result then take recorder.course.read c.read_line.new.recorded.items else c.read_line.new.recorded.items)) measures c.keep_turn.ensures.bytes in
    let longer : length c.read_line.new.recorded.items ≡ length recorder.bytes + (read_upto m recorder.course c.args.turn.lpib - recorder.course.read) =
    let len = c.read_line.ensures.length in let up = turn.upto in omega (arith, len, up) in
    let ascends : recorder.course.read ≤ read_upto m recorder.course c.args.turn.lpib = subst (λ (upto : ℕ). recorder.course.read ≤ upto) turn.upto turn.ascends in
    let long = ap length bytes ∙ bytes_long m (tally_of recorder) facts recorder.bytes (flat_map (λ (piece : List ℕ). piece) c.read_line.ensures.reads.pieces) c.read_line.new.recorded.items is.bytes_are c.read_line.ensures.reads.bytes_is longer ascends
    ∙ ap (λ (tally : RecordTally). tally.course.read) (sym tally) in (
      record {
        list_size = is.list_size;
        number = is.number;
        sizes = is.sizes;
        apart = is.apart;
        beside = is.beside;
        some_records = is.some_records;
        few_records = is.few_records;
        few_runs = omega (arith, free, c.keep_turn.ensures.few);
        few_bytes = is.few_bytes;
        whole_total = is.whole_total;
        course_is = now.course_is;
        bytes_are = long;
        reads = now.reads;
        whole_read = now.whole;
      },
      record {
        buffer_size = sym (with_items c.self.inside.buffer c.read_line.new.buffer).ok.0 ∙ c.self.inside.buffer.ok.0 ∙ room.buffer_size;
        runs_room = (let runs = room.runs_room in omega (arith, runs, c.keep_turn.ensures.runs_room));
        bytes_room = (let bytes = room.bytes_room in omega (arith, bytes, c.keep_turn.ensures.bytes_room, c.read_line.ensures.capacity));
      },
    )

pub returns-clause-reads : goal.returns-clause-reads
returns-clause-reads g c =
    let recorder = state_inside c.self.inside in
    let is = c.self.invariant.0 in
    let room = c.self.invariant.1 in
    let turn : IsTurn (measures_of recorder) recorder.course c.args.turn = subst (λ (recorder : RecorderState). IsTurn (measures_of recorder) recorder.course c.args.turn) (sym c.self.view_is) c.requires.turn in
    let measures = c.measures-measures.ensures.value ∙ ap measures_of (sym c.self.view_is) in
    let tally : tally_by c.keep_turn.new.runs.items c.keep_turn.new.course ≡ tally_after (measures_of recorder) (tally_of recorder) (facts_of c.args.turn.from c.args.turn.lpib c.read-to.result) =
    subst (λ (m : RecordMeasures). tally_by c.keep_turn.new.runs.items c.keep_turn.new.course ≡ tally_after m (tally_of recorder) (facts_of c.args.turn.from c.args.turn.lpib c.read-to.result)) measures c.keep_turn.ensures.tally in
    let bytes : c.keep_turn.new.bytes.items ≡ (if is_record_late (measures_of recorder) recorder.course c.read-to.result then take recorder.course.read c.read_line.new.recorded.items else c.read_line.new.recorded.items) =
    subst (λ (m : RecordMeasures). c.keep_turn.new.bytes.items ≡ (if is_record_late m recorder.course c.read-to.result then take recorder.course.read c.read_line.new.recorded.items else c.read_line.new.recorded.items)) measures c.keep_turn.ensures.bytes in
    let size : length c.deref_mut.result.now ≡ period_bytes recorder.geometry.period = ap length c.deref_mut.ensures.value ∙ room.buffer_size in
    let reads : ReadsLine (period_bytes recorder.geometry.period) (periods_of recorder) recorder.course.read c.args.turn.upto recorder.bytes c.read_line.new.recorded.items (g.P.Platform.told c.args.platform.now) (g.P.Platform.told c.read_line.new.platform) =
    subst (λ (size : ℕ). ReadsLine size (periods_of recorder) recorder.course.read c.args.turn.upto recorder.bytes c.read_line.new.recorded.items (g.P.Platform.told c.args.platform.now) (g.P.Platform.told c.read_line.new.platform)) size
    (subst (λ (periods : List Lent). ReadsLine (length c.deref_mut.result.now) (addresses_of periods) recorder.course.read c.args.turn.upto recorder.bytes c.read_line.new.recorded.items (g.P.Platform.told c.args.platform.now) (g.P.Platform.told c.read_line.new.platform)) c.deref.ensures.value c.read_line.ensures.reads) in
    subst (λ (old : RecorderState). ReadsTurn old c.args.turn.from c.args.turn.lpib c.keep_turn.result (state_inside (record c.self.inside { buffer = with_items c.self.inside.buffer c.read_line.new.buffer; runs = c.keep_turn.new.runs; bytes = c.keep_turn.new.bytes; course = c.keep_turn.new.course })) (g.P.Platform.told c.args.platform.now) (g.P.Platform.told c.read-to.new.self)) c.self.view_is
    (turn_so recorder (state_inside (record c.self.inside { buffer = with_items c.self.inside.buffer c.read_line.new.buffer; runs = c.keep_turn.new.runs; bytes = c.keep_turn.new.bytes; course = c.keep_turn.new.course })) c.args.turn c.keep_turn.result c.read-to.result c.read_line.new.recorded.items
    (g.P.Platform.told c.args.platform.now) (g.P.Platform.told c.read_line.new.platform) (g.P.Platform.told c.read-to.new.self)
    turn is.bytes_are reads c.read-to.ensures.told tally c.keep_turn.ensures.answer bytes)
