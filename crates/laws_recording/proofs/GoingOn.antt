-- A later run leaves the recorder as it answers.
use Rattle.std.proofs.Common.{◌≡◌, ◌≤◌, ◌<◌, ◌+◌, ◌-◌, ◌*◌, ◌/◌, ◌%◌, ◌==◌, ◌&&◌, ◌⊎◌, inl, inr, min, max, ℕ, Bool, true, false, List, [], ◌∷◌, ◌++◌, length, Some, if◌then◌else◌, refl, sym, ap, subst, ◌∙◌, arith, rules, length-append}
use Rattle.std.specs.Prelude.{slice_index, slice_range, All, nat_lt}
use Rattle.std.specs.List.{flat_map}
use Rattle.std.proofs.lemmas.Bool.{cases_lt}
use Rattle.std.proofs.lemmas.List.{get_or-append-add, get_or-take}
use Rattle.std.proofs.lemmas.List.Elements.{All-nil, All-cons, All-append}
use Rattle.std.proofs.Math.Nat.{mod-eq_of_lt, mod-lt, mul-le-mul_left, mul-le-mul_right}
use Rattle.std.proofs.lemmas.Nat.{div-add-mod'}
use Rattle.stream_format.specs.Cadence.{block_bytes, most_bytes}
use Rattle.stream_format.proofs.Callers.{some_block}
use Rattle.hda_world.specs.Worlds.{World}
use Rattle.hda_world.specs.Events.{Event, after}
use Rattle.hda_world.specs.Tellings.{Telling, world_of}
use Rattle.hda_world.specs.Moments.{AreWoven}
use Rattle.hda_world.proofs.Callers.{Weaving, woven, world_of-went}
use Rattle.period_writer.specs.declared.geometry.Geometry.{Geometry}
use Rattle.period_writer.specs.Places.{touched}
use Rattle.period_writer.specs.Rings.{ring_bytes, limit_of, blocks_up}
use Rattle.period_writer.specs.Runs.{is_over, position_from}
use Rattle.period_writer.specs.Standing.{Ring, bytes_in, size_of}
use Rattle.period_writer.specs.Outcomes.{HasNotWrapped}
use Rattle.period_writer.proofs.Callers.{some_bytes, ring_some, limit_room, some_fifo, on_time, position_behind, position_there, done_first, done_last, range_long, range_at}
use Rattle.hda_capture.specs.declared.course.Recorded.{Recorded}
use Rattle.hda_capture.specs.declared.course.Recorded.TheVariants.{Recording, Complete, Late}
use Rattle.hda_capture.specs.declared.course.RecordCourse.{RecordCourse}
use Rattle.hda_capture.specs.Recordings.{RecordTally, facts_of, tally_if, run_of, course_after, record_at, read_upto, is_record_late, is_complete_at, ends_in_time}
use Rattle.hda_capture.specs.Recorders.{RecorderState, IsRecorder, KeepsRecorderRing, IsAtBlocks, tally_of, measures_of}
use Rattle.hda_capture.specs.Calls.{RecordsRun, record_accesses, stop_accesses}
use Rattle.laws_recording.specs.Filling.{FillsRing, KeepsPace, recorder_ring, block_in}
use Rattle.laws_recording.specs.Recording.{AreFirstOf, IsRecording, HasRecorded, RecordedAs}
use Rattle.laws_recording.proofs.Wholes.{IsMultiple, ring_whole, times_whole, rest_whole}
use Rattle.laws_recording.proofs.Growing.{Goes, pace_on, goes_both}
use Rattle.laws_recording.proofs.Steps.{goes_on, first_few, first_longer}
use Rattle.laws_recording.proofs.EndedStays.{stop_ends}
use Rattle.laws_recording.proofs.FirstRecording.{same_ring}
use Rattle.laws_recording.proofs.PieceReads.{pieces_first, same_items}
use Rattle.laws_recording.proofs.RunParts.{RunParts, run_parts, row_goes, stop_parts, stop_up}

-- ---- numbers

-- whole blocks that hold the FIFO hold its whole blocks
up_least : (b n k : ℕ) → 1 ≤ b → n ≤ k * b → blocks_up b n ≤ k * b
up_least b n k some holds = by (cases_lt k ((n + (b - 1)) / b)) where
  split : (n + (b - 1)) / b * b + (n + (b - 1)) % b ≡ n + (b - 1)
  split = div-add-mod' (n + (b - 1)) b

  is : blocks_up b n ≡ (n + (b - 1)) / b * b
  is = let both = split in omega (arith, both)

  by : (k < (n + (b - 1)) / b) ⊎ ((n + (b - 1)) / b ≤ k) → blocks_up b n ≤ k * b
  by (inl more) =
      let wide : (k + 1) * b ≤ (n + (b - 1)) / b * b = mul-le-mul_right b (omega (arith, more)) in
      let next : (k + 1) * b ≡ k * b + b = omega arith in
      let both = split in
      absurd (omega (arith, wide, next, both, holds, some))
  by (inr few) =
      let wide : (n + (b - 1)) / b * b ≤ k * b = mul-le-mul_right b few in
      let same = is in
      omega (arith, wide, same)

-- and are no less than it
up_holds : (b n : ℕ) → 1 ≤ b → n ≤ blocks_up b n
up_holds b n some = let small = mod-lt (n + (b - 1)) some in omega (arith, small, some)

-- the ring has room for the FIFO's whole blocks beside what the link frames within the limit take
whole_room : (geometry : Geometry) → most_bytes geometry.format * limit_of geometry.periods geometry.period geometry.fifo geometry.format + blocks_up (block_bytes geometry.format) geometry.fifo ≤ ring_bytes geometry.periods geometry.period
whole_room geometry =
    let b = block_bytes geometry.format in
    let limit = limit_of geometry.periods geometry.period geometry.fifo geometry.format in
    let room = limit_room geometry in
    let most : IsMultiple (block_bytes geometry.format) (most_bytes geometry.format) = record { count = _; is = refl } in
    let left = rest_whole b (ring_bytes geometry.periods geometry.period) (most_bytes geometry.format * limit) (ring_whole geometry) (times_whole b (most_bytes geometry.format) limit most) in
    let is = left.is in
    let holds : geometry.fifo ≤ left.count * block_bytes geometry.format = omega (arith, room, is) in
    let least = up_least b geometry.fifo left.count (some_block geometry.format) holds in
    omega (arith, least, is, room)

upto_stored : (read e behind total left taken fifo : ℕ) → read ≤ left → e ≤ taken → taken ≤ left + fifo → fifo ≤ behind → min (max read (e - behind)) total ≤ left
upto_stored read e behind total left taken fifo a b c d = omega (arith, a, b, c, d)

upto_low : (read e behind total : ℕ) → read ≤ total → read ≤ min (max read (e - behind)) total
upto_low read e behind total a = omega (arith, a)

-- what was read lies no more than the FIFO's whole blocks behind where the run before found the link
caught_up : (at behind total read e : ℕ) → min (at - behind) total ≤ read → read < min (max read (e - behind)) total → at ≤ read + behind
caught_up at behind total read e a b = omega (arith, a, b)

over_true : (limit from to : ℕ) → from + 500 * limit < to → is_over limit from to ≡ true
over_true limit from to more = is_less (500 * limit) (to - from) (omega (arith, more)) where
  is_less : (a b : ℕ) → a < b → nat_lt a b ≡ true
  is_less a b less = search (rules, less)

over_false : (limit from to : ℕ) → to ≤ from + 500 * limit → is_over limit from to ≡ false
over_false limit from to few = is_more (500 * limit) (to - from) (omega (arith, few)) where
  is_more : (a b : ℕ) → b ≤ a → nat_lt a b ≡ false
  is_more a b more = search (rules, more)

is_equal : (a b : ℕ) → (a == b) ≡ true → a ≡ b
is_equal a b same = search (rules, same)

-- what comes after the first of what was taken
follow : (taken bytes more : List ℕ) → AreFirstOf taken (bytes ++ more) → (from to : ℕ) → length bytes ≡ from → length (bytes ++ more) ≡ to → more ≡ slice_range taken from to
follow taken bytes more first from to begins ends = same_items more (slice_range taken from to) long each where
  both : length (bytes ++ more) ≡ length bytes + length more
  both = length-append bytes more

  long : length more ≡ length (slice_range taken from to)
  long =
      let sum = both in
      let all = first_few taken (bytes ++ more) first in
      let range = range_long taken from to (omega (arith, all, ends)) in
      omega (arith, range, sum, begins, ends)

  each : (k : ℕ) → k < length more → slice_index more k ≡ slice_index (slice_range taken from to) k
  each k small =
      let sum = both in
      let place : length bytes + k ≡ from + k = omega (arith, begins) in
      sym (get_or-append-add bytes more k 0)
      ∙ ap (λ (l : List ℕ). slice_index l (length bytes + k)) first
      ∙ get_or-take (length (bytes ++ more)) taken (length bytes + k) 0 (omega (arith, sum, small))
      ∙ ap (slice_index taken) place
      ∙ sym (range_at taken from to k (omega (arith, sum, small, begins, ends)))

-- ---- a later run

module _ (old new : RecorderState) (answer : Recorded) (before after' : Telling) (run : RecordsRun old answer new (Some before) (Some after')) (recording : IsRecording old (world_of before)) where
  weaving : Weaving (record_accesses old (facts_of run.from run.lpib run.to) run.pieces answer) before after'
  weaving = woven run.made.is

  parts : RunParts (recorder_ring old) old.course.read run.from run.lpib run.to run.pieces (stop_accesses answer) weaving.events (world_of before)
  parts = run_parts (recorder_ring old) old.course.read run.from run.lpib run.to run.pieces (stop_accesses answer) weaving.events (world_of before) recording.fills weaving.woven weaving.went.honest

  there : world_of after' ≡ after parts.last parts.done
  there = world_of-went before after' weaving.events weaving.went ∙ parts.ends

  row : Goes (recorder_ring old) parts.found (after parts.row parts.found)
  row = row_goes (recorder_ring old) old.course.read run.from run.lpib run.to run.pieces (stop_accesses answer) weaving.events (world_of before) parts

  -- from where it found the link on, and from its start on
  on : Goes (recorder_ring old) parts.found parts.done
  on = goes_both (recorder_ring old) parts.found (after parts.row parts.found) parts.done row parts.to_done

  up : Goes (recorder_ring old) (world_of before) parts.found
  up = goes_both (recorder_ring old) (world_of before) parts.clock parts.found parts.to_clock parts.to_found

  all : Goes (recorder_ring old) (world_of before) parts.done
  all = goes_both (recorder_ring old) (world_of before) parts.found parts.done up on

  -- the recorder as it was still records at the last clock
  was : IsRecording old parts.done
  was = goes_on old (world_of before) parts.done recording all

  frames_end : parts.done.frames ≤ (world_of after').frames
  frames_end = subst (λ (w : World). parts.done.frames ≤ w.frames) (sym there) (stop_up (recorder_ring old) answer parts.last parts.done parts.to_done.fills parts.last_woven)

  to_small : HasNotWrapped (world_of after') → run.to ≡ 500 * parts.done.frames
  to_small few = let later = frames_end in parts.to_is ∙ mod-eq_of_lt (omega (arith, few, later))

  from_small : HasNotWrapped (world_of after') → run.from ≡ 500 * parts.clock.frames
  from_small few =
      let later = frames_end in
      let first = parts.to_found.grows.up in
      let second = on.grows.up in
      parts.from_is ∙ mod-eq_of_lt (omega (arith, few, later, first, second))

  late_by : (over : Bool) → is_over (measures_of old).limit old.course.from run.to ≡ over → is_record_late (measures_of old) old.course run.to ≡ over
  late_by over is = ap (λ (started : Bool). started && is_over (measures_of old).limit old.course.from run.to) recording.started ∙ is

  -- ---- late, and on time

  pub late_is : HasNotWrapped (world_of after') → old.course.from + 500 * (measures_of old).limit < 500 * (world_of before).frames → is_record_late (measures_of old) old.course run.to ≡ true
  late_is few more =
      let to = to_small few in
      let later = all.grows.up in
      late_by true (over_true (measures_of old).limit old.course.from run.to (omega (arith, more, to, later)))

  pub on_time_is : HasNotWrapped (world_of after') → 500 * (world_of after').frames ≤ old.course.from + 500 * (measures_of old).limit → is_record_late (measures_of old) old.course run.to ≡ false
  on_time_is few within =
      let to = to_small few in
      let later = frames_end in
      late_by false (over_false (measures_of old).limit old.course.from run.to (omega (arith, within, to, later)))

  -- ---- where it found the link

  at_is : record_at (measures_of old) old.course run.lpib ≡ position_from (size_of (recorder_ring old)) old.course.at run.lpib
  at_is = ap (λ (started : Bool). if started then position_from (measures_of old).ring old.course.at run.lpib else 0) recording.started

  some_ring : 1 ≤ size_of (recorder_ring old)
  some_ring = ring_some old.geometry.periods old.geometry.period old.geometry.some_periods old.geometry.some

  before_link : old.course.at ≤ length parts.found.input.entered
  before_link =
      let at = recording.there in
      let long = ap length up.gone.taken ∙ length-append (world_of before).input.entered up.gone.more in
      omega (arith, at, long)

  -- it is never past the link
  at_behind : record_at (measures_of old) old.course run.lpib ≤ length parts.found.input.entered
  at_behind =
      let behind = position_behind (size_of (recorder_ring old)) old.course.at run.lpib (length parts.found.input.entered) some_ring before_link parts.lpib_is in
      let is = at_is in
      omega (arith, behind, is)

  taken_on : length parts.found.input.entered ≤ length parts.done.input.entered
  taken_on = let long = ap length on.gone.taken ∙ length-append parts.found.input.entered on.gone.more in omega (arith, long)

  -- ---- how far it reads

  stored : read_upto (measures_of old) old.course run.lpib ≤ parts.found.input.left
  stored =
      let read : old.course.read ≤ parts.found.input.left = (let before = recording.stored in let later = up.gone.stored in omega (arith, before, later)) in
      upto_stored old.course.read (record_at (measures_of old) old.course run.lpib) (measures_of old).behind old.total parts.found.input.left (length parts.found.input.entered) old.geometry.fifo
      read at_behind parts.to_found.fills.fifo.ahead (up_holds (block_bytes old.geometry.format) old.geometry.fifo (some_block old.geometry.format))

  -- ---- a late run

  module _ (late : is_record_late (measures_of old) old.course run.to ≡ true) (keeps : KeepsRecorderRing old new) where
    late_tally : tally_of new ≡ tally_if true (measures_of old) (tally_of old) (facts_of run.from run.lpib run.to)
    late_tally = run.tally_is ∙ ap (λ (late : Bool). tally_if late (measures_of old) (tally_of old) (facts_of run.from run.lpib run.to)) late

    late_answer : answer ≡ Late old.course.from run.to
    late_answer = run.answer_is ∙ ap (λ (tally : RecordTally). tally.course.recorded) late_tally

    late_bytes : new.bytes ≡ old.bytes
    late_bytes = run.bytes_is ∙ ap (λ (late : Bool). let all : List ℕ = if late then old.bytes else old.bytes ++ flat_map (λ (piece : List ℕ). piece) run.pieces in all) late

    late_ended : HasRecorded old (world_of after') → HasRecorded new (world_of after')
    late_ended ended = record {
      stopped = ended.stopped;
      no_error = ended.no_error;
      started = ap (λ (tally : RecordTally). tally.course.started) late_tally ∙ ended.started;
      whole = record {
        at = ap (λ (ring : Ring). new.course.at % block_in ring) (same_ring old new keeps) ∙ ap (λ (tally : RecordTally). tally.course.at % block_in (recorder_ring old)) late_tally ∙ ended.whole.at;
        runs = subst (λ (ring : Ring). All (IsAtBlocks (block_in ring)) new.runs) (sym (same_ring old new keeps))
            (subst (All (IsAtBlocks (block_in (recorder_ring old)))) (sym (ap (λ (tally : RecordTally). tally.runs) late_tally)) ended.whole.runs);
      };
      first = subst (AreFirstOf (world_of after').input.entered) (sym late_bytes) ended.first;
    }

    pub late_recorded : RecordedAs answer new (world_of after')
    late_recorded =
        let stop = stop_parts (recorder_ring old) parts.last parts.done parts.to_done.fills (subst (λ (a : Recorded). AreWoven (stop_accesses a) parts.last) late_answer parts.last_woven) in
        let ended = stop_ends old stop.still (goes_on old parts.done stop.still was stop.goes) in
        subst (λ (a : Recorded). RecordedAs a new (world_of after')) (sym late_answer) (late_ended (subst (HasRecorded old) (sym (there ∙ stop.ends)) ended))

  -- ---- a run that is not late

  module _ (is : IsRecorder old) (keeps : KeepsRecorderRing old new) (few : HasNotWrapped (world_of after')) (in_time : is_record_late (measures_of old) old.course run.to ≡ false) where
    over : is_over (measures_of old).limit old.course.from run.to ≡ false
    over = sym (ap (λ (started : Bool). started && is_over (measures_of old).limit old.course.from run.to) recording.started) ∙ in_time

    within : parts.done.frames ≤ recording.since + (measures_of old).limit
    within = on_time (measures_of old).limit recording.since parts.done.frames old.course.from run.to recording.clock_from (to_small few) over

    -- so the link is less than a ring on
    link_few : length parts.done.input.entered + (measures_of old).behind ≤ old.course.at + size_of (recorder_ring old)
    link_few =
        let paced = pace_on (recorder_ring old) (record { at = old.course.at; since = recording.since }) (world_of before) parts.done all.grows recording.paced in
        let soon = paced.soon in
        let frames = within in
        let most : most_bytes old.geometry.format * (parts.done.frames - recording.since) ≤ most_bytes old.geometry.format * (measures_of old).limit = mul-le-mul_left (most_bytes old.geometry.format) (omega (arith, frames)) in
        let room = whole_room old.geometry in
        omega (arith, soon, most, room)

    exact : record_at (measures_of old) old.course run.lpib ≡ length parts.found.input.entered
    exact =
        let soon = link_few in
        let later = taken_on in
        let holds = up_holds (block_bytes old.geometry.format) old.geometry.fifo (some_block old.geometry.format) in
        let some = some_fifo old.geometry in
        at_is ∙ position_there (size_of (recorder_ring old)) old.course.at run.lpib (length parts.found.input.entered) some_ring before_link (omega (arith, soon, later, holds, some)) parts.lpib_is

    ascends : old.course.read ≤ read_upto (measures_of old) old.course run.lpib
    ascends = upto_low old.course.read (record_at (measures_of old) old.course run.lpib) (measures_of old).behind old.total is.course_is.wanted

    -- what is read was not replaced
    again : old.course.read < read_upto (measures_of old) old.course run.lpib → (after parts.row parts.found).input.left ≤ old.course.read + size_of (recorder_ring old)
    again more =
        let back = caught_up old.course.at (measures_of old).behind old.total old.course.read (record_at (measures_of old) old.course run.lpib) is.course_is.caught_up more in
        let soon = link_few in
        let behind = parts.to_done.fills.fifo.behind in
        let later = parts.to_done.gone.stored in
        omega (arith, back, soon, behind, later)

    -- the bytes that were recorded, and those that it read
    reads : AreFirstOf (after parts.row parts.found).input.entered (old.bytes ++ flat_map (λ (piece : List ℕ). piece) run.pieces)
        × (length (old.bytes ++ flat_map (λ (piece : List ℕ). piece) run.pieces) ≡ read_upto (measures_of old) old.course run.lpib)
    reads =
        let r = old.course.read in
        let u = read_upto (measures_of old) old.course run.lpib in
        let b = bytes_in (recorder_ring old) in
        let some = some_bytes (recorder_ring old) in
        let first : AreFirstOf parts.found.input.entered old.bytes = subst (λ (taken : List ℕ). AreFirstOf taken old.bytes) (sym up.gone.taken) (first_longer (world_of before).input.entered up.gone.more old.bytes recording.first) in
        let none = done_first b r u some ascends in
        let long = is.bytes_are in
        let got = pieces_first (recorder_ring old) r u run.pieces (touched b r u) 0 (r / b) parts.row parts.found old.bytes (omega arith) (omega arith) run.sizes parts.row_woven parts.row_honest parts.to_found.fills
        first (omega (arith, long, none)) stored again in
        let last = done_last b r u some ascends in
        let order = ascends in
        (got.0, got.1 ∙ omega (arith, last, order))

    new_bytes : new.bytes ≡ old.bytes ++ flat_map (λ (piece : List ℕ). piece) run.pieces
    new_bytes = run.bytes_is ∙ ap (λ (late : Bool). let all : List ℕ = if late then old.bytes else old.bytes ++ flat_map (λ (piece : List ℕ). piece) run.pieces in all) in_time

    new_long : length new.bytes ≡ read_upto (measures_of old) old.course run.lpib
    new_long = ap length new_bytes ∙ reads.1

    new_first : AreFirstOf parts.done.input.entered new.bytes
    new_first =
        subst (AreFirstOf parts.done.input.entered) (sym new_bytes)
        (subst (λ (taken : List ℕ). AreFirstOf taken (old.bytes ++ flat_map (λ (piece : List ℕ). piece) run.pieces)) (sym parts.to_done.gone.taken)
        (first_longer (after parts.row parts.found).input.entered parts.to_done.gone.more (old.bytes ++ flat_map (λ (piece : List ℕ). piece) run.pieces) reads.0))

    -- ---- what is recorded

    timely_tally : tally_of new ≡ tally_if false (measures_of old) (tally_of old) (facts_of run.from run.lpib run.to)
    timely_tally = run.tally_is ∙ ap (λ (late : Bool). tally_if late (measures_of old) (tally_of old) (facts_of run.from run.lpib run.to)) in_time

    course_is : new.course ≡ course_after (measures_of old) old.course (facts_of run.from run.lpib run.to)
    course_is = ap (λ (tally : RecordTally). tally.course) timely_tally

    new_at : new.course.at ≡ length parts.found.input.entered
    new_at = ap (λ (course : RecordCourse). course.at) course_is ∙ exact

    pub new_read : new.course.read ≡ read_upto (measures_of old) old.course run.lpib
    new_read = ap (λ (course : RecordCourse). course.read) course_is

    whole_at : new.course.at % block_in (recorder_ring new) ≡ 0
    whole_at = ap (λ (ring : Ring). new.course.at % block_in ring) (same_ring old new keeps) ∙ ap (λ n. n % block_in (recorder_ring old)) new_at ∙ parts.to_found.fills.whole

    whole_runs : All (IsAtBlocks (block_in (recorder_ring new))) new.runs
    whole_runs =
        let one = run_of (measures_of old) old.course (facts_of run.from run.lpib run.to) in
        let here : one.at % block_in (recorder_ring old) ≡ 0 = ap (λ n. n % block_in (recorder_ring old)) exact ∙ parts.to_found.fills.whole in
        subst (λ (ring : Ring). All (IsAtBlocks (block_in ring)) new.runs) (sym (same_ring old new keeps))
        (subst (All (IsAtBlocks (block_in (recorder_ring old)))) (sym (ap (λ (tally : RecordTally). tally.runs) timely_tally))
        (All-append (IsAtBlocks (block_in (recorder_ring old))) old.runs (one ∷ []) recording.whole.runs (All-cons (IsAtBlocks (block_in (recorder_ring old))) one [] here (All-nil (IsAtBlocks (block_in (recorder_ring old)))))))

    -- the recorder at the last clock, as if it were to record on
    abbrev resumed : RecorderState
    resumed = record new { course = record new.course { recorded = Recording } }

    records_on : IsRecording resumed parts.done
    records_on =
        let at = new_at in
        let read = new_read in
        let later = taken_on in
        let low = stored in
        let up' = on.gone.stored in
        record {
          since = parts.clock.frames;
          clock_from = ap (λ (course : RecordCourse). course.from) course_is ∙ from_small few;
          started = ap (λ (course : RecordCourse). course.started) course_is;
          records = refl;
          whole = record { at = whole_at; runs = whole_runs };
          fills = subst (λ (ring : Ring). FillsRing ring parts.done) (sym (same_ring old new keeps)) parts.to_done.fills;
          paced = subst (λ (ring : Ring). KeepsPace ring (record { at = new.course.at; since = parts.clock.frames }) parts.done) (sym (same_ring old new keeps))
              (pace_on (recorder_ring old) (record { at = new.course.at; since = parts.clock.frames }) parts.found parts.done on.grows
              (record { before = parts.to_found.grows.up; soon = omega (arith, at) }));
          there = omega (arith, at, later);
          stored = omega (arith, read, low, up');
          first = new_first;
        }

    ended_so : HasRecorded resumed (world_of after') → HasRecorded new (world_of after')
    ended_so ended = record { stopped = ended.stopped; no_error = ended.no_error; started = ended.started; whole = record { at = ended.whole.at; runs = ended.whole.runs }; first = ended.first }

    recorded_by : new.course.recorded ≡ ends_in_time (measures_of old) old.course (read_upto (measures_of old) old.course run.lpib)
    recorded_by = ap (λ (course : RecordCourse). course.recorded) course_is

    -- all that was to be recorded was
    completed : answer ≡ Complete → read_upto (measures_of old) old.course run.lpib ≡ old.total → RecordedAs answer new (world_of after')
    completed ends total =
        let stop = stop_parts (recorder_ring old) parts.last parts.done parts.to_done.fills (subst (λ (a : Recorded). AreWoven (stop_accesses a) parts.last) ends parts.last_woven) in
        let goes = subst (λ (ring : Ring). Goes ring parts.done stop.still) (sym (same_ring old new keeps)) stop.goes in
        let ended = stop_ends resumed stop.still (goes_on resumed parts.done stop.still records_on goes) in
        subst (λ (a : Recorded). RecordedAs a new (world_of after')) (sym ends)
        (record { ended = ended_so (subst (HasRecorded resumed) (sym (there ∙ stop.ends)) ended); all = new_long ∙ total ∙ sym keeps.total })

    -- it records on
    continued : answer ≡ Recording → new.course.recorded ≡ Recording → RecordedAs answer new (world_of after')
    continued ends recorded =
        let none : parts.last ≡ [] = subst (λ (a : Recorded). AreWoven (stop_accesses a) parts.last) ends parts.last_woven in
        let at_end : world_of after' ≡ parts.done = there ∙ ap (λ (events : List Event). after events parts.done) none in
        subst (λ (a : Recorded). RecordedAs a new (world_of after')) (sym ends)
        (subst (IsRecording new) (sym at_end) (subst (λ (r : Recorded). IsRecording (record new { course = record new.course { recorded = r } }) parts.done) (sym recorded) records_on))

    pub timely_recorded : RecordedAs answer new (world_of after')
    timely_recorded = by (is_complete_at (measures_of old) old.course (read_upto (measures_of old) old.course run.lpib)) refl where
      by : (complete : Bool) → is_complete_at (measures_of old) old.course (read_upto (measures_of old) old.course run.lpib) ≡ complete → RecordedAs answer new (world_of after')
      by true e =
          let recorded : new.course.recorded ≡ Complete = recorded_by ∙ ap (λ (complete : Bool). let r : Recorded = if complete then Complete else Recording in r) e in
          let total : (read_upto (measures_of old) old.course run.lpib == old.total) ≡ true = sym (ap (λ (started : Bool). started && read_upto (measures_of old) old.course run.lpib == old.total) recording.started) ∙ e in
          completed (run.answer_is ∙ recorded) (is_equal (read_upto (measures_of old) old.course run.lpib) old.total total)
      by false e =
          let recorded : new.course.recorded ≡ Recording = recorded_by ∙ ap (λ (complete : Bool). let r : Recorded = if complete then Complete else Recording in r) e in
          continued (run.answer_is ∙ recorded) recorded

    -- what it read are the bytes that follow
    recorded_first : (a : Recorded) → RecordedAs a new (world_of after') → AreFirstOf (world_of after').input.entered new.bytes
    recorded_first Recording recorded = recorded.first
    recorded_first Complete recorded = recorded.ended.first
    recorded_first (Late from to) recorded = recorded.first

    pub pieces_are : flat_map (λ (piece : List ℕ). piece) run.pieces ≡ slice_range (world_of after').input.entered old.course.read new.course.read
    pieces_are =
        let first : AreFirstOf (world_of after').input.entered (old.bytes ++ flat_map (λ (piece : List ℕ). piece) run.pieces) = subst (AreFirstOf (world_of after').input.entered) new_bytes (recorded_first answer timely_recorded) in
        follow (world_of after').input.entered old.bytes (flat_map (λ (piece : List ℕ). piece) run.pieces) first old.course.read new.course.read is.bytes_are (reads.1 ∙ sym new_read)

-- ---- the whole

pub run_recorded : (old new : RecorderState) (answer : Recorded) (before after' : Telling) → IsRecorder old → KeepsRecorderRing old new → RecordsRun old answer new (Some before) (Some after') → IsRecording old (world_of before)
    → HasNotWrapped (world_of after') → RecordedAs answer new (world_of after')
run_recorded old new answer before after' is keeps run recording few = by (is_record_late (measures_of old) old.course run.to) refl where
  by : (late : Bool) → is_record_late (measures_of old) old.course run.to ≡ late → RecordedAs answer new (world_of after')
  by true late = late_recorded old new answer before after' run recording late keeps
  by false in_time = timely_recorded old new answer before after' run recording is keeps few in_time
