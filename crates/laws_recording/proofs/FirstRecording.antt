-- A first run brings about that a recorder records.
use Rattle.std.proofs.Common.{◌≡◌, ◌≤◌, ◌<◌, ◌+◌, ◌-◌, ◌*◌, ◌%◌, ◌^◌, ◌==◌, ◌&&◌, ℕ, zero, suc, Bool, false, List, [], ◌∷◌, ◌++◌, length, map, Some, if◌then◌else◌, refl, sym, ap, subst, ◌∙◌, arith}
use Rattle.std.specs.Prelude.{slice_index, get_or, All, Option, min, max}
use Rattle.std.proofs.lemmas.List.Elements.{All-nil, All-cons, All-head, All-tail, All-append}
use Rattle.std.proofs.lemmas.List.{nil_from_length}
use Rattle.std.proofs.Math.Nat.{mod-eq_of_lt}
use Rattle.dma_pool.specs.declared.blocks.Lent.{Lent}
use Rattle.world_steps.specs.declared.Step.{Step}
use Rattle.hda_registers.specs.declared.shapes.Width.{Width}
use Rattle.hda_registers.specs.declared.shapes.Width.TheVariants.{One, Two, Four}
use Rattle.std.specs.List.{range_with_len}
use Rattle.period_writer.specs.Starting.{entry_write, entry_writes}
use Rattle.laws_recording.proofs.Hearing.{LeavesHearing}
use Rattle.world_streams.specs.Streams.{StreamState}
use Rattle.hda_world.specs.declared.world.TheConstants.{REGION_BYTES}
use Rattle.hda_world.specs.Worlds.{World}
use Rattle.hda_world.specs.Events.{Event, Stepped, Read, Write, after}
use Rattle.hda_world.specs.Tellings.{Telling, world_of}
use Rattle.hda_world.specs.Moments.{AreWoven, AtEach}
use Rattle.hda_world.proofs.Callers.{Weaving, woven, world_of-went, after-append}
use Rattle.period_writer.specs.Blocks.{addresses_of}
use Rattle.period_writer.specs.Standing.{Ring, IsRing, bytes_in, size_of}
use Rattle.stream_format.specs.Words.{format_word}
use Rattle.period_writer.specs.Outcomes.{CanBegin, HasNotWrapped}
use Rattle.period_writer.proofs.Callers.{AreWords, addresses_long}
use Rattle.hda_capture.specs.declared.course.Recorded.TheVariants.{Recording, Complete}
use Rattle.hda_capture.specs.declared.course.RecordedRun.{RecordedRun}
use Rattle.hda_capture.specs.declared.course.RecordCourse.{RecordCourse}
use Rattle.hda_capture.specs.Recordings.{RecordTally, facts_of, tally_if, run_of, course_after, record_at, read_upto}
use Rattle.period_writer.specs.Runs.{is_over, position_from}
use Rattle.hda_capture.specs.declared.course.Recorded.{Recorded}
use Rattle.hda_capture.specs.Starting.{start_accesses, reset_accesses, set_accesses}
use Rattle.world_streams.specs.Streams.{begun}
use Rattle.hda_capture.specs.Recorders.{RecorderState, IsRecorder, KeepsRecorderRing, IsAtBlocks, tally_of, measures_of, periods_of}
use Rattle.hda_capture.specs.Calls.{StartsRecording}
use Rattle.laws_recording.specs.Filling.{FillsRing, recorder_ring, block_in}
use Rattle.laws_recording.specs.Recording.{AreFirstOf, IsRecording}
use Rattle.command_engine.specs.Apart.{IsBesideBoth}
use Rattle.laws_recording.specs.Beside.{LeavesFilling}
use Rattle.laws_recording.proofs.EventsBeside.{events_go}
use Rattle.laws_recording.proofs.Growing.{Goes}
use Rattle.laws_recording.proofs.Steps.{goes_on}
use Rattle.laws_recording.proofs.StartRows.{StartParts, start_parts, rose_fills, risen_by}
use Rattle.laws_recording.proofs.Readying.{Readies, BesideEngine, Rose}

-- ---- its blocks lie in the region

address_small : (lent : Lent) → lent.address < 2 ^ 32
address_small lent = let inside = lent.inside in let some = lent.some in omega (arith, inside, some)

addresses_small : (lents : List Lent) (index : ℕ) → slice_index (addresses_of lents) index < 2 ^ 32
addresses_small [] index = omega arith
addresses_small (lent ∷ lents) zero = address_small lent
addresses_small (lent ∷ lents) (suc index) = addresses_small lents index

pub has_words : (recorder : RecorderState) → AreWords (recorder_ring recorder)
has_words recorder = record { list = address_small recorder.list; periods = λ index within. addresses_small recorder.periods index }

at_lent : (lents : List Lent) (index : ℕ) (d : Lent) → index < length lents → slice_index (addresses_of lents) index ≡ (get_or lents index d).address
at_lent [] index d within = absurd (omega (arith, within))
at_lent (lent ∷ lents) zero d within = refl
at_lent (lent ∷ lents) (suc index) d within = at_lent lents index d (omega (arith, within))

some_lent : (lents : List Lent) (index : ℕ) → index < length lents → Lent
some_lent [] index within = absurd (omega (arith, within))
some_lent (lent ∷ lents) index within = lent

pub has_ring : (recorder : RecorderState) → IsRecorder recorder → IsRing (recorder_ring recorder) REGION_BYTES
has_ring recorder is = record {
  number = addresses_long recorder.periods ∙ is.number;
  aligned = λ index within. let d = lent_of index within in subst (λ (a : ℕ). a % 128 ≡ 0) (sym (address_of index within)) (get_or recorder.periods index d).aligned;
  inside = λ index within.
      let d = lent_of index within in
      let fits = (get_or recorder.periods index d).inside in
      let bytes = is.sizes index d (there index within) in
      let address = address_of index within in
      omega (arith, fits, bytes, address);
  apart = is.apart;
  list_aligned = recorder.list.aligned;
  list_inside = let inside = recorder.list.inside in let size = is.list_size in omega (arith, inside, size);
  list_apart = is.beside;
} where
  there : (index : ℕ) → index < recorder.geometry.periods → index < length recorder.periods
  there index within = let number = is.number in omega (arith, within, number)

  lent_of : (index : ℕ) → index < recorder.geometry.periods → Lent
  lent_of index within = some_lent recorder.periods index (there index within)

  address_of : (index : ℕ) (within : index < recorder.geometry.periods) → slice_index (addresses_of recorder.periods) index ≡ (get_or recorder.periods index (lent_of index within)).address
  address_of index within = at_lent recorder.periods index (lent_of index within) (there index within)

-- ---- events of reads leave the ring alone

woven_over : (P : Event → Type 0) → ((step : Step) → P (Stepped step)) → (before : List Step) (access : Event) (rest : List Event) → P access → All P rest → All P (map Stepped before ++ access ∷ rest)
woven_over P steps [] access rest here all = All-cons P access rest here all
woven_over P steps (step ∷ before) access rest here all = All-cons P (Stepped step) (map Stepped before ++ access ∷ rest) (steps step) (woven_over P steps before access rest here all)

-- what holds of steps and of the accesses holds of all events
pub woven_all : (P : Event → Type 0) → ((step : Step) → P (Stepped step)) → (made events : List Event) → All P made → AreWoven made events → All P events
woven_all P steps [] events all are = subst (All P) (sym are) (All-nil P)
woven_all P steps (access ∷ made) events all (before, rest, are, more) =
    subst (All P) (sym are) (woven_over P steps before access rest (All-head P access made all) (woven_all P steps made rest (All-tail P access made all) more))

-- ---- the accesses up to the rise of RUN leave what is heard

entries_hear : (list : ℕ) (periods : List ℕ) (bytes count first : ℕ) → All LeavesHearing (map (entry_write list periods bytes) (range_with_len first count))
entries_hear list periods bytes zero first = All-nil LeavesHearing
entries_hear list periods bytes (suc count) first =
    All-cons LeavesHearing (entry_write list periods bytes first) (map (entry_write list periods bytes) (range_with_len (first + 1) count)) tt (entries_hear list periods bytes count (first + 1))

stream_hears : (at value : ℕ) (width : Width) (rest : List Event) → 0x80 ≤ at → All LeavesHearing rest → All LeavesHearing (Write at width value ∷ rest)
stream_hears at value width rest above all =
    All-cons LeavesHearing (Write at width value) rest (λ same. absurd (omega (arith, above, same)), λ same. absurd (omega (arith, above, same))) all

reads_hear : (at value : ℕ) (width : Width) (rest : List Event) → All LeavesHearing rest → All LeavesHearing (Read at width value ∷ rest)
reads_hear at value width rest all = All-cons LeavesHearing (Read at width value) rest tt all

risen_hear : (ring : Ring) (words : AreWords ring) (from in_reset ready : ℕ) → All LeavesHearing (risen_by ring words from in_reset ready)
risen_hear ring words from in_reset ready =
    let reset = reset_accesses in_reset ready in
    let entries = entry_writes ring.list ring.periods (bytes_in ring) in
    let registers = set_accesses ring.list ring.geometry in
    let none : All LeavesHearing [] = All-nil LeavesHearing in
    let run : List Event = Write 0x80 One 0x1E ∷ [] in
    let interrupts : List Event = Write 0x20 Four 0xC0000001 ∷ run in
    let tag : List Event = Write 0x80 Four 0x0010001C ∷ interrupts in
    let list : List Event = Write 0x98 Four ring.list ∷ tag in
    let form : List Event = Write 0x92 Two (format_word ring.geometry.format) ∷ list in
    let last : List Event = Write 0x8C Two (ring.geometry.periods - 1) ∷ form in
    reads_hear 0x30 from Four (reset ++ (entries ++ registers))
    (All-append LeavesHearing reset (entries ++ registers)
    (stream_hears 0x80 1 One (Read 0x80 One in_reset ∷ Write 0x80 One 0 ∷ Read 0x80 One ready ∷ []) (omega arith)
    (reads_hear 0x80 in_reset One (Write 0x80 One 0 ∷ Read 0x80 One ready ∷ [])
    (stream_hears 0x80 0 One (Read 0x80 One ready ∷ []) (omega arith) (reads_hear 0x80 ready One [] none))))
    (All-append LeavesHearing entries registers (entries_hear ring.list ring.periods (bytes_in ring) (length ring.periods) 0)
    (stream_hears 0x88 (size_of ring) Four last (omega arith) (stream_hears 0x8C (ring.geometry.periods - 1) Two form (omega arith) (stream_hears 0x92 (format_word ring.geometry.format) Two list (omega arith)
    (stream_hears 0x98 ring.list Four tag (omega arith) (stream_hears 0x80 0x0010001C Four interrupts (omega arith)
    (All-cons LeavesHearing (Write 0x20 Four 0xC0000001) run (λ same. absurd (omega (arith, same)), λ same. absurd (omega (arith, same))) (stream_hears 0x80 0x1E One [] (omega arith) none)))))))))

-- ---- what is recorded

-- the ring stays
pub same_ring : (old new : RecorderState) → KeepsRecorderRing old new → recorder_ring new ≡ recorder_ring old
same_ring old new keeps = by new.geometry new.list new.periods keeps.geometry keeps.list keeps.periods where
  by : (geometry : _) (list : Lent) (periods : List Lent) → geometry ≡ old.geometry → list ≡ old.list → periods ≡ old.periods
      → (let ring : Ring = record { geometry = geometry; list = list.address; periods = addresses_of periods } in ring ≡ recorder_ring old)
  by geometry list periods a b c = cc

none_upto : (read at behind total : ℕ) → read ≡ 0 → at ≡ 0 → min (max read (at - behind)) total ≡ 0
none_upto read at behind total a b = grind (arith, a, b)

module _ (old new : RecorderState) (before after' : Option Telling) (is : IsRecorder old) (keeps : KeepsRecorderRing old new) (fresh : old.course.started ≡ false) (starts : StartsRecording old new before after') where
  no_runs : length old.runs ≡ 0
  no_runs = is.course_is.fresh fresh

  at_none : old.course.at ≡ 0
  at_none =
      let bounded = is.course_is.bounded in
      let none : (measures_of old).ring * length old.runs ≡ 0 = ap (λ n. (measures_of old).ring * n) no_runs ∙ omega arith in
      omega (arith, bounded, none)

  read_none : old.course.read ≡ 0
  read_none = let taken = is.course_is.taken in let none = at_none in omega (arith, taken, none)

  tally_is : tally_of new ≡ tally_if false (measures_of old) (tally_of old) (facts_of starts.from 0 starts.to)
  tally_is =
      starts.tally_is
      ∙ ap (λ (started : Bool). tally_if (started && is_over (measures_of old).limit old.course.from starts.to) (measures_of old) (tally_of old) (facts_of starts.from 0 starts.to)) fresh

  course_is : new.course ≡ course_after (measures_of old) old.course (facts_of starts.from 0 starts.to)
  course_is = ap (λ (tally : RecordTally). tally.course) tally_is

  runs_are : new.runs ≡ old.runs ++ run_of (measures_of old) old.course (facts_of starts.from 0 starts.to) ∷ []
  runs_are = ap (λ (tally : RecordTally). tally.runs) tally_is

  at_first : record_at (measures_of old) old.course 0 ≡ 0
  at_first = ap (λ (started : Bool). if started then position_from (measures_of old).ring old.course.at 0 else 0) fresh

  new_at : new.course.at ≡ 0
  new_at = ap (λ (course : RecordCourse). course.at) course_is ∙ at_first

  new_read : new.course.read ≡ 0
  new_read = ap (λ (course : RecordCourse). course.read) course_is ∙ none_upto old.course.read (record_at (measures_of old) old.course 0) (measures_of old).behind (measures_of old).total read_none at_first

  new_records : new.course.recorded ≡ Recording
  new_records =
      ap (λ (course : RecordCourse). course.recorded) course_is
      ∙ ap (λ (started : Bool). let recorded : Recorded = if started && read_upto (measures_of old) old.course 0 == old.total then Complete else Recording in recorded) fresh

  no_bytes : new.bytes ≡ []
  no_bytes = starts.bytes_is ∙ nil_from_length old.bytes (is.bytes_are ∙ read_none)

  first_bytes : (taken : List ℕ) → AreFirstOf taken new.bytes
  first_bytes taken = subst (AreFirstOf taken) (sym no_bytes) refl

  whole_runs : (block : ℕ) → All (IsAtBlocks block) new.runs
  whole_runs block =
      let run = run_of (measures_of old) old.course (facts_of starts.from 0 starts.to) in
      let at : run.at % block ≡ 0 = ap (λ n. n % block) at_first ∙ omega arith in
      let none : old.runs ++ run ∷ [] ≡ run ∷ [] = ap (λ (front : List RecordedRun). front ++ run ∷ []) (nil_from_length old.runs no_runs) in
      subst (All (IsAtBlocks block)) (sym (runs_are ∙ none)) (All-cons (IsAtBlocks block) run [] at (All-nil (IsAtBlocks block)))

  -- where RUN rose, and so many link frames had passed at the first clock
  begins : (since : ℕ) (world : World) → starts.from ≡ 500 * since → Rose (recorder_ring old) since old.geometry.periods world → IsRecording new world
  begins since world from rose =
      let none = ap (λ (state : StreamState). length state.entered) rose.begun_is in
      let at = new_at in
      let read = new_read in
      record {
        since = since;
        clock_from = ap (λ (course : RecordCourse). course.from) course_is ∙ from;
        started = ap (λ (course : RecordCourse). course.started) course_is;
        records = new_records;
        whole = record { at = ap (λ n. n % block_in (recorder_ring new)) new_at ∙ omega arith; runs = whole_runs (block_in (recorder_ring new)) };
        fills = subst (λ (ring : Ring). FillsRing ring world) (sym (same_ring old new keeps)) (rose_fills (recorder_ring old) (has_words old) since world rose);
        paced = record { before = rose.readies.since_before; soon = omega (arith, none) };
        there = omega (arith, at);
        stored = omega (arith, read);
        first = first_bytes world.input.entered;
      }

-- what a first run leads to
pub record FirstParts (old new : RecorderState) (before after' : Telling) : Type 0 where
  pub risen : World
  pub front : List Event
  pub back : List Event
  pub risen_is : risen ≡ after front (world_of before)
  pub ends : world_of after' ≡ after back risen
  pub anew : risen.input ≡ begun
  pub came : risen.came ≡ []
  pub moments : AtEach (BesideEngine (recorder_ring old)) front (world_of before)
  pub hearing : All LeavesHearing front
  pub leave : All (LeavesFilling (recorder_ring old)) back
  pub both : All IsBesideBoth back
  pub fills : FillsRing (recorder_ring old) risen

begin_readies : (ring : Ring) (world : World) → IsRing ring (length world.memory) → CanBegin ring world → Readies ring 0 0 world.registers.input world
begin_readies ring world is can = record {
  out = can.out;
  clock_is = can.clock;
  fifo = can.fifo;
  since_before = omega arith;
  ring_is = is;
  beside = can.beside;
  few = omega arith;
  list = λ index below. absurd (omega (arith, below));
  input_is = refl;
}

module _ (old new : RecorderState) (before after' : Telling) (is : IsRecorder old) (starts : StartsRecording old new (Some before) (Some after')) (region : length (world_of before).memory ≡ REGION_BYTES)
    (can : CanBegin (recorder_ring old) (world_of before)) where
  weaving : Weaving (start_accesses old.geometry old.list.address (periods_of old) starts.from starts.in_reset starts.ready starts.to) before after'
  weaving = woven starts.made.is

  parts : StartParts (recorder_ring old) (has_words old) starts.from starts.in_reset starts.ready starts.to weaving.events (world_of before)
  parts = start_parts (recorder_ring old) (has_words old) starts.from starts.in_reset starts.ready starts.to weaving.events (world_of before) (has_ring old is).number can.input_stopped
      (begin_readies (recorder_ring old) (world_of before) (subst (IsRing (recorder_ring old)) (sym region) (has_ring old is)) can) weaving.woven weaving.went.honest

  abbrev risen : World
  risen = after parts.front (world_of before)

  there : world_of after' ≡ after parts.back risen
  there =
      world_of-went before after' weaving.events weaving.went
      ∙ ap (λ (events : List Event). after events (world_of before)) parts.events_are
      ∙ after-append parts.front parts.back (world_of before)

  leaves_back : All (LeavesFilling (recorder_ring old)) parts.back
  leaves_back = woven_all (LeavesFilling (recorder_ring old)) (λ step. tt) (Read 0x30 Four starts.to ∷ []) parts.back
      (All-cons (LeavesFilling (recorder_ring old)) (Read 0x30 Four starts.to) [] tt (All-nil (LeavesFilling (recorder_ring old)))) parts.woven_back

  both_back : All IsBesideBoth parts.back
  both_back = woven_all IsBesideBoth (λ step. tt) (Read 0x30 Four starts.to ∷ []) parts.back (All-cons IsBesideBoth (Read 0x30 Four starts.to) [] tt (All-nil IsBesideBoth)) parts.woven_back

  pub first_parts : FirstParts old new before after'
  first_parts = record {
    risen = risen;
    front = parts.front;
    back = parts.back;
    risen_is = refl;
    ends = there;
    anew = parts.rose.begun_is;
    came = parts.rose.came_is;
    moments = parts.moments;
    hearing = woven_all LeavesHearing (λ step. tt) (risen_by (recorder_ring old) (has_words old) starts.from starts.in_reset starts.ready) parts.front (risen_hear (recorder_ring old) (has_words old) starts.from starts.in_reset starts.ready) parts.woven_front;
    leave = leaves_back;
    both = both_back;
    fills = rose_fills (recorder_ring old) (has_words old) parts.since risen parts.rose;
  }

  pub first_records : KeepsRecorderRing old new → old.course.started ≡ false → HasNotWrapped (world_of after') → IsRecording new (world_of after')
  first_records keeps fresh few =
      let goes = events_go (recorder_ring old) parts.back risen leaves_back (rose_fills (recorder_ring old) (has_words old) parts.since risen parts.rose) in
      let few' : 500 * (after parts.back risen).frames < 2 ^ 32 = subst HasNotWrapped there few in
      let up = goes.grows.up in
      let low = parts.rose.readies.since_before in
      let from : starts.from ≡ 500 * parts.since = parts.from_is ∙ mod-eq_of_lt (omega (arith, few', up, low)) in
      subst (IsRecording new) (sym there)
      (goes_on new risen (after parts.back risen) (begins old new (Some before) (Some after') is keeps fresh starts parts.since risen from parts.rose)
      (subst (λ (ring : Ring). Goes ring risen (after parts.back risen)) (sym (same_ring old new keeps)) goes))
