-- What a run does to the line, and what is recorded of it, as a function of the numbers that it reads. This project's
-- own.
--
-- The line is one list of bytes: the sound, and silence where none came in time. Its byte at position p lies at place p
-- modulo CBL of the ring. The link plays it in order, so at a run the link stands at a position b of the line, and the
-- run makes the line longer up to its reach, one ring ahead of b: first sound, then silence. Where sound came late, the
-- run takes back silence at the line's end: as much of it as the device can't have fetched before the run is over.
use Rattle.std.specs.Prelude.{ℕ, ◌+◌, ◌*◌, ◌-◌, ◌%◌, ◌≤◌, ◌==◌, ◌&&◌, ◌||◌, not, Bool, true, false, min, max, nat_lt}
use Rattle.std.specs.Prelude.{nat_le, List, [], ◌∷◌, ◌++◌, slice_index, Option, Some, None, if◌then◌else◌}
use Rattle.stream_format.specs.Cadence.{block_bytes}
use Rattle.period_writer.specs.Rings.{ring_bytes, limit_of, slack_of, ahead_of}
pub use Rattle.period_writer.specs.Rings.{whole_blocks}
use Rattle.period_writer.specs.declared.geometry.Geometry.{Geometry}
use Rattle.period_writer.specs.declared.course.Run.{Run}
use Rattle.period_writer.specs.declared.course.Span.{Span}
use Rattle.period_writer.specs.declared.course.Course.{Course}
use Rattle.period_writer.specs.declared.course.Ran.{Ran}
use Rattle.period_writer.specs.declared.course.Ran.TheVariants.{Playing, Drained, Late}

-- the numbers of a geometry that runs go by: the bytes of the ring and of a block, how many link frames may pass from
-- run to run, how many while a run takes silence back, and how far past the link it begins
pub record Measures : Type 0 where
  pub ring : ℕ
  pub block : ℕ
  pub limit : ℕ
  pub slack : ℕ
  pub ahead : ℕ

abbrev pub measures : Geometry → Measures
measures geometry = record {
  ring = ring_bytes geometry.periods geometry.period;
  block = block_bytes geometry.format;
  limit = limit_of geometry.periods geometry.period geometry.fifo geometry.format;
  slack = slack_of geometry.periods geometry.period geometry.fifo geometry.format;
  ahead = ahead_of geometry.periods geometry.period geometry.fifo geometry.format;
}

-- what a run goes by: how many bytes of sound it may write, how many are left, and what it reads: the clock first,
-- LPIB, and the clock last. The first run reads no LPIB
pub record RunFacts : Type 0 where
  pub budget : ℕ
  pub left : ℕ
  pub from : ℕ
  pub lpib : ℕ
  pub to : ℕ

abbrev pub facts_of : (budget left from lpib to : ℕ) → RunFacts
facts_of budget left from lpib to = record { budget = budget; left = left; from = from; lpib = lpib; to = to }

-- what is kept: the runs, the silences, and where the last run stood
pub record Tally : Type 0 where
  pub runs : List Run
  pub silences : List Span
  pub course : Course

-- before the first run
abbrev pub course_opened : Course
course_opened = record {
  started = false;
  at = 0;
  from = 0;
  reach = 0;
  sure = 0;
  used = 0;
  sound_end = 0;
  ran = Playing;
}

abbrev pub tally_opened : Tally
tally_opened = record { runs = []; silences = []; course = course_opened }

-- ---- where a run stands, and what it writes

-- the first position from an earlier one on that LPIB stands for
abbrev pub position_from : (ring earlier lpib : ℕ) → ℕ
position_from ring earlier lpib = earlier + (lpib + (ring - earlier % ring)) % ring

abbrev pub run_at : Measures → Course → RunFacts → ℕ
run_at m course facts = if course.started then position_from m.ring course.at facts.lpib else 0

abbrev pub run_reach : Measures → Course → RunFacts → ℕ
run_reach m course facts = run_at m course facts + m.ring

-- the turn place: from here on nothing was fetched when the run is over in time
abbrev pub run_turn : Measures → Course → RunFacts → ℕ
run_turn m course facts = run_at m course facts + m.ahead

-- the cut: down to here silence may be taken back. Sound is never cut off, and nothing below the turn place
abbrev pub cut_by : Course → (turn : ℕ) → ℕ
cut_by course turn = min course.reach (max turn course.sound_end)

abbrev pub run_cut : Measures → Course → RunFacts → ℕ
run_cut m course facts = cut_by course (run_turn m course facts)

-- how many bytes the line may gain
abbrev pub run_room : Measures → Course → RunFacts → ℕ
run_room m course facts = run_reach m course facts - run_cut m course facts

-- how many of them are sound: whole blocks, as far as the budget, the room and the sound that is left go
abbrev pub run_sound : Measures → Course → RunFacts → ℕ
run_sound m course facts = whole_blocks m.block (min facts.budget (min (run_room m course facts) facts.left))

-- whether silence is taken back. In the first run there is none
abbrev pub is_back : Course → (cut sound : ℕ) → Bool
is_back course cut sound = nat_lt cut course.reach && not (sound == 0)

abbrev pub takes_back : Measures → Course → RunFacts → Bool
takes_back m course facts = is_back course (run_cut m course facts) (run_sound m course facts)

-- where the run's sound begins: at the cut where silence is taken back, and else at the line's end
abbrev pub run_start : Measures → Course → RunFacts → ℕ
run_start m course facts = if takes_back m course facts then run_cut m course facts else course.reach

-- ---- how it ends

-- more time passed than so many link frames of 500 ticks take
abbrev pub is_over : (frames from to : ℕ) → Bool
is_over frames from to = nat_lt (500 * frames) (to - from)

-- a run is late where more time passed since the run before read its first clock than the limit says
abbrev pub is_late_since : Measures → Course → RunFacts → Bool
is_late_since m course facts = course.started && is_over m.limit course.from facts.to

-- and where it takes silence back and more time passed since its own first clock than the slack says
abbrev pub is_slow : Measures → Course → RunFacts → Bool
is_slow m course facts = takes_back m course facts && is_over m.slack facts.from facts.to

abbrev pub is_late : Measures → Course → RunFacts → Bool
is_late m course facts = is_late_since m course facts || is_slow m course facts

-- the same in one, by whether silence is taken back
abbrev pub late_by : Measures → Course → (from : ℕ) → (back : Bool) → (to : ℕ) → Option Ran
late_by m course from back to =
    if course.started && is_over m.limit course.from to then Some (Late course.from to m.limit)
    else (if back && is_over m.slack from to then Some (Late from to m.slack) else None)

-- how a late run is told: by the clocks and the limit that were not kept, the first of the two where neither was
abbrev pub lateness : Measures → Course → RunFacts → Ran
lateness m course facts =
    if is_late_since m course facts then Late course.from facts.to m.limit else Late facts.from facts.to m.slack

-- where the last byte of sound ends after the run
abbrev pub run_sound_end : Measures → Course → RunFacts → ℕ
run_sound_end m course facts =
    let sound = run_sound m course facts in if sound == 0 then course.sound_end else run_start m course facts + sound

-- a later run has drained the line where no sound is left and the link played the last byte of it
abbrev pub has_drained : Measures → Course → RunFacts → Bool
has_drained m course facts =
    course.started && facts.left == run_sound m course facts && nat_le (run_sound_end m course facts)
    (run_at m course facts)

-- below this position what was fetched stays the line, even if the run is late
abbrev pub run_sure : Measures → Course → RunFacts → ℕ
run_sure m course facts = if takes_back m course facts then min course.reach (run_turn m course facts) else course.reach

-- ---- what is recorded

-- where the silence before it ends there, a silence goes on; else it is one more
abbrev pub silent_too : List Span → Span → List Span
silent_too [] span = span ∷ []
silent_too (one ∷ []) span =
    if one.end == span.start then record { start = one.start; end = span.end } ∷ [] else one ∷ span ∷ []
silent_too (one ∷ other ∷ more) span = one ∷ silent_too (other ∷ more) span

-- the silences of a line that is cut at a position of its last silence
abbrev pub silences_to : (cut : ℕ) → List Span → List Span
silences_to cut [] = []
silences_to cut (one ∷ []) = if nat_le cut one.start then [] else record { start = one.start; end = min one.end cut } ∷
    []
silences_to cut (one ∷ other ∷ more) = one ∷ silences_to cut (other ∷ more)

-- the line is cut where silence is taken back, gets sound, and then silence up to the reach
abbrev pub run_silences : Measures → Tally → RunFacts → List Span
run_silences m tally facts =
    let kept = silences_to (run_start m tally.course facts) tally.silences in
    let start = run_start m tally.course facts + run_sound m tally.course facts in
    let end = run_reach m tally.course facts in
    if start == end then kept else silent_too kept (record { start = start; end = end })

abbrev pub run_of : Measures → Course → RunFacts → Run
run_of m course facts = record {
  at = run_at m course facts;
  from = facts.from;
  to = facts.to;
  budget = facts.budget;
  written = run_sound m course facts;
}

abbrev pub course_after : Measures → Course → RunFacts → Course
course_after m course facts = record {
  started = true;
  at = run_at m course facts;
  from = facts.from;
  reach = run_reach m course facts;
  sure = run_reach m course facts;
  used = course.used + run_sound m course facts;
  sound_end = run_sound_end m course facts;
  ran = if has_drained m course facts then Drained else Playing;
}

-- the tally after a run: a late one records nothing, but what it took back is no longer sure
abbrev pub tally_if : (late : Bool) → Measures → Tally → RunFacts → Tally
tally_if true m tally facts = record {
  runs = tally.runs;
  silences = tally.silences;
  course = record tally.course { sure = run_sure m tally.course facts; ran = lateness m tally.course facts };
}
tally_if false m tally facts = record {
  runs = tally.runs ++ run_of m tally.course facts ∷ [];
  silences = run_silences m tally facts;
  course = course_after m tally.course facts;
}

abbrev pub tally_after : Measures → Tally → RunFacts → Tally
tally_after m tally facts = tally_if (is_late m tally.course facts) m tally facts

-- ---- all runs

-- a stretch of the driver's accesses, from Begin to End: how many bytes of sound it may write, and the values that it
-- read from WALCLK and from LPIB, in order
pub record Stretch : Type 0 where
  pub budget : ℕ
  pub clocks : List ℕ
  pub lpibs : List ℕ

-- one that reads the clock twice is a run, while the stream plays
abbrev pub taken_up_if : Ran → List ℕ → Measures → (total : ℕ) → Stretch → Tally → Tally
taken_up_if Playing (from ∷ to ∷ []) m total stretch tally =
    tally_after m tally (facts_of stretch.budget (total - tally.course.used) from (slice_index stretch.lpibs 0) to)
taken_up_if Playing [] m total stretch tally = tally
taken_up_if Playing (from ∷ []) m total stretch tally = tally
taken_up_if Playing (from ∷ to ∷ other ∷ more) m total stretch tally = tally
taken_up_if Drained clocks m total stretch tally = tally
taken_up_if (Late from to limit) clocks m total stretch tally = tally

abbrev pub taken_up : Measures → (total : ℕ) → Tally → Stretch → Tally
taken_up m total tally stretch = taken_up_if tally.course.ran stretch.clocks m total stretch tally

-- the tally of some stretches, where there are so many bytes of sound
abbrev pub tally_on : Measures → (total : ℕ) → Tally → List Stretch → Tally
tally_on m total tally [] = tally
tally_on m total tally (stretch ∷ stretches) = tally_on m total (taken_up m total tally stretch) stretches

-- before each of these stretches at least a ring of the sound is left
abbrev pub HasRingLeft : Measures → (total : ℕ) → Tally → List Stretch → Type 0
HasRingLeft m total tally [] = Unit {0}
HasRingLeft m total tally (stretch ∷ stretches) =
    (tally.course.used + m.ring ≤ total) × HasRingLeft m total (taken_up m total tally stretch) stretches

abbrev pub tally_of_stretches : Measures → (total : ℕ) → List Stretch → Tally
tally_of_stretches m total stretches = tally_on m total tally_opened stretches
