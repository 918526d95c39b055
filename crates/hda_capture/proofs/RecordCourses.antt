-- What is kept of the course of runs that record.
use Rattle.std.proofs.Common.{◌≡◌, ◌⊎◌, inl, inr, ◌≤◌, ◌+◌, ◌-◌, ◌*◌, ◌/◌, ◌%◌, ◌==◌, ◌&&◌, ◌∙◌, min, max, ℕ, Bool, true, false, List, [], ◌∷◌, ◌++◌, length, take, refl, sym, ap, subst, arith, rules, if◌then◌else◌}
use Rattle.std.specs.Prelude.{All}
use Rattle.std.proofs.lemmas.List.{length-append, length_push, get_or_push, get_or_append_left}
use Rattle.std.proofs.lemmas.List.Sums.{sum_by-append}
use Rattle.std.proofs.lemmas.Nat.{div-add-mod'}
use Rattle.std.proofs.Math.Seq.{take-append_seam}
use Rattle.std.proofs.Math.Nat.{mul-sub, mul-mod_left, mul-mod_right}
use Rattle.period_writer.specs.Runs.{position_from}
use Rattle.period_writer.specs.Rings.{blocks_up}
use Rattle.period_writer.proofs.Callers.{position_soon, position_later}
use Rattle.hda_capture.specs.declared.course.RecordedRun.{RecordedRun}
use Rattle.hda_capture.specs.declared.course.RecordCourse.{RecordCourse}
use Rattle.hda_capture.specs.declared.course.Recorded.TheVariants.{Recording, Complete, Late}
use Rattle.hda_capture.specs.Recordings.{RecordMeasures, RecordFacts, RecordTally, course_opened, record_at, read_upto, is_record_late, ends_in_time, run_of, course_after, tally_if, tally_after}
use Rattle.hda_capture.specs.Recorders.{IsRecordCourse, IsAtBlocks, bytes_read}

pub course_opens : (m : RecordMeasures) → IsRecordCourse m 0 course_opened
course_opens m = record { bounded = omega arith; fresh = λ e. refl; taken = omega arith; wanted = omega arith; caught_up = omega arith; complete = λ e. cc }

-- ---- where a run stands

-- not before the run before
pub at_later : (m : RecordMeasures) (runs : ℕ) (course : RecordCourse) (lpib : ℕ) → IsRecordCourse m runs course → course.at ≤ record_at m course lpib
at_later m runs course lpib is = by course.started refl where
  by : (started : Bool) → course.started ≡ started → course.at ≤ (if started then position_from m.ring course.at lpib else 0)
  by true e = position_later m.ring course.at lpib
  by false e =
      let none = is.fresh e in
      let few = is.bounded in
      let zero : m.ring * runs ≡ m.ring * 0 = ap (λ (n : ℕ). m.ring * n) none in
      omega (arith, few, zero)

-- and at most a ring past it
pub at_soon : (m : RecordMeasures) (course : RecordCourse) (lpib : ℕ) → 1 ≤ m.ring → record_at m course lpib ≤ course.at + m.ring
at_soon m course lpib some = by course.started where
  by : (started : Bool) → (if started then position_from m.ring course.at lpib else 0) ≤ course.at + m.ring
  by true = let soon = position_soon m.ring course.at lpib some in omega (arith, soon)
  by false = omega arith

-- it reads no more than a ring
upto_within : (ring behind total at at' read : ℕ) → at' ≤ at + ring → min (at - behind) total ≤ read → min (max read (at' - behind)) total - read ≤ ring
upto_within ring behind total at at' read soon caught = omega (arith, soon, caught)

pub reads_within : (m : RecordMeasures) (runs : ℕ) (course : RecordCourse) (lpib : ℕ) → 1 ≤ m.ring → IsRecordCourse m runs course → read_upto m course lpib - course.read ≤ m.ring
reads_within m runs course lpib some is = upto_within m.ring m.behind m.total course.at (record_at m course lpib) course.read (at_soon m course lpib some) is.caught_up

-- ---- how it goes on

upto_taken : (behind total at read : ℕ) → read ≤ at → min (max read (at - behind)) total ≤ at
upto_taken behind total at read le = omega (arith, le)

upto_wanted : (behind total at read : ℕ) → min (max read (at - behind)) total ≤ total
upto_wanted behind total at read = omega arith

upto_caught : (behind total at read : ℕ) → min (at - behind) total ≤ min (max read (at - behind)) total
upto_caught behind total at read = omega arith

ends_complete : (m : RecordMeasures) (course : RecordCourse) (upto : ℕ) → ends_in_time m course upto ≡ Complete → upto ≡ m.total
ends_complete m course upto is = by course.started (upto == m.total) refl is where
  by : (started same : Bool) → (upto == m.total) ≡ same → (if started && same then Complete else Recording) ≡ Complete → upto ≡ m.total
  by true true e is = search (rules, e)
  by true false e is = cc
  by false true e is = cc
  by false false e is = cc

pub course_next : (m : RecordMeasures) (runs : ℕ) (course : RecordCourse) (facts : RecordFacts) → 1 ≤ m.ring → IsRecordCourse m runs course → IsRecordCourse m (runs + 1) (course_after m course facts)
course_next m runs course facts some is =
    let at = record_at m course facts.lpib in
    let later = at_later m runs course facts.lpib is in
    let soon = at_soon m course facts.lpib some in
    let bounded = is.bounded in
    let taken = is.taken in
    let wide : m.ring * (runs + 1) ≡ m.ring * runs + m.ring = omega arith in
    record {
      bounded = omega (arith, bounded, soon, wide);
      fresh = λ e. cc;
      taken = upto_taken m.behind m.total at course.read (omega (arith, taken, later));
      wanted = upto_wanted m.behind m.total at course.read;
      caught_up = upto_caught m.behind m.total at course.read;
      complete = ends_complete m course (read_upto m course facts.lpib);
    }

-- a late run leaves the course but for how it ended
pub course_late : (m : RecordMeasures) (runs : ℕ) (course : RecordCourse) (from to : ℕ) → IsRecordCourse m runs course → IsRecordCourse m runs (record course { recorded = Late from to })
course_late m runs course from to is = record { bounded = is.bounded; fresh = is.fresh; taken = is.taken; wanted = is.wanted; caught_up = is.caught_up; complete = λ e. cc }

course_by : (late : Bool) (m : RecordMeasures) (tally : RecordTally) (facts : RecordFacts) → 1 ≤ m.ring → IsRecordCourse m (length tally.runs) tally.course
    → IsRecordCourse m (length (tally_if late m tally facts).runs) (tally_if late m tally facts).course
course_by true m tally facts some is = course_late m (length tally.runs) tally.course tally.course.from facts.to is
course_by false m tally facts some is =
    subst (λ (runs : ℕ). IsRecordCourse m runs (course_after m tally.course facts)) (sym (length_push tally.runs (run_of m tally.course facts))) (course_next m (length tally.runs) tally.course facts some is)

-- a run keeps what holds of it
pub course_keeps : (m : RecordMeasures) (tally : RecordTally) (facts : RecordFacts) → 1 ≤ m.ring → IsRecordCourse m (length tally.runs) tally.course
    → IsRecordCourse m (length (tally_after m tally facts).runs) (tally_after m tally facts).course
course_keeps m tally facts some is = course_by (is_record_late m tally.course facts.to) m tally facts some is

-- ---- whole blocks

whole_is : (b n : ℕ) → n % b ≡ 0 → n ≡ b * (n / b)
whole_is b n e = let is = div-add-mod' n b in let turned : n / b * b ≡ b * (n / b) = omega arith in omega (arith, is, e, turned)

whole_less : (b one other : ℕ) → one % b ≡ 0 → other % b ≡ 0 → (one - other) % b ≡ 0
whole_less b one other e f =
    ap (λ (n : ℕ). (n - other) % b) (whole_is b one e) ∙ ap (λ (n : ℕ). (b * (one / b) - n) % b) (whole_is b other f)
    ∙ ap (λ (n : ℕ). n % b) (sym (mul-sub b (one / b) (other / b))) ∙ mul-mod_right b (one / b - other / b)

pub whole_up : (b n : ℕ) → blocks_up b n % b ≡ 0
whole_up b n =
    let is = div-add-mod' (n + (b - 1)) b in
    let whole : blocks_up b n ≡ (n + (b - 1)) / b * b = omega (arith, is) in
    ap (λ (x : ℕ). x % b) whole ∙ mul-mod_left ((n + (b - 1)) / b) b

order : (a b : ℕ) → (a ≤ b) ⊎ (b ≤ a)
order a b = search (rules, arith)

least_whole : (b one other : ℕ) → one % b ≡ 0 → other % b ≡ 0 → min one other % b ≡ 0
least_whole b one other e f = by (order one other) where
  by : (one ≤ other) ⊎ (other ≤ one) → min one other % b ≡ 0
  by (inl le) = let is : min one other ≡ one = omega (arith, le) in ap (λ (n : ℕ). n % b) is ∙ e
  by (inr le) = let is : min one other ≡ other = omega (arith, le) in ap (λ (n : ℕ). n % b) is ∙ f

most_whole : (b one other : ℕ) → one % b ≡ 0 → other % b ≡ 0 → max one other % b ≡ 0
most_whole b one other e f = by (order one other) where
  by : (one ≤ other) ⊎ (other ≤ one) → max one other % b ≡ 0
  by (inl le) = let is : max one other ≡ other = omega (arith, le) in ap (λ (n : ℕ). n % b) is ∙ f
  by (inr le) = let is : max one other ≡ one = omega (arith, le) in ap (λ (n : ℕ). n % b) is ∙ e

upto_whole : (b behind total at read : ℕ) → behind % b ≡ 0 → total % b ≡ 0 → at % b ≡ 0 → read % b ≡ 0 → min (max read (at - behind)) total % b ≡ 0
upto_whole b behind total at read e f g h = least_whole b _ total (most_whole b read _ h (whole_less b at behind g e)) f

-- ---- what is kept of a tally

-- what holds of the runs that were recorded and of where the last one stood, by blocks of so many bytes
pub record IsRecordTally (m : RecordMeasures) (block : ℕ) (tally : RecordTally) : Type 0 where
  pub course_is : IsRecordCourse m (length tally.runs) tally.course
  pub reads : bytes_read tally.runs ≡ tally.course.read
  pub whole : All (IsAtBlocks block) tally.runs → tally.course.read % block ≡ 0

all_front : {X : Type 0} (P : X → Type 0) (xs ys : List X) → All P (xs ++ ys) → All P xs
all_front {X} P xs ys all k d lt = subst P (get_or_append_left xs ys d k lt) (all k d (let long = length-append xs ys in omega (arith, long, lt)))

all_last : {X : Type 0} (P : X → Type 0) (xs : List X) (y : X) → All P (xs ++ y ∷ []) → P y
all_last {X} P xs y all = subst P (get_or_push xs y y (length xs) refl) (all (length xs) y (let long = length_push xs y in omega (arith, long)))

tally_goes : (late : Bool) (m : RecordMeasures) (block : ℕ) (tally : RecordTally) (facts : RecordFacts) → 1 ≤ m.ring → m.behind % block ≡ 0 → m.total % block ≡ 0
    → IsRecordTally m block tally → IsRecordTally m block (tally_if late m tally facts)
tally_goes true m block tally facts some behind total is = record { course_is = course_by true m tally facts some is.course_is; reads = is.reads; whole = is.whole }
tally_goes false m block tally facts some behind total is =
    let read : ℕ = tally.course.read in
    let run = run_of m tally.course facts in
    let upto = read_upto m tally.course facts.lpib in
    let wanted = is.course_is.wanted in
    let reads = is.reads in
    let sums : bytes_read (tally.runs ++ run ∷ []) ≡ bytes_read tally.runs + (upto - tally.course.read) = sum_by-append (λ (run : RecordedRun). run.read) tally.runs (run ∷ []) ∙ omega arith in
    let ascends : tally.course.read ≤ upto = upto_ascends m.behind m.total (record_at m tally.course facts.lpib) tally.course.read wanted in
    record {
      course_is = course_by false m tally facts some is.course_is;
      reads = sums ∙ omega (arith, reads, ascends);
      whole = λ all. upto_whole block m.behind m.total (record_at m tally.course facts.lpib) tally.course.read behind total
          (all_last (IsAtBlocks block) tally.runs run all) (is.whole (all_front (IsAtBlocks block) tally.runs (run ∷ []) all));
    } where
      upto_ascends : (behind total at read : ℕ) → read ≤ total → read ≤ min (max read (at - behind)) total
      upto_ascends behind total at read le = omega (arith, le)

pub tally_keeps : (m : RecordMeasures) (block : ℕ) (tally : RecordTally) (facts : RecordFacts) → 1 ≤ m.ring → m.behind % block ≡ 0 → m.total % block ≡ 0
    → IsRecordTally m block tally → IsRecordTally m block (tally_after m tally facts)
tally_keeps m block tally facts some behind total is = tally_goes (is_record_late m tally.course facts.to) m block tally facts some behind total is

-- ---- the bytes

-- those that a late run read are cut off
pub bytes_long : (m : RecordMeasures) (tally : RecordTally) (facts : RecordFacts) (bytes more recorded : List ℕ) → length bytes ≡ tally.course.read → recorded ≡ bytes ++ more
    → length recorded ≡ length bytes + (read_upto m tally.course facts.lpib - tally.course.read) → tally.course.read ≤ read_upto m tally.course facts.lpib
    → length (if is_record_late m tally.course facts.to then take tally.course.read recorded else recorded) ≡ (tally_after m tally facts).course.read
bytes_long m tally facts bytes more recorded long is longer ascends = by (is_record_late m tally.course facts.to) where
  by : (late : Bool) → length (if late then take tally.course.read recorded else recorded) ≡ (tally_if late m tally facts).course.read
  by true = ap (λ (all : List ℕ). length (take tally.course.read all)) is ∙ ap (λ (n : ℕ). length (take n (bytes ++ more))) (sym long) ∙ ap length (take-append_seam bytes more) ∙ long
  by false = longer ∙ omega (arith, long, ascends)

pub bytes_kept : (late : Bool) (read : ℕ) (bytes more recorded : List ℕ) → length bytes ≡ read → recorded ≡ bytes ++ more → (if late then take read recorded else recorded) ≡ (if late then bytes else bytes ++ more)
bytes_kept true read bytes more recorded long is = ap (take read) is ∙ ap (λ (n : ℕ). take n (bytes ++ more)) (sym long) ∙ take-append_seam bytes more
bytes_kept false read bytes more recorded long is = is

-- ---- a run

-- it goes on, and goes on having been started
pub run_grows : (m : RecordMeasures) (runs : ℕ) (tally : RecordTally) (facts : RecordFacts) → IsRecordCourse m runs tally.course → tally.course.read ≤ (tally_after m tally facts).course.read
run_grows m runs tally facts is = by (is_record_late m tally.course facts.to) where
  upto_ascends : (behind total at read : ℕ) → read ≤ total → read ≤ min (max read (at - behind)) total
  upto_ascends behind total at read le = omega (arith, le)

  by : (late : Bool) → tally.course.read ≤ (tally_if late m tally facts).course.read
  by true = omega arith
  by false = upto_ascends m.behind m.total (record_at m tally.course facts.lpib) tally.course.read is.wanted

pub still_on : (m : RecordMeasures) (tally : RecordTally) (facts : RecordFacts) → tally.course.started ≡ true → (tally_after m tally facts).course.started ≡ true
still_on m tally facts on = by (is_record_late m tally.course facts.to) where
  by : (late : Bool) → (tally_if late m tally facts).course.started ≡ true
  by true = on
  by false = refl
