-- A run is the same over all sound that is left and over a part of it that holds what the run may take.
use Rattle.std.proofs.Common.{◌≡◌, ◌≤◌, ◌+◌, ◌==◌, ◌||◌, ◌∙◌, ℕ, Bool, true, false, ap, arith, if◌then◌else◌}
use Rattle.std.specs.Prelude.{min, nat_le, ◌&&◌, [], ◌∷◌, ◌++◌}
use Rattle.period_writer.specs.declared.course.Course.{Course}
use Rattle.period_writer.specs.declared.course.Ran.TheVariants.{Drained, Playing}
use Rattle.period_writer.specs.Courses.{IsCourse}
use Rattle.period_writer.specs.Rings.{whole_blocks}
use Rattle.period_writer.specs.Runs.{Measures, RunFacts, Tally, facts_of, silences_to, silent_too, run_at, run_turn, run_cut, run_room, run_reach, run_start, run_sound, has_drained, is_back, is_over, is_late, is_late_since, lateness, tally_if, tally_after}
use Rattle.period_writer.proofs.RunRooms.{room_small, start_past}

-- ---- what it writes

min_same : (budget ring room left left' : ℕ) → room ≤ ring → left' ≤ left → min budget (min ring left) ≤ left' → min budget (min room left) ≡ min budget (min room left')
min_same budget ring room left left' fits less enough = grind arith

pub sound_same : (m : Measures) (runs : ℕ) (course : Course) (budget left left' from lpib to : ℕ) → 1 ≤ m.ring → IsCourse m.ring runs course → left' ≤ left → min budget (min m.ring left) ≤ left'
    → run_sound m course (facts_of budget left from lpib to) ≡ run_sound m course (facts_of budget left' from lpib to)
sound_same m runs course budget left left' from lpib to some is less enough =
    let room = room_small m runs course (facts_of budget left from lpib to) some is in
    ap (whole_blocks m.block) (min_same budget m.ring (run_room m course (facts_of budget left from lpib to)) left left' room less enough)

-- where the sound of a run that writes so many bytes begins
abbrev pub start_by : Measures → Course → RunFacts → (sound : ℕ) → ℕ
start_by m course facts sound = if is_back course (run_cut m course facts) sound then run_cut m course facts else course.reach

-- ---- how it ends

-- so many bytes are sound
pub sound_most : (block budget room left : ℕ) → whole_blocks block (min budget (min room left)) ≤ left
sound_most block budget room left = grind arith

-- by whether a run before was, and how many bytes it wrote
drained_if : (started : Bool) (sound left left' start at end : ℕ) → sound ≤ left' → left' ≤ left → (started ≡ true → left' ≡ 0 → left ≡ 0) → at ≤ start
    → (started && left == sound && nat_le (if sound == 0 then end else start + sound) at) ≡ (started && left' == sound && nat_le (if sound == 0 then end else start + sound) at)
drained_if started sound left left' start at end takes less some behind = grind arith

pub drained_same : (m : Measures) (runs : ℕ) (course : Course) (budget left left' from lpib to : ℕ) → 1 ≤ m.ring → IsCourse m.ring runs course → left' ≤ left → min budget (min m.ring left) ≤ left' → (course.started ≡ true → left' ≡ 0 → left ≡ 0)
    → has_drained m course (facts_of budget left from lpib to) ≡ has_drained m course (facts_of budget left' from lpib to)
drained_same m runs course budget left left' from lpib to some is less enough none =
    let same = sound_same m runs course budget left left' from lpib to some is less enough in
    let facts = facts_of budget left' from lpib to in
    let sound = run_sound m course facts in
    let at = run_at m course facts in
    let takes = sound_most m.block budget (run_room m course facts) left' in
    ap (λ (sound : ℕ). course.started && left == sound && nat_le (if sound == 0 then course.sound_end else start_by m course facts sound + sound) at) same
    ∙ drained_if course.started sound left left' (run_start m course facts) at course.sound_end takes less none (start_past m runs course facts some is)

-- ---- what is recorded

-- by how many bytes it wrote and whether the line has drained
abbrev recorded_by : Measures → Tally → RunFacts → (sound : ℕ) (drained : Bool) → Tally
recorded_by m tally facts sound drained = record {
  runs = tally.runs ++ record { at = run_at m tally.course facts; from = facts.from; to = facts.to; budget = facts.budget; written = sound } ∷ [];
  silences = let start = start_by m tally.course facts sound in
      let kept = silences_to start tally.silences in
      let end = run_reach m tally.course facts in
      if start + sound == end then kept else silent_too kept (record { start = start + sound; end = end });
  course = record {
    started = true;
    at = run_at m tally.course facts;
    from = facts.from;
    reach = run_reach m tally.course facts;
    sure = run_reach m tally.course facts;
    used = tally.course.used + sound;
    sound_end = if sound == 0 then tally.course.sound_end else start_by m tally.course facts sound + sound;
    ran = if drained then Drained else Playing;
  };
}

-- where it is late, by how many bytes it wrote
abbrev late_by_sound : Measures → Tally → RunFacts → (sound : ℕ) → Tally
late_by_sound m tally facts sound = record {
  runs = tally.runs;
  silences = tally.silences;
  course = record tally.course {
    sure = if is_back tally.course (run_cut m tally.course facts) sound then min tally.course.reach (run_turn m tally.course facts) else tally.course.reach;
    ran = lateness m tally.course facts;
  };
}

-- a run over a part of the sound, of which there is some where there is some of all, is recorded as one over all of it
pub tally_same : (m : Measures) (runs : ℕ) (tally : Tally) (budget left left' from lpib to : ℕ) → 1 ≤ m.ring → IsCourse m.ring runs tally.course → left' ≤ left → min budget (min m.ring left) ≤ left' → (tally.course.started ≡ true → left' ≡ 0 → left ≡ 0)
    → tally_after m tally (facts_of budget left from lpib to) ≡ tally_after m tally (facts_of budget left' from lpib to)
tally_same m runs tally budget left left' from lpib to some is less enough none =
    by_late (is_late m tally.course (facts_of budget left from lpib to)) ∙ ap (λ (late : Bool). tally_if late m tally (facts_of budget left' from lpib to)) late_same where
      written_same : run_sound m tally.course (facts_of budget left from lpib to) ≡ run_sound m tally.course (facts_of budget left' from lpib to)
      written_same = sound_same m runs tally.course budget left left' from lpib to some is less enough

      late_same : is_late m tally.course (facts_of budget left from lpib to) ≡ is_late m tally.course (facts_of budget left' from lpib to)
      late_same = ap (λ (sound : ℕ). is_late_since m tally.course (facts_of budget left from lpib to) || (is_back tally.course (run_cut m tally.course (facts_of budget left from lpib to)) sound && is_over m.slack from to)) written_same

      by_late : (late : Bool) → tally_if late m tally (facts_of budget left from lpib to) ≡ tally_if late m tally (facts_of budget left' from lpib to)
      by_late true = ap (late_by_sound m tally (facts_of budget left from lpib to)) written_same
      by_late false =
          ap (λ (sound : ℕ). recorded_by m tally (facts_of budget left from lpib to) sound (has_drained m tally.course (facts_of budget left from lpib to))) written_same
          ∙ ap (recorded_by m tally (facts_of budget left' from lpib to) (run_sound m tally.course (facts_of budget left' from lpib to))) (drained_same m runs tally.course budget left left' from lpib to some is less enough none)
