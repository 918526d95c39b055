-- Where runs stand is kept by runs.
use Rattle.std.proofs.Common.{◌≡◌, ◌≤◌, ◌+◌, ◌*◌, ◌==◌, ℕ, min, Bool, true, false, refl, arith, rules, if◌then◌else◌}
use Rattle.period_writer.specs.Courses.{IsCourse}
use Rattle.period_writer.specs.Runs.{Measures, RunFacts, Tally, position_from, run_reach, run_turn, run_start, run_sound, takes_back, tally_if, tally_opened}
use Rattle.period_writer.proofs.LineRuns.{run_ends, run_longer, start_high}
use Rattle.period_writer.proofs.RunTimes.{position_soon}

pub course_opens : (ring : ℕ) → IsCourse ring 0 tally_opened.course
course_opens ring = record { bounded = omega arith; reach = refl; fresh = λ e. refl; used = omega arith; sound_end = omega arith; sure = omega arith }

sound_ends : (reach sound last start reach' : ℕ) → start + sound ≤ reach' → last ≤ reach' → (if sound == 0 then last else start + sound) ≤ reach'
sound_ends reach sound last start reach' ends within = by_test (sound == 0) where
  by_test : (test : Bool) → (if test then last else start + sound) ≤ reach'
  by_test true = within
  by_test false = ends

pub course_goes_on : (m : Measures) (runs : ℕ) (tally : Tally) (facts : RunFacts) → 1 ≤ m.ring → IsCourse m.ring runs tally.course
    → IsCourse m.ring (runs + 1) (tally_if false m tally facts).course
course_goes_on m runs tally facts some is = record {
  bounded = bounded tally.course.started is.reach;
  reach = refl;
  fresh = λ e. cc;
  used = used_by (run_sound m tally.course facts) (run_start m tally.course facts) is.used (start_high m tally.course facts is.sound_end);
  sound_end = let ends = run_ends m runs tally.course facts is in let inside = is.sound_end in let longer = run_longer m runs tally.course facts is in
      sound_ends tally.course.reach (run_sound m tally.course facts) tally.course.sound_end (run_start m tally.course facts) (run_reach m tally.course facts) ends (omega (arith, inside, longer));
  sure = omega arith;
} where
  used_by : (sound start : ℕ) → tally.course.used ≤ tally.course.sound_end → tally.course.sound_end ≤ start → tally.course.used + sound ≤ (if sound == 0 then tally.course.sound_end else start + sound)
  used_by sound start few high = by_test (sound == 0) refl where
    by_test : (test : Bool) → (sound == 0) ≡ test → tally.course.used + sound ≤ (if test then tally.course.sound_end else start + sound)
    by_test true e = let none : sound ≡ 0 = search (rules, e) in omega (arith, none, few)
    by_test false e = omega (arith, few, high)

  bounded : (started : Bool) → tally.course.reach ≡ (if started then tally.course.at + m.ring else 0) → (if started then position_from m.ring tally.course.at facts.lpib else 0) ≤ m.ring * (runs + 1)
  bounded true e = let soon = position_soon m.ring tally.course.at facts.lpib some in let few = is.bounded in let wide : m.ring * (runs + 1) ≡ m.ring * runs + m.ring = omega arith in omega (arith, soon, few, wide)
  bounded false e = omega arith

pub course_stays : (m : Measures) (runs : ℕ) (tally : Tally) (facts : RunFacts) → IsCourse m.ring runs tally.course → IsCourse m.ring runs (tally_if true m tally facts).course
course_stays m runs tally facts is = record { bounded = is.bounded; reach = is.reach; fresh = is.fresh; used = is.used; sound_end = is.sound_end; sure = under (takes_back m tally.course facts) } where
  under : (back : Bool) → (if back then min tally.course.reach (run_turn m tally.course facts) else tally.course.reach) ≤ tally.course.reach
  under true = least tally.course.reach (run_turn m tally.course facts) where
    least : (r t : ℕ) → min r t ≤ r
    least r t = grind arith
  under false = omega arith
