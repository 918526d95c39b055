-- The cut is never before the link, and the room is at most a ring.
use Rattle.std.proofs.Common.{◌≡◌, ◌≤◌, ◌+◌, ◌-◌, ℕ, min, max, Bool, true, false, arith, if◌then◌else◌}
use Rattle.period_writer.specs.declared.course.Course.{Course}
use Rattle.period_writer.specs.Runs.{Measures, RunFacts, position_from, run_at, run_cut, run_start, run_room, takes_back}
use Rattle.period_writer.specs.Courses.{IsCourse}
use Rattle.period_writer.proofs.LineRuns.{cut_low}
use Rattle.period_writer.proofs.RunTimes.{position_soon}

-- the cut is never before the link, so the room is a ring at most
pub cut_past : (m : Measures) (runs : ℕ) (course : Course) (facts : RunFacts) → 1 ≤ m.ring → IsCourse m.ring runs course → run_at m course facts ≤ run_cut m course facts
cut_past m runs course facts some is = by course.started is.reach where
  least : (a r n e : ℕ) → a ≤ r → a ≤ min r (max (a + n) e)
  least a r n e le = grind (arith, le)

  by : (started : Bool) → course.reach ≡ (if started then course.at + m.ring else 0)
      → (if started then position_from m.ring course.at facts.lpib else 0) ≤ min course.reach (max ((if started then position_from m.ring course.at facts.lpib else 0) + m.ahead) course.sound_end)
  by true e = let soon = position_soon m.ring course.at facts.lpib some in least (position_from m.ring course.at facts.lpib) course.reach m.ahead course.sound_end (omega (arith, soon, e))
  by false e = omega arith

pub start_past : (m : Measures) (runs : ℕ) (course : Course) (facts : RunFacts) → 1 ≤ m.ring → IsCourse m.ring runs course → run_at m course facts ≤ run_start m course facts
start_past m runs course facts some is = by (takes_back m course facts) where
  cut : run_at m course facts ≤ run_cut m course facts
  cut = cut_past m runs course facts some is

  by : (back : Bool) → run_at m course facts ≤ (if back then run_cut m course facts else course.reach)
  by true = cut
  by false = let cut = cut in let low = cut_low m course facts in omega (arith, cut, low)

pub room_small : (m : Measures) (runs : ℕ) (course : Course) (facts : RunFacts) → 1 ≤ m.ring → IsCourse m.ring runs course → run_room m course facts ≤ m.ring
room_small m runs course facts some is = by_numbers (run_at m course facts) m.ring (run_cut m course facts) (cut_past m runs course facts some is) where
  by_numbers : (a r c : ℕ) → a ≤ c → a + r - c ≤ r
  by_numbers a r c le = omega (arith, le)
