-- The line that runs record is whole: no two silences of it touch, all else is the sound, and it is as long as its last run's reach.
use Rattle.std.proofs.Common.{◌≤◌, ◌+◌, ◌-◌, ◌*◌, ℕ, Bool, true, false, List, [], ◌∷◌, length, drop, length-drop, arith}
use Rattle.std.proofs.Math.Nat.{mul-le-mul_left}
use Rattle.period_writer.specs.declared.course.Ran.{Ran}
use Rattle.period_writer.specs.declared.course.Ran.TheVariants as ran
use Rattle.period_writer.specs.declared.geometry.Geometry.{Geometry}
use Rattle.period_writer.specs.Courses.{IsCourse}
use Rattle.period_writer.specs.Owning.{IsWritten}
use Rattle.period_writer.specs.Rings.{period_bytes}
use Rattle.period_writer.specs.Runs.{Measures, RunFacts, Stretch, Tally, measures, run_room, run_sound, tally_if, tally_of_stretches, tally_on, tally_opened, taken_up, taken_up_if}
use Rattle.period_writer.proofs.Callers.{sound_most}

-- what a run keeps
pub record RunLaws : Type 0 where
  pub opened : (ring : ℕ) → IsCourse ring 0 tally_opened.course
  pub kept : (m : Measures) (runs : ℕ) (tally : Tally) (facts : RunFacts) → 1 ≤ m.ring → IsCourse m.ring runs tally.course → IsCourse m.ring (runs + 1) (tally_if false m tally facts).course
  pub late : (m : Measures) (runs : ℕ) (tally : Tally) (facts : RunFacts) → IsCourse m.ring runs tally.course → IsCourse m.ring runs (tally_if true m tally facts).course
  pub line_opened : (pcm : List ℕ) → IsWritten pcm tally_opened
  pub line_kept : (m : Measures) (runs : ℕ) (tally : Tally) (facts : RunFacts) (pcm : List ℕ) → IsCourse m.ring runs tally.course → IsWritten pcm tally
      → run_sound m tally.course facts ≤ length (drop tally.course.used pcm) → IsWritten pcm (tally_if false m tally facts)
  pub line_late : (m : Measures) (runs : ℕ) (tally : Tally) (facts : RunFacts) (pcm : List ℕ) → IsCourse m.ring runs tally.course → IsWritten pcm tally
      → IsWritten pcm (tally_if true m tally facts)

-- a ring has bytes
pub ring_some : (geometry : Geometry) → 1 ≤ (measures geometry).ring
ring_some geometry =
    let some = geometry.some_periods in
    let some' = geometry.some in
    let wide : period_bytes geometry.period * 2 ≤ period_bytes geometry.period * geometry.periods = mul-le-mul_left (period_bytes geometry.period) some in
    omega (arith, wide, some')

-- the course and the line of some runs
record HasLine (m : Measures) (pcm : List ℕ) (tally : Tally) : Type 0 where
  pub runs : ℕ
  pub course : IsCourse m.ring runs tally.course
  pub line : IsWritten pcm tally

module _ (laws : RunLaws) (m : Measures) (some : 1 ≤ m.ring) (pcm : List ℕ) where
  has_if : (late : Bool) (tally : Tally) (facts : RunFacts) → facts.left ≤ length (drop tally.course.used pcm) → HasLine m pcm tally → HasLine m pcm (tally_if late m tally facts)
  has_if true tally facts enough has = record {
    runs = has.runs;
    course = laws.late m has.runs tally facts has.course;
    line = laws.line_late m has.runs tally facts pcm has.course has.line;
  }
  has_if false tally facts enough has = record {
    runs = has.runs + 1;
    course = laws.kept m has.runs tally facts some has.course;
    line = laws.line_kept m has.runs tally facts pcm has.course has.line
        (let most = sound_most m.block facts.budget (run_room m tally.course facts) facts.left in omega (arith, most, enough));
  }

  left_is : (used : ℕ) → length pcm - used ≤ length (drop used pcm)
  left_is used = let long = length-drop used pcm in omega (arith, long)

  has_taken : (was : Ran) (clocks : List ℕ) (stretch : Stretch) (tally : Tally) → HasLine m pcm tally → HasLine m pcm (taken_up_if was clocks m (length pcm) stretch tally)
  has_taken ran.Playing [] stretch tally has = has
  has_taken ran.Playing (from ∷ []) stretch tally has = has
  has_taken ran.Playing (from ∷ to ∷ []) stretch tally has = has_if _ tally _ (left_is tally.course.used) has
  has_taken ran.Playing (from ∷ to ∷ other ∷ more) stretch tally has = has
  has_taken ran.Drained clocks stretch tally has = has
  has_taken (ran.Late from to limit) clocks stretch tally has = has

  has_on : (stretches : List Stretch) (tally : Tally) → HasLine m pcm tally → HasLine m pcm (tally_on m (length pcm) tally stretches)
  has_on [] tally has = has
  has_on (stretch ∷ stretches) tally has =
      has_on stretches (taken_up m (length pcm) tally stretch) (has_taken tally.course.ran stretch.clocks stretch tally has)

-- so it is of all stretches
pub recorded_line : RunLaws → (geometry : Geometry) (pcm : List ℕ) (stretches : List Stretch) → IsWritten pcm (tally_of_stretches (measures geometry) (length pcm) stretches)
recorded_line laws geometry pcm stretches =
    (has_on laws (measures geometry) (ring_some geometry) pcm stretches tally_opened (record { runs = 0; course = laws.opened _; line = laws.line_opened pcm })).line
