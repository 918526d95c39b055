-- Runs before each of which a ring of the sound is left are those over more sound.
use Rattle.std.proofs.Common.{◌≡◌, ◌≤◌, ◌+◌, ◌-◌, ◌∙◌, ℕ, Bool, true, false, List, [], ◌∷◌, refl, ap, arith}
use Rattle.std.specs.Prelude.{min, slice_index}
use Rattle.period_writer.specs.declared.course.Ran.{Ran}
use Rattle.period_writer.specs.declared.course.Ran.TheVariants as ran
use Rattle.period_writer.specs.Courses.{IsCourse}
use Rattle.period_writer.specs.Runs.{Measures, RunFacts, Stretch, Tally, facts_of, is_late, tally_if, tally_after, taken_up, taken_up_if, tally_on, HasRingLeft}
use Rattle.period_writer.proofs.CourseRuns.{course_goes_on, course_stays}
use Rattle.period_writer.proofs.SameRuns.{tally_same}

-- a course, whatever number of runs led to it
record IsSomeCourse (m : Measures) (tally : Tally) : Type 0 where
  pub runs : ℕ
  pub is : IsCourse m.ring runs tally.course

module _ (m : Measures) (total more : ℕ) (some : 1 ≤ m.ring) where
  goes_if : (late : Bool) (tally : Tally) (facts : RunFacts) → IsSomeCourse m tally → IsSomeCourse m (tally_if late m tally facts)
  goes_if true tally facts has = record { runs = has.runs; is = course_stays m has.runs tally facts has.is }
  goes_if false tally facts has = record { runs = has.runs + 1; is = course_goes_on m has.runs tally facts some has.is }

  goes_on : (was : Ran) (clocks : List ℕ) (stretch : Stretch) (tally : Tally) → IsSomeCourse m tally → IsSomeCourse m (taken_up_if was clocks m total stretch tally)
  goes_on ran.Playing [] stretch tally has = has
  goes_on ran.Playing (from ∷ []) stretch tally has = has
  goes_on ran.Playing (from ∷ to ∷ []) stretch tally has = goes_if _ tally _ has
  goes_on ran.Playing (from ∷ to ∷ other ∷ later) stretch tally has = has
  goes_on ran.Drained clocks stretch tally has = has
  goes_on (ran.Late from to limit) clocks stretch tally has = has

  run_same : (tally : Tally) (budget from lpib to : ℕ) → IsSomeCourse m tally → tally.course.used + m.ring ≤ total
      → tally_after m tally (facts_of budget (total + more - tally.course.used) from lpib to) ≡ tally_after m tally (facts_of budget (total - tally.course.used) from lpib to)
  run_same tally budget from lpib to has left =
      tally_same m has.runs tally budget (total + more - tally.course.used) (total - tally.course.used) from lpib to some has.is
      (less tally.course.used) (enough tally.course.used left) (λ started none. absurd (omega (arith, left, some, none))) where
        less : (used : ℕ) → total - used ≤ total + more - used
        less used = omega arith

        enough : (used : ℕ) → used + m.ring ≤ total → min budget (min m.ring (total + more - used)) ≤ total - used
        enough used left = grind (arith, left)

  taken_same : (was : Ran) (clocks : List ℕ) (stretch : Stretch) (tally : Tally) → IsSomeCourse m tally → tally.course.used + m.ring ≤ total
      → taken_up_if was clocks m (total + more) stretch tally ≡ taken_up_if was clocks m total stretch tally
  taken_same ran.Playing [] stretch tally has left = refl
  taken_same ran.Playing (from ∷ []) stretch tally has left = refl
  taken_same ran.Playing (from ∷ to ∷ []) stretch tally has left = run_same tally stretch.budget from (slice_index stretch.lpibs 0) to has left
  taken_same ran.Playing (from ∷ to ∷ other ∷ later) stretch tally has left = refl
  taken_same ran.Drained clocks stretch tally has left = refl
  taken_same (ran.Late from to limit) clocks stretch tally has left = refl

  on_same : (stretches : List Stretch) (tally : Tally) → IsSomeCourse m tally → HasRingLeft m total tally stretches
      → tally_on m (total + more) tally stretches ≡ tally_on m total tally stretches
  on_same [] tally has left = refl
  on_same (stretch ∷ stretches) tally has left =
      ap (λ (tally : Tally). tally_on m (total + more) tally stretches) (taken_same tally.course.ran stretch.clocks stretch tally has left.0)
      ∙ on_same stretches (taken_up m total tally stretch) (goes_on tally.course.ran stretch.clocks stretch tally has) left.1

  pub stretches_same : (stretches : List Stretch) (runs : ℕ) (tally : Tally) → IsCourse m.ring runs tally.course → HasRingLeft m total tally stretches
      → tally_on m (total + more) tally stretches ≡ tally_on m total tally stretches
  stretches_same stretches runs tally is left = on_same stretches tally (record { runs = runs; is = is }) left
