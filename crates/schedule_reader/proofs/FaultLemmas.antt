-- Want of memory is no fault of lines.
use Rattle.std.proofs.Common.{◌≡◌, ◌≢◌, ◌+◌, inl, inr, nat_lt, ℕ, Bool, true, false, List, [], ◌∷◌, Option, Some, None, Result, Ok, Err, if◌then◌else◌, sym, ap, ◌∙◌}
use Rattle.schedule_reader.specs.declared.schedule.Schedule.{Schedule}
use Rattle.schedule_reader.specs.declared.rows.Row.{Row}
use Rattle.schedule_reader.specs.declared.rows.Row.TheVariants.{Skipped, Item, Repeat, End}
use Rattle.schedule_reader.specs.declared.fault.SchedFault.{SchedFault}
use Rattle.schedule_reader.specs.declared.fault.SchedFault.TheVariants.{TooManySteps, TooManyFrames, OutOfMemory}
use Rattle.schedule_reader.specs.Faults.{inside_after, or_behind, fault_from, first_fault}
use Rattle.schedule_reader.specs.Counts.{steps_of, frames_of}
use Rattle.schedule_reader.specs.Schedules.{rows, most_steps, most_frames, limited, judged, schedule_of, IsReadingOf}

inside_fault : (number : ℕ) (inside : Bool) (row : Option Row) → inside_after number inside row ≢ Err OutOfMemory
inside_fault number inside None is = cc
inside_fault number inside (Some Skipped) is = cc
inside_fault number inside (Some (Item _)) is = cc
inside_fault number false (Some (Repeat _)) is = cc
inside_fault number true (Some (Repeat _)) is = cc
inside_fault number true (Some End) is = cc
inside_fault number false (Some End) is = cc

behind_fault : (found : Result Bool SchedFault) (behind : Bool → Option SchedFault) → found ≢ Err OutOfMemory
    → ((inside : Bool) → behind inside ≢ Some OutOfMemory) → or_behind found behind ≢ Some OutOfMemory
behind_fault (Err fault) behind first rest is =
    let fault_is : fault ≡ OutOfMemory = cc in
    first (ap Err fault_is)
behind_fault (Ok inside) behind first rest is = rest inside is

fault_of_lines : (number : ℕ) (inside : Bool) (lines : List (Option Row)) → fault_from number inside lines ≢ Some OutOfMemory
fault_of_lines number true [] is = cc
fault_of_lines number false [] is = cc
fault_of_lines number inside (row ∷ lines) is =
    behind_fault (inside_after number inside row) (λ now. fault_from (number + 1) now lines) (inside_fault number inside row) (λ now. fault_of_lines (number + 1) now lines) is

fault_of_counts : (schedule : Schedule) → limited schedule ≢ Err OutOfMemory
unfolding limited
fault_of_counts schedule = by_steps (nat_lt most_steps (steps_of schedule)) (nat_lt most_frames (frames_of schedule))
  where
    by_steps : (steps frames : Bool) → (if steps then Err TooManySteps else (if frames then Err TooManyFrames else Ok schedule)) ≢ Err OutOfMemory
    by_steps true frames is = cc
    by_steps false true is = cc
    by_steps false false is = cc

judged_fault : (found : Option SchedFault) (lines : List (Option Row)) → found ≢ Some OutOfMemory → judged found lines ≢ Err OutOfMemory
judged_fault (Some fault) lines none is =
    let fault_is : fault ≡ OutOfMemory = cc in
    none (ap Some fault_is)
judged_fault None lines none is = fault_of_counts _ is

pub no_memory : (bytes : List ℕ) → schedule_of bytes ≢ Err OutOfMemory
unfolding schedule_of
no_memory bytes = judged_fault (first_fault (rows bytes)) (rows bytes) (fault_of_lines 1 false (rows bytes))

pub one_reading : (bytes : List ℕ) (one other : Result Schedule SchedFault) → IsReadingOf bytes one → IsReadingOf bytes other
    → one ≢ Err OutOfMemory → other ≢ Err OutOfMemory → one ≡ other
one_reading bytes one other (inl memory) second some_one some_other = absurd (some_one memory)
one_reading bytes one other (inr first) (inl memory) some_one some_other = absurd (some_other memory)
one_reading bytes one other (inr first) (inr second) some_one some_other = first ∙ sym second
