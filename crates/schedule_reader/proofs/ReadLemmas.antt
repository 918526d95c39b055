-- What the checked lines of a file mean.
use Rattle.std.proofs.Common.{◌≡◌, ◌⊎◌, ℕ, List, Some, None, Result, Err, IfOk, inl, inr, sym, ap, ◌∙◌, subst}
use Rattle.schedule_reader.specs.declared.fault.SchedFault.{SchedFault}
use Rattle.schedule_reader.specs.declared.fault.SchedFault.TheVariants.{OutOfMemory}
use Rattle.schedule_reader.specs.declared.schedule.Schedule.{Schedule}
use Rattle.schedule_reader.specs.Faults.{first_fault}
use Rattle.schedule_reader.specs.Parts.{parts}
use Rattle.schedule_reader.specs.Ranges.{IsInRange}
use Rattle.schedule_reader.specs.Schedules.{rows, limited, judged, schedule_of, IsReadingOf}
use Rattle.schedule_reader.proofs.RangeLemmas.{parts-range, limited-range}

-- where the lines have a fault, or memory was wanting
pub reading-fault : (bytes : List ℕ) (fault : SchedFault) (result : Result Schedule SchedFault) → result ≡ Err fault → (fault ≡ OutOfMemory) ⊎ (first_fault (rows bytes) ≡ Some fault) → IsReadingOf bytes result
unfolding schedule_of
reading-fault bytes fault result e cause = elim cause [
  | inl memory ↦ inl (e ∙ ap Err memory)
  | inr first ↦ inr (e ∙ sym (ap (λ fault. judged fault (rows bytes)) first))
]

-- where they have none
pub schedule_of-good : (bytes : List ℕ) → first_fault (rows bytes) ≡ None → schedule_of bytes ≡ limited (record { parts = parts (rows bytes) })
unfolding schedule_of
schedule_of-good bytes none = ap (λ fault. judged fault (rows bytes)) none

-- what was read is in range
pub limited_parts-range : (bytes : List ℕ) (schedule : Schedule) → schedule.parts ≡ parts (rows bytes) → IfOk (limited schedule) IsInRange
limited_parts-range bytes schedule e = limited-range schedule (subst (λ parts. IsInRange (record { parts = parts })) (sym e) (parts-range bytes))
