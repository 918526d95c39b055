-- The runs that a driver recorded are those of the journal's stretches: over a stretch there is one more of these.
use Rattle.std.proofs.Common.{◌≡◌, Bool, true, false, List, [], ◌∷◌, ◌++◌, map, refl, sym, ap, subst, ◌∙◌, append_assoc, append-nil}
use Rattle.world_steps.specs.declared.Step.{Step}
use Rattle.hda_world.specs.Worlds.{World}
use Rattle.hda_world.specs.Events.{Event, Stepped, Begin, End, Read, Write, DmaRead, DmaWrite, happens}
use Rattle.hda_world.specs.Tellings.{Telling, Went, Accessed, MakesBy}
use Rattle.hda_capture.specs.Recordings.{RecordMeasures, RecordTally}
use Rattle.driver_progress.specs.Tasks.{Task, DriverLine}
use Rattle.driver_progress.specs.Progress.{Trail, trail_of, trail_after, trail_opened, noted}
use Rattle.driver_progress.specs.Unread.{IsAccess, AreAccesses}
use Rattle.recording_driver.specs.RecordStretches.{RecordStretch, record_taken_up, record_tally_on, record_stretch_of, record_stretches_in, record_stretches_of}

-- ---- the stretches up to somewhere, and those after it

-- the stretches that ended
abbrev pub closed_in : (within : Bool) → (made : List Event) → List Event → List RecordStretch
closed_in within made [] = []
closed_in within made (Stepped step ∷ events) = closed_in within made events
closed_in within made (Begin ∷ events) = closed_in true [] events
closed_in within made (End ∷ events) = record_stretch_of made ∷ closed_in false made events
closed_in within made (Read at width value ∷ events) = closed_in within (made ++ Read at width value ∷ []) events
closed_in within made (Write at width value ∷ events) = closed_in within (made ++ Write at width value ∷ []) events
closed_in within made (DmaRead at bytes ∷ events) = closed_in within (made ++ DmaRead at bytes ∷ []) events
closed_in within made (DmaWrite at bytes ∷ events) = closed_in within (made ++ DmaWrite at bytes ∷ []) events

-- where the trail stands after some events
front_closed : (task : Task) (front back : List Event) (world : World) (trail : Trail)
    → (let there = trail_after task front world trail in record_stretches_in trail.within trail.made (front ++ back) ≡ closed_in trail.within trail.made front ++ record_stretches_in there.within there.made back)
front_closed task [] back world trail = refl
front_closed task (Stepped step ∷ front) back world trail = front_closed task front back (happens world (Stepped step)) (noted task trail world (Stepped step))
front_closed task (Begin ∷ front) back world trail = front_closed task front back world (noted task trail world Begin)
front_closed task (End ∷ front) back world trail =
    ap (λ (stretches : List RecordStretch). record_stretch_of trail.made ∷ stretches) (front_closed task front back world (noted task trail world End))
front_closed task (Read at width value ∷ front) back world trail = front_closed task front back world (noted task trail world (Read at width value))
front_closed task (Write at width value ∷ front) back world trail = front_closed task front back (happens world (Write at width value)) (noted task trail world (Write at width value))
front_closed task (DmaRead at bytes ∷ front) back world trail = front_closed task front back world (noted task trail world (DmaRead at bytes))
front_closed task (DmaWrite at bytes ∷ front) back world trail = front_closed task front back (happens world (DmaWrite at bytes)) (noted task trail world (DmaWrite at bytes))

-- after what is told just these stretches ended, and then whatever comes is read from here on
pub record HasStretches (stretches : List RecordStretch) (within : Bool) (made : List Event) (telling : Telling) : Type 0 where
  pub later : (back : List Event) → record_stretches_in false [] (telling.journal ++ back) ≡ stretches ++ record_stretches_in within made back

pub has_stretches : (task : Task) (lines : List DriverLine) (telling : Telling)
    → HasStretches (closed_in false [] telling.journal) (trail_of task lines telling).within (trail_of task lines telling).made telling
has_stretches task lines telling = record { later = λ back. front_closed task telling.journal back telling.start (trail_opened lines) }

-- where none is open they are all
pub stretches_are : (stretches : List RecordStretch) (made : List Event) (telling : Telling) → HasStretches stretches false made telling → record_stretches_of telling.journal ≡ stretches
stretches_are stretches made telling has =
    ap (λ (journal : List Event). record_stretches_in false [] journal) (sym (append-nil telling.journal)) ∙ has.later [] ∙ append-nil stretches

-- ---- over what happens

steps_read : (within : Bool) (made : List Event) (steps : List Step) (back : List Event) → record_stretches_in within made (map Stepped steps ++ back) ≡ record_stretches_in within made back
steps_read within made [] back = refl
steps_read within made (step ∷ steps) back = steps_read within made steps back

went_read : (stretches : List RecordStretch) (within : Bool) (made : List Event) (old new : Telling) (events : List Event) → Went old new events → HasStretches stretches within made old
    → (back : List Event) → record_stretches_in false [] (new.journal ++ back) ≡ stretches ++ record_stretches_in within made (events ++ back)
went_read stretches within made old new events went has back =
    ap (λ (journal : List Event). record_stretches_in false [] (journal ++ back)) went.journal
    ∙ ap (λ (journal : List Event). record_stretches_in false [] journal) (append_assoc old.journal events back) ∙ has.later (events ++ back)

pub steps_have : (stretches : List RecordStretch) (within : Bool) (made : List Event) (steps : List Step) (old new : Telling) → Went old new (map Stepped steps) → HasStretches stretches within made old → HasStretches stretches within made new
steps_have stretches within made steps old new went has = record {
  later = λ back. went_read stretches within made old new (map Stepped steps) went has back
      ∙ ap (λ (rest : List RecordStretch). stretches ++ rest) (steps_read within made steps back);
}

-- an event after some steps
access_read : (stretches : List RecordStretch) (within : Bool) (made : List Event) (event : Event) (old new : Telling) → Accessed old new event → HasStretches stretches within made old
    → (back : List Event) → record_stretches_in false [] (new.journal ++ back) ≡ stretches ++ record_stretches_in within made (event ∷ back)
access_read stretches within made event old new accessed has back =
    went_read stretches within made old new (map Stepped accessed.steps ++ event ∷ []) accessed.went has back
    ∙ ap (λ (rest : List Event). stretches ++ record_stretches_in within made rest) (append_assoc (map Stepped accessed.steps) (event ∷ []) back)
    ∙ ap (λ (rest : List RecordStretch). stretches ++ rest) (steps_read within made accessed.steps (event ∷ back))

pub begin_has : (stretches : List RecordStretch) (within : Bool) (made : List Event) (old new : Telling) → Accessed old new Begin → HasStretches stretches within made old → HasStretches stretches true [] new
begin_has stretches within made old new accessed has = record { later = λ back. access_read stretches within made Begin old new accessed has back }

pub end_has : (stretches : List RecordStretch) (within : Bool) (made : List Event) (old new : Telling) → Accessed old new End → HasStretches stretches within made old → HasStretches (stretches ++ record_stretch_of made ∷ []) false made new
end_has stretches within made old new accessed has = record {
  later = λ back. access_read stretches within made End old new accessed has back
      ∙ sym (append_assoc stretches (record_stretch_of made ∷ []) (record_stretches_in false made back));
}

one_read : (within : Bool) (made : List Event) (event : Event) (back : List Event) → IsAccess event → record_stretches_in within made (event ∷ back) ≡ record_stretches_in within (made ++ event ∷ []) back
one_read within made (Stepped step) back is = absurd is
one_read within made Begin back is = absurd is
one_read within made End back is = absurd is
one_read within made (Read at width value) back is = refl
one_read within made (Write at width value) back is = refl
one_read within made (DmaRead at bytes) back is = refl
one_read within made (DmaWrite at bytes) back is = refl

pub row_have : (stretches : List RecordStretch) (within : Bool) (made events : List Event) (old new : Telling) → MakesBy events old new → AreAccesses events → HasStretches stretches within made old
    → HasStretches stretches within (made ++ events) new
row_have stretches within made [] old new makes are has =
    subst (λ (telling : Telling). HasStretches stretches within (made ++ []) telling) (sym makes) (subst (λ (made : List Event). HasStretches stretches within made old) (sym (append-nil made)) has)
row_have stretches within made (event ∷ events) old new makes are has =
    subst (λ (made : List Event). HasStretches stretches within made new) (append_assoc made (event ∷ []) events)
    (row_have stretches within (made ++ event ∷ []) events makes.0 new makes.2 are.1 (record {
      later = λ back. access_read stretches within made event old makes.0 makes.1 has back
          ∙ ap (λ (rest : List RecordStretch). stretches ++ rest) (one_read within made event back are.0);
    }))

-- ---- the tally of stretches in a row

pub tally_both : (m : RecordMeasures) (tally : RecordTally) (front back : List RecordStretch) → record_tally_on m tally (front ++ back) ≡ record_tally_on m (record_tally_on m tally front) back
tally_both m tally [] back = refl
tally_both m tally (stretch ∷ front) back = tally_both m (record_taken_up m tally stretch) front back
