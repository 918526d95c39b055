-- What stretches find, over what is told.
use Rattle.std.proofs.Common.{◌≡◌, ℕ, List, [], ◌∷◌, ◌++◌, map, Bool, true, false, if◌then◌else◌, Option, Some, None, refl, sym, subst, ◌∙◌}
use Rattle.std.proofs.lemmas.Bool.{false≢true}
use Rattle.std.specs.Option.{is_some}
use Rattle.verb_codes.specs.Words.{has_bit}
use Rattle.command_engine.specs.declared.ring_places.RingPlaces.{RingPlaces}
use Rattle.world_steps.specs.declared.Step.{Step}
use Rattle.hda_world.specs.Worlds.{World}
use Rattle.hda_world.specs.Events.{Event, Stepped, Begin, End, Read, Write, DmaRead, DmaWrite, happens, after}
use Rattle.hda_world.specs.Tellings.{Telling, world_of, Went, Accessed, MakesBy}
use Rattle.driver_progress.specs.declared.phase.Phase.{Phase}
use Rattle.driver_progress.specs.declared.phase.Phase.TheVariants.{Reset, Settling, Walking}
use Rattle.driver_progress.specs.Phases.{goes_on}
use Rattle.driver_progress.specs.Tasks.{Task, DriverLine}
use Rattle.driver_progress.specs.States.{State}
use Rattle.driver_progress.specs.Seen.{Seen, clock_of}
use Rattle.driver_progress.specs.Expected.{has_settled, rings_seen}
use Rattle.driver_progress.specs.Next.{next, led, tally_next, finds_none, reset_if, settled_if}
use Rattle.driver_progress.specs.Progress.{Trail, trail_of, trail_after, trail_opened, noted}
use Rattle.driver_progress.specs.Unread.{IsAccess, AreAccesses}
use Rattle.laws_bring_up.specs.Stretches.{FindsIn, FindsBy, FindsAt, FindsAll, HasFound}

-- ---- over events in a row

finds_both : (task : Task) (front back : List Event) (world : World) (trail : Trail) → FindsAll task front world trail → FindsAll task back (after front world) (trail_after task front world trail)
    → FindsAll task (front ++ back) world trail
finds_both task [] back world trail here later = later
finds_both task (event ∷ front) back world trail here later = (here.0, finds_both task front back (happens world event) (noted task trail world event) here.1 later)

pub steps_find : (task : Task) (steps : List Step) (world : World) (trail : Trail) → FindsAll task (map Stepped steps) world trail
steps_find task [] world trail = tt {0}
steps_find task (step ∷ steps) world trail = (tt {0}, steps_find task steps (happens world (Stepped step)) trail)

pub finds_went : (task : Task) (lines : List DriverLine) (old new : Telling) (events : List Event) → Went old new events → FindsAll task events (world_of old) (trail_of task lines old) → HasFound task lines old
    → HasFound task lines new
finds_went task lines old new events went more finds =
    subst (λ (start : World). FindsAll task new.journal start (trail_opened lines)) (sym went.start)
    (subst (λ (journal : List Event). FindsAll task journal old.start (trail_opened lines)) (sym went.journal)
    (finds_both task old.journal events old.start (trail_opened lines) finds more))

finds_stepped : (task : Task) (steps : List Step) (event : Event) (world : World) (trail : Trail) → FindsAt trail event → FindsAll task (map Stepped steps ++ event ∷ []) world trail
finds_stepped task [] event world trail finds = (finds, tt {0})
finds_stepped task (step ∷ steps) event world trail finds = (tt {0}, finds_stepped task steps event (happens world (Stepped step)) trail finds)

-- an event after some steps of the device
pub finds_access : (task : Task) (lines : List DriverLine) (event : Event) (old new : Telling) → Accessed old new event → FindsAt (trail_of task lines old) event → HasFound task lines old → HasFound task lines new
finds_access task lines event old new accessed finds =
    finds_went task lines old new (map Stepped accessed.steps ++ event ∷ []) accessed.went (finds_stepped task accessed.steps event (world_of old) (trail_of task lines old) finds)

access_finds : (trail : Trail) (event : Event) → IsAccess event → FindsAt trail event
access_finds trail (Stepped step) is = absurd is
access_finds trail Begin is = absurd is
access_finds trail End is = absurd is
access_finds trail (Read at width value) is = tt {0}
access_finds trail (Write at width value) is = tt {0}
access_finds trail (DmaRead at bytes) is = tt {0}
access_finds trail (DmaWrite at bytes) is = tt {0}

-- and a row of accesses
pub row_finds : (task : Task) (lines : List DriverLine) (made : List Event) (old new : Telling) → MakesBy made old new → AreAccesses made → HasFound task lines old → HasFound task lines new
row_finds task lines [] old new none are finds = subst (HasFound task lines) (sym none) finds
row_finds task lines (event ∷ made) old new makes are finds =
    row_finds task lines made makes.0 new makes.2 are.1 (finds_access task lines event old makes.0 makes.1 (access_finds (trail_of task lines old) event are.0) finds)

-- ---- by where it leads

not_settling : Reset ≡ Settling → ⊥
not_settling is = cc

not_walking : Settling ≡ Walking → ⊥
not_walking is = cc

-- a stretch that leads on from Reset leads out of reset
out_by : (none out : Bool) (clock : ℕ) (state : State) → state.phase ≡ Reset → (if none then state else reset_if out clock state).phase ≡ Settling → out ≡ true
out_by none true clock state was is = refl
out_by true false clock state was is = absurd (not_settling (sym was ∙ is))
out_by false false clock state was is = absurd (not_settling (sym was ∙ is))

pub reset_finds : (task : Task) (state : State) (line : DriverLine) (seen : Seen) → state.phase ≡ Reset → (finds_none line seen ≡ false → (next task state (Some line) seen).phase ≡ Settling) → FindsBy (Some line) state seen
reset_finds task state line seen was leads some =
    let tally = tally_next task state (Some line) seen in
    subst (λ (phase : Phase). FindsIn phase state seen) (sym was)
    (out_by (finds_none line seen) (has_bit seen.control 0) (clock_of seen) state was
    (subst (λ (phase : Phase). (if finds_none line seen then state else led task state seen tally phase).phase ≡ Settling) was (leads some)))

-- one that leads on from Settling finds both rings
rings_by : (none settled : Bool) (rings : Option RingPlaces) (state : State) → state.phase ≡ Settling → (if none then state else settled_if settled rings state).phase ≡ Walking → is_some rings ≡ true
rings_by none settled (Some rings) state was is = refl
rings_by true settled None state was is = absurd (not_walking (sym was ∙ is))
rings_by false true None state was is = absurd (not_walking (sym was ∙ is))
rings_by false false None state was is = absurd (not_walking (sym was ∙ is))

pub settle_finds : (task : Task) (state : State) (line : DriverLine) (seen : Seen) → state.phase ≡ Settling
    → (finds_none line seen ≡ false → has_settled state.kept (clock_of seen) ≡ true → (next task state (Some line) seen).phase ≡ Walking) → FindsBy (Some line) state seen
settle_finds task state line seen was leads some =
    let tally = tally_next task state (Some line) seen in
    subst (λ (phase : Phase). FindsIn phase state seen) (sym was)
    (λ settled. rings_by (finds_none line seen) (has_settled state.kept (clock_of seen)) (rings_seen seen) state was
    (subst (λ (phase : Phase). (if finds_none line seen then state else led task state seen tally phase).phase ≡ Walking) was (leads some settled)))

-- and nothing is to be found later
pub going_finds : (phase : Phase) (state : State) (seen : Seen) → goes_on phase ≡ true → FindsIn phase state seen
going_finds Reset state seen goes = absurd (false≢true goes)
going_finds Settling state seen goes = absurd (false≢true goes)
going_finds phase state seen goes = tt {0}
