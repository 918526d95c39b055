-- Progress' trail beside the rules, once a stretch began in `Ready`: it stays there.
use Rattle.std.proofs.Common.{◌≡◌, ℕ, Bool, true, false, if◌then◌else◌, List, [], ◌∷◌, ◌++◌, map, Option, None, Some, refl, sym, ap, subst, ◌∙◌}
use Rattle.std.proofs.lemmas.Bool.{false≢true}
use Rattle.world_steps.specs.declared.Step.{Step}
use Rattle.hda_world.specs.Worlds.{World}
use Rattle.hda_world.specs.Events.{Event, Stepped, Begin, End, Read, Write, DmaRead, DmaWrite, happens, after}
use Rattle.hda_world.specs.Tellings.{Telling, world_of, Went, Accessed, MakesBy, Makes}
use Rattle.period_writer.specs.Runs.{Tally}
use Rattle.driver_progress.specs.declared.phase.Phase.{Phase}
use Rattle.driver_progress.specs.declared.phase.Phase.TheVariants.{Reset, Settling, Ready, Playing}
use Rattle.driver_progress.specs.Phases.{are_set_up}
use Rattle.driver_progress.specs.Tasks.{Task, DriverLine}
use Rattle.driver_progress.specs.States.{State}
use Rattle.driver_progress.specs.Seen.{Seen}
use Rattle.driver_progress.specs.Next.{tally_next, led, closed, led_by, finds_none}
use Rattle.driver_progress.specs.Progress.{Trail, trail_of, trail_after, trail_opened, noted, seen_in}
use Rattle.driver_progress.specs.Unread.{IsAccess, AreAccesses}
use Rattle.driver_progress.proofs.Callers.{trail_went, steps_leave_trail}
use Rattle.laws_bring_up.specs.Stretches.{FindsIn, FindsBy, FindsAt, FindsAll, HasFound}
use Rattle.laws_bring_up.proofs.Callers.{trail_access, accesses_row}

-- ---- what stretches find, over events that went on

finds_both : (task : Task) (front back : List Event) (world : World) (trail : Trail) → FindsAll task front world trail → FindsAll task back (after front world) (trail_after task front world trail)
    → FindsAll task (front ++ back) world trail
finds_both task [] back world trail here later = later
finds_both task (event ∷ front) back world trail here later = (here.0, finds_both task front back (happens world event) (noted task trail world event) here.1 later)

finds_went : (task : Task) (lines : List DriverLine) (old new : Telling) (events : List Event) → Went old new events → FindsAll task events (world_of old) (trail_of task lines old) → HasFound task lines old
    → HasFound task lines new
finds_went task lines old new events went more finds =
    subst (λ (start : World). FindsAll task new.journal start (trail_opened lines)) (sym went.start)
    (subst (λ (journal : List Event). FindsAll task journal old.start (trail_opened lines)) (sym went.journal)
    (finds_both task old.journal events old.start (trail_opened lines) finds more))

steps_find : (task : Task) (steps : List Step) (world : World) (trail : Trail) → FindsAll task (map Stepped steps) world trail
steps_find task [] world trail = tt {0}
steps_find task (step ∷ steps) world trail = (tt {0}, steps_find task steps (happens world (Stepped step)) trail)

stepped_find : (task : Task) (steps : List Step) (event : Event) (world : World) (trail : Trail) → FindsAt trail event → FindsAll task (map Stepped steps ++ event ∷ []) world trail
stepped_find task [] event world trail finds = (finds, tt {0})
stepped_find task (step ∷ steps) event world trail finds = (tt {0}, stepped_find task steps event (happens world (Stepped step)) trail finds)

access_find : (task : Task) (lines : List DriverLine) (event : Event) (old new : Telling) → Accessed old new event → FindsAt (trail_of task lines old) event → HasFound task lines old → HasFound task lines new
access_find task lines event old new accessed finds =
    finds_went task lines old new (map Stepped accessed.steps ++ event ∷ []) accessed.went (stepped_find task accessed.steps event (world_of old) (trail_of task lines old) finds)

access_finds : (trail : Trail) (event : Event) → IsAccess event → FindsAt trail event
access_finds trail (Stepped step) is = absurd is
access_finds trail Begin is = absurd is
access_finds trail End is = absurd is
access_finds trail (Read at width value) is = tt {0}
access_finds trail (Write at width value) is = tt {0}
access_finds trail (DmaRead at bytes) is = tt {0}
access_finds trail (DmaWrite at bytes) is = tt {0}

row_find : (task : Task) (lines : List DriverLine) (made : List Event) (old new : Telling) → MakesBy made old new → AreAccesses made → HasFound task lines old → HasFound task lines new
row_find task lines [] old new none are finds = subst (HasFound task lines) (sym none) finds
row_find task lines (event ∷ made) old new makes are finds =
    row_find task lines made makes.0 new makes.2 are.1 (access_find task lines event old makes.0 makes.1 (access_finds (trail_of task lines old) event are.0) finds)

-- ---- in `Ready` nothing is to be found

none_found : (phase : Phase) (state : State) (seen : Seen) → are_set_up phase ≡ true → FindsIn phase state seen
none_found Reset state seen up = absurd (false≢true up)
none_found Settling state seen up = absurd (false≢true up)
none_found phase state seen up = tt {0}

found_by : (turn : Option DriverLine) (state : State) (seen : Seen) → are_set_up state.phase ≡ true → FindsBy turn state seen
found_by None state seen up = tt {0}
found_by (Some line) state seen up = λ some. none_found state.phase state seen up

-- ---- and a stretch of a task that plays nothing leaves the state but for the tally

either_same : (test : Bool) (one other state : State) → one ≡ state → other ≡ state → (if test then one else other) ≡ state
either_same true one other state first second = first
either_same false one other state first second = second

led_same : (task : Task) (state : State) (seen : Seen) (tally : Tally) → task.plays ≡ false → state.phase ≡ Ready → led task state seen tally state.phase ≡ state
led_same task state seen tally silent ready =
    ap (λ (phase : Phase). led task state seen tally phase) ready ∙ ap (λ (plays : Bool). if plays then record state { phase = Playing } else state) silent

next_same : (task : Task) (state : State) (turn : Option DriverLine) (seen : Seen) (tally : Tally) → task.plays ≡ false → state.phase ≡ Ready → led_by task state turn seen tally ≡ state
next_same task state None seen tally silent ready = ap (λ (phase : Phase). closed task state seen tally phase) ready
next_same task state (Some line) seen tally silent ready =
    either_same (finds_none line seen) state (led task state seen tally state.phase) state refl (led_same task state seen tally silent ready)

-- ---- beside the rules

module _ (task : Task) (lines : List DriverLine) where
  -- nothing more is to be found, and progress came no further than `Ready`
  pub record IsBesideRules (sent : ℕ) (telling : Telling) : Type 0 where
    pub finds : HasFound task lines telling
    pub phase_is : (trail_of task lines telling).state.phase ≡ Ready
    pub sent_is : (trail_of task lines telling).state.sent ≡ sent

  same_state : (sent : ℕ) (old new : Telling) → (trail_of task lines new).state ≡ (trail_of task lines old).state → HasFound task lines new → IsBesideRules sent old → IsBesideRules sent new
  same_state sent old new same finds beside = record {
    finds = finds;
    phase_is = ap (λ (state : State). state.phase) same ∙ beside.phase_is;
    sent_is = ap (λ (state : State). state.sent) same ∙ beside.sent_is;
  }

  pub steps_beside : (sent : ℕ) (steps : List Step) (old new : Telling) → Went old new (map Stepped steps) → IsBesideRules sent old → IsBesideRules sent new
  steps_beside sent steps old new went beside =
      let trail = trail_of task lines old in
      same_state sent old new
      (ap (λ (trail : Trail). trail.state) (trail_went task lines old new (map Stepped steps) went ∙ steps_leave_trail task steps (world_of old) trail))
      (finds_went task lines old new (map Stepped steps) went (steps_find task steps (world_of old) trail) beside.finds) beside

  pub begin_beside : (sent : ℕ) (old new : Telling) → Accessed old new Begin → IsBesideRules sent old → IsBesideRules sent new
  begin_beside sent old new accessed beside =
      same_state sent old new (ap (λ (trail : Trail). trail.state) (trail_access task lines Begin old new accessed)) (access_find task lines Begin old new accessed (tt {0}) beside.finds) beside

  pub row_beside : (sent : ℕ) (made : List Event) (old new : Telling) → Makes made old new → AreAccesses made → IsBesideRules sent old → IsBesideRules sent new
  row_beside sent made old new makes are beside =
      same_state sent old new (accesses_row task lines made old new makes.by are).state_is (row_find task lines made old new makes.by are beside.finds) beside

  pub end_beside : (sent : ℕ) (old new : Telling) → task.plays ≡ false → Accessed old new End → IsBesideRules sent old → IsBesideRules sent new
  end_beside sent old new silent accessed beside =
      let trail = trail_of task lines old in
      let seen = seen_in trail in
      let is = trail_access task lines End old new accessed in
      let same = next_same task trail.state trail.turn seen (tally_next task trail.state trail.turn seen) silent beside.phase_is in record {
        finds = access_find task lines End old new accessed (found_by trail.turn trail.state seen (ap are_set_up beside.phase_is)) beside.finds;
        phase_is = ap (λ (trail : Trail). trail.state.phase) is ∙ ap (λ (state : State). state.phase) same ∙ beside.phase_is;
        sent_is = ap (λ (trail : Trail). trail.state.sent) is ∙ ap (λ (state : State). state.sent) same ∙ beside.sent_is;
      }
