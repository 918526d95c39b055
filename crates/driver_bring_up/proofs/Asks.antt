-- A call while commands are sent leads where progress says.
use Rattle.std.proofs.Common.{◌≡◌, ◌≢◌, ℕ, List, [], ◌++◌, Bool, true, false, Option, Some, None, refl, sym, ap, subst, ◌∙◌, arith}
use Rattle.std.proofs.lemmas.Bool.{false≢true}
use Rattle.std.specs.Prelude.{◌&&◌, not}
use Rattle.std.specs.Option.{is_some}
use Rattle.command_engine.specs.declared.ring_places.RingPlaces.{RingPlaces}
use Rattle.command_engine.specs.declared.answers.Outstanding.{Outstanding}
use Rattle.command_engine.specs.declared.answers.Poll.{Poll}
use Rattle.command_engine.specs.declared.answers.Poll.TheVariants as polls
use Rattle.command_engine.specs.Polling.{PollReads, AreNew, poll_of, found_by, rings_polled}
use Rattle.driver_agenda.specs.declared.agenda.Agenda.{Agenda}
use Rattle.driver_progress.specs.declared.phase.Phase.{Phase}
use Rattle.driver_progress.specs.declared.phase.Phase.TheVariants.{Playing, Drained, Late, Failed}
use Rattle.driver_progress.specs.Tasks.{Task, Order}
use Rattle.driver_progress.specs.States.{State}
use Rattle.driver_progress.specs.Expected.{shuts}
use Rattle.hda_world.specs.Events.{Event}
use Rattle.driver_progress.specs.Commands.{ask_accesses}
use Rattle.driver_progress.specs.Shutting.{shut_accesses}
use Rattle.driver_bring_up.specs.Standing.{Agrees, answers_of, phase_of, next_on}
use Rattle.driver_bring_up.specs.Commanding.{LedTo, poll_by, leaves_free, unanswered_if, order_if, submit_made, rings_with, sent_with, state_with, IsStretch, IsLastLook, run_of}
use Rattle.driver_progress.specs.Phases.{is_asking, goes_on, can_follow, is_early}
use Rattle.driver_progress.proofs.Callers.{asking_goes_on, asking_early}
use Rattle.driver_bring_up.specs.Calls.{is_ended, sent_if}
use Rattle.driver_bring_up.proofs.Leading.{outstanding_none}
use Rattle.driver_bring_up.proofs.Commands.{comes, stretch, closing, last_look}

-- ---- phases

follows_early : (phase : Phase) → can_follow phase ≡ true → is_early phase ≡ true
follows_early Playing is = cc
follows_early Drained is = cc
follows_early (Late from to limit) is = cc
follows_early phase is = refl

-- ---- whether an answer ended it

-- one that did not leads on
not_ended : (asking found follows goes : Bool) → asking ≡ true → found ≡ true → (asking && (found && (follows && not goes))) ≡ false → follows ≡ true → goes ≡ true
not_ended true true true true asks some ended follow = refl
not_ended true true true false asks some ended follow = cc
not_ended true true false goes asks some ended follow = cc
not_ended true false follows goes asks some ended follow = cc
not_ended false found follows goes asks some ended follow = cc

-- and one that did does not
ended_by : (asking found follows goes : Bool) → (asking && (found && (follows && not goes))) ≡ true → (asking ≡ true) × (found ≡ true) × (goes ≡ false)
ended_by true true true false ended = (refl, refl, refl)
ended_by true true true true ended = absurd (false≢true ended)
ended_by true true false goes ended = absurd (false≢true ended)
ended_by true false follows goes ended = absurd (false≢true ended)
ended_by false found follows goes ended = absurd (false≢true ended)

pub is_over : (old : Phase) (found : Bool) (new : Phase) → is_ended old found new ≡ true → (is_asking old ≡ true) × (found ≡ true) × (goes_on new ≡ false)
is_over old found new ended = ended_by (is_asking old) found (can_follow new) (goes_on new) ended

pub ended_there : (old new : Phase) (found found' : Option ℕ) (ended : Bool) → found ≡ found' → is_ended old (is_some found') new ≡ ended → is_ended old (is_some found) new ≡ ended
ended_there old new found found' ended same is = subst (λ (found : Option ℕ). is_ended old (is_some found) new ≡ ended) (sym same) is

-- ---- what a look leaves

given_up : (outstanding : Option Outstanding) (issued noticed : ℕ) (phase : Phase) → is_early phase ≡ true → is_early (unanswered_if outstanding issued noticed phase) ≡ true
given_up None issued noticed phase early = early
given_up (Some command) issued noticed phase early = refl

given_up_goes : (outstanding : Option Outstanding) (issued noticed : ℕ) (phase phase' : Phase) → phase' ≡ unanswered_if outstanding issued noticed phase → goes_on phase' ≡ true → phase' ≡ phase
given_up_goes None issued noticed phase phase' is goes = is
given_up_goes (Some command) issued noticed phase phase' is goes = absurd (false≢true (sym (ap goes_on is) ∙ goes))

pub led_stays : (poll : Poll) (outstanding : Option Outstanding) (phase phase' : Phase) (old new : Agenda) → phase ≡ phase_of old → LedTo poll outstanding phase old phase' new → goes_on phase' ≡ true → phase' ≡ phase_of new
led_stays polls.Idle outstanding phase phase' old new at led goes = led.0 ∙ at ∙ ap phase_of (sym led.1)
led_stays (polls.Answered word) outstanding phase phase' old new at led goes = led.1 goes
led_stays polls.Waiting outstanding phase phase' old new at led goes = led.0 ∙ at ∙ ap phase_of (sym led.1)
led_stays (polls.Unanswered issued noticed) outstanding phase phase' old new at led goes = given_up_goes outstanding issued noticed phase phase' led.0 goes ∙ at ∙ ap phase_of (sym led.1)

pub led_early : (poll : Poll) (outstanding : Option Outstanding) (phase phase' : Phase) (old new : Agenda) → is_asking phase ≡ true → LedTo poll outstanding phase old phase' new → is_early phase' ≡ true
led_early polls.Idle outstanding phase phase' old new asking led = ap is_early led.0 ∙ asking_early phase asking
led_early (polls.Answered word) outstanding phase phase' old new asking led = follows_early phase' led.0
led_early polls.Waiting outstanding phase phase' old new asking led = ap is_early led.0 ∙ asking_early phase asking
led_early (polls.Unanswered issued noticed) outstanding phase phase' old new asking led = ap is_early led.0 ∙ given_up outstanding issued noticed phase (asking_early phase asking)

not_failed : (phase : Phase) → is_asking phase ≡ true → phase ≢ Failed
not_failed phase asking failed = false≢true (sym (ap is_asking failed) ∙ asking)

given_up_unfailed : (outstanding : Option Outstanding) (issued noticed : ℕ) (phase : Phase) → is_asking phase ≡ true → unanswered_if outstanding issued noticed phase ≢ Failed
given_up_unfailed None issued noticed phase asking failed = not_failed phase asking failed
given_up_unfailed (Some command) issued noticed phase asking failed = cc

-- the phase after a look is none of want of memory
pub led_unfailed : (poll : Poll) (outstanding : Option Outstanding) (phase phase' : Phase) (old new : Agenda) → is_asking phase ≡ true → LedTo poll outstanding phase old phase' new → phase' ≢ Failed
led_unfailed polls.Idle outstanding phase phase' old new asking led failed = not_failed phase asking (sym led.0 ∙ failed)
led_unfailed (polls.Answered word) outstanding phase phase' old new asking led failed = false≢true (sym (ap can_follow failed) ∙ led.0)
led_unfailed polls.Waiting outstanding phase phase' old new asking led failed = not_failed phase asking (sym led.0 ∙ failed)
led_unfailed (polls.Unanswered issued noticed) outstanding phase phase' old new asking led failed = given_up_unfailed outstanding issued noticed phase asking (sym led.0 ∙ failed)

free_goes_on : (poll : Poll) (outstanding : Option Outstanding) (phase phase' : Phase) (old new : Agenda) → is_asking phase ≡ true → LedTo poll outstanding phase old phase' new → leaves_free poll phase' ≡ true → goes_on phase' ≡ true
free_goes_on polls.Idle outstanding phase phase' old new asking led free = ap goes_on led.0 ∙ asking_goes_on phase asking
free_goes_on (polls.Answered word) outstanding phase phase' old new asking led free = free
free_goes_on polls.Waiting outstanding phase phase' old new asking led free = cc
free_goes_on (polls.Unanswered issued noticed) outstanding phase phase' old new asking led free = cc

found_free : (outstanding : Option Outstanding) (found : Option ℕ) (clock : ℕ) (phase phase' : Phase) (old new : Agenda) (free : Bool) → LedTo (poll_of outstanding found clock) outstanding phase old phase' new
    → free ≡ leaves_free (poll_of outstanding found clock) phase' → (can_follow phase' ≡ true → goes_on phase' ≡ true) → is_some found ≡ true → free ≡ true
found_free None found clock phase phase' old new free led is goes some = is
found_free (Some command) None clock phase phase' old new free led is goes some = cc
found_free (Some command) (Some word) clock phase phase' old new free led is goes some = is ∙ goes led.0

-- ---- and a submission

pub started_with : (order : Option Order) (clock : ℕ) (rings : RingPlaces) → (rings_with order clock rings).started ≡ rings.started
started_with None clock rings = refl
started_with (Some order) clock rings = refl

pub sent_same : (order : Option Order) (sent : ℕ) → sent_if (is_some order) sent ≡ sent_with order sent
sent_same None sent = refl
sent_same (Some order) sent = refl

count_same : (order : Option Order) (sent clock : ℕ) (rings : RingPlaces) → rings.outstanding ≡ None → answers_of (sent_with order sent) (rings_with order clock rings).outstanding ≡ sent
count_same None sent clock rings none = ap (λ (outstanding : Option Outstanding). answers_of sent outstanding) none
count_same (Some order) sent clock rings none = omega arith

-- a call leads on
pub command_with : (task : Task) (state : State) (budget clock : ℕ) (reads : PollReads) (phase' : Phase) (old new : Agenda) (free submits : Bool) (corb rirb sent' : ℕ) (polled rings' : RingPlaces)
    → task.blocks.corb ≡ corb → task.blocks.rirb ≡ rirb → is_asking state.phase ≡ true → state.phase ≡ phase_of old → AreNew state.rings reads
    → LedTo (poll_by state.rings reads clock) state.rings.outstanding state.phase old phase' new
    → free ≡ leaves_free (poll_by state.rings reads clock) phase' → polled ≡ rings_polled state.rings reads → (free ≡ true → polled.outstanding ≡ None)
    → submits ≡ is_some (order_if free (next_on new)) → sent' ≡ sent_if submits state.sent → rings' ≡ rings_with (order_if free (next_on new)) clock polled
    → is_ended state.phase (is_some (found_by state.rings reads)) phase' ≡ false → (goes_on phase' ≡ true → Agrees task (answers_of sent' rings'.outstanding) new)
    → IsStretch task state (Some (run_of budget)) (ask_accesses rirb clock state.rings reads ++ submit_made corb polled (order_if free (next_on new))) (is_some (found_by state.rings reads))
    (record state { phase = phase'; sent = sent'; rings = rings' })
command_with task state budget clock reads phase' old new free submits corb rirb sent' polled rings' of_corb of_rirb asking at fresh led is polled_is idle submitted sent_is rings_is ended agrees =
    let order = order_if free (next_on new) in
    let found = is_some (found_by state.rings reads) in
    let line = Some (run_of budget) in
    let sent = sent_is ∙ ap (λ (submits : Bool). sent_if submits state.sent) submitted ∙ sent_same order state.sent in
    let free_agrees = λ (free_is : free ≡ true).
    let there = agrees (free_goes_on (poll_by state.rings reads clock) state.rings.outstanding state.phase phase' old new asking led (sym is ∙ free_is)) in
    let counted = ap (λ (sent : ℕ). answers_of sent rings'.outstanding) sent ∙ ap (λ (rings : RingPlaces). answers_of (sent_with order state.sent) rings.outstanding) rings_is ∙ count_same order state.sent clock polled (idle free_is) in
    subst (λ (count : ℕ). Agrees task count new) counted there in
    let leads = comes task state clock state.rings.outstanding (found_by state.rings reads) phase' old new free led is at
    (λ some. found_free state.rings.outstanding (found_by state.rings reads) clock state.phase phase' old new free led is (not_ended (is_asking state.phase) found (can_follow phase') (goes_on phase') asking some ended) some) free_agrees in
    let one = stretch task state budget clock reads phase' order asking fresh leads in
    let two = subst (λ (rirb : ℕ). IsStretch task state line (ask_accesses rirb clock state.rings reads ++ submit_made task.blocks.corb (rings_polled state.rings reads) order) found (state_with state phase' order clock (rings_polled state.rings reads))) of_rirb one in
    let three = subst (λ (corb : ℕ). IsStretch task state line (ask_accesses rirb clock state.rings reads ++ submit_made corb (rings_polled state.rings reads) order) found (state_with state phase' order clock (rings_polled state.rings reads))) of_corb two in
    let four = subst (λ (polled : RingPlaces). IsStretch task state line (ask_accesses rirb clock state.rings reads ++ submit_made corb polled order) found (state_with state phase' order clock polled)) (sym polled_is) three in
    let five = subst (λ (rings : RingPlaces). IsStretch task state line (ask_accesses rirb clock state.rings reads ++ submit_made corb polled order) found (record state { phase = phase'; sent = sent_with order state.sent; rings = rings })) (sym rings_is) four in
    subst (λ (sent : ℕ). IsStretch task state line (ask_accesses rirb clock state.rings reads ++ submit_made corb polled order) found (record state { phase = phase'; sent = sent; rings = rings' })) (sym sent) five

-- and so does the last call
pub end_with : (task : Task) (state : State) (clock : ℕ) (reads : PollReads) (phase' : Phase) (old new : Agenda) (free : Bool) (rirb : ℕ) (polled : RingPlaces)
    → task.blocks.rirb ≡ rirb → is_asking state.phase ≡ true → state.phase ≡ phase_of old → AreNew state.rings reads
    → LedTo (poll_by state.rings reads clock) state.rings.outstanding state.phase old phase' new
    → free ≡ leaves_free (poll_by state.rings reads clock) phase' → polled ≡ rings_polled state.rings reads → (free ≡ true → polled.outstanding ≡ None)
    → is_ended state.phase (is_some (found_by state.rings reads)) phase' ≡ false → (goes_on phase' ≡ true → Agrees task (answers_of state.sent polled.outstanding) new)
    → IsStretch task state None (ask_accesses rirb clock state.rings reads ++ shut_accesses) (is_some (found_by state.rings reads)) (record state { phase = phase'; rings = polled })
end_with task state clock reads phase' old new free rirb polled of_rirb asking at fresh led is polled_is idle ended agrees =
    let found = is_some (found_by state.rings reads) in
    let free_agrees = λ (free_is : free ≡ true).
    let there = agrees (free_goes_on (poll_by state.rings reads clock) state.rings.outstanding state.phase phase' old new asking led (sym is ∙ free_is)) in
    let counted = ap (λ (outstanding : Option Outstanding). answers_of state.sent outstanding) (idle free_is) in
    subst (λ (count : ℕ). Agrees task count new) counted there in
    let leads = comes task state clock state.rings.outstanding (found_by state.rings reads) phase' old new free led is at
    (λ some. found_free state.rings.outstanding (found_by state.rings reads) clock state.phase phase' old new free led is (not_ended (is_asking state.phase) found (can_follow phase') (goes_on phase') asking some ended) some) free_agrees in
    let one = closing task state clock reads phase' (order_if free (next_on new)) asking fresh leads in
    let two = subst (λ (rirb : ℕ). IsStretch task state None (ask_accesses rirb clock state.rings reads ++ shut_accesses) found (record state { phase = phase'; rings = rings_polled state.rings reads })) of_rirb one in
    subst (λ (polled : RingPlaces). IsStretch task state None (ask_accesses rirb clock state.rings reads ++ shut_accesses) found (record state { phase = phase'; rings = polled })) (sym polled_is) two

-- ---- where an answer ends it

free_false : (outstanding : Option Outstanding) (found : Option ℕ) (clock : ℕ) (phase' : Phase) → (outstanding ≡ None → found ≡ None) → is_some found ≡ true → goes_on phase' ≡ false → leaves_free (poll_of outstanding found clock) phase' ≡ false
free_false None found clock phase' none some goes = absurd (false≢true (sym (ap (λ (found : Option ℕ). is_some found) (none refl)) ∙ some))
free_false (Some command) None clock phase' none some goes = cc
free_false (Some command) (Some word) clock phase' none some goes = goes

-- nothing is submitted after it
pub command_last : (task : Task) (state : State) (clock : ℕ) (reads : PollReads) (phase' : Phase) (new : Agenda) (free submits : Bool) (corb rirb sent' : ℕ) (polled rings' : RingPlaces)
    → task.blocks.rirb ≡ rirb → AreNew state.rings reads → free ≡ leaves_free (poll_by state.rings reads clock) phase' → polled ≡ rings_polled state.rings reads
    → submits ≡ is_some (order_if free (next_on new)) → sent' ≡ sent_if submits state.sent → rings' ≡ rings_with (order_if free (next_on new)) clock polled
    → is_ended state.phase (is_some (found_by state.rings reads)) phase' ≡ true
    → IsLastLook task state false [] (ask_accesses rirb clock state.rings reads ++ submit_made corb polled (order_if free (next_on new))) (record state { phase = phase'; sent = sent'; rings = rings' })
command_last task state clock reads phase' new free submits corb rirb sent' polled rings' of_rirb fresh is polled_is submitted sent_is rings_is ended =
    let over = is_over state.phase (is_some (found_by state.rings reads)) phase' ended in
    let none = is ∙ free_false state.rings.outstanding (found_by state.rings reads) clock phase' (outstanding_none state.rings reads) over.1 over.2 in
    let order = ap (λ (free : Bool). order_if free (next_on new)) none in
    let sent = sent_is ∙ ap (λ (submits : Bool). sent_if submits state.sent) (submitted ∙ ap (λ (order : Option Order). is_some order) order) in
    let rings = rings_is ∙ ap (λ (order : Option Order). rings_with order clock polled) order ∙ polled_is in
    let one = last_look task state clock reads [] phase' fresh over.1 in
    let two = subst (λ (rirb : ℕ). IsLastLook task state false [] (ask_accesses rirb clock state.rings reads ++ []) (record state { phase = phase'; rings = rings_polled state.rings reads })) of_rirb one in
    let three = subst (λ (made : List Event). IsLastLook task state false [] (ask_accesses rirb clock state.rings reads ++ made) (record state { phase = phase'; rings = rings_polled state.rings reads })) (sym (ap (λ (order : Option Order). submit_made corb polled order) order)) two in
    let four = subst (λ (rings : RingPlaces). IsLastLook task state false [] (ask_accesses rirb clock state.rings reads ++ submit_made corb polled (order_if free (next_on new))) (record state { phase = phase'; rings = rings })) (sym rings) three in
    subst (λ (sent : ℕ). IsLastLook task state false [] (ask_accesses rirb clock state.rings reads ++ submit_made corb polled (order_if free (next_on new))) (record state { phase = phase'; sent = sent; rings = rings' })) (sym sent) four

-- or all is shut
pub end_last : (task : Task) (state : State) (clock : ℕ) (reads : PollReads) (phase' : Phase) (rirb : ℕ) (polled : RingPlaces)
    → task.blocks.rirb ≡ rirb → AreNew state.rings reads → polled ≡ rings_polled state.rings reads → is_ended state.phase (is_some (found_by state.rings reads)) phase' ≡ true
    → IsLastLook task state false shuts (ask_accesses rirb clock state.rings reads ++ shut_accesses) (record state { phase = phase'; rings = polled })
end_last task state clock reads phase' rirb polled of_rirb fresh polled_is ended =
    let one = last_look task state clock reads shut_accesses phase' fresh (is_over state.phase (is_some (found_by state.rings reads)) phase' ended).1 in
    let two = subst (λ (rirb : ℕ). IsLastLook task state false shuts (ask_accesses rirb clock state.rings reads ++ shut_accesses) (record state { phase = phase'; rings = rings_polled state.rings reads })) of_rirb one in
    subst (λ (rings : RingPlaces). IsLastLook task state false shuts (ask_accesses rirb clock state.rings reads ++ shut_accesses) (record state { phase = phase'; rings = rings })) (sym polled_is) two
