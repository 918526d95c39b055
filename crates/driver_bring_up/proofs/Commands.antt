-- A call while commands are sent makes the accesses that are expected, and leads where progress says.
use Rattle.std.proofs.Common.{◌≡◌, ◌+◌, ◌%◌, ℕ, List, [], ◌∷◌, Bool, true, false, nat_le, if◌then◌else◌, Option, Some, None, refl, sym, ap, ◌∙◌}
use Rattle.std.specs.Prelude.{slice_get}
use Rattle.std.specs.Option.{is_some}
use Rattle.verb_codes.specs.Words.{has_bit}
use Rattle.hda_registers.specs.Fields.{entries_of}
use Rattle.command_engine.specs.declared.ring_places.RingPlaces.{RingPlaces}
use Rattle.command_engine.specs.declared.answers.Outstanding.{Outstanding}
use Rattle.command_engine.specs.declared.answers.Poll.TheVariants as polls
use Rattle.command_engine.specs.Polling.{PollReads, AreNew, poll_of, found_by, rings_polled, still_outstanding, answer_limit, read_to}
use Rattle.driver_agenda.specs.declared.agenda.Agenda.{Agenda}
use Rattle.period_writer.specs.declared.course.Ran.{Ran}
use Rattle.period_writer.specs.declared.course.Ran.TheVariants as ran
use Rattle.period_writer.specs.Runs.{Tally, Measures, Stretch, taken_up_if}
use Rattle.driver_progress.specs.declared.phase.Phase.{Phase}
use Rattle.driver_progress.specs.declared.phase.Phase.TheVariants.{Unanswered}
use Rattle.driver_progress.specs.Tasks.{Task, Order, DriverLine}
use Rattle.driver_progress.specs.Seen.{Seen, seen_by, values_of}
use Rattle.driver_progress.specs.Phases.{is_asking}
use Rattle.driver_progress.specs.States.{State}
use Rattle.driver_progress.specs.Expected.{submits, asks, is_free}
use Rattle.driver_progress.specs.Next.{outstanding_if, polled, phase_polled, phase_of_answers, after_poll, submitted_if, after_commands, led, tally_next}
use Rattle.driver_bring_up.specs.Standing.{next_on, phase_of, Agrees}
use Rattle.hda_registers.specs.declared.places.TheConstants.{WALCLK}
use Rattle.driver_bring_up.specs.Commanding.{LedTo, leaves_free, order_if, IsStretch, IsLastLook, run_of, state_with}
use Rattle.driver_progress.specs.Shutting.{shut_accesses}
use Rattle.driver_bring_up.specs.Commanding.{submit_made}
use Rattle.driver_bring_up.proofs.Asked.{call_made, none_submitted, one_clock, pointer_seen, submit_fits, call_fits}
use Rattle.hda_world.specs.Events.{Event}
use Rattle.driver_progress.specs.Seen.{values_of}
use Rattle.driver_progress.specs.Requests.{Request, requests_of}
use Rattle.driver_progress.proofs.Callers.{asking_runs, asking_led, asking_closes, asking_closed}

-- ---- while commands are sent

-- a stretch that reads the clock once is no run
one_read : (was : Ran) (clock : ℕ) (m : Measures) (total : ℕ) (stretch : Stretch) (tally : Tally) → taken_up_if was (clock ∷ []) m total stretch tally ≡ tally
one_read ran.Playing clock m total stretch tally = refl
one_read ran.Drained clock m total stretch tally = refl
one_read (ran.Late from to limit) clock m total stretch tally = refl

-- ---- where it leads

read_same : (written : Bool) (pointer pointer' size read : ℕ) → (written ≡ true → pointer ≡ pointer') → (if written then pointer % size else read) ≡ (if written then pointer' % size else read)
read_same true pointer pointer' size read same = ap (λ (pointer : ℕ). pointer % size) (same refl)
read_same false pointer pointer' size read same = refl

state_same : (state : State) (phase : Phase) (order : Option Order) (clock : ℕ) (rings : RingPlaces)
    → state_with state phase order clock rings ≡ record (submitted_if order clock (record state { phase = phase; rings = rings })) { tally = state.tally }
state_same state phase None clock rings = refl
state_same state phase (Some order) clock rings = refl

-- by what was outstanding, and the answer that was found: the order, the phase and what is outstanding then
pub record Comes (task : Task) (state : State) (clock : ℕ) (outstanding : Option Outstanding) (found : Option ℕ) (phase' : Phase) (order : Option Order) : Type 0 where
  pub order_is : order ≡ (if is_free outstanding (is_some found) then slice_get task.orders state.sent else None)
  pub phase_is : phase' ≡ phase_polled task state clock (outstanding_if (is_some found) outstanding)
  pub outstanding_is : still_outstanding outstanding found ≡ outstanding_if (is_some found) outstanding

not_late : (task : Task) (state : State) (clock : ℕ) (command : Outstanding) (late : Bool) (phase' : Phase) (old new : Agenda)
    → LedTo (if late then polls.Unanswered command.issued clock else polls.Waiting) (Some command) state.phase old phase' new
    → phase' ≡ (if late then Unanswered command.codec command.word command.issued clock else state.phase)
not_late task state clock command true phase' old new led = led.0
not_late task state clock command false phase' old new led = led.0

not_free : (command : Outstanding) (clock : ℕ) (late : Bool) (phase' : Phase) → leaves_free (if late then polls.Unanswered command.issued clock else polls.Waiting) phase' ≡ false
not_free command clock true phase' = refl
not_free command clock false phase' = refl

free_order : (task : Task) (sent : ℕ) (free : Bool) (new : Agenda) → free ≡ true → Agrees task sent new → order_if free (next_on new) ≡ slice_get task.orders sent
free_order task sent free new is agrees = ap (λ (free : Bool). order_if free (next_on new)) is ∙ agrees.order

-- the phase of an agenda that nothing led on
idle_phase : (task : Task) (state : State) (phase' : Phase) (old new : Agenda) → phase' ≡ state.phase → new ≡ old → state.phase ≡ phase_of old → Agrees task state.sent new → phase' ≡ phase_of_answers task state.sent
idle_phase task state phase' old new same kept at agrees = same ∙ at ∙ ap phase_of (sym kept) ∙ agrees.phase

pub comes : (task : Task) (state : State) (clock : ℕ) (outstanding : Option Outstanding) (found : Option ℕ) (phase' : Phase) (old new : Agenda) (free : Bool)
    → LedTo (poll_of outstanding found clock) outstanding state.phase old phase' new
    → free ≡ leaves_free (poll_of outstanding found clock) phase' → state.phase ≡ phase_of old
    → (is_some found ≡ true → free ≡ true) → (free ≡ true → Agrees task state.sent new)
    → Comes task state clock outstanding found phase' (order_if free (next_on new))
comes task state clock None None phase' old new free led is at ends agrees = record {
  order_is = free_order task state.sent free new is (agrees is);
  phase_is = idle_phase task state phase' old new led.0 led.1 at (agrees is);
  outstanding_is = refl;
}
comes task state clock None (Some word) phase' old new free led is at ends agrees = record {
  order_is = free_order task state.sent free new is (agrees is);
  phase_is = idle_phase task state phase' old new led.0 led.1 at (agrees is);
  outstanding_is = refl;
}
comes task state clock (Some command) (Some word) phase' old new free led is at ends agrees =
    let free_is = ends refl in record {
      order_is = free_order task state.sent free new free_is (agrees free_is);
      phase_is = led.1 (sym is ∙ free_is) ∙ (agrees free_is).phase;
      outstanding_is = refl;
    }
comes task state clock (Some command) None phase' old new free led is at ends agrees = record {
  order_is = ap (λ (free : Bool). order_if free (next_on new)) (is ∙ not_free command clock (nat_le (command.issued + answer_limit) clock) phase');
  phase_is = not_late task state clock command (nat_le (command.issued + answer_limit) clock) phase' old new led;
  outstanding_is = refl;
}

-- ---- the stretch

-- a stretch that reads the clock once is no run
pub once : (task : Task) (state : State) (turn : Option DriverLine) (seen : Seen) (clock : ℕ) → seen.clocks ≡ clock ∷ [] → tally_next task state turn seen ≡ state.tally
once task state turn seen clock is =
    ap (λ (clocks : List ℕ). tally_next task state turn (record seen { clocks = clocks })) is ∙ one_read state.tally.course.ran clock _ _ _ state.tally

pub rings_same : (rings : RingPlaces) (reads : PollReads) (seen : Seen) (found : Bool) → seen.flag ≡ reads.flag → (has_bit reads.flag 0 ≡ true → seen.pointer ≡ reads.pointer) → seen.answered ≡ found
    → still_outstanding rings.outstanding (found_by rings reads) ≡ outstanding_if found rings.outstanding → polled rings seen ≡ rings_polled rings reads
rings_same rings reads seen found flag pointer answered outstanding =
    ap (λ (flag : ℕ). polled rings (record seen { flag = flag })) flag
    ∙ ap (λ (read : ℕ). record rings { read = read; outstanding = outstanding_if seen.answered rings.outstanding }) (read_same (has_bit reads.flag 0) seen.pointer reads.pointer (entries_of rings.rirb) rings.read pointer)
    ∙ ap (λ (left : Option Outstanding). record rings { read = read_to rings reads; outstanding = left }) (ap (λ (found : Bool). outstanding_if found rings.outstanding) answered ∙ sym outstanding)

-- the state after the look
looked_same : (task : Task) (state : State) (clock : ℕ) (reads : PollReads) (phase' : Phase) (order : Option Order) (rest : List Event)
    → Comes task state clock state.rings.outstanding (found_by state.rings reads) phase' order
    → record state { phase = phase'; rings = rings_polled state.rings reads }
    ≡ after_poll task state (seen_by (values_of (call_made task.blocks.rirb clock state.rings reads rest)) (is_some (found_by state.rings reads)))
looked_same task state clock reads phase' order rest comes =
    let found = is_some (found_by state.rings reads) in
    let seen = seen_by (values_of (call_made task.blocks.rirb clock state.rings reads rest)) found in
    let rings = rings_same state.rings reads seen found refl (pointer_seen task.blocks.rirb clock state.rings reads rest found) refl comes.outstanding_is in
    ap (λ (phase : Phase). record state { phase = phase; rings = rings_polled state.rings reads }) comes.phase_is
    ∙ ap (λ (rings : RingPlaces). record state { phase = phase_polled task state clock (outstanding_if found state.rings.outstanding); rings = rings }) (sym rings)

pub stretch : (task : Task) (state : State) (budget clock : ℕ) (reads : PollReads) (phase' : Phase) (order : Option Order)
    → is_asking state.phase ≡ true → AreNew state.rings reads → Comes task state clock state.rings.outstanding (found_by state.rings reads) phase' order
    → IsStretch task state (Some (run_of budget)) (call_made task.blocks.rirb clock state.rings reads (submit_made task.blocks.corb (rings_polled state.rings reads) order)) (is_some (found_by state.rings reads))
    (state_with state phase' order clock (rings_polled state.rings reads))
stretch task state budget clock reads phase' order asking new comes =
    let rest = submit_made task.blocks.corb (rings_polled state.rings reads) order in
    let found = is_some (found_by state.rings reads) in
    let seen = seen_by (values_of (call_made task.blocks.rirb clock state.rings reads rest)) found in
    let line = Some (run_of budget) in
    let tally = tally_next task state line seen in
    let kept = once task state line seen clock (one_clock task.blocks.rirb clock state.rings reads rest (none_submitted WALCLK task.blocks.corb (rings_polled state.rings reads) order)) in record {
      fits = call_fits task.blocks.rirb clock state.rings reads rest found new
          ∙ ap (λ (later : List Request). asks task state seen later) (submit_fits task.blocks state.rings reads order)
          ∙ ap (λ (order : Option Order). asks task state seen (submits task.blocks state.rings order)) comes.order_is
          ∙ sym (asking_runs task state budget seen tally state.phase asking);
      leads = state_same state phase' order clock (rings_polled state.rings reads)
          ∙ ap (λ (looked : State). record (submitted_if order clock looked) { tally = state.tally }) (looked_same task state clock reads phase' order rest comes)
          ∙ ap (λ (order : Option Order). record (submitted_if order clock (after_poll task state seen)) { tally = state.tally }) comes.order_is
          ∙ ap (λ (tally : Tally). record (after_commands task state seen) { tally = tally }) (sym kept)
          ∙ ap (λ (state' : State). record state' { tally = tally }) (sym (asking_led task state seen tally state.phase asking));
    }

-- ---- the closing stretch

pub closing : (task : Task) (state : State) (clock : ℕ) (reads : PollReads) (phase' : Phase) (order : Option Order)
    → is_asking state.phase ≡ true → AreNew state.rings reads → Comes task state clock state.rings.outstanding (found_by state.rings reads) phase' order
    → IsStretch task state None (call_made task.blocks.rirb clock state.rings reads shut_accesses) (is_some (found_by state.rings reads))
    (record state { phase = phase'; rings = rings_polled state.rings reads })
closing task state clock reads phase' order asking new comes =
    let found = is_some (found_by state.rings reads) in
    let seen = seen_by (values_of (call_made task.blocks.rirb clock state.rings reads shut_accesses)) found in
    let tally = tally_next task state None seen in
    let kept = once task state None seen clock (one_clock task.blocks.rirb clock state.rings reads shut_accesses refl) in record {
      fits = call_fits task.blocks.rirb clock state.rings reads shut_accesses found new ∙ sym (asking_closes task state seen state.phase asking);
      leads = ap (λ (looked : State). record looked { tally = state.tally }) (looked_same task state clock reads phase' order shut_accesses comes)
          ∙ ap (λ (tally : Tally). record (after_poll task state seen) { tally = tally }) (sym kept)
          ∙ ap (λ (state' : State). record state' { tally = tally }) (sym (asking_closed task state seen tally state.phase asking));
    }

-- ---- a look after which no command comes

still_none : (outstanding : Option Outstanding) (found : Option ℕ) → is_some found ≡ true → still_outstanding outstanding found ≡ outstanding_if true outstanding
still_none None None some = cc
still_none None (Some word) some = refl
still_none (Some command) None some = cc
still_none (Some command) (Some word) some = refl

pub last_look : (task : Task) (state : State) (clock : ℕ) (reads : PollReads) (rest : List Event) (phase' : Phase) → AreNew state.rings reads → is_some (found_by state.rings reads) ≡ true
    → IsLastLook task state false (requests_of rest) (call_made task.blocks.rirb clock state.rings reads rest) (record state { phase = phase'; rings = rings_polled state.rings reads })
last_look task state clock reads rest phase' new some =
    let seen = seen_by (values_of (call_made task.blocks.rirb clock state.rings reads rest)) true in record {
      fits = call_fits task.blocks.rirb clock state.rings reads rest true new;
      leads = ap (λ (rings : RingPlaces). record state { phase = phase'; rings = rings })
          (sym (rings_same state.rings reads seen true refl (pointer_seen task.blocks.rirb clock state.rings reads rest true) refl (still_none state.rings.outstanding (found_by state.rings reads) some)));
    }
