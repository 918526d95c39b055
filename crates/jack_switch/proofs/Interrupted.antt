-- Calls for an interrupt, calls in which no run comes, and the closing stretch.
use Rattle.std.proofs.Common.{◌≡◌, ◌*◌, ℕ, List, [], ◌∷◌, ◌++◌, Bool, true, false, if◌then◌else◌, Option, Some, None, inl, inr, refl, sym, ap, subst, ◌∙◌}
use Rattle.std.specs.Prelude.{◌&&◌, ◌⊎◌, not, slice_index}
use Rattle.std.proofs.lemmas.Grind.{flat_map-append}
use Rattle.verb_codes.specs.Words.{has_bit, bits_of}
use Rattle.codec_graph.specs.declared.raw.RawCodec.{RawCodec}
use Rattle.route_planner.specs.declared.routes.Plan.{Plan}
use Rattle.hda_registers.specs.declared.shapes.Width.TheVariants.{One, Four}
use Rattle.hda_registers.specs.declared.places.TheConstants.{WALCLK, INTSTS}
use Rattle.hda_world.specs.Events.{Event, Read, Write}
use Rattle.command_engine.specs.Polling.{PollReads, AreNew, poll_accesses, rings_polled}
use Rattle.period_writer.specs.declared.course.Ran.TheVariants as ran
use Rattle.period_writer.specs.declared.registers.TheConstants.{CONTROL}
use Rattle.driver_progress.specs.declared.registers.TheConstants.{STREAM_STATUS}
use Rattle.period_writer.specs.Runs.{RunFacts, Tally}
use Rattle.driver_progress.specs.Interrupts.{clear_accesses, interrupt_accesses}
use Rattle.driver_progress.specs.Requests.{Request, Gets, Puts, requests_of, requests_in}
use Rattle.driver_progress.specs.Tasks.{Task, DriverLine}
use Rattle.driver_progress.specs.Seen.{Seen, values_of, value_in}
use Rattle.driver_progress.specs.Expected.{plays_on, starts, shuts, interrupted_if, clears}
use Rattle.driver_progress.specs.Next.{tally_next}
use Rattle.driver_progress.specs.Shutting.{shut_accesses}
use Rattle.driver_progress.proofs.Callers.{poll_fits, interrupt_fits}
use Rattle.driver_bring_up.proofs.Callers.{clock_unread}
use Rattle.driver_rules.specs.Findings.{Findings, findings_of}
use Rattle.driver_rules.specs.Onward.{IsRuleStretch}
use Rattle.jack_switch.specs.SwitchRules.{SwitchState, as_progress, seen_of, last_clock, is_on, comes, looked, looked_if, is_overdue, gives_up, tally_after as tally_led, stops_at_once, switch_runs, leads_by, switch_next, switch_rules}
use Rattle.jack_switch.proofs.PlayedOn.{facts_in, tally_in, made_in, tally_by, appends_by, requests_same}
use Rattle.jack_switch.proofs.Stretches.{Sees, SeesPoll, poll_of_run, look_at, looked_same, overdue_by, IsCalled, line_of}

abbrev pub IsSwitchStretch : Task → List RawCodec → List Plan → SwitchState → Option DriverLine → (made : List Event) → (answered : Bool) → SwitchState → Type 0
IsSwitchStretch task graphs plans state turn made answered state' = IsRuleStretch (switch_rules task graphs plans) state turn made answered state'

-- ---- what a look for interrupts leaves of what is read then

clear_unread : (is : Bool) (register stream : ℕ) (rest : List Event) → value_in register (Read STREAM_STATUS One stream) ≡ []
    → values_of ((if is then Read STREAM_STATUS One stream ∷ Write STREAM_STATUS One (4 * bits_of stream 2 3) ∷ [] else []) ++ rest) register ≡ values_of rest register
clear_unread true register stream rest other = ap (λ (values : List ℕ). values ++ values_of rest register) other
clear_unread false register stream rest other = refl

look_by : (on : Bool) (register interrupts stream : ℕ) (rest : List Event) → value_in register (Read STREAM_STATUS One stream) ≡ []
    → values_of ((if on then clear_accesses interrupts stream else []) ++ rest) register ≡ values_of rest register
look_by true register interrupts stream rest other = clear_unread (has_bit interrupts 1) register stream rest other
look_by false register interrupts stream rest other = refl

pub look_unread : (register interrupts stream : ℕ) (rest : List Event) → value_in register (Read INTSTS Four interrupts) ≡ [] → value_in register (Read STREAM_STATUS One stream) ≡ []
    → values_of (interrupt_accesses interrupts stream ++ rest) register ≡ values_of rest register
look_unread register interrupts stream rest first second =
    ap (λ (values : List ℕ). values ++ values_of ((if has_bit interrupts 31 then clear_accesses interrupts stream else []) ++ rest) register) first
    ∙ look_by (has_bit interrupts 31) register interrupts stream rest second

-- and the stream's status, where it is read
status_by : (on is : Bool) (stream : ℕ) (rest : List Event) → on ≡ true → is ≡ true
    → slice_index (values_of ((if on then (if is then Read STREAM_STATUS One stream ∷ Write STREAM_STATUS One (4 * bits_of stream 2 3) ∷ [] else []) else []) ++ rest) STREAM_STATUS) 0 ≡ stream
status_by true true stream rest on is = refl
status_by true false stream rest on is = cc
status_by false is stream rest on same = cc

look_status : (interrupts stream : ℕ) (rest : List Event) → has_bit interrupts 31 ≡ true → has_bit interrupts 1 ≡ true
    → slice_index (values_of (interrupt_accesses interrupts stream ++ rest) STREAM_STATUS) 0 ≡ stream
look_status interrupts stream rest on is = status_by (has_bit interrupts 31) (has_bit interrupts 1) stream rest on is

-- ---- a call that does something

and_true : (on : Bool) → on ≡ true → (on && true) ≡ true
and_true true is = refl
and_true false is = is

pub called_stretch : (task : Task) (graphs : List RawCodec) (plans : List Plan) (state : SwitchState) (budget : ℕ) (called : List Event) (answered : Bool) (state' : SwitchState) → is_on state ≡ true
    → IsCalled task state (line_of false budget) (findings_of called answered) called state' → IsSwitchStretch task graphs plans state (Some (line_of false budget)) called answered state'
called_stretch task graphs plans state budget called answered state' on is =
    let findings = findings_of called answered in
    let line = line_of false budget in record {
      fits = is.fits ∙ ap (λ (on : Bool). if on then switch_runs task state line findings else []) (sym on);
      leads = is.leads
          ∙ ap (λ (comes : Bool). if comes then leads_by task (gives_up state findings) (looked_if state.tally.course.started state findings) (Some line) findings (tally_led task state (Some line) findings)
          else record state { tally = tally_led task state (Some line) findings }) (sym (and_true (is_on state) on));
    }

-- one for an interrupt that was found
found_made : (task : Task) (graphs : List RawCodec) (plans : List Plan) (state : SwitchState) (budget interrupts stream : ℕ) (called : List Event) (answered : Bool) (state' : SwitchState) → is_on state ≡ true → has_bit interrupts 31 ≡ true
    → IsCalled task state (line_of true budget) (findings_of (interrupt_accesses interrupts stream ++ called) answered) called state'
    → IsSwitchStretch task graphs plans state (Some (line_of true budget)) (interrupt_accesses interrupts stream ++ called) answered state'
found_made task graphs plans state budget interrupts stream called answered state' on found is =
    let made = interrupt_accesses interrupts stream ++ called in
    let findings = findings_of made answered in
    let seen = seen_of findings in
    let line = line_of true budget in record {
      fits = ap (λ (on : Bool). requests_of (Read INTSTS Four interrupts ∷ ((if on then clear_accesses interrupts stream else []) ++ called))) found
          ∙ ap (λ (on : Bool). requests_of (Read INTSTS Four interrupts ∷ (if on then clear_accesses interrupts stream ++ called else []))) (sym found)
          ∙ interrupt_fits interrupts stream seen called refl (λ is. look_status interrupts stream called found is)
          ∙ ap (λ (later : List Request). interrupted_if true seen later) is.fits
          ∙ ap (λ (on : Bool). if on then interrupted_if true seen (switch_runs task state line findings) else []) (sym on);
      leads = is.leads
          ∙ ap (λ (comes : Bool). if comes then leads_by task (gives_up state findings) (looked_if state.tally.course.started state findings) (Some line) findings (tally_led task state (Some line) findings)
          else record state { tally = tally_led task state (Some line) findings }) (sym (and_true (is_on state) on))
          ∙ ap (λ (found : Bool). if is_on state && not (not found) then leads_by task (gives_up state findings) (looked_if state.tally.course.started state findings) (Some line) findings (tally_led task state (Some line) findings)
          else record state { tally = tally_led task state (Some line) findings }) (sym found);
    }

pub found_stretch : (task : Task) (graphs : List RawCodec) (plans : List Plan) (state : SwitchState) (budget interrupts stream : ℕ) (called : List Event) (answered : Bool) (state' : SwitchState) → is_on state ≡ true → has_bit interrupts 31 ≡ true
    → IsCalled task state (line_of true budget) (findings_of (interrupt_accesses interrupts stream ++ called) answered) called state'
    → IsSwitchStretch task graphs plans state (Some (line_of true budget)) (interrupt_accesses interrupts stream ++ called) answered state'
found_stretch = found_made

-- ---- no run comes

off_and : (on : Bool) → (on && false) ≡ false
off_and true = refl
off_and false = refl

none_requests : (on : Bool) (interrupts stream : ℕ) → on ≡ false → requests_of (if on then clear_accesses interrupts stream else []) ≡ []
none_requests true interrupts stream off = cc
none_requests false interrupts stream off = refl

none_read : (on : Bool) (register interrupts stream : ℕ) → on ≡ false → values_of (if on then clear_accesses interrupts stream else []) register ≡ []
none_read true register interrupts stream off = cc
none_read false register interrupts stream off = refl

-- no clock is read
pub tally_still : (task : Task) (state : SwitchState) (turn : Option DriverLine) (findings : Findings) → (seen_of findings).clocks ≡ [] → tally_led task state turn findings ≡ state.tally
tally_still task state turn findings none =
    ap (λ (clocks : List ℕ). tally_next task (as_progress state) turn (record (seen_of findings) { clocks = clocks })) none ∙ clock_unread state.tally.course.ran _ _ _ state.tally

pub none_stretch : (task : Task) (graphs : List RawCodec) (plans : List Plan) (state : SwitchState) (budget interrupts stream : ℕ) (answered : Bool) → is_on state ≡ true → has_bit interrupts 31 ≡ false
    → IsSwitchStretch task graphs plans state (Some (line_of true budget)) (interrupt_accesses interrupts stream) answered state
none_stretch task graphs plans state budget interrupts stream answered on off =
    let findings = findings_of (interrupt_accesses interrupts stream) answered in
    let seen = seen_of findings in
    let line = line_of true budget in
    let tally = tally_led task state (Some line) findings in
    let led = leads_by task (gives_up state findings) (looked_if state.tally.course.started state findings) (Some line) findings tally in record {
      fits = ap (λ (rest : List Request). Gets INTSTS Four ∷ rest)
          (none_requests (has_bit interrupts 31) interrupts stream off
          ∙ ap (λ (on : Bool). if on then clears seen ++ switch_runs task state line findings else []) (sym off))
          ∙ ap (λ (on : Bool). if on then interrupted_if true seen (switch_runs task state line findings) else []) (sym on);
      leads = ap (λ (tally : Tally). record state { tally = tally }) (sym (tally_still task state (Some line) findings (none_read (has_bit interrupts 31) WALCLK interrupts stream off)))
          ∙ ap (λ (comes : Bool). if comes then led else record state { tally = tally }) (sym (off_and (is_on state)))
          ∙ ap (λ (found : Bool). if is_on state && not (not found) then led else record state { tally = tally }) (sym off);
    }

never_and : (on found : Bool) → on ≡ false → (on && found) ≡ false
never_and true found over = cc
never_and false found over = refl

pub over_stretch : (task : Task) (graphs : List RawCodec) (plans : List Plan) (state : SwitchState) (irq : Bool) (budget : ℕ) (answered : Bool) → is_on state ≡ false → IsSwitchStretch task graphs plans state (Some (line_of irq budget)) [] answered state
over_stretch task graphs plans state irq budget answered over =
    let findings = findings_of [] answered in
    let line = line_of irq budget in
    let tally = tally_led task state (Some line) findings in
    let led = leads_by task (gives_up state findings) (looked_if state.tally.course.started state findings) (Some line) findings tally in record {
      fits = ap (λ (on : Bool). if on then interrupted_if irq (seen_of findings) (switch_runs task state line findings) else []) (sym over);
      leads = ap (λ (tally : Tally). record state { tally = tally }) (sym (tally_still task state (Some line) findings refl))
          ∙ ap (λ (comes : Bool). if comes then led else record state { tally = tally }) (sym (never_and (is_on state) _ over));
    }
