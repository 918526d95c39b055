-- The closing stretch of a driver that switches makes the accesses that its rules expect, and leads where they say.
use Rattle.std.proofs.Common.{◌≡◌, ℕ, List, [], ◌∷◌, ◌++◌, Bool, true, false, if◌then◌else◌, Option, Some, None, inl, inr, refl, sym, ap, ◌∙◌}
use Rattle.std.specs.Prelude.{◌&&◌, ◌⊎◌, slice_index}
use Rattle.std.proofs.lemmas.Grind.{flat_map-append}
use Rattle.codec_graph.specs.declared.raw.RawCodec.{RawCodec}
use Rattle.route_planner.specs.declared.routes.Plan.{Plan}
use Rattle.hda_registers.specs.declared.shapes.Width.TheVariants.{One}
use Rattle.hda_world.specs.Events.{Event, Write}
use Rattle.command_engine.specs.Polling.{PollReads, AreNew, poll_accesses, rings_polled}
use Rattle.period_writer.specs.declared.course.Ran.TheVariants as ran
use Rattle.period_writer.specs.declared.registers.TheConstants.{CONTROL}
use Rattle.period_writer.specs.Runs.{RunFacts, Tally}
use Rattle.driver_progress.specs.Requests.{Request, Puts, requests_of, requests_in}
use Rattle.driver_progress.specs.Tasks.{Task}
use Rattle.driver_progress.specs.Expected.{plays_on, starts, shuts}
use Rattle.driver_progress.specs.Shutting.{shut_accesses}
use Rattle.driver_progress.proofs.Callers.{poll_fits}
use Rattle.driver_rules.specs.Findings.{Findings, findings_of}
use Rattle.jack_switch.specs.SwitchRules.{SwitchState, as_progress, seen_of, last_clock, is_on, comes, looked, looked_if, is_overdue, gives_up, tally_after as tally_led, stops_at_once, run_then, switch_closes, leads_by}
use Rattle.jack_switch.proofs.PlayedOn.{facts_in, tally_in, made_in, tally_by, appends_by, requests_same}
use Rattle.jack_switch.proofs.Stretches.{Sees, SeesPoll, poll_of_run, look_at, looked_same, overdue_by}
use Rattle.jack_switch.proofs.Interrupted.{IsSwitchStretch, tally_still}

-- ---- the stream does not play, or the driver gave up

still_is : (on started : Bool) → (started ≡ false) ⊎ (on ≡ false) → (on && started) ≡ false
still_is true true (inl still) = still
still_is true true (inr still) = still
still_is true false still = refl
still_is false started still = refl

pub shuts_stretch : (task : Task) (graphs : List RawCodec) (plans : List Plan) (state : SwitchState) (answered : Bool) → (state.tally.course.started ≡ false) ⊎ (is_on state ≡ false)
    → IsSwitchStretch task graphs plans state None shut_accesses answered state
shuts_stretch task graphs plans state answered still =
    let findings = findings_of shut_accesses answered in
    let is = still_is (is_on state) state.tally.course.started still in
    let tally = tally_led task state None findings in
    let led = leads_by task (gives_up state findings) (looked_if state.tally.course.started state findings) None findings tally in record {
      fits = ap (λ (comes : Bool). if comes then (if gives_up state findings then stops_at_once task state findings shuts else run_then task state 0 findings (Puts CONTROL One 0 ∷ shuts)) else shuts) (sym is);
      leads = ap (λ (tally : Tally). record state { tally = tally }) (sym (tally_still task state None findings refl))
          ∙ ap (λ (comes : Bool). if comes then led else record state { tally = tally }) (sym is);
    }

-- ---- it plays

both_true : (on started : Bool) → on ≡ true → started ≡ true → (on && started) ≡ true
both_true true true on started = refl
both_true true false on started = cc
both_true false started on is = cc

abbrev closes_by : (task : Task) (state : SwitchState) (findings : Findings) (gives started : Bool) → List Request
closes_by task state findings gives started =
    if gives
    then stops_at_once task state findings shuts
    else (if started
    then plays_on task (as_progress state) 0 (seen_of findings) (Puts CONTROL One 0 ∷ shuts)
    else starts task (as_progress state) 0 (seen_of findings) ++ (Puts CONTROL One 0 ∷ shuts))

abbrev pub stopped_last : List Event
stopped_last = Write CONTROL One 0 ∷ shut_accesses

-- what a last run leaves
abbrev pub finished_to : SwitchState → (clock : ℕ) → Tally → SwitchState
finished_to after clock tally = record after { tally = tally; clock = clock }

pub finishes_stretch : (task : Task) (graphs : List RawCodec) (plans : List Plan) (state state' : SwitchState) (reads : PollReads) (facts : RunFacts) (answered : Bool) → is_on state ≡ true → state.tally.course.started ≡ true → state.tally.course.ran ≡ ran.Playing
    → AreNew state.rings reads → facts ≡ facts_in task (as_progress state) 0 facts.from facts.lpib facts.to
    → Sees (findings_of (made_in task (as_progress state) reads facts stopped_last) answered) state.rings reads facts.from facts.lpib facts.to
    → is_overdue (rings_polled state.rings reads).outstanding state.clock ≡ false → state' ≡ finished_to (look_at state reads) facts.to (tally_in task (as_progress state) facts)
    → IsSwitchStretch task graphs plans state None (made_in task (as_progress state) reads facts stopped_last) answered state'
finishes_stretch task graphs plans state state' reads facts answered on started playing new is sees time leads =
    let findings = findings_of (made_in task (as_progress state) reads facts stopped_last) answered in
    let seen = seen_of findings in
    let tally = tally_in task (as_progress state) facts in
    let after = look_at state reads in
    let poll = poll_of_run findings state.rings reads facts.from facts.lpib facts.to sees in
    let appended = appends_by task (as_progress state) 0 seen facts is sees.clocks sees.position in
    let same_after = looked_same state findings reads poll in
    let same_tally = tally_by task (as_progress state) None seen facts is playing sees.clocks sees.position in
    let gives = overdue_by state findings reads false started poll time in
    let comes = both_true (is_on state) state.tally.course.started on started in
    let led = leads_by task (gives_up state findings) (looked_if state.tally.course.started state findings) None findings (tally_led task state None findings) in record {
      fits = requests_same task (as_progress state) 0 reads facts stopped_last seen new sees.flag sees.pointer appended
          ∙ ap (λ (started : Bool). closes_by task state findings false started) (sym started)
          ∙ ap (λ (gives : Bool). closes_by task state findings gives state.tally.course.started) (sym gives)
          ∙ ap (λ (comes : Bool). if comes then closes_by task state findings (gives_up state findings) state.tally.course.started else shuts) (sym comes);
      leads = leads
          ∙ ap (λ (clocks : List ℕ). finished_to after (slice_index clocks 1) tally) (sym sees.clocks)
          ∙ ap (λ (after : SwitchState). finished_to after (last_clock findings) tally) (sym same_after)
          ∙ ap (λ (tally : Tally). finished_to (looked state findings) (last_clock findings) tally) (sym same_tally)
          ∙ ap (λ (started : Bool). leads_by task false (looked_if started state findings) None findings (tally_led task state None findings)) (sym started)
          ∙ ap (λ (gives : Bool). leads_by task gives (looked_if state.tally.course.started state findings) None findings (tally_led task state None findings)) (sym gives)
          ∙ ap (λ (comes : Bool). if comes then led else record state { tally = tally_led task state None findings }) (sym comes);
    }

-- or the driver gives up
pub halts_stretch : (task : Task) (graphs : List RawCodec) (plans : List Plan) (state state' : SwitchState) (reads : PollReads) (answered : Bool) → is_on state ≡ true → state.tally.course.started ≡ true → AreNew state.rings reads
    → SeesPoll (findings_of (poll_accesses task.blocks.rirb state.rings reads ++ stopped_last) answered) state.rings reads
    → (seen_of (findings_of (poll_accesses task.blocks.rirb state.rings reads ++ stopped_last) answered)).clocks ≡ []
    → is_overdue (rings_polled state.rings reads).outstanding state.clock ≡ true → state' ≡ record (look_at state reads) { given_up = Some state.clock }
    → IsSwitchStretch task graphs plans state None (poll_accesses task.blocks.rirb state.rings reads ++ stopped_last) answered state'
halts_stretch task graphs plans state state' reads answered on started new sees none over leads =
    let findings = findings_of (poll_accesses task.blocks.rirb state.rings reads ++ stopped_last) answered in
    let seen = seen_of findings in
    let tally = state.tally in
    let same_after = looked_same state findings reads sees in
    let same_tally = tally_still task state None findings none in
    let gives = overdue_by state findings reads true started sees over in
    let comes = both_true (is_on state) state.tally.course.started on started in
    let led = leads_by task (gives_up state findings) (looked_if state.tally.course.started state findings) None findings (tally_led task state None findings) in record {
      fits = flat_map-append requests_in (poll_accesses task.blocks.rirb state.rings reads) stopped_last
          ∙ ap (λ (polled : List Request). polled ++ (Puts CONTROL One 0 ∷ shuts)) (poll_fits task.blocks.rirb state.rings reads seen new sees.flag sees.pointer)
          ∙ ap (λ (gives : Bool). closes_by task state findings gives state.tally.course.started) (sym gives)
          ∙ ap (λ (comes : Bool). if comes then closes_by task state findings (gives_up state findings) state.tally.course.started else shuts) (sym comes);
      leads = leads
          ∙ ap (λ (after : SwitchState). record after { tally = tally; given_up = Some after.clock }) (sym same_after)
          ∙ ap (λ (tally : Tally). record (looked state findings) { tally = tally; given_up = Some state.clock }) (sym same_tally)
          ∙ ap (λ (started : Bool). leads_by task true (looked_if started state findings) None findings (tally_led task state None findings)) (sym started)
          ∙ ap (λ (gives : Bool). leads_by task gives (looked_if state.tally.course.started state findings) None findings (tally_led task state None findings)) (sym gives)
          ∙ ap (λ (comes : Bool). if comes then led else record state { tally = tally_led task state None findings }) (sym comes);
    }
