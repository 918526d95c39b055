-- A call of a driver that switches does what is said of it.
use Rattle.std.proofs.Common.{◌≡◌, ◌≤◌, ℕ, List, [], ◌∷◌, ◌++◌, length, append-nil, Bool, true, false, Option, Some, None, inl, inr, refl, sym, ap, subst, ◌∙◌}
use Rattle.std.specs.Prelude.{◌&&◌, ◌⊎◌, not, drop}
use Rattle.std.specs.Option.{is_some, is_none}
use Rattle.verb_codes.specs.Words.{has_bit}
use Rattle.hda_registers.specs.declared.shapes.Width.TheVariants.{One}
use Rattle.hda_world.specs.Events.{Event, Write}
use Rattle.hda_world.specs.Tellings.{Telling, Between, BetweenBy, Makes}
use Rattle.hda_world.proofs.Callers.{row_both, told_both, told_map, told_pair}
use Rattle.command_engine.specs.declared.answers.Event as told
use Rattle.command_engine.specs.declared.ring_places.RingPlaces.{RingPlaces}
use Rattle.command_engine.specs.Engines.{EngineState}
use Rattle.command_engine.specs.Entries.{responses_in, unasked_events_of}
use Rattle.command_engine.specs.Polling.{PollReads, poll_accesses, found_by, rings_polled}
use Rattle.command_engine.specs.Told.{LeadsOn}
use Rattle.command_engine.proofs.Callers.{made_none}
use Rattle.wav_reader.specs.Supplies.{Supplied, MayGive, EndsWith, sound_before}
use Rattle.wav_reader.proofs.Callers.{same_before}
use Rattle.period_writer.specs.declared.course.Ran.{Ran}
use Rattle.period_writer.specs.declared.course.Ran.TheVariants as ran
use Rattle.period_writer.specs.declared.registers.TheConstants.{CONTROL}
use Rattle.period_writer.specs.Playing.{run_bytes, play_accesses, stop_accesses}
use Rattle.period_writer.specs.Starting.{start_accesses}
use Rattle.period_writer.specs.Outcomes.{StartTellsOf, RunTellsOf}
use Rattle.period_writer.specs.Runs.{Tally, facts_of, tally_opened}
use Rattle.period_writer.specs.Writers.{WriterState, tally_of, measures_of, periods_of, ring_of}
use Rattle.driver_progress.specs.Interrupts.{interrupt_accesses}
use Rattle.driver_progress.specs.Tasks.{Task, Order}
use Rattle.driver_progress.specs.Unread.{AreAccesses}
use Rattle.driver_progress.proofs.Callers.{accesses_both, interrupt_unread}
use Rattle.driver_bring_up.specs.Commanding.{entries_in, answer_in, with_told, submit_made, rings_with}
use Rattle.driver_bring_up.specs.Counted.{IsCount}
use Rattle.driver_bring_up.specs.declared.jacks.Jacks.{Jacks}
use Rattle.driver_bring_up.specs.Told.{IsBefore}
use Rattle.driver_bring_up.proofs.Callers.{unread_none, told_same}
use Rattle.driver_rules.specs.Onward.{IsRuleStretch}
use Rattle.audio_driver.specs.States.{is_open, was_late, IsLeft, EndsWhilePlaying}
use Rattle.audio_driver.proofs.Accesses.{interrupt_are, poll_are, start_are, play_are}
use Rattle.jack_rules.specs.Switching.{SwitchingState, told_all}
use Rattle.jack_switch.specs.SwitchRules.{SwitchState, switch_rules, is_on, is_overdue, choice_by, order_by, order_after, clock_of}
use Rattle.jack_switch.specs.JackDrivers.{JackDriverState, switch_state, IsJackDriver, IsTaskOfSwitching}
use Rattle.jack_switch.specs.JackCalls.{IsStill, Submits, CountsOn, SwitchTells, Switches, SwitchesAny}
use Rattle.jack_switch.specs.JackSteps.{LooksNow, SubmitsAfter, CountsRead, BeginsNow, GoesOnNow, GivesUpNow, PlaysNow}
use Rattle.jack_switch.proofs.Stretches.{look_at, ran_to, line_of, later_made}
use Rattle.jack_switch.proofs.Interrupted.{IsSwitchStretch, none_stretch, over_stretch}
use Rattle.jack_switch.proofs.Seen.{before_are, before_entries, run_entries, start_entries}
use Rattle.jack_switch.proofs.Seeing.{poll_entries}
use Rattle.jack_switch.proofs.Runs.{clock_after, left_after, open_on_time, GoesBy, tally_to, looked_by, goes_made, goes_is, gives_made, gives_is, begins_made, begins_is}
use Rattle.jack_switch.proofs.Submitted.{submit_are, stop_entries, submit_entries}
use Rattle.std.proofs.lemmas.Grind.{flat_map-append}
use Rattle.driver_bring_up.specs.Commanding.{entry_in}

-- ---- what is told for each value

each_by : {A : Type 0} (First : Telling → Telling → Type 0) (Second : A → Telling → Telling → Type 0) (old new : Option Telling) → BetweenBy First old new → ((one : A) → BetweenBy (Second one) old new) → BetweenBy (λ (old new : Telling). (one : A) → Second one old new) old new
each_by {A} First Second (Some a) (Some b) first second = second
each_by {A} First Second None None first second = tt
each_by {A} First Second (Some a) None first second = absurd first
each_by {A} First Second None (Some b) first second = absurd first

-- what is told of each value is told of all, where something is told
pub told_each : {A : Type 0} {First : Telling → Telling → Type 0} {Second : A → Telling → Telling → Type 0} {old new : Option Telling} → Between First old new → ((one : A) → Between (Second one) old new) → Between (λ (old new : Telling). (one : A) → Second one old new) old new
told_each {A} {First} {Second} {old} {new} first second = record { is = each_by First Second old new first.is (λ one. (second one).is) }

-- the sound that is left of what it was
pub record IsSupply (supply : List ℕ) (used : ℕ) : Type 0 where
  pub pcm : List ℕ
  pub is : supply ≡ drop used pcm

-- ---- where a driver stands

abbrev state_by : RingPlaces → Tally → (clock : ℕ) → SwitchingState → Option ℕ → SwitchState
state_by rings tally clock switching given_up = record { rings = rings; tally = tally; clock = clock; switching = switching; given_up = given_up }

pub record IsSame (old new : JackDriverState) : Type 0 where
  pub engine : new.engine ≡ old.engine
  pub writer : new.writer ≡ old.writer
  pub supply : new.supply ≡ old.supply
  pub jacks : new.jacks ≡ old.jacks
  pub switching : new.switching ≡ old.switching
  pub clock : new.clock ≡ old.clock
  pub given_up : new.given_up ≡ old.given_up

pub same_state : (old new : JackDriverState) → IsSame old new → switch_state new ≡ switch_state old
same_state old new same =
    ap (λ (engine : EngineState). state_by engine.rings (tally_of new.writer) new.clock new.switching new.given_up) same.engine
    ∙ ap (λ (writer : WriterState). state_by old.engine.rings (tally_of writer) new.clock new.switching new.given_up) same.writer
    ∙ ap (λ (clock : ℕ). state_by old.engine.rings (tally_of old.writer) clock new.switching new.given_up) same.clock
    ∙ ap (λ (switching : SwitchingState). state_by old.engine.rings (tally_of old.writer) old.clock switching new.given_up) same.switching
    ∙ ap (λ (given_up : Option ℕ). state_by old.engine.rings (tally_of old.writer) old.clock old.switching given_up) same.given_up

left_and : (one other : Bool) → (one && other) ≡ true → one ≡ true
left_and true other is = refl
left_and false other is = is

pub on_open : (driver : JackDriverState) → is_on (switch_state driver) ≡ true → is_open driver.writer.course.ran ≡ true
on_open driver on = left_and (is_open driver.writer.course.ran) (is_none driver.given_up) on

never : true ≡ false → ⊥
never is = cc

-- ---- counts

pub counts_by : (old new : Jacks) (made : List Event) (reads : PollReads) → entries_in made ≡ reads.entries → CountsRead old new reads → CountsOn old new made
counts_by old new made reads same counted events counts few =
    let both = told_same events reads.entries in
    let few_read : length (with_told events reads.entries) ≤ 4294967295 = subst (λ (entries : List (List ℕ)). length (with_told events entries) ≤ 4294967295) same few in
    subst (λ (entries : List (List ℕ)). IsCount (with_told events entries) new) (sym same)
    (subst (λ (events : List told.Event). IsCount events new) both
    (counted events counts (subst (λ (events : List told.Event). length events ≤ 4294967295) (sym both) few_read)))

pub counts_none : (old new : Jacks) (made : List Event) → entries_in made ≡ [] → new ≡ old → CountsOn old new made
counts_none old new made none same events counts few =
    subst (λ (entries : List (List ℕ)). IsCount (with_told events entries) new) (sym none) (subst (λ (jacks : Jacks). IsCount events jacks) (sym same) counts)

-- ---- no run comes

leads_as : (task : Task) (driver new : JackDriverState) (irq : Bool) (budget : ℕ) (made : List Event) (answered : Bool) → switch_state new ≡ switch_state driver
    → IsSwitchStretch task driver.graphs driver.plans (switch_state driver) (Some (line_of irq budget)) made answered (switch_state driver)
    → IsSwitchStretch task driver.graphs driver.plans (switch_state driver) (Some (line_of irq budget)) made answered (switch_state new)
leads_as task driver new irq budget made answered same is =
    subst (λ (state' : SwitchState). IsSwitchStretch task driver.graphs driver.plans (switch_state driver) (Some (line_of irq budget)) made answered state') (sym same) is

left_still : (old new : JackDriverState) (pcm later : List ℕ) → IsSame old new → IsLeft pcm old.writer.course (sound_before old.supply new.supply later) → IsLeft pcm new.writer.course later
left_still old new pcm later same left =
    subst (λ (writer : WriterState). IsLeft pcm writer.course later) (sym same.writer)
    (subst (λ (supply : List ℕ). IsLeft pcm old.writer.course supply) (same_before old.supply new.supply later same.supply) left)

pub over_switches : (irq : Bool) (budget : ℕ) (old new : JackDriverState) (told : Option Telling) → is_on (switch_state old) ≡ false → IsSame old new → SwitchesAny irq budget old new told told
over_switches irq budget old new told over same later may ends = record {
  made = [];
  are = tt {0};
  by = made_none told;
  is = λ task of. leads_as task old new irq budget [] (is_some (answer_in old.engine.rings [])) (same_state old new same) (over_stretch task old.graphs old.plans (switch_state old) irq budget (is_some (answer_in old.engine.rings [])) over);
  sound = λ pcm left. left_still old new pcm later same left;
  counted = counts_none old.jacks new.jacks [] refl same.jacks;
  tells = told_map (λ before after makes. inl (record { cause = inr over; looks = inl refl; over = λ closed. refl; engine = same.engine; jacks = same.jacks; state = same_state old new same })) (made_none told);
}

-- the call was for an interrupt that it did not find
pub none_switches : (budget : ℕ) (old new : JackDriverState) (interrupts stream : ℕ) (before after : Option Telling) → is_on (switch_state old) ≡ true → has_bit interrupts 31 ≡ false
    → Between (Makes (interrupt_accesses interrupts stream)) before after → IsSame old new → SwitchesAny true budget old new before after
none_switches budget old new interrupts stream before after on off looked same later may ends =
    let made = interrupt_accesses interrupts stream in
    let answered = is_some (answer_in old.engine.rings made) in record {
      made = made;
      are = interrupt_are interrupts stream;
      by = looked;
      is = λ task of. leads_as task old new true budget made answered (same_state old new same) (none_stretch task old.graphs old.plans (switch_state old) budget interrupts stream answered on off);
      sound = λ pcm left. left_still old new pcm later same left;
      counted = counts_none old.jacks new.jacks made (unread_none made (interrupt_unread interrupts stream)) same.jacks;
      tells = told_map (λ before after makes. inl (record {
        cause = inl (ap not off);
        looks = inr (record { interrupts = interrupts; stream = stream; is = refl });
        over = λ closed. absurd (never (sym on ∙ closed));
        engine = same.engine;
        jacks = same.jacks;
        state = same_state old new same;
      })) looked;
    }

-- ---- the next command

-- the command that comes by the look before the run
abbrev order_to : JackDriverState → PollReads → (was : Ran) → Option Order
order_to driver reads was = order_after (looked_by driver reads) was

pub record IsSubmitted (corb rirb : ℕ) (rings rings' : RingPlaces) (order : Option Order) (clock : ℕ) (before after : Option Telling) : Type 0 where
  pub made : Between (Makes (submit_made corb rings order)) before after
  pub rings_are : rings' ≡ rings_with order clock rings
  pub tells : Between (LeadsOn corb rirb rings rings') before after

abbrev SubmittedBy : (new : JackDriverState) (before after : Option Telling) → (corb rirb : ℕ) → RingPlaces → SwitchingState → Type 0
SubmittedBy new before after corb rirb rings switching = IsSubmitted corb rirb rings new.engine.rings (order_by new.writer.course.ran rings switching) new.clock before after

submitted_after : (middle : EngineState) (switching : SwitchingState) (new : JackDriverState) (before after : Option Telling) (corb rirb : ℕ) (rings : RingPlaces) (switching' : SwitchingState) → middle.corb.address ≡ corb → middle.rirb.address ≡ rirb → middle.rings ≡ rings
    → switching ≡ switching' → SubmitsAfter middle switching new before after → SubmittedBy new before after corb rirb rings switching'
submitted_after middle switching new before after corb rirb rings switching' corb_is rirb_is rings_are switching_is submits =
    subst (λ (corb : ℕ). SubmittedBy new before after corb rirb rings switching') corb_is
    (subst (λ (rirb : ℕ). SubmittedBy new before after middle.corb.address rirb rings switching') rirb_is
    (subst (λ (rings : RingPlaces). SubmittedBy new before after middle.corb.address middle.rirb.address rings switching') rings_are
    (subst (λ (switching : SwitchingState). SubmittedBy new before after middle.corb.address middle.rirb.address middle.rings switching) switching_is
    (record { made = submits.submits.made; rings_are = submits.submits.rings; tells = submits.submits.tells }))))

-- what the jack rules keep then
chosen_after : (middle : EngineState) (switching : SwitchingState) (new : JackDriverState) (before after : Option Telling) (rings : RingPlaces) (switching' : SwitchingState) → middle.rings ≡ rings → switching ≡ switching' → SubmitsAfter middle switching new before after
    → new.switching ≡ (choice_by new.writer.course.ran rings switching').next
chosen_after middle switching new before after rings switching' rings_are switching_is submits =
    submits.chosen
    ∙ ap (λ (rings : RingPlaces). (choice_by new.writer.course.ran rings switching).next) rings_are
    ∙ ap (λ (switching : SwitchingState). (choice_by new.writer.course.ran rings switching).next) switching_is

-- where a run leads
led_to : (after : SwitchState) (new : JackDriverState) (tally : Tally) (to : ℕ) → new.engine.rings ≡ rings_with (order_after after new.writer.course.ran) new.clock after.rings → new.switching ≡ (choice_by new.writer.course.ran after.rings after.switching).next
    → new.given_up ≡ after.given_up → new.clock ≡ to → tally_of new.writer ≡ tally → switch_state new ≡ ran_to after to tally
led_to after new tally to rings switching given_up clock tally_is =
    ap (λ (rings : RingPlaces). state_by rings (tally_of new.writer) new.clock new.switching new.given_up) rings
    ∙ ap (λ (switching : SwitchingState). state_by (rings_with (order_after after new.writer.course.ran) new.clock after.rings) (tally_of new.writer) new.clock switching new.given_up) switching
    ∙ ap (λ (given_up : Option ℕ). state_by (rings_with (order_after after new.writer.course.ran) new.clock after.rings) (tally_of new.writer) new.clock (choice_by new.writer.course.ran after.rings after.switching).next given_up) given_up
    ∙ ap (λ (clock : ℕ). ran_to after clock (tally_of new.writer)) clock
    ∙ ap (λ (tally : Tally). ran_to after to tally) tally_is

-- ---- the first run

begins_entries : (driver : JackDriverState) (in_reset ready from to : ℕ) (written : List ℕ) (order : Option Order)
    → entries_in (start_accesses driver.writer.geometry driver.writer.list.address (periods_of driver.writer) from in_reset ready to written ++ submit_made driver.engine.corb.address driver.engine.rings order) ≡ []
begins_entries driver in_reset ready from to written order =
    let run = start_accesses driver.writer.geometry driver.writer.list.address (periods_of driver.writer) from in_reset ready to written in
    flat_map-append entry_in run (submit_made driver.engine.corb.address driver.engine.rings order)
    ∙ ap (λ (entries : List (List ℕ)). entries_in run ++ entries) (submit_entries driver.engine.corb.address driver.engine.rings order)
    ∙ ap (λ (entries : List (List ℕ)). entries ++ []) (start_entries driver.writer.geometry driver.writer.list.address (periods_of driver.writer) from in_reset ready to written)

begins_switches : (irq : Bool) (budget : ℕ) (old new : JackDriverState) (first : List Event) (before middle after : Option Telling) → IsBefore irq first → Between (Makes first) before middle → IsJackDriver old → is_on (switch_state old) ≡ true
    → BeginsNow budget old new middle after → SwitchesAny irq budget old new before after
begins_switches irq budget old new first before middle after is_before looked driver on now later may ends =
    let supply = sound_before old.supply new.supply later in
    let starts = now.starts later may in
    let facts = facts_of budget (length supply) starts.from 0 starts.to in
    let opened = driver.fresh now.fresh in
    let on_time : was_late old.writer.course.ran ≡ false = ap (λ (tally : Tally). was_late tally.course.ran) opened in
    let was = new.writer.course.ran in
    let written = run_bytes (measures_of old.writer) old.writer.course facts supply in
    let run = start_accesses old.writer.geometry old.writer.list.address (periods_of old.writer) starts.from starts.in_reset starts.ready starts.to written in
    let order = order_after (switch_state old) was in
    let submitted = submit_made old.engine.corb.address old.engine.rings order in
    let submits = submitted_after old.engine old.switching new now.ran after old.engine.corb.address old.engine.rirb.address old.engine.rings old.switching refl refl refl refl now.after_run in
    let made = first ++ (run ++ submitted) in
    let was_is : was ≡ (tally_to old facts).course.ran = ap (λ (tally : Tally). tally.course.ran) starts.tally_is in
    let clock : new.clock ≡ starts.to = now.after_run.clock_is ∙ ap clock_of starts.tally_is ∙ clock_after (measures_of old.writer) (tally_of old.writer) facts in
    let leads = led_to (switch_state old) new (tally_to old facts) starts.to submits.rings_are now.after_run.chosen now.given_up clock starts.tally_is in
    let none = before_entries irq first (run ++ submitted) is_before ∙ begins_entries old starts.in_reset starts.ready starts.from starts.to written order in record {
      made = made;
      are = accesses_both first (run ++ submitted) (before_are irq first is_before)
          (accesses_both run submitted (start_are old.writer.geometry old.writer.list.address (periods_of old.writer) starts.from starts.in_reset starts.ready starts.to written) (submit_are old.engine.corb.address old.engine.rings order));
      by = row_both looked (row_both starts.made submits.made);
      is = λ task of. begins_is irq first old task supply budget starts.in_reset starts.ready starts.from starts.to is_before of on opened was (switch_state new) was_is leads;
      sound = λ pcm left. left_after pcm supply later (measures_of old.writer) (tally_of old.writer) (tally_of new.writer) facts on_time starts.tally_is starts.pcm_is left;
      counted = counts_none old.jacks new.jacks made none now.jacks;
      tells = told_map (λ before after both. inr (inl (record {
        fresh = now.fresh;
        first = first;
        is_before = is_before;
        begins = both.0;
        first_made = both.1;
        from = starts.from;
        in_reset = starts.in_reset;
        ready = starts.ready;
        to = starts.to;
        run = run;
        run_is = refl;
        ran = both.2.0;
        run_made = both.2.1.0;
        run_tells = both.2.1.1;
        order = order;
        submits = record { made = both.2.2.0; rings_are = submits.rings_are; tells = both.2.2.1 };
        order_is = refl;
        switching_is = now.after_run.chosen;
        given_is = now.given_up;
        made_is = refl;
      }))) (told_both looked (told_both (told_pair starts.made (now.tells later may)) (told_pair submits.made submits.tells)));
    }

-- ---- a later run

goes_entries : (driver : JackDriverState) (reads : PollReads) (budget left from lpib to : ℕ) (supply : List ℕ) (was : Ran) (order : Option Order)
    → entries_in (play_accesses driver.writer.geometry (periods_of driver.writer) driver.writer.course (facts_of budget left from lpib to) supply was ++ submit_made driver.engine.corb.address (rings_polled driver.engine.rings reads) order) ≡ []
goes_entries driver reads budget left from lpib to supply was order =
    let facts = facts_of budget left from lpib to in
    let run = play_accesses driver.writer.geometry (periods_of driver.writer) driver.writer.course facts supply was in
    flat_map-append entry_in run (submit_made driver.engine.corb.address (rings_polled driver.engine.rings reads) order)
    ∙ ap (λ (entries : List (List ℕ)). entries_in run ++ entries) (submit_entries driver.engine.corb.address (rings_polled driver.engine.rings reads) order)
    ∙ ap (λ (entries : List (List ℕ)). entries ++ []) (run_entries driver.writer.geometry (periods_of driver.writer) driver.writer.course facts supply (stop_accesses was) (stop_entries was))

goes_switches : (irq : Bool) (budget : ℕ) (old new : JackDriverState) (first : List Event) (before middle after : Option Telling) → IsBefore irq first → Between (Makes first) before middle → is_on (switch_state old) ≡ true
    → GoesOnNow budget old new middle after → SwitchesAny irq budget old new before after
goes_switches irq budget old new first before middle after is_before looked on now later may ends_if =
    let more = on_open old on in
    let ends = ends_if now.started more in
    let supply = sound_before old.supply new.supply later in
    let reads = now.looks.reads in
    let looks = now.looks.looks in
    let plays = now.plays later may ends in
    let facts = facts_of budget (length supply) plays.from plays.lpib plays.to in
    let was = new.writer.course.ran in
    let rings = rings_polled old.engine.rings reads in
    let switching = told_all old.switching (unasked_events_of (responses_in reads.entries)) (found_by old.engine.rings reads) in
    let poll = poll_accesses old.engine.rirb.address old.engine.rings reads in
    let run = play_accesses old.writer.geometry (periods_of old.writer) old.writer.course facts supply was in
    let order = order_to old reads was in
    let submitted = submit_made old.engine.corb.address rings order in
    let submits = submitted_after now.middle now.switching new now.ran after old.engine.corb.address old.engine.rirb.address rings switching (ap (λ lent. lent.address) looks.corb) (ap (λ lent. lent.address) looks.rirb) looks.rings looks.told now.after_run in
    let chosen = chosen_after now.middle now.switching new now.ran after rings switching looks.rings looks.told now.after_run in
    let made = first ++ (poll ++ (run ++ submitted)) in
    let was_is : was ≡ (tally_to old facts).course.ran = ap (λ (tally : Tally). tally.course.ran) plays.tally_is in
    let clock : new.clock ≡ plays.to = now.after_run.clock_is ∙ ap clock_of plays.tally_is ∙ clock_after (measures_of old.writer) (tally_of old.writer) facts in
    let leads = led_to (looked_by old reads) new (tally_to old facts) plays.to submits.rings_are chosen now.given_up clock plays.tally_is in
    let time : is_overdue rings.outstanding old.clock ≡ false = sym (looks.overdue_is ∙ ap (λ (rings : RingPlaces). is_overdue rings.outstanding old.clock) looks.rings) in
    let goes : GoesBy old reads = record { on = on; started = now.started; more = more; new_ones = looks.new_ones } in
    let entries = before_entries irq first (poll ++ (run ++ submitted)) is_before
    ∙ poll_entries old.engine.rirb.address old.engine.rings reads (run ++ submitted) looks.new_ones (goes_entries old reads budget (length supply) plays.from plays.lpib plays.to supply was order) in
    let run_told = λ (left : IsSupply supply old.writer.course.used). now.tells later may ends left.pcm left.is in record {
      made = made;
      are = accesses_both first (poll ++ (run ++ submitted)) (before_are irq first is_before)
          (accesses_both poll (run ++ submitted) (poll_are old.engine.rirb.address old.engine.rings reads)
          (accesses_both run submitted (play_are old.writer.geometry (periods_of old.writer) old.writer.course facts supply was) (submit_are old.engine.corb.address rings order)));
      by = row_both looked (row_both looks.made (row_both plays.made submits.made));
      is = λ task of. goes_is irq first old task supply budget reads plays.from plays.lpib plays.to is_before of goes time was (switch_state new) was_is leads;
      sound = λ pcm left. left_after pcm supply later (measures_of old.writer) (tally_of old.writer) (tally_of new.writer) facts (open_on_time old.writer.course.ran more) plays.tally_is plays.pcm_is left;
      counted = counts_by old.jacks new.jacks made reads entries now.looks.counted;
      tells = told_map (λ before after both. inr (inr (inl (record {
        started = now.started;
        on = on;
        first = first;
        is_before = is_before;
        begins = both.0;
        first_made = both.1;
        reads = reads;
        looked = both.2.0;
        looks = record { new_ones = looks.new_ones; made = both.2.1.0; tells = both.2.1.1 };
        from = plays.from;
        lpib = plays.lpib;
        to = plays.to;
        run = run;
        run_is = refl;
        ran = both.2.2.0;
        run_made = both.2.2.1.0;
        run_tells = λ pcm left. both.2.2.1.1 (record { pcm = pcm; is = left });
        order = order;
        submits = record { made = both.2.2.2.0; rings_are = submits.rings_are; tells = both.2.2.2.1 };
        order_is = refl;
        switching_is = chosen;
        given_is = now.given_up;
        made_is = refl;
      })))) (told_both looked (told_both (told_pair looks.made looks.tells) (told_both (told_pair plays.made (told_each plays.made run_told)) (told_pair submits.made submits.tells))));
    }

-- ---- the driver gives up

gives_switches : (irq : Bool) (budget : ℕ) (old new : JackDriverState) (first : List Event) (before middle after : Option Telling) → IsBefore irq first → Between (Makes first) before middle → is_on (switch_state old) ≡ true
    → GivesUpNow old new middle after → SwitchesAny irq budget old new before after
gives_switches irq budget old new first before middle after is_before looked on now later may ends =
    let more = on_open old on in
    let supply = sound_before old.supply new.supply later in
    let reads = now.looks.reads in
    let looks = now.looks.looks in
    let poll = poll_accesses old.engine.rirb.address old.engine.rings reads in
    let stop = Write CONTROL One 0 ∷ [] in
    let made = first ++ (poll ++ stop) in
    let rings = rings_polled old.engine.rings reads in
    let switching = told_all old.switching (unasked_events_of (responses_in reads.entries)) (found_by old.engine.rings reads) in
    let leads : switch_state new ≡ record (looked_by old reads) { given_up = Some old.clock } =
    ap (λ (rings : RingPlaces). state_by rings (tally_of new.writer) new.clock new.switching new.given_up) looks.rings
    ∙ ap (λ (writer : WriterState). state_by rings (tally_of writer) new.clock new.switching new.given_up) now.writer
    ∙ ap (λ (clock : ℕ). state_by rings (tally_of old.writer) clock new.switching new.given_up) now.clock
    ∙ ap (λ (switching : SwitchingState). state_by rings (tally_of old.writer) old.clock switching new.given_up) looks.told
    ∙ ap (λ (given_up : Option ℕ). state_by rings (tally_of old.writer) old.clock switching given_up) now.given_up in
    let over : is_overdue rings.outstanding old.clock ≡ true = sym (looks.overdue_is ∙ ap (λ (rings : RingPlaces). is_overdue rings.outstanding old.clock) looks.rings) in
    let goes : GoesBy old reads = record { on = on; started = now.started; more = more; new_ones = looks.new_ones } in
    let entries = before_entries irq first (poll ++ stop) is_before ∙ poll_entries old.engine.rirb.address old.engine.rings reads stop looks.new_ones refl in record {
      made = made;
      are = accesses_both first (poll ++ stop) (before_are irq first is_before) (accesses_both poll stop (poll_are old.engine.rirb.address old.engine.rings reads) (tt {0}, tt {0}));
      by = row_both looked (row_both looks.made now.stopped);
      is = λ task of. gives_is irq first old task supply budget reads (switch_state new) is_before of goes over leads;
      sound = λ pcm left. subst (λ (writer : WriterState). IsLeft pcm writer.course later) (sym now.writer)
          (subst (λ (supply : List ℕ). IsLeft pcm old.writer.course supply) (same_before old.supply new.supply later now.supply) left);
      counted = counts_by old.jacks new.jacks made reads entries now.looks.counted;
      tells = told_map (λ before after both. inr (inr (inr (record {
        started = now.started;
        on = on;
        first = first;
        is_before = is_before;
        begins = both.0;
        first_made = both.1;
        reads = reads;
        looked = both.2.0;
        looks = record { new_ones = looks.new_ones; made = both.2.1.0; tells = both.2.1.1 };
        stopped = both.2.2;
        rings = looks.rings;
        switching_is = looks.told;
        given = now.given_up;
        writer = now.writer;
        made_is = refl;
      })))) (told_both looked (told_both (told_pair looks.made looks.tells) now.stopped));
    }

-- ---- a call

pub now_switches : (irq : Bool) (budget : ℕ) (old new : JackDriverState) (first : List Event) (before middle after : Option Telling) → IsBefore irq first → Between (Makes first) before middle → IsJackDriver old → is_on (switch_state old) ≡ true
    → PlaysNow budget old new middle after → SwitchesAny irq budget old new before after
now_switches irq budget old new first before middle after is_before looked driver on (inl begins) = begins_switches irq budget old new first before middle after is_before looked driver on begins
now_switches irq budget old new first before middle after is_before looked driver on (inr (inl goes)) = goes_switches irq budget old new first before middle after is_before looked on goes
now_switches irq budget old new first before middle after is_before looked driver on (inr (inr gives)) = gives_switches irq budget old new first before middle after is_before looked on gives
