use Rattle.std.proofs.Common.{◌≡◌, ◌++◌, ℕ, List, [], Bool, Some, refl, subst, sym, ◌∙◌, true, false}
use Rattle.std.proofs.lemmas.Bool.{false≢true}
use Rattle.std.specs.Prelude.{slice_index}
use Rattle.std.specs.Option.{is_some}
use Rattle.std.proofs.lemmas.Result.{on_ok_weaker, on_err_weaker}
use Rattle.command_engine.proofs.Callers.{made_none}
use Rattle.hda_world.proofs.Callers.{row_both, told_both, told_map}
use Rattle.driver_progress.specs.Interrupts.{interrupt_accesses}
use Rattle.driver_bring_up.specs.Commanding.{IsStretch, answer_in}
use Rattle.driver_progress.specs.Phases.{is_asking}
use Rattle.driver_progress.proofs.Callers.{asking_active, unread_both, interrupt_unread, looked_untaken}
use Rattle.hda_world.specs.Tellings.{Between, Makes}
use Rattle.hda_world.specs.Events.{Event}
use Rattle.driver_bring_up.specs.Calls.{state_of, Begins}
use Rattle.driver_bring_up.proofs.Still.{irq_of, inactive_stretch, none_stretch_of, interrupted_stretch, interrupted_last}
use Rattle.driver_bring_up.proofs.Leading.{none_found, reads_none, reads_after, found_after, same_answer, interrupt_entries, interrupt_values, no_entries_looked}
use Rattle.driver_bring_up.proofs.Asks.{is_over, ended_there}
use Rattle.driver_bring_up.proofs.Staying.{interrupts_stay, interrupted_stays, nothing_stays}
use Rattle.driver_bring_up.proofs.Unread.{can_stay, walks_settles, inactive_reset, inactive_settling, resets_looked, settles_looked, resets_after, settles_after}
use Rattle.driver_bring_up.proofs.bringing.BringUp.irq.Goals as goal

pub returns-then-not-is_active-clause-leads : goal.returns-then-not-is_active-clause-leads
returns-then-not-is_active-clause-leads g c =
    let old = c.args.self.now in
    let inactive = sym c.is_active.ensures ∙ c.if-not-is_active.true in
    let idle : is_asking old.phase ≡ true → ⊥ = λ asking. false≢true (sym inactive ∙ asking_active old.phase asking) in record {
      made = [];
      by = made_none (g.P.Platform.told c.args.platform.now);
      is = λ task budget of silent ended agrees. inactive_stretch task (state_of old) budget inactive;
      ended = λ task of ended. absurd (idle (is_over old.phase (is_some (answer_in old.engine.rings [])) old.phase ended).0);
      unread = λ not. tt {0};
      moves = λ asking. can_stay old.phase;
      reads = reads_none _ [] old old refl (λ still. refl) refl (λ asking. refl);
      begun = λ was is. absurd (walks_settles old.phase was is);
      resets = λ was. absurd (inactive_reset old.phase inactive was);
      untaken = λ was. absurd (inactive_reset old.phase inactive was);
      settles = λ was. absurd (inactive_settling old.phase inactive was);
      stays = λ goes. told_map (λ before after makes. nothing_stays true old before after makes) (made_none (g.P.Platform.told c.args.platform.now));
    }

pub returns-then-has_interrupt-clause-leads : goal.returns-then-has_interrupt-clause-leads
returns-then-has_interrupt-clause-leads g c =
    let old = c.args.self.now in
    let new = c.run.new.self in
    let looks = c.has_interrupt.ensures.looks in
    let on = sym looks.answer_is ∙ c.if-has_interrupt.true in
    on_ok_weaker c.run.result (λ leads.
    let made = interrupt_accesses looks.interrupts looks.stream ++ leads.made in
    let entries = interrupt_entries looks.interrupts looks.stream leads.made in
    let same = sym (same_answer old.engine.rings leads.made made entries) in record {
      made = made;
      by = row_both looks.made leads.by;
      is = λ task budget of silent ended agrees. subst (λ (found : Bool). IsStretch task (state_of old) (Some (irq_of budget)) made found (state_of new)) (found_after old.engine.rings leads.made made entries)
          (interrupted_stretch task (state_of old) budget leads.made _ (state_of new) looks.interrupts looks.stream on (sym c.is_active.ensures ∙ c.if-not-is_active.false) (leads.is task budget of silent (ended_there old.phase new.phase _ _ false same ended) agrees));
      ended = λ task of ended. interrupted_last task (state_of old) [] leads.made (state_of new) looks.interrupts looks.stream on (leads.ended task of (ended_there old.phase new.phase _ _ true same ended));
      unread = λ not. unread_both (interrupt_accesses looks.interrupts looks.stream) leads.made (interrupt_unread looks.interrupts looks.stream) (leads.unread not);
      moves = leads.moves;
      reads = reads_after _ leads.made made old new entries leads.reads;
      begun = λ was is. subst (λ (values : List ℕ). Begins (slice_index values 0) new.agenda) (sym (interrupt_values looks.interrupts looks.stream leads.made)) (leads.begun was is);
      resets = λ was. told_map (λ before after both. resets_after new looks.interrupts looks.stream leads.made before both.0 after both.1 both.2) (told_both looks.made (leads.resets was));
      untaken = λ was. told_map (λ before after both commands is. both.2 commands (looked_untaken looks.interrupts looks.stream before both.0 both.1 commands is)) (told_both looks.made (leads.untaken was));
      settles = λ was. told_map (λ before after both. settles_after old new looks.interrupts looks.stream leads.made before both.0 after on both.1 both.2) (told_both looks.made (leads.settles was));
      stays = λ asking. told_map (λ before after both. interrupted_stays old new looks.interrupts looks.stream leads.made before both.0 after on both.1 both.2) (told_both looks.made (leads.stays asking));
    }) c.run.ensures.leads

pub returns-else-has_interrupt-clause-leads : goal.returns-else-has_interrupt-clause-leads
returns-else-has_interrupt-clause-leads g c =
    let old = c.args.self.now in
    let looks = c.has_interrupt.ensures.looks in
    let off = sym looks.answer_is ∙ c.if-has_interrupt.false in
    let made = interrupt_accesses looks.interrupts looks.stream in
    let none = no_entries_looked looks.interrupts looks.stream in record {
      made = made;
      by = looks.made;
      is = λ task budget of silent ended agrees. subst (λ (found : Bool). IsStretch task (state_of old) (Some (irq_of budget)) made found (state_of old)) (none_found old.engine.rings made none)
          (none_stretch_of task (state_of old) budget looks.interrupts looks.stream off (sym c.is_active.ensures ∙ c.if-not-is_active.false));
      ended = λ task of ended. absurd (false≢true (none_found old.engine.rings made none ∙ (is_over old.phase (is_some (answer_in old.engine.rings made)) old.phase ended).1));
      unread = λ not. interrupt_unread looks.interrupts looks.stream;
      moves = λ asking. can_stay old.phase;
      reads = reads_none _ made old old none (λ still. refl) refl (λ asking. refl);
      begun = λ was is. absurd (walks_settles old.phase was is);
      resets = λ was. told_map (λ before after makes. resets_looked old looks.interrupts looks.stream before after was off makes) looks.made;
      untaken = λ was. told_map (λ before after makes. looked_untaken looks.interrupts looks.stream before after makes) looks.made;
      settles = λ was. told_map (λ before after makes. settles_looked old looks.interrupts looks.stream before after was off makes) looks.made;
      stays = λ asking. told_map (λ before after makes. interrupts_stay old looks.interrupts looks.stream before after makes) looks.made;
    }

pub returns-then-has_interrupt-clause-wanting : goal.returns-then-has_interrupt-clause-wanting
returns-then-has_interrupt-clause-wanting g c =
    let looks = c.has_interrupt.ensures.looks in
    let on = sym looks.answer_is ∙ c.if-has_interrupt.true in
    on_err_weaker c.run.result (λ fails. record {
      first = interrupt_accesses looks.interrupts looks.stream;
      is_before = record { interrupts = looks.interrupts; stream = looks.stream; on = on; is = refl };
      made = fails.made;
      by = row_both looks.made (subst (λ (first : List Event). Between (Makes (first ++ fails.made)) (g.P.Platform.told c.has_interrupt.new.platform) (g.P.Platform.told c.run.new.platform)) fails.is_before fails.by);
      is = fails.is;
      sent = fails.sent;
    }) c.run.ensures.wanting
