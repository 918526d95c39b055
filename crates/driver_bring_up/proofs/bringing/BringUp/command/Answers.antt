use Rattle.std.proofs.Common.{◌≡◌, ◌++◌, Bool, true, false, refl, sym, ap, ◌∙◌}
use Rattle.command_engine.specs.declared.ring_places.RingPlaces.{RingPlaces}
use Rattle.command_engine.specs.Polling.{found_by, rings_polled}
use Rattle.hda_world.proofs.Callers.{row_both, told_both, told_map, told_pair}
use Rattle.driver_progress.specs.declared.phase.Phase.{Phase}
use Rattle.driver_progress.specs.declared.phase.Phase.TheVariants as phases
use Rattle.driver_progress.specs.Commands.{ask_accesses}
use Rattle.driver_progress.specs.Phases.{is_asking}
use Rattle.driver_progress.proofs.Callers.{asking_goes_on}
use Rattle.driver_bring_up.specs.Standing.{next_on}
use Rattle.driver_bring_up.specs.Commanding.{order_if, submit_made, poll_by, rings_with}
use Rattle.driver_bring_up.specs.Calls.{state_of, sent_if}
use Rattle.driver_bring_up.proofs.Asks.{led_stays, led_early, led_unfailed, started_with, command_with, command_last, ended_there, sent_same}
use Rattle.driver_bring_up.proofs.Leading.{submits_none, found_in, same_found, reads_look, waits_by}
use Rattle.driver_bring_up.proofs.Staying.{command_stays, at_blocks, made_there}
use Rattle.driver_bring_up.proofs.bringing.BringUp.command.Goals as goal

no_asking : false ≡ true → ⊥
no_asking is = cc

not_asking : (phase : Phase) → phase ≡ phases.Settling → is_asking phase ≡ true → ⊥
not_asking phase is asking = no_asking (sym (ap is_asking is) ∙ asking)

pub invariant_of-self-2-clause-led : goal.invariant_of-self-2-clause-led
invariant_of-self-2-clause-led g c = λ asking.
    let old = c.args.self.now in
    let looks = c.in_ok-answer.ensures.looks in
    led_stays (poll_by old.engine.rings looks.reads c.in_ok-answer.answer.clock) old.engine.rings.outstanding old.phase c.in_ok-answer.answer.phase old.agenda c.look_for_answer.new.agenda (old.led (asking_goes_on old.phase c.requires.phase)) looks.led asking

pub invariant_of-self-2-clause-started : goal.invariant_of-self-2-clause-started
invariant_of-self-2-clause-started g c = λ asking.
    ap (λ rings. rings.started) c.submit_next-submits.ensures.rings
    ∙ started_with (order_if c.in_ok-answer.answer.is_free (next_on c.look_for_answer.new.agenda)) c.in_ok-answer.answer.clock c.look_for_answer.new.engine.rings
    ∙ c.in_ok-answer.ensures.started ∙ c.args.self.now.started c.requires.phase

pub invariant_of-self-2-clause-early : goal.invariant_of-self-2-clause-early
invariant_of-self-2-clause-early g c =
    let old = c.args.self.now in
    let looks = c.in_ok-answer.ensures.looks in
    led_early (poll_by old.engine.rings looks.reads c.in_ok-answer.answer.clock) old.engine.rings.outstanding old.phase c.in_ok-answer.answer.phase old.agenda c.look_for_answer.new.agenda c.requires.phase looks.led

pub returns-clause-leads : goal.returns-clause-leads
returns-clause-leads g c =
    let old = c.args.self.now in
    let looks = c.in_ok-answer.ensures.looks in
    let answer = c.in_ok-answer.answer in
    let looked = c.look_for_answer.new.engine in
    let agenda = c.look_for_answer.new.agenda in
    let order = order_if answer.is_free (next_on agenda) in
    let polled = rings_polled old.engine.rings looks.reads in
    let rest = submit_made old.engine.corb.address polled order in
    let none = submits_none old.engine.corb.address polled order in
    let corb = ap (λ corb. corb.address) c.in_ok-answer.ensures.corb in
    let rirb = ap (λ rirb. rirb.address) c.in_ok-answer.ensures.rirb in
    let submitted = c.submit_next-submits.ensures in
    let rings = submitted.rings ∙ ap (λ (rings : RingPlaces). rings_with order answer.clock rings) looks.rings_are in
    let idle = λ (free : answer.is_free ≡ true). sym (ap (λ (rings : RingPlaces). rings.outstanding) looks.rings_are) ∙ c.in_ok-answer.ensures.idle free in
    let sent = c.sent_after-self.ensures ∙ ap (λ (submits : Bool). sent_if submits old.sent) submitted.submitted ∙ sent_same order old.sent in
    let made = ask_accesses old.engine.rirb.address answer.clock old.engine.rings looks.reads ++ rest in
    let found = found_in old.engine.rirb.address answer.clock old.engine.rings looks.reads rest looks.new_ones none in
    let submits = made_there order corb looks.rings_are submitted.made in record {
      made = made;
      by = row_both looks.made submits;
      is = λ task budget of silent ended agrees.
          same_found found
          (command_with task (state_of old) budget answer.clock looks.reads answer.phase old.agenda agenda answer.is_free c.submit_next-submits.result old.engine.corb.address old.engine.rirb.address c.sent_after-self.result polled c.submit_next-submits.new.engine.rings
          of.corb of.rirb c.requires.phase (old.led (asking_goes_on old.phase c.requires.phase)) looks.new_ones looks.led looks.free refl idle
          submitted.submitted c.sent_after-self.ensures rings (ended_there old.phase answer.phase _ _ false found ended) (agrees c.requires.phase));
      ended = λ task of ended.
          command_last task (state_of old) answer.clock looks.reads answer.phase agenda answer.is_free c.submit_next-submits.result old.engine.corb.address old.engine.rirb.address c.sent_after-self.result polled c.submit_next-submits.new.engine.rings
          of.rirb looks.new_ones looks.free refl submitted.submitted c.sent_after-self.ensures rings (ended_there old.phase answer.phase _ _ true found ended);
      unread = λ not. absurd (no_asking (sym not ∙ c.requires.phase));
      moves = λ not. absurd (no_asking (sym not ∙ c.requires.phase));
      reads = reads_look _ old.engine.rirb.address answer.clock looks.reads rest old _ c.requires.phase looks.new_ones none looks.led looks.taken looks.counted c.in_ok-answer.ensures.addresses;
      begun = λ was is. absurd (not_asking old.phase was c.requires.phase);
      resets = λ was. absurd (no_asking (sym (ap is_asking was) ∙ c.requires.phase));
      untaken = λ was. absurd (no_asking (sym (ap is_asking was) ∙ c.requires.phase));
      settles = λ was. absurd (not_asking old.phase was c.requires.phase);
      stays = λ asking. told_map (λ before after both.
          command_stays old _ answer.clock looks.reads answer.is_free order looked.rings _ before both.0 after looks.new_ones looks.rings_are rings (waits_by old.engine.rings.outstanding (found_by old.engine.rings looks.reads) answer.clock old.phase answer.phase old.agenda agenda looks.led) idle refl sent both.1.0 both.1.1 both.2.0 both.2.1)
          (told_both (told_pair looks.made looks.tells) (told_pair submits (at_blocks corb rirb looks.rings_are submitted.tells)));
    }

pub returns-clause-unfailed : goal.returns-clause-unfailed
returns-clause-unfailed g c = λ was.
    let old = c.args.self.now in
    let looks = c.in_ok-answer.ensures.looks in
    led_unfailed (poll_by old.engine.rings looks.reads c.in_ok-answer.answer.clock) old.engine.rings.outstanding old.phase c.in_ok-answer.answer.phase old.agenda c.look_for_answer.new.agenda c.requires.phase looks.led
