use Rattle.std.proofs.Common.{◌++◌, refl, sym, ◌∙◌, true, false}
use Rattle.std.proofs.lemmas.Bool.{false≢true}
use Rattle.hda_world.proofs.Callers.{row_both, told_both, told_map, told_pair}
use Rattle.driver_progress.specs.Commands.{ask_accesses}
use Rattle.driver_progress.specs.Shutting.{shut_accesses}
use Rattle.driver_progress.proofs.Callers.{asking_goes_on}
use Rattle.driver_bring_up.specs.Commanding.{poll_by}
use Rattle.driver_bring_up.specs.Calls.{state_of}
use Rattle.driver_bring_up.proofs.Asks.{led_stays, led_early, led_unfailed, end_with, end_last, ended_there}
use Rattle.driver_bring_up.proofs.Leading.{found_in, same_found, reads_look}
use Rattle.driver_bring_up.proofs.Staying.{end_looks}
use Rattle.driver_bring_up.proofs.bringing.BringUp.end_commands.Goals as goal
use Rattle.driver_bring_up.proofs.FailingLooks.{on_err}

pub invariant_of-self-2-clause-led : goal.invariant_of-self-2-clause-led
invariant_of-self-2-clause-led g c = λ asking.
    let old = c.args.self.now in
    let looks = c.in_ok-self.ensures.looks in
    led_stays (poll_by old.engine.rings looks.reads c.in_ok-self.field-0.clock) old.engine.rings.outstanding old.phase c.in_ok-self.field-0.phase old.agenda c.look_for_answer-answer.new.agenda (old.led (asking_goes_on old.phase c.requires.phase)) looks.led asking

pub invariant_of-self-2-clause-started : goal.invariant_of-self-2-clause-started
invariant_of-self-2-clause-started g c = λ asking. c.in_ok-self.ensures.started ∙ c.args.self.now.started c.requires.phase

pub invariant_of-self-2-clause-early : goal.invariant_of-self-2-clause-early
invariant_of-self-2-clause-early g c =
    let old = c.args.self.now in
    let looks = c.in_ok-self.ensures.looks in
    led_early (poll_by old.engine.rings looks.reads c.in_ok-self.field-0.clock) old.engine.rings.outstanding old.phase c.in_ok-self.field-0.phase old.agenda c.look_for_answer-answer.new.agenda c.requires.phase looks.led

pub returns-clause-ends : goal.returns-clause-ends
returns-clause-ends g c =
    let old = c.args.self.now in
    let looks = c.in_ok-self.ensures.looks in
    let answer = c.in_ok-self.field-0 in
    let looked = c.look_for_answer-answer.new.engine in
    let made = ask_accesses old.engine.rirb.address answer.clock old.engine.rings looks.reads ++ shut_accesses in
    let found = found_in old.engine.rirb.address answer.clock old.engine.rings looks.reads shut_accesses looks.new_ones refl in record {
      made = made;
      by = row_both looks.made c.shut.ensures.made;
      is = λ task of ended agrees.
          same_found found
          (end_with task (state_of old) answer.clock looks.reads answer.phase old.agenda c.look_for_answer-answer.new.agenda answer.is_free old.engine.rirb.address looked.rings
          of.rirb c.requires.phase (old.led (asking_goes_on old.phase c.requires.phase)) looks.new_ones looks.led looks.free looks.rings_are c.in_ok-self.ensures.idle (ended_there old.phase answer.phase _ _ false found ended) (agrees c.requires.phase));
      ended = λ task of ended. end_last task (state_of old) answer.clock looks.reads answer.phase old.engine.rirb.address looked.rings of.rirb looks.new_ones looks.rings_are (ended_there old.phase answer.phase _ _ true found ended);
      unread = λ not. absurd (false≢true (sym not ∙ c.requires.phase));
      stays = λ not. absurd (false≢true (sym not ∙ c.requires.phase));
      reads = reads_look _ old.engine.rirb.address answer.clock looks.reads shut_accesses old _ c.requires.phase looks.new_ones refl looks.led looks.taken looks.counted c.in_ok-self.ensures.addresses;
      looks = λ asking. told_map (λ before after both. end_looks old _ answer.clock looks.reads looked.rings _ before both.0 after looks.new_ones looks.rings_are refl refl both.1.0 both.1.1 both.2)
          (told_both (told_pair looks.made looks.tells) c.shut.ensures.made);
    }

pub returns-in_err-self-clause-wanting : goal.returns-in_err-self-clause-wanting
returns-in_err-self-clause-wanting g c =
    let alone = c.in_err-self.ensures.wanting in
    on_err c.from_residual.result (record {
      made = alone.made;
      by = row_both alone.by c.shut.ensures.made;
      is = record { asking = c.requires.phase; finds = alone.is };
      sent = refl;
    })

pub returns-clause-unfailed : goal.returns-clause-unfailed
returns-clause-unfailed g c = λ was.
    let old = c.args.self.now in
    let looks = c.in_ok-self.ensures.looks in
    led_unfailed (poll_by old.engine.rings looks.reads c.in_ok-self.field-0.clock) old.engine.rings.outstanding old.phase c.in_ok-self.field-0.phase old.agenda c.look_for_answer-answer.new.agenda c.requires.phase looks.led
