use Rattle.std.proofs.Common.{◌+◌, true, false, refl, sym, ◌∙◌}
use Rattle.driver_progress.specs.Interrupts.{interrupt_accesses}
use Rattle.wav_reader.proofs.Callers.{none_now}
use Rattle.period_writer.specs.Writers.{measures_of}
use Rattle.period_writer.proofs.Callers.{accounts_none}
use Rattle.jack_switch.specs.Inside.{state_inside}
use Rattle.jack_switch.proofs.Kept.{plays_called, unanswered_now}
use Rattle.jack_switch.proofs.Called.{over_switches, none_switches, now_switches}
use Rattle.jack_switch.proofs.driver.JackDriver.irq.Goals as goal

pub returns-then-not-is_on-clause-switches : goal.returns-then-not-is_on-clause-switches
returns-then-not-is_on-clause-switches g c = rw (← c.self.view_is)
    (over_switches true c.args.budget (state_inside c.self.inside) _ (g.P.Platform.told c.args.platform.now) (sym c.is_on.ensures ∙ c.if-not-is_on.true)
    (record { engine = refl; writer = refl; supply = refl; jacks = refl; switching = refl; clock = refl; given_up = refl }))

pub returns-then-not-is_on-clause-taken : goal.returns-then-not-is_on-clause-taken
returns-then-not-is_on-clause-taken g c = rw (← c.self.view_is) (none_now c.self.inside.supply)

pub returns-then-not-is_on-clause-accounts : goal.returns-then-not-is_on-clause-accounts
returns-then-not-is_on-clause-accounts g c = rw (← c.self.view_is) (accounts_none (measures_of c.self.inside.writer) c.self.inside.supply c.self.inside.writer.course)

pub returns-then-not-is_on-clause-unanswered : goal.returns-then-not-is_on-clause-unanswered
returns-then-not-is_on-clause-unanswered g c codec command issued noticed is =
    unanswered_now _ c.phase.ensures.driver codec command issued noticed (sym c.phase.ensures.value ∙ is)

pub returns-then-not-has_interrupt-clause-switches : goal.returns-then-not-has_interrupt-clause-switches
returns-then-not-has_interrupt-clause-switches g c = rw (← c.self.view_is)
    (let looks = c.has_interrupt.ensures.looks in
    none_switches c.args.budget (state_inside c.self.inside) _ looks.interrupts looks.stream (g.P.Platform.told c.args.platform.now) (g.P.Platform.told c.has_interrupt.new.platform)
    (sym c.is_on.ensures ∙ c.if-not-is_on.false) (sym looks.answer_is ∙ c.if-not-has_interrupt.true) looks.made
    (record { engine = refl; writer = refl; supply = refl; jacks = refl; switching = refl; clock = refl; given_up = refl }))

pub returns-then-not-has_interrupt-clause-taken : goal.returns-then-not-has_interrupt-clause-taken
returns-then-not-has_interrupt-clause-taken g c = rw (← c.self.view_is) (none_now c.self.inside.supply)

pub returns-then-not-has_interrupt-clause-accounts : goal.returns-then-not-has_interrupt-clause-accounts
returns-then-not-has_interrupt-clause-accounts g c = rw (← c.self.view_is) (accounts_none (measures_of c.self.inside.writer) c.self.inside.supply c.self.inside.writer.course)

pub returns-then-not-has_interrupt-clause-unanswered : goal.returns-then-not-has_interrupt-clause-unanswered
returns-then-not-has_interrupt-clause-unanswered g c codec command issued noticed is =
    unanswered_now _ c.phase-then-not-has_interrupt.ensures.driver codec command issued noticed (sym c.phase-then-not-has_interrupt.ensures.value ∙ is)

pub returns-clause-switches : goal.returns-clause-switches
returns-clause-switches g c = rw (← c.self.view_is)
    (let old = state_inside c.self.inside in
    let looks = c.has_interrupt.ensures.looks in
    let told = g.P.Platform.told c.args.platform.now in
    let middle = g.P.Platform.told c.has_interrupt.new.platform in
    let after = g.P.Platform.told c.play_on.new.platform in
    now_switches true c.args.budget old c.play_on.new.self (interrupt_accesses looks.interrupts looks.stream) told middle after
    (record { interrupts = looks.interrupts; stream = looks.stream; on = sym looks.answer_is ∙ c.if-not-has_interrupt.false; is = refl }) looks.made c.self.invariant (sym c.is_on.ensures ∙ c.if-not-is_on.false)
    (plays_called c.args.budget (old.calls + 1) old c.play_on.new.self middle after c.play_on.ensures.plays))

pub returns-clause-taken : goal.returns-clause-taken
returns-clause-taken g c = rw (← c.self.view_is) c.play_on.ensures.taken

pub returns-clause-accounts : goal.returns-clause-accounts
returns-clause-accounts g c = rw (← c.self.view_is) c.play_on.ensures.accounts

pub returns-clause-unanswered : goal.returns-clause-unanswered
returns-clause-unanswered g c codec command issued noticed is =
    unanswered_now _ c.phase-2.ensures.driver codec command issued noticed (sym c.phase-2.ensures.value ∙ is)

pub returns-clause-keeps : goal.returns-clause-keeps
returns-clause-keeps g c = rw (← c.self.view_is)
    (let keeps = c.play_on.ensures.keeps in
    record {
      corb = keeps.corb;
      rirb = keeps.rirb;
      geometry = keeps.geometry;
      list = keeps.list;
      periods = keeps.periods;
      records = keeps.records;
      pool = keeps.pool;
      graphs = keeps.graphs;
      plans = keeps.plans;
      sent = keeps.sent;
      runs = keeps.runs;
    })
