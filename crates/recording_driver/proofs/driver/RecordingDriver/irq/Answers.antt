use Rattle.std.proofs.Common.{◌<◌, true, refl, sym, ◌∙◌}
use Rattle.recording_driver.specs.Inside.{state_inside}
use Rattle.recording_driver.specs.InputInterrupts.{input_interrupt_accesses}
use Rattle.recording_driver.proofs.Kept.{called_on}
use Rattle.recording_driver.proofs.Called.{over_records, none_records, now_records}
use Rattle.recording_driver.proofs.driver.RecordingDriver.irq.Goals as goal

pub invariant_of-self-then-has_input_interrupt : goal.invariant_of-self-then-has_input_interrupt
invariant_of-self-then-has_input_interrupt g c =
    let few : c.self.inside.calls < c.self.inside.runs = rw (← c.self.view_is) at c.requires.few in
    let now = c.record.ensures in
    called_on (state_inside c.self.inside) _ c.self.invariant few now.started now.idle now.quiet now.corb now.rirb now.keeps now.few refl refl refl

pub returns-then-has_input_interrupt-clause-records : goal.returns-then-has_input_interrupt-clause-records
returns-then-has_input_interrupt-clause-records g c = rw (← c.self.view_is)
    (let looks = c.has_input_interrupt.ensures.looks in
    let now = c.record.ensures in
    now_records true (state_inside c.self.inside) _ (input_interrupt_accesses looks.interrupts looks.status)
    (g.P.Platform.told c.args.platform.now) (g.P.Platform.told c.has_input_interrupt.new.platform) (g.P.Platform.told c.record.new.platform)
    (record { interrupts = looks.interrupts; status = looks.status; on = sym looks.answer_is ∙ c.if-has_input_interrupt.true; is = refl }) looks.made
    (sym c.records_on.ensures ∙ c.if-not-records_on.false) c.self.invariant.idle now.records
    (record {
      corb = now.corb;
      rirb = now.rirb;
      geometry = now.keeps.geometry;
      list = now.keeps.list;
      periods = now.keeps.periods;
      total = now.keeps.total;
      pool = refl;
      graphs = refl;
      plans = refl;
      sent = refl;
      runs = refl;
    }))

pub returns-else-has_input_interrupt-clause-records : goal.returns-else-has_input_interrupt-clause-records
returns-else-has_input_interrupt-clause-records g c = rw (← c.self.view_is)
    (let looks = c.has_input_interrupt.ensures.looks in
    none_records (state_inside c.self.inside) _ looks.interrupts looks.status (g.P.Platform.told c.args.platform.now) (g.P.Platform.told c.has_input_interrupt.new.platform)
    (sym c.records_on.ensures ∙ c.if-not-records_on.false) (sym looks.answer_is ∙ c.if-has_input_interrupt.false) looks.made refl refl
    (record { corb = refl; rirb = refl; geometry = refl; list = refl; periods = refl; total = refl; pool = refl; graphs = refl; plans = refl; sent = refl; runs = refl }))

pub returns-then-not-records_on-clause-records : goal.returns-then-not-records_on-clause-records
returns-then-not-records_on-clause-records g c = rw (← c.self.view_is)
    (over_records true (state_inside c.self.inside) _ (g.P.Platform.told c.args.platform.now) (sym c.records_on.ensures ∙ c.if-not-records_on.true) refl refl
    (record { corb = refl; rirb = refl; geometry = refl; list = refl; periods = refl; total = refl; pool = refl; graphs = refl; plans = refl; sent = refl; runs = refl }))
