use Rattle.std.proofs.Common.{Bool, true, false, sym, subst}
use Rattle.std.specs.Prelude.{OnOk}
use Rattle.laws_driver.specs.Keeping.{Calls}
use Rattle.program_captures.specs.Inputs.{capture_means}
use Rattle.program_captures.specs.Capturing.{parts_with}
use Rattle.program_captures.proofs.Called.{called, never_plays}
use Rattle.program_captures.proofs.calls.call_coming.Goals as goal

pub returns-then-line-clause-leads : goal.returns-then-line-clause-leads
returns-then-line-clause-leads g c =
    let driver = c.args.driver.now in
    let now = c.irq.new.self in
    subst (λ (irq : Bool). OnOk c.irq.result (Calls (capture_means driver.setter.codec driver.bring_up.agenda.format) false irq c.args.line.now.budget (parts_with driver.bring_up driver.writer) (parts_with now.bring_up now.writer)
    (g.P.Platform.told c.args.platform.now) (g.P.Platform.told c.irq.new.platform))) (sym c.if-line.true)
    (called (capture_means driver.setter.codec driver.bring_up.agenda.format) true c.args.line.now.budget driver.bring_up now.bring_up driver.writer now.writer (g.P.Platform.told c.args.platform.now) (g.P.Platform.told c.irq.new.platform) c.irq.result
    (c.irq.ensures.leads (never_plays driver.play driver.bring_up c.requires.silent)) c.irq.ensures.kept (c.irq.ensures.writer (never_plays driver.play driver.bring_up c.requires.silent)))

pub returns-else-line-clause-leads : goal.returns-else-line-clause-leads
returns-else-line-clause-leads g c =
    let driver = c.args.driver.now in
    let now = c.run.new.self in
    subst (λ (irq : Bool). OnOk c.run.result (Calls (capture_means driver.setter.codec driver.bring_up.agenda.format) false irq c.args.line.now.budget (parts_with driver.bring_up driver.writer) (parts_with now.bring_up now.writer)
    (g.P.Platform.told c.args.platform.now) (g.P.Platform.told c.run.new.platform))) (sym c.if-line.false)
    (called (capture_means driver.setter.codec driver.bring_up.agenda.format) false c.args.line.now.budget driver.bring_up now.bring_up driver.writer now.writer (g.P.Platform.told c.args.platform.now) (g.P.Platform.told c.run.new.platform) c.run.result
    (c.run.ensures.leads (never_plays driver.play driver.bring_up c.requires.silent)) c.run.ensures.kept (c.run.ensures.writer (never_plays driver.play driver.bring_up c.requires.silent)))

pub irq-requires-clause-enough : goal.irq-requires-clause-enough
irq-requires-clause-enough g c plays = (let none = never_plays c.args.driver.now.play c.args.driver.now.bring_up c.requires.silent in cc)

pub run-requires-clause-enough : goal.run-requires-clause-enough
run-requires-clause-enough g c plays = (let none = never_plays c.args.driver.now.play c.args.driver.now.bring_up c.requires.silent in cc)
