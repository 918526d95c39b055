use Rattle.std.proofs.Common.{ℕ, List, Bool, true, false, sym, subst}
use Rattle.wav_reader.specs.Supplies.{MayGive, sound_before}
use Rattle.std.specs.Prelude.{OnOk}
use Rattle.driver_bring_up.specs.declared.answers.TheConstants.{TAG}
use Rattle.laws_driver.specs.Keeping.{Calls}
use Rattle.period_writer.specs.Writers.{measures_of}
use Rattle.period_writer.proofs.Callers.{ring_some}
use Rattle.program_runs.specs.Going.{parts_of, sounded}
use Rattle.program_runs.proofs.FedRings.{suffices_up}
use Rattle.program_runs.proofs.Called.{called}
use Rattle.program_runs.proofs.calls.call.Goals as goal

pub returns-then-line-clause-leads : goal.returns-then-line-clause-leads
returns-then-line-clause-leads g c =
    let driver = c.args.driver.now in
    let now = c.irq.new.self in
    let format = driver.bring_up.agenda.format in
    let old = parts_of driver.bring_up driver.writer driver.supply in
    let new = parts_of now.bring_up now.writer now.supply in
    subst (λ (irq : Bool). OnOk c.irq.result ((later : List ℕ) → MayGive new.supply later → Calls (g.T.Setter.means driver.setter format TAG) driver.play irq c.args.line.now.budget (sounded old (sound_before old.supply new.supply later)) (sounded new later) (g.P.Platform.told c.args.platform.now) (g.P.Platform.told c.irq.new.platform)))
    (sym c.if-line.true)
    (called (g.T.Setter.means driver.setter format TAG) driver.play true c.args.line.now.budget (measures_of driver.writer).ring old new (g.P.Platform.told c.args.platform.now) (g.P.Platform.told c.irq.new.platform) c.irq.result
    (ring_some driver.writer.geometry.periods driver.writer.geometry.period driver.writer.geometry.some_periods driver.writer.geometry.some) c.requires.within c.requires.up c.irq.ensures.taken c.irq.ensures.leads c.irq.ensures.kept c.irq.ensures.writer c.irq.ensures.supply c.irq.ensures.sounds)

pub returns-else-line-clause-leads : goal.returns-else-line-clause-leads
returns-else-line-clause-leads g c =
    let driver = c.args.driver.now in
    let now = c.run.new.self in
    let format = driver.bring_up.agenda.format in
    let old = parts_of driver.bring_up driver.writer driver.supply in
    let new = parts_of now.bring_up now.writer now.supply in
    subst (λ (irq : Bool). OnOk c.run.result ((later : List ℕ) → MayGive new.supply later → Calls (g.T.Setter.means driver.setter format TAG) driver.play irq c.args.line.now.budget (sounded old (sound_before old.supply new.supply later)) (sounded new later) (g.P.Platform.told c.args.platform.now) (g.P.Platform.told c.run.new.platform)))
    (sym c.if-line.false)
    (called (g.T.Setter.means driver.setter format TAG) driver.play false c.args.line.now.budget (measures_of driver.writer).ring old new (g.P.Platform.told c.args.platform.now) (g.P.Platform.told c.run.new.platform) c.run.result
    (ring_some driver.writer.geometry.periods driver.writer.geometry.period driver.writer.geometry.some_periods driver.writer.geometry.some) c.requires.within c.requires.up c.run.ensures.taken c.run.ensures.leads c.run.ensures.kept c.run.ensures.writer c.run.ensures.supply c.run.ensures.sounds)

pub irq-requires-clause-enough : goal.irq-requires-clause-enough
irq-requires-clause-enough g c plays more = suffices_up _ c.args.line.now.budget c.args.driver.now.supply (c.requires.up plays more)

pub run-requires-clause-enough : goal.run-requires-clause-enough
run-requires-clause-enough g c plays more = suffices_up _ c.args.line.now.budget c.args.driver.now.supply (c.requires.up plays more)
