use Rattle.std.proofs.Common.{[], ◌∷◌, subst, sym, ap, arith}
use Rattle.std.specs.Prelude.{IfOk}
use Rattle.schedule_reader.specs.declared.schedule.Item.{Item}
use Rattle.program_runs.proofs.Callers.{one_line}
use Rattle.program_captures.specs.Capturing.{CaptureRan}
use Rattle.program_captures.proofs.items.run_item.Goals as goal

pub run_line-requires-clause-few : goal.run_line-requires-clause-few
run_line-requires-clause-few c = (let one = ap one_line c.in-Drive.is in omega (arith, one, c.requires.few))

pub returns-in-Device : goal.returns-in-Device
returns-in-Device c =
    subst (λ (item : Item). IfOk c.run_step.result (λ later. CaptureRan c.args.terms (item ∷ []) c.args.capturer later c.args.rig.now c.run_step.new.rig)) (sym c.in-Device.is) c.run_step.ensures

pub returns-in-Drive : goal.returns-in-Drive
returns-in-Drive c =
    subst (λ (item : Item). IfOk c.run_line.result (λ later. CaptureRan c.args.terms (item ∷ []) c.args.capturer later c.args.rig.now c.run_line.new.rig)) (sym c.in-Drive.is) c.run_line.ensures
