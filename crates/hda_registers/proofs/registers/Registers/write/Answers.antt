use Rattle.std.proofs.Common.{◌≡◌, ◌∙◌, ap, sym}
use Rattle.hda_registers.specs.Access.{written}
use Rattle.hda_registers.specs.Fields.{Fields, is_running}
use Rattle.hda_registers.proofs.Dispatch.{written-taken, written-ignored, effects-are}
use Rattle.hda_registers.proofs.registers.Registers.write.Goals as goal
use Rattle.hda_registers.proofs.registers.Registers.write.Goals.{then-takes, else-takes}

pub returns-clause-registers : goal.returns-clause-registers
returns-clause-registers c =
    elim c.if-takes.branch [
      | then-takes w ↦ w.self-is ∙ w.place.ensures ∙ written-taken c.args.self.now c.args.at c.args.width c.args.value (sym c.takes.ensures ∙ w.if-takes.true)
      | else-takes w ↦ w.self-is ∙ written-ignored c.args.self.now c.args.at c.args.width c.args.value (sym c.takes.ensures ∙ w.if-takes.false)
    ]

pub returns-clause-effects : goal.returns-clause-effects
returns-clause-effects c =
    let new : c.if-takes.self ≡ written c.args.self.now c.args.at c.args.width c.args.value = elim c.if-takes.branch [
      | then-takes w ↦ w.self-is ∙ w.place.ensures ∙ written-taken c.args.self.now c.args.at c.args.width c.args.value (sym c.takes.ensures ∙ w.if-takes.true)
      | else-takes w ↦ w.self-is ∙ written-ignored c.args.self.now c.args.at c.args.width c.args.value (sym c.takes.ensures ∙ w.if-takes.false)
    ] in
    effects-are c.args.self.now c.if-takes.self c.args.at c.args.width c.args.value new
    c.is_out_of_reset-was_out.result c.is_out_of_reset-is_out.result
    c.is_running-input_ran.result c.is_running-input_runs.result c.is_running-output_ran.result c.is_running-output_runs.result
    c.writes.result c.rose.result c.both.result c.both-2.result c.writes-2.result c.writes-3.result
    c.rose-2.result c.rose-3.result c.fell.result c.fell-2.result
    c.is_out_of_reset-was_out.ensures c.is_out_of_reset-is_out.ensures
    (c.is_running-input_ran.ensures ∙ ap (λ (f : Fields). is_running f.input) c.self.view_is)
    (c.is_running-input_runs.ensures ∙ ap (λ (f : Fields). is_running f.input) c.self-2.view_is)
    (c.is_running-output_ran.ensures ∙ ap (λ (f : Fields). is_running f.output) c.self.view_is)
    (c.is_running-output_runs.ensures ∙ ap (λ (f : Fields). is_running f.output) c.self-2.view_is)
    c.writes.ensures c.rose.ensures c.writes-2.ensures c.both.ensures c.writes-3.ensures c.both-2.ensures
    c.rose-2.ensures c.rose-3.ensures c.fell.ensures c.fell-2.ensures
