use Rattle.std.proofs.Common.{Bool, sym, ap, ◌∙◌, if◌then◌else◌}
use Rattle.hda_registers.specs.Fields.{Fields, is_running, stream_of}
use Rattle.hda_controller.specs.Commands.{marked_handed}
use Rattle.hda_controller.specs.Controllers.{ControllerState}
use Rattle.hda_controller.proofs.CommandMarks.{grew_take}
use Rattle.hda_controller.proofs.controller.Controller.take.Goals as goal

pub returns-then-runs-clause-heard : goal.returns-then-runs-clause-heard
returns-then-runs-clause-heard c world is =
    let view = ap (λ (state : ControllerState). state.device.registers) c.self.view_is in
    grew_take c.args.self.now.kind c.args.memory.now c.args.self.now.device world c.is_stream_running-runs.result c.corb-handed.result c.args.heard.now c.mark_handed.new.heard is
    (c.is_stream_running-runs.ensures ∙ ap (λ (fields : Fields). is_running (stream_of fields 1)) (c.registers.ensures ∙ view))
    c.corb-handed.ensures.handed
    (c.mark_handed.ensures.lists ∙ ap (λ (runs : Bool). if runs then marked_handed c.corb-handed.result c.args.heard.now else c.args.heard.now) (sym c.if-runs.true))

pub returns-else-runs-clause-heard : goal.returns-else-runs-clause-heard
returns-else-runs-clause-heard c world is =
    let view = ap (λ (state : ControllerState). state.device.registers) c.self.view_is in
    grew_take c.args.self.now.kind c.args.memory.now c.args.self.now.device world c.is_stream_running-runs.result c.corb-handed.result c.args.heard.now c.args.heard.now is
    (c.is_stream_running-runs.ensures ∙ ap (λ (fields : Fields). is_running (stream_of fields 1)) (c.registers.ensures ∙ view))
    c.corb-handed.ensures.handed
    (ap (λ (runs : Bool). if runs then marked_handed c.corb-handed.result c.args.heard.now else c.args.heard.now) (sym c.if-runs.false))
