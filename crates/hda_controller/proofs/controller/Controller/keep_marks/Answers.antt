use Rattle.std.proofs.Common.{◌≡◌, ◌==◌, ℕ, Bool, [], false, if◌then◌else◌, sym, ap, ◌∙◌, ne_eqb}
use Rattle.hda_controller.specs.Controllers.{ControllerState}
use Rattle.hda_controller.proofs.WrittenMarks.{marks_written}
use Rattle.hda_controller.proofs.controller.Controller.keep_marks.Goals as goal

pub returns-then-count-eq0-clause-came : goal.returns-then-count-eq0-clause-came
returns-then-count-eq0-clause-came c memory before at width value is was =
    let zero = sym (ap (λ (state : ControllerState). state.device.input.came) c.self.view_is) ∙ (sym c.came-count.ensures ∙ c.if-count-eq0.true) in
    marks_written before at width value c.args.came.now.items c.clear.new.self.items c.args.self.now.device.input.came was is.captured.came_is
    (c.clear.ensures.items ∙ sym (ap (λ (count : ℕ). if count == 0 then [] else c.args.came.now.items) zero))

pub returns-else-count-eq0-clause-came : goal.returns-else-count-eq0-clause-came
returns-else-count-eq0-clause-came c memory before at width value is was =
    let some : (c.args.self.now.device.input.came == 0) ≡ false =
    ne_eqb c.args.self.now.device.input.came 0 (λ zero. c.if-count-eq0.false (c.came-count.ensures ∙ (ap (λ (state : ControllerState). state.device.input.came) c.self.view_is ∙ zero))) in
    marks_written before at width value c.args.came.now.items c.args.came.now.items c.args.self.now.device.input.came was is.captured.came_is
    (sym (ap (λ (zero : Bool). if zero then [] else c.args.came.now.items) some))
