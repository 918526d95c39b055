use Rattle.std.proofs.Common.{◌≡◌, ℕ, [], sym, subst, arith}
use Rattle.device_core.specs.Devices.{IsWorld}
use Rattle.hda_world.specs.Steps.{times, frame_step}
use Rattle.hda_controller.specs.Controllers.{ControllerState, StandsFor}
use Rattle.hda_controller.proofs.CommandMarks.{marks_kept}
use Rattle.hda_controller.specs.Hearing.{CameAs, FramesHeardAs}
use Rattle.hda_controller.proofs.controller.Controller.link.Goals as goal

pub returns-then-frames-eq1-clause-stands : goal.returns-then-frames-eq1-clause-stands
returns-then-frames-eq1-clause-stands c memory world is =
    let one : c.args.frames ≡ 1 = omega (arith, c.if-frames-eq1.true) in
    subst (λ (n : ℕ). StandsFor memory c.link_alone.new.self (times n frame_step world)) (sym one) (c.link_alone.ensures.stands memory world is)

pub returns-then-frames-eq1-clause-heard : goal.returns-then-frames-eq1-clause-heard
returns-then-frames-eq1-clause-heard c memory world is =
    let one : c.args.frames ≡ 1 = omega (arith, c.if-frames-eq1.true) in
    subst (λ (n : ℕ). FramesHeardAs c.args.self.now.kind world (times n frame_step world) c.args.heard.now c.link_alone.new.heard) (sym one) (c.link_alone.ensures.heard memory world is)

pub returns-then-frames-eq1-clause-came : goal.returns-then-frames-eq1-clause-came
returns-then-frames-eq1-clause-came c memory world is =
    let one : c.args.frames ≡ 1 = omega (arith, c.if-frames-eq1.true) in
    subst (λ (n : ℕ). CameAs world (times n frame_step world) c.args.came.now.items c.link_alone.new.came.items) (sym one) (c.link_alone.ensures.came memory world is)

pub returns-then-frames-eq1-clause-space : goal.returns-then-frames-eq1-clause-space
returns-then-frames-eq1-clause-space c more fits =
    let one : c.args.frames ≡ 1 = omega (arith, c.if-frames-eq1.true) in
    c.link_alone.ensures.space more (omega (arith, one, fits))

pub returns-then-frames-eq1-clause-mark_room : goal.returns-then-frames-eq1-clause-mark_room
returns-then-frames-eq1-clause-mark_room c more has =
    let some = c.is_some_world.ensures [] in
    let is = subst (λ (state : ControllerState). IsWorld [] state.device some.0) c.self.view_is some.1 in
    marks_kept c.args.self.now.kind some.0 (frame_step some.0) c.args.heard.now c.link_alone.new.heard more (c.link_alone.ensures.heard [] some.0 is) has

pub returns-else-frames-eq1-clause-mark_room : goal.returns-else-frames-eq1-clause-mark_room
returns-else-frames-eq1-clause-mark_room c more has =
    let some = c.is_some_world.ensures [] in
    let is = subst (λ (state : ControllerState). IsWorld [] state.device some.0) c.self.view_is some.1 in
    marks_kept c.args.self.now.kind some.0 (times c.args.frames frame_step some.0) c.args.heard.now c.link_together.new.heard more (c.link_together.ensures.heard [] some.0 is) has
