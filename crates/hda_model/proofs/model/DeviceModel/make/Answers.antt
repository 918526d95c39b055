use Rattle.std.proofs.Common.{sym, subst, ◌∙◌}
use Rattle.hda_controller.proofs.Callers.{heard_reserved}
use Rattle.hda_model.specs.Models.{ModelState, SomeWorld, IsStepped}
use Rattle.hda_model.specs.Keeping.{seen}
use Rattle.hda_model.proofs.Standing.{stepped, some_stepped, other_room, on_err}
use Rattle.hda_model.proofs.model.DeviceModel.make.Goals as goal

pub step-requires-clause-lists : goal.step-requires-clause-lists
step-requires-clause-lists c =
    heard_reserved c.self.inside.controller.kind _ _ _ c.in_ok-make_room.ensures.lists c.self.invariant.known

pub invariant_of-self : goal.invariant_of-self
invariant_of-self c = record {
  kind = c.self.invariant.kind;
  known = heard_reserved c.self.inside.controller.kind _ _ _ c.in_err-make_room.ensures.lists c.self.invariant.known;
  stands = λ memory.
      subst (SomeWorld memory)
      (sym (other_room c.self.inside.controller _ _ _ _ c.in_err-make_room.ensures.lists c.in_err-make_room.ensures.marks))
      (c.self.invariant.stands memory);
}

pub invariant_of-self-2 : goal.invariant_of-self-2
invariant_of-self-2 c = record {
  kind = c.step.ensures.kind ∙ c.self.invariant.kind;
  known = c.step.ensures.lists;
  stands =
      some_stepped c.args.step.now c.args.memory.now c.step.new.memory
      (seen c.self.inside.controller c.self.inside.heard c.self.inside.came.items)
      (seen c.step.new.self c.step.new.heard c.step.new.came.items)
      (stepped c.args.step.now c.args.memory.now c.step.new.memory c.self.inside.controller c.step.new.self
      c.self.inside.heard _ c.step.new.heard c.self.inside.came.items _ c.step.new.came.items
      c.in_ok-make_room.ensures.lists c.in_ok-make_room.ensures.marks c.step.ensures.stands c.step.ensures.heard
      c.step.ensures.came c.self.invariant.kind (c.self.invariant.stands c.args.memory.now))
      c.self.invariant.stands;
}

pub returns-clause-made : goal.returns-clause-made
returns-clause-made c =
    subst (λ (before : ModelState). IsStepped c.args.step.now c.args.memory.now c.step.new.memory before
    (seen c.step.new.self c.step.new.heard c.step.new.came.items)) c.self.view_is
    (stepped c.args.step.now c.args.memory.now c.step.new.memory c.self.inside.controller c.step.new.self
    c.self.inside.heard _ c.step.new.heard c.self.inside.came.items _ c.step.new.came.items
    c.in_ok-make_room.ensures.lists c.in_ok-make_room.ensures.marks c.step.ensures.stands c.step.ensures.heard
    c.step.ensures.came c.self.invariant.kind (c.self.invariant.stands c.args.memory.now))

pub returns-in_err-make_room-clause-model : goal.returns-in_err-make_room-clause-model
returns-in_err-make_room-clause-model c =
    on_err c.from_residual.result
    (other_room c.self.inside.controller c.self.inside.heard c.make_room.new.lists c.self.inside.came.items
    c.make_room.new.marks.items c.in_err-make_room.ensures.lists c.in_err-make_room.ensures.marks ∙ c.self.view_is)
