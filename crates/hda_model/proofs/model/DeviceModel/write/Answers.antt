use Rattle.std.proofs.Common.{subst, ◌∙◌}
use Rattle.hda_model.specs.Models.{ModelState, IsWritten}
use Rattle.hda_model.specs.Keeping.{seen}
use Rattle.hda_model.proofs.Standing.{written, some_written}
use Rattle.hda_model.proofs.model.DeviceModel.write.Goals.{After-keep_marks}
use Rattle.hda_model.proofs.model.DeviceModel.write.Goals as goal

is : (c : After-keep_marks) → IsWritten c.args.at c.args.width c.args.value
    (seen c.self.inside.controller c.self.inside.heard c.self.inside.came.items)
    (seen c.write.new.self c.self.inside.heard c.keep_marks.new.came.items)
is c =
    written c.args.at c.args.width c.args.value c.self.inside.controller c.write.new.self c.self.inside.heard
    c.self.inside.came.items c.keep_marks.new.came.items c.write.ensures.stands c.keep_marks.ensures.came

pub invariant_of-self : goal.invariant_of-self
invariant_of-self c =
    let lists = c.self.inside.heard in
    record {
      kind = c.write.ensures.kind ∙ c.self.invariant.kind;
      known = c.write.ensures.lists lists c.self.invariant.known;
      stands =
          some_written c.args.at c.args.width c.args.value (seen c.self.inside.controller lists c.self.inside.came.items)
          (seen c.write.new.self lists c.keep_marks.new.came.items) (is c) c.self.invariant.stands;
    }

pub returns : goal.returns
returns c =
    subst (λ (before : ModelState). IsWritten c.args.at c.args.width c.args.value before
    (seen c.write.new.self c.self.inside.heard c.keep_marks.new.came.items)) c.self.view_is (is c)
