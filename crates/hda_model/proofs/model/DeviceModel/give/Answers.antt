use Rattle.std.proofs.Common.{subst, ◌∙◌}
use Rattle.hda_model.specs.Models.{ModelState, IsGiven}
use Rattle.hda_model.specs.Keeping.{seen}
use Rattle.hda_model.proofs.Standing.{given_to, some_given}
use Rattle.hda_model.proofs.model.DeviceModel.give.Goals.{After-give}
use Rattle.hda_model.proofs.model.DeviceModel.give.Goals as goal

is : (c : After-give) → IsGiven c.args.sound.items
    (seen c.self.inside.controller c.self.inside.heard c.self.inside.came.items)
    (seen c.give.new.self c.self.inside.heard c.self.inside.came.items)
is c =
    given_to c.args.sound.items c.self.inside.controller c.give.new.self c.self.inside.heard c.self.inside.came.items
    c.give.ensures.stands c.give.ensures.given

pub invariant_of-self : goal.invariant_of-self
invariant_of-self c =
    let lists = c.self.inside.heard in
    let marks = c.self.inside.came.items in
    record {
      kind = c.give.ensures.kind ∙ c.self.invariant.kind;
      known = c.give.ensures.lists lists c.self.invariant.known;
      stands = some_given c.args.sound.items (seen c.self.inside.controller lists marks) (seen c.give.new.self lists marks) (is c) c.self.invariant.stands;
    }

pub returns : goal.returns
returns c =
    subst (λ (before : ModelState). IsGiven c.args.sound.items before (seen c.give.new.self c.self.inside.heard c.self.inside.came.items))
    c.self.view_is (is c)
