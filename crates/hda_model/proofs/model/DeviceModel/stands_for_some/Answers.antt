use Rattle.std.proofs.Common.{subst}
use Rattle.hda_model.specs.Models.{SomeWorld}
use Rattle.hda_model.proofs.model.DeviceModel.stands_for_some.Goals as goal

pub returns : goal.returns
returns c memory = subst (SomeWorld memory) c.self.view_is (c.self.invariant.stands memory)
