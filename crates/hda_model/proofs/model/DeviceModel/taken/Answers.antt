use Rattle.std.proofs.Common.{ap, ◌∙◌}
use Rattle.hda_model.specs.Models.{ModelState}
use Rattle.hda_model.proofs.model.DeviceModel.taken.Goals as goal

pub returns : goal.returns
returns c = c.as_slice.ensures.value ∙ ap (λ (model : ModelState). model.came) c.self.view_is
