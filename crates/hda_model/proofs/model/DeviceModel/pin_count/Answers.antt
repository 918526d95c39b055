use Rattle.std.proofs.Common.{length, sym, ap, ◌∙◌}
use Rattle.std.proofs.lemmas.List.{length-map}
use Rattle.heard_lists.specs.Listings.{handed_out}
use Rattle.hda_model.specs.Models.{ModelState}
use Rattle.hda_model.proofs.model.DeviceModel.pin_count.Goals as goal

pub returns : goal.returns
returns c = c.len.ensures ∙ (sym (length-map c.self.inside.heard handed_out) ∙ ap (λ (model : ModelState). length model.pins) c.self.view_is)
