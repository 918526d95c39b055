use Rattle.std.proofs.Common.{◌≡◌, true, map, refl, sym, ap, subst, ◌∙◌}
use Rattle.std.proofs.lemmas.List.Elements.{All-map}
use Rattle.heard_lists.specs.Listings.{Listing, handed_out, forgotten}
use Rattle.hda_controller.specs.Controllers.{is_candidate_of_kind}
use Rattle.hda_controller.specs.Hearing.{AreHeardAs}
use Rattle.hda_model.specs.Models.{ModelState, IsForgotten}
use Rattle.hda_model.specs.Keeping.{seen}
use Rattle.hda_model.proofs.Standing.{forgot, some_forgotten, forgotten_pins}
use Rattle.hda_model.proofs.model.DeviceModel.forget.Goals.{After-clear}
use Rattle.hda_model.proofs.model.DeviceModel.forget.Goals as goal

is : (c : After-clear) → IsForgotten (seen c.self.inside.controller c.self.inside.heard c.self.inside.came.items) (seen c.self.inside.controller c.clear.new.self c.self.inside.came.items)
is c =
    forgot (seen c.self.inside.controller c.self.inside.heard c.self.inside.came.items) (seen c.self.inside.controller c.clear.new.self c.self.inside.came.items) refl
    (ap (map handed_out) c.clear.ensures ∙ forgotten_pins c.self.inside.heard) refl

pub invariant_of-self : goal.invariant_of-self
invariant_of-self c =
    let codecs = c.self.inside.controller.device.codecs in
    record {
      kind = c.self.invariant.kind;
      known =
          subst (AreHeardAs c.self.inside.controller.kind codecs) (sym c.clear.ensures)
          (All-map (λ (l : Listing). is_candidate_of_kind c.self.inside.controller.kind codecs l.codec l.pin ≡ true) forgotten c.self.inside.heard c.self.invariant.known);
      stands =
          some_forgotten (seen c.self.inside.controller c.self.inside.heard c.self.inside.came.items) (seen c.self.inside.controller c.clear.new.self c.self.inside.came.items) (is c) c.self.invariant.stands;
    }

pub returns : goal.returns
returns c = subst (λ (before : ModelState). IsForgotten before (seen c.self.inside.controller c.clear.new.self c.self.inside.came.items)) c.self.view_is (is c)
