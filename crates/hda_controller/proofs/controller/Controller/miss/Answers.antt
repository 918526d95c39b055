use Rattle.std.proofs.Common.{◌+◌, [], ◌∷◌, ℕ, List, map, sym, ap, subst, ◌∙◌, arith}
use Rattle.heard_frames.specs.declared.heard.Heard.TheVariants.{Hole}
use Rattle.heard_lists.specs.Listings.{Listing, HasRoom, with_items}
use Rattle.hda_controller.specs.Hearing.{AreHeardAs}
use Rattle.hda_controller.specs.Unheard.{block_count, heard_now, layout_now}
use Rattle.hda_controller.proofs.Unheard.{listed-missed}
use Rattle.hda_controller.proofs.controller.Controller.miss.Goals as goal
use Rattle.heard_lists.proofs.Callers.{HasRoom-fewer}

pub hear-requires-clause-room : goal.hear-requires-clause-room
hear-requires-clause-room c =
    let device = c.args.self.now.device in
    subst (λ (bytes : List ℕ). HasRoom (block_count (layout_now device) bytes) c.args.heard.now) (sym c.as_slice.ensures.value)
    (HasRoom-fewer (block_count (layout_now device) c.args.unheard.now.items) (block_count (layout_now device) c.args.unheard.now.items + 1) c.args.heard.now (omega arith) c.requires.room)

pub miss-requires : goal.miss-requires
miss-requires c =
    let device = c.args.self.now.device in
    c.hear.ensures.room 1
    (subst (λ (bytes : List ℕ). HasRoom (block_count (layout_now device) bytes + 1) c.args.heard.now) (sym c.as_slice.ensures.value) c.requires.room)

pub returns-clause-heard : goal.returns-clause-heard
returns-clause-heard c =
    c.miss.ensures.lists
    ∙ (ap (λ (lists : List Listing). map (with_items (Hole ∷ [])) lists) c.hear.ensures.heard
    ∙ ap (λ (bytes : List ℕ). map (with_items (Hole ∷ [])) (heard_now c.args.self.now.kind c.args.self.now.device bytes c.args.heard.now)) c.as_slice.ensures.value)

pub returns-clause-room : goal.returns-clause-room
returns-clause-room c more has =
    let device = c.args.self.now.device in
    c.miss.ensures.room more
    (c.hear.ensures.room (1 + more)
    (subst (λ (bytes : List ℕ). HasRoom (block_count (layout_now device) bytes + (1 + more)) c.args.heard.now) (sym c.as_slice.ensures.value) has))

pub returns-clause-lists : goal.returns-clause-lists
returns-clause-lists c =
    subst (AreHeardAs c.args.self.now.kind c.args.self.now.device.codecs) (sym c.miss.ensures.lists)
    (listed-missed c.args.self.now.kind c.args.self.now.device.codecs c.hear.new.heard c.hear.ensures.lists)
