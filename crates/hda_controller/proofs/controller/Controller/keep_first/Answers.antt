use Rattle.std.proofs.Common.{◌+◌, ◌++◌, ℕ, List, sym, ap, subst, ◌∙◌}
use Rattle.heard_lists.specs.Listings.{HasRoom}
use Rattle.hda_controller.specs.Unheard.{block_count, heard_now, layout_now}
use Rattle.hda_controller.proofs.controller.Controller.keep_first.Goals as goal

pub hear-requires-clause-room : goal.hear-requires-clause-room
hear-requires-clause-room c =
    subst (λ (bytes : List ℕ). HasRoom (block_count (layout_now c.args.self.now.device) bytes) c.args.heard.now) (sym c.as_slice.ensures.value) c.requires.room

pub returns-clause-bytes : goal.returns-clause-bytes
returns-clause-bytes c =
    c.in-Ok.ensures.ok ∙ ap (λ (before : List ℕ). before ++ c.args.bytes.now) c.clear.ensures

pub returns-clause-heard : goal.returns-clause-heard
returns-clause-heard c =
    c.hear.ensures.heard ∙ ap (λ (bytes : List ℕ). heard_now c.args.self.now.kind c.args.self.now.device bytes c.args.heard.now) c.as_slice.ensures.value

pub returns-clause-room : goal.returns-clause-room
returns-clause-room c more has =
    c.hear.ensures.room more
    (subst (λ (bytes : List ℕ). HasRoom (block_count (layout_now c.args.self.now.device) bytes + more) c.args.heard.now) (sym c.as_slice.ensures.value) has)
