use Rattle.std.proofs.Common.{◌++◌, List, get_or, ap, ◌∙◌}
use Rattle.heard_frames.specs.declared.heard.Heard.{Heard}
use Rattle.heard_lists.proofs.Placed.{any_list}
use Rattle.heard_lists.proofs.lists.HeardLists.of.Goals as goal

pub returns : goal.returns
returns c =
    c.in_ok-push_list.ensures any_list
    ∙ (ap (λ (items : List Heard). items ++ (get_or c.args.self.now c.place_of-place.result any_list).list) c.new-items.ensures.items
    ∙ c.place_of-place.ensures.list any_list)
