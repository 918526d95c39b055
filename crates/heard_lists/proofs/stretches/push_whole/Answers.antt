use Rattle.std.proofs.Common.{◌++◌, ℕ, List, sym, ap, ◌∙◌}
use Rattle.heard_lists.proofs.Raw.{whole_raw}
use Rattle.heard_lists.proofs.stretches.push_whole.Goals as goal

pub returns : goal.returns
returns c =
    c.in_ok-extend_from_slice.ensures.items
    ∙ ap (λ (more : List ℕ). c.args.sound.now.items ++ more)
    (c.front.ensures
    ∙ sym (whole_raw c.args.format c.requires.pair c.args.bytes.now (λ i. (c.type_inv.bytes i).fits) c.args.blocks c.requires.whole))
