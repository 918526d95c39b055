use Rattle.std.proofs.Common.{◌≡◌, length, take, get_or, refl, ap, subst, arith}
use Rattle.std.specs.Prelude.{All}
use Rattle.std.proofs.lemmas.List.{take_all}
use Rattle.std.proofs.lemmas.List.Elements.{All-more}
use Rattle.codec_graph.specs.Listed.{HasReadableList}
use Rattle.codec_graph.proofs.raw.RawCodec.has_readable_lists.Goals as goal

pub loop-node-preserved : goal.loop-node-preserved
loop-node-preserved c =
    let nodes = c.args.self.now.nodes in
    let at : c.node-item.result ≡ get_or nodes c.loop-node.node-index c.node-item.result = rw c.as_slice-node-items.ensures at c.node-item.is in
    All-more HasReadableList nodes c.loop-node.node-index c.node-item.result (omega (arith, ap length c.as_slice-node-items.ensures)) c.loop-node.invariant
    (subst HasReadableList at (c.in_ok-has_readable_list.ensures.0 c.if-not-branch.false))

pub returns : goal.returns
returns c =
    let nodes = c.args.self.now.nodes in
    let all : take c.loop-node.node-index nodes ≡ nodes = take_all c.loop-node.node-index nodes (omega (arith, ap length c.as_slice-node-items.ensures)) in
    ((λ t. subst (All HasReadableList) all c.loop-node.invariant), (λ h. refl))
