use Rattle.std.proofs.Common.{◌≡◌, ◌<◌, ◌∙◌, length, get_or, ap, arith}
use Rattle.codec_dump.specs.Machines.{set_node}
use Rattle.codec_dump.proofs.StartLemmas.{fold-next}
use Rattle.codec_dump.proofs.machine.settings_of.Goals as goal

pub loop-node-preserved : goal.loop-node-preserved
loop-node-preserved c =
    let nodes = c.args.codec.now.nodes in
    let node = c.node-item.result in
    let place = c.loop-node.node-index in
    let same : c.as_slice-node-items.result.now ≡ nodes = c.as_slice-node-items.ensures in
    let inside : place < length nodes = omega (arith, ap length same) in
    let at : node ≡ get_or nodes place node = cc in
    record {
      of_graph = c.set_node.ensures.of_graph;
      value = c.in_ok-set_node.ensures.value ∙ fold-next (set_node c.args.graph.now) _ c.loop-node.settings nodes place node inside at c.loop-node.invariant.value;
    }
