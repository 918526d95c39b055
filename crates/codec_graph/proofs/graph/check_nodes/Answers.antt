use Rattle.std.proofs.Common.{◌+◌, drop, length, sym, ap, ◌∙◌, arith}
use Rattle.std.proofs.lemmas.Result.{err_from_is_err_and}
use Rattle.codec_graph.specs.Faults.{first_fault, nodes_faults}
use Rattle.codec_graph.proofs.Tables.{nodes_faults-drop, first_fault-append_some}
use Rattle.codec_graph.proofs.graph.check_nodes.Goals as goal

pub returns-in_err-check_node : goal.returns-in_err-check_node
returns-in_err-check_node c =
    let p = err_from_is_err_and c.from_residual.result c.from_residual.ensures.1 in
    let codec = c.args.codec.now in
    let here = nodes_faults-drop codec c.loop-node.nid codec.nodes c.loop-node.node-index c.node-item.result (omega (arith, ap length c.as_slice-node-items.ensures)) (rw c.as_slice-node-items.ensures at c.node-item.is) in
    let first = first_fault-append_some _ (nodes_faults codec (c.loop-node.nid + 1) (drop (c.loop-node.node-index + 1) codec.nodes)) _ c.in_err-check_node.ensures in
    rw (p.1, p.2) (sym (c.loop-node.invariant.rest ∙ ap first_fault here ∙ first))
