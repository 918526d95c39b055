use Rattle.std.proofs.Common.{Some, refl, arith}
use Rattle.std.proofs.lemmas.List.Sums.{fold_more}
use Rattle.verb_codes.specs.declared.verbs.Verb.TheVariants.{SetPower}
use Rattle.codec_graph.specs.Settings.{opening}
use Rattle.hda_files.specs.Starts.{set_given, set_node}
use Rattle.hda_files.proofs.start.settings_of.Goals as goal

pub loop-node-preserved : goal.loop-node-preserved
loop-node-preserved c =
    let graph = c.args.graph.now in
    let start = set_given graph graph.group (opening graph) (Some (SetPower c.args.group_power)) in
    let more = fold_more (set_node graph) start c.args.nodes.now c.loop-node.node-index c.node-item.result (omega arith) in
    record {
      of_graph = c.set_node.ensures.of_graph;
      value = rw (c.set_node.ensures.value, c.loop-node.invariant.value, more, ← c.node-item.is) refl;
    }
