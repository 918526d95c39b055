use Rattle.std.proofs.Common.{◌≡◌, ◌++◌, ◌<◌, ◌∙◌, ap, length, string_bytes, arith}
use Rattle.dump_reader.specs.declared.facts.NodeFacts.{NodeFacts}
use Rattle.codec_dump.specs.Texts.{node_text, table_at}
use Rattle.codec_dump.proofs.PieceLemmas.{each_next}
use Rattle.codec_dump.proofs.text.push_nodes.Goals as goal

pub loop-place-preserved : goal.loop-place-preserved
loop-place-preserved c =
    let place = c.loop-place.place in
    let node : NodeFacts = c.index-nodes-place.result in
    let inside : place < length c.args.nodes.now = omega arith in
    let pushed : string_bytes c.push_node.new.text ≡ string_bytes c.loop-place.text ++ table_at c.args.group c.args.before.now place node =
    c.in_ok-push_node.ensures ∙ ap (λ n. string_bytes c.loop-place.text ++ node_text c.args.group n node) c.node_before.ensures in
    each_next (table_at c.args.group c.args.before.now) c.args.nodes.now place node _ _ _ inside c.index-nodes-place.is pushed c.loop-place.invariant
