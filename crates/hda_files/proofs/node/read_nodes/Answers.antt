use Rattle.std.proofs.Common.{◌+◌, drop, ap, ◌∙◌, sym, arith, rules}
use Rattle.std.proofs.lemmas.List.{length_push}
use Rattle.std.proofs.lemmas.List.Elements.{All-push}
use Rattle.std.specs.List.{cons_option}
use Rattle.toml.specs.View.{table_view}
use Rattle.hda_files.specs.Nodes.{node_of, nodes_after}
use Rattle.hda_files.specs.Readers.{IsReadNode}
use Rattle.hda_files.proofs.ArrayLemmas.{tables_of_list, tables_of_list-drop}
use Rattle.hda_files.proofs.NodeLemmas.{each_after-good}
use Rattle.hda_files.proofs.node.read_nodes.Goals as goal
use Rattle.hda_files.proofs.node.read_nodes.Goals.{in-Some+in_ok-node+in_ok-push, in_default}

pub loop-value-preserved : goal.loop-value-preserved
loop-value-preserved c =
    let values = c.args.array.now.items in
    let nodes = c.loop-value.nodes.items in
    let left = tables_of_list (drop (c.loop-value.value-index + 1) values) in
    let here = tables_of_list-drop values c.loop-value.value-index c.value-item.result (omega arith) (search rules) in
    let so_far = c.loop-value.invariant.rest ∙ ap (nodes_after c.args.codec nodes) here in
    elim c.match-as_table.branch [
      | in-Some+in_ok-node+in_ok-push w ↦
          let node = w.in_ok-node.node in
          let meant = rw w.as_slice.ensures.value at w.in_ok-node.ensures.value in
          rw (w.nodes-is, w.in_ok-push.ensures.items) (record {
            few = omega (arith, length_push nodes node, c.loop-value.invariant.few);
            read = All-push IsReadNode nodes node c.loop-value.invariant.read w.in_ok-node.ensures.read;
            rest = so_far ∙ ap (λ o. nodes_after c.args.codec nodes (cons_option o left)) (sym w.in-Some.ensures) ∙ each_after-good (node_of c.args.codec) nodes (table_view w.in-Some.table.now) left node meant;
          })
      | in_default w ↦
          rw w.nodes-is (record {
            few = omega (arith, c.loop-value.invariant.few);
            read = c.loop-value.invariant.read;
            rest = so_far ∙ ap (λ o. nodes_after c.args.codec nodes (cons_option o left)) (sym w.in_default.ensures);
          })
    ]
