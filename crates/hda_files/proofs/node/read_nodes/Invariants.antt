use Rattle.std.proofs.Common.{◌≡◌, ◌≤◌, [], All, drop, length}
use Rattle.hda_files.specs.Nodes.{nodes_after}
use Rattle.hda_files.specs.Arrays.{tables_in}
use Rattle.hda_files.specs.Readers.{IsReadNode}
use Rattle.hda_files.proofs.ArrayLemmas.{tables_of_list}
use Rattle.hda_files.proofs.node.read_nodes.Given as goal

-- the tables that are left, after the nodes read so far, mean what all mean
abbrev pub invariant-loop-value : goal.invariant-loop-value
invariant-loop-value l = record {
  few : length l.nodes.items ≤ l.value-index;
  read : All IsReadNode l.nodes.items;
  rest : nodes_after l.codec [] (tables_in l.array) ≡ nodes_after l.codec l.nodes.items (tables_of_list (drop l.value-index l.array.items));
}
