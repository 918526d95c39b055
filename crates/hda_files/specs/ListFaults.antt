-- The faults of a codec's connection lists, by node identifier. This project's own.
use Rattle.std.specs.Prelude.{ℕ, ◌==◌, List, Option, option_and_then}
use Rattle.std.specs.List.{find}
use Rattle.verb_codes.specs.declared.entries.ListFault.{ListFault}
use Rattle.hda_files.specs.declared.node.NodeTable.{NodeTable}

-- the fault of the list of the table with this node identifier, if there is one
abbrev pub list_fault_at : List NodeTable → ℕ → Option ListFault
list_fault_at nodes nid = option_and_then (λ (node : NodeTable). node.list_fault) (find (λ node. node.nid == nid) nodes)
