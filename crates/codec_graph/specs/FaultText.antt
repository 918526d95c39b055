-- The words of a graph's fault. This project's own.
use Rattle.std.specs.Prelude.{ℕ, ◌/◌, ◌%◌, List, ◌++◌, codes, false}
use Rattle.std.specs.Fmt.{digits}
use Rattle.codec_graph.specs.declared.fault.GraphFault.{GraphFault}
use Rattle.codec_graph.specs.declared.fault.GraphFault.TheVariants.{NoAudioGroup, BadCount, ConnectionOutside}
use Rattle.codec_graph.specs.declared.fault.GraphFault.TheVariants.{ListTooLong, AmpOffset, Cycle}

-- a node identifier: two lower hexadecimal digits
abbrev pub nid_digits : ℕ → List ℕ
nid_digits nid = digits 16 false (nid / 16) ++ digits 16 false (nid % 16)

-- what is wrong, and where
abbrev pub graph_fault_name : GraphFault → List ℕ
graph_fault_name (NoAudioGroup _) = codes "NoAudioGroup"
graph_fault_name (BadCount _) = codes "BadCount"
graph_fault_name (ConnectionOutside _) = codes "ConnectionOutside"
graph_fault_name (ListTooLong _) = codes "ListTooLong"
graph_fault_name (AmpOffset _) = codes "AmpOffset"
graph_fault_name (Cycle _) = codes "Cycle"

abbrev pub graph_fault_nid : GraphFault → ℕ
graph_fault_nid (NoAudioGroup nid) = nid
graph_fault_nid (BadCount nid) = nid
graph_fault_nid (ConnectionOutside nid) = nid
graph_fault_nid (ListTooLong nid) = nid
graph_fault_nid (AmpOffset nid) = nid
graph_fault_nid (Cycle nid) = nid

abbrev pub graph_fault_text : GraphFault → List ℕ
graph_fault_text fault = graph_fault_name fault ++ codes " at " ++ nid_digits (graph_fault_nid fault)
