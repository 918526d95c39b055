-- What the readers of tables promise one another: what is meant, and what holds of each table that was read.
use Rattle.std.specs.Prelude.{◌≡◌, ◌≤◌, List, Vec, None, Result, Ok, Err, All}
use Rattle.std.specs.declared.alloc.Global.{Global}
use Rattle.codec_graph.specs.Listed.{HasReadableList}
use Rattle.hda_files.specs.declared.node.NodeTable.{NodeTable}
use Rattle.hda_files.specs.declared.codec.CodecTable.{CodecTable}
use Rattle.hda_files.specs.declared.fault.FileFault.{FileFault}
use Rattle.hda_files.specs.Memory.{OrMemory}

-- the result is the one that is meant, or memory was wanting
abbrev pub IsMeant : {A : Type 0} → Result A FileFault → Result A FileFault → Type 0
IsMeant result meant = OrMemory result (result ≡ meant)

-- the items of a vector that may have failed
abbrev pub read_items : {A : Type 0} → Result (Vec A Global) FileFault → Result (List A) FileFault
read_items (Ok vector) = Ok vector.items
read_items (Err fault) = Err fault

-- a table's node identifier is small, and its connection list is readable where it has no fault
pub record IsReadNode (node : NodeTable) : Type 0 where
  pub small : node.nid ≤ 127
  pub readable : node.list_fault ≡ None → HasReadableList node.widget

-- a codec's address is small, and its widgets were read
pub record IsReadCodec (codec : CodecTable) : Type 0 where
  pub address : codec.words.address ≤ 14
  pub nodes : All IsReadNode codec.nodes
