-- The words of a codec file's fault. This project's own.
use Rattle.std.specs.Prelude.{ℕ, List, ◌++◌, codes, decimal}
use Rattle.codec_graph.specs.FaultText.{nid_digits, graph_fault_name, graph_fault_nid}
use Rattle.verb_codes.specs.FaultText.{list_fault_text}
use Rattle.hda_files.specs.declared.fault.Place.{Place}
use Rattle.hda_files.specs.declared.fault.Place.TheVariants as place
use Rattle.hda_files.specs.declared.fault.Key.{Key}
use Rattle.hda_files.specs.declared.fault.FileFault.{FileFault}
use Rattle.hda_files.specs.declared.fault.FileFault.TheVariants.{Toml, MissingKey, WrongType, OutOfRange, Doubled}
use Rattle.hda_files.specs.declared.fault.FileFault.TheVariants.{List as InList, Graph, TooManyPins, OutOfMemory}
use Rattle.hda_files.specs.Keys.{key_name}

-- a fault at a node of a codec: the codec's address and the node identifier
abbrev pub node_fault_text : List ℕ → ℕ → ℕ → List ℕ
node_fault_text name address nid = name ++ codes " at " ++ decimal address ++ codes "/" ++ nid_digits nid

-- a table of the codec file
abbrev pub place_text : Place → List ℕ
place_text place.Top = codes "top"
place_text (place.Codec codec) = codes "codec " ++ decimal codec
place_text (place.Node codec node) = codes "codec " ++ decimal codec ++ codes " node " ++ decimal node

abbrev pub key_fault_text : List ℕ → Place → Key → List ℕ
key_fault_text word place key = word ++ codes " " ++ key_name key ++ codes " at " ++ place_text place

-- the fault of a codec file
abbrev pub file_fault_text : FileFault → List ℕ
file_fault_text Toml = codes "Toml"
file_fault_text (MissingKey place key) = key_fault_text (codes "MissingKey") place key
file_fault_text (WrongType place key) = key_fault_text (codes "WrongType") place key
file_fault_text (OutOfRange place key) = key_fault_text (codes "OutOfRange") place key
file_fault_text (Doubled place key) = key_fault_text (codes "Doubled") place key
file_fault_text (InList address nid fault) = node_fault_text (list_fault_text fault) address nid
file_fault_text (Graph address fault) = node_fault_text (graph_fault_name fault) address (graph_fault_nid fault)
file_fault_text TooManyPins = codes "TooManyPins"
file_fault_text OutOfMemory = codes "out of memory"
