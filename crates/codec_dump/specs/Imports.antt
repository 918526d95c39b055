-- What is written of a dump. This project's own.
use Rattle.std.specs.Prelude.{◌≡◌, ◌≤◌, ◌<◌, ◌⊎◌, ℕ, Bool, true, false, ◌&&◌, List, [], ◌∷◌, length, nat_lt, Result, Ok}
use Rattle.std.specs.Prelude.{Err}
use Rattle.std.specs.Prelude.{Option, Some, None, unwrap_or, if◌then◌else◌, ◌==◌, String, string_bytes, map}
use Rattle.std.specs.Prelude.{All}
use Rattle.std.specs.List.{find}
use Rattle.std.specs.declared.alloc.Global.{Global}
use Rattle.verb_codes.specs.Words.{has_bit}
use Rattle.codec_graph.specs.declared.fault.GraphFault.{GraphFault}
use Rattle.codec_graph.specs.declared.fault.GraphFault.TheVariants as graph
use Rattle.codec_graph.specs.Widget.{normal, node_identifiers, amplifier_offset, amplifier_steps}
use Rattle.codec_graph.specs.Cycles.{IsFirstFault, IsWellFormed}
use Rattle.codec_graph.specs.Settings.{IsSettingsOf}
use Rattle.codec_graph.specs.Listed.{HasReadableList}
use Rattle.hda_files.specs.declared.machine.CodecFile.{CodecFile}
use Rattle.hda_files.specs.declared.fault.FileFault.{FileFault}
use Rattle.hda_files.specs.declared.fault.FileFault.TheVariants.{Graph, TooManyPins}
use Rattle.hda_files.specs.Machines.{IsReadingOfBytes, candidates_below}
use Rattle.dump_reader.specs.declared.fault.ReadFault.{ReadFault}
use Rattle.dump_reader.specs.declared.facts.NodeFacts.{NodeFacts}
use Rattle.dump_reader.specs.declared.facts.CodecFacts.{CodecFacts}
use Rattle.codec_dump.specs.declared.fault.DumpFault.{DumpFault}
use Rattle.codec_dump.specs.declared.fault.DumpFault.TheVariants.{Codec, TooManyNodes, UnreadableList, TooLong}
use Rattle.codec_dump.specs.declared.fault.DumpFault.TheVariants.{Unlike, OutOfMemory}
use Rattle.dump_reader.specs.Reading.{facts_of}
use Rattle.codec_dump.specs.Reads.{read_fault}
use Rattle.codec_dump.specs.Machines.{raw_codec, codec_of, machine_of}
use Rattle.codec_dump.specs.Mending.{mended}
use Rattle.codec_dump.specs.Texts.{Draft, draft, text_of, further_lines}

-- the most bytes of a codec file, and the most widgets of a codec
abbrev pub most_bytes : ℕ
most_bytes = 262144

abbrev pub most_nodes : ℕ
most_nodes = 127

-- the text is the draft's, and a codec file of its codec: it is read as the machine that the facts are
pub record IsCodecFileOf (draft : Draft) (text : List ℕ) : Type 0 where
  pub is : text ≡ text_of draft
  pub short : length text ≤ most_bytes
  pub reads : IsReadingOfBytes text (Ok (machine_of draft.codec))

-- a codec file can't say the codec: its graph has this first fault, or it has too many candidate pins
abbrev pub IsFaultOf : CodecFacts → FileFault → Type 0
IsFaultOf codec (Graph address fault) = (address ≡ unwrap_or codec.address 0)
    × IsFirstFault (normal (raw_codec codec)) fault
IsFaultOf codec TooManyPins = IsWellFormed (normal (raw_codec codec))
    × (16 < candidates_below (normal (raw_codec codec)) node_identifiers)
IsFaultOf codec _ = ⊥

-- whether amplifier capabilities have an offset above their steps
abbrev pub is_bad_word : Option ℕ → Bool
is_bad_word None = false
is_bad_word (Some word) = nat_lt (amplifier_steps word) (amplifier_offset word)

-- the line of the amplifier that has such an offset: the input amplifier's comes first
abbrev pub amplifier_line : Bool → NodeFacts → ℕ
amplifier_line applies facts = if applies && is_bad_word facts.amp_in then facts.lines.amp_in else facts.lines.amp_out

-- the line that a fault at a widget comes from
abbrev pub node_line : GraphFault → Option NodeFacts → (otherwise : ℕ) → ℕ
node_line fault None otherwise = otherwise
node_line (graph.ConnectionOutside nid) (Some facts) otherwise = facts.lines.list
node_line (graph.ListTooLong nid) (Some facts) otherwise = facts.lines.list
node_line (graph.Cycle nid) (Some facts) otherwise = facts.lines.list
node_line (graph.AmpOffset nid) (Some facts) otherwise =
    amplifier_line (has_bit facts.caps 1 && has_bit facts.caps 3) facts
node_line _ (Some facts) otherwise = otherwise

abbrev pub node_with : List NodeFacts → ℕ → Option NodeFacts
node_with nodes nid = find (λ node. node.nid == nid) nodes

-- the line that a fault of the graph comes from: that of the list or of the amplifier that it names, else the codec's
abbrev pub graph_line : CodecFacts → GraphFault → ℕ
graph_line codec (graph.AmpOffset nid) = if nid == unwrap_or codec.group_nid 1 then amplifier_line true codec.group
    else node_line (graph.AmpOffset nid) (node_with codec.nodes nid) codec.line
graph_line codec (graph.ConnectionOutside nid) =
    node_line (graph.ConnectionOutside nid) (node_with codec.nodes nid) codec.line
graph_line codec (graph.ListTooLong nid) = node_line (graph.ListTooLong nid) (node_with codec.nodes nid) codec.line
graph_line codec (graph.Cycle nid) = node_line (graph.Cycle nid) (node_with codec.nodes nid) codec.line
graph_line codec _ = codec.line

abbrev pub fault_line : CodecFacts → FileFault → ℕ
fault_line codec (Graph address fault) = graph_line codec fault
fault_line codec _ = codec.line

-- why a codec file can't say a codec, and the line. Want of memory says nothing of it.
abbrev pub IsRefused : CodecFacts → DumpFault → Type 0
IsRefused codec (Codec line fault) = (line ≡ fault_line codec fault) × IsFaultOf codec fault
IsRefused codec (TooManyNodes line) = (line ≡ codec.line) × (most_nodes < length codec.nodes)
IsRefused codec (UnreadableList line) = (line ≡ codec.line) × (All HasReadableList (raw_codec codec).nodes → ⊥)
IsRefused codec OutOfMemory = Unit {0}
IsRefused codec _ = ⊥

-- a codec file can say the codec
pub record CanBeSaid (codec : CodecFacts) : Type 0 where
  pub few : length codec.nodes ≤ most_nodes
  pub readable : All HasReadableList (raw_codec codec).nodes
  pub well_formed : IsWellFormed (normal (raw_codec codec))
  pub few_pins : candidates_below (normal (raw_codec codec)) node_identifiers ≤ 16

-- the text is short enough, and is not read as the codec's machine
abbrev pub IsReadOtherwise : Draft → Type 0
IsReadOtherwise draft = (length (text_of draft) ≤ most_bytes)
    × (IsReadingOfBytes (text_of draft) (Ok (machine_of draft.codec)) → ⊥)

-- why there is no codec file of a draft: a codec file can't say its codec, or else the text would be too long, or else
-- it is not read as the codec's machine
abbrev pub IsUnwritten : Draft → DumpFault → Type 0
IsUnwritten draft (TooLong line) = (line ≡ draft.codec.line) × CanBeSaid draft.codec
    × (most_bytes < length (text_of draft))
IsUnwritten draft (Unlike line) = (line ≡ draft.codec.line) × CanBeSaid draft.codec × IsReadOtherwise draft
IsUnwritten draft fault = IsRefused draft.codec fault

-- what is answered for a draft
abbrev pub IsWritten : Draft → Result (String Global) DumpFault → Type 0
IsWritten draft (Ok text) = IsCodecFileOf draft (string_bytes text)
IsWritten draft (Err fault) = IsUnwritten draft fault

-- what the check of a codec answers: the codec, or why a codec file can't say it
abbrev pub IsChecked : CodecFacts → Result CodecFile DumpFault → Type 0
IsChecked codec (Ok file) = (file ≡ codec_of codec) × IsSettingsOf file.graph file.settings × CanBeSaid codec
IsChecked codec (Err fault) = IsRefused codec fault

-- the codec as the dump says it, or mended
abbrev pub meant : Bool → CodecFacts → CodecFacts
meant true codec = mended codec
meant false codec = codec

-- the draft of a codec, with this behind it
abbrev pub draft_of : Bool → List ℕ → CodecFacts → Draft
draft_of mends tail codec = draft codec (meant mends codec) tail

-- those of the codecs of a dump of this name: behind the first stand the names of the others
abbrev pub drafts_with : Bool → (tail : List ℕ) → List CodecFacts → List Draft
drafts_with mends tail [] = []
drafts_with mends tail (codec ∷ codecs) = draft_of mends tail codec ∷ map (draft_of mends []) codecs

abbrev pub drafts_of : Bool → (name : List ℕ) → List CodecFacts → List Draft
drafts_of mends name codecs = drafts_with mends (further_lines name (length codecs)) codecs

-- a codec file of each draft, in order
abbrev pub AreWritten : List Draft → List (String Global) → Type 0
AreWritten [] [] = Unit {0}
AreWritten (draft ∷ drafts) (text ∷ texts) = IsCodecFileOf draft (string_bytes text) × AreWritten drafts texts
AreWritten _ _ = ⊥

-- the draft has a codec file
abbrev pub HasCodecFile : Draft → Type 0
HasCodecFile draft = (text : List ℕ) × IsCodecFileOf draft text

-- the first of the drafts that has no codec file has none for this
abbrev pub IsFirstUnwritten : List Draft → DumpFault → Type 0
IsFirstUnwritten [] fault = ⊥
IsFirstUnwritten (draft ∷ drafts) fault = IsUnwritten draft fault
    ⊎ (HasCodecFile draft × IsFirstUnwritten drafts fault)

-- what is answered for drafts
abbrev pub AreImports : List Draft → Result (List (String Global)) DumpFault → Type 0
AreImports drafts (Ok texts) = AreWritten drafts texts
AreImports drafts (Err fault) = IsFirstUnwritten drafts fault

-- what is answered for a dump of this name with these facts: its first line that can't be taken, or its codec files
abbrev pub IsImportOf : Bool → (name : List ℕ) → Result (List CodecFacts) ReadFault
    → Result (List (String Global)) DumpFault → Type 0
IsImportOf mends name (Err fault) result = result ≡ Err (read_fault fault)
IsImportOf mends name (Ok codecs) result = AreImports (drafts_of mends name codecs) result

-- what is answered for the bytes of a dump of this name, or that memory was wanting
abbrev pub Imports : Bool → (name : List ℕ) → List ℕ → Result (List (String Global)) DumpFault → Type 0
Imports mends name bytes result = (result ≡ Err OutOfMemory) ⊎ IsImportOf mends name (facts_of bytes) result
