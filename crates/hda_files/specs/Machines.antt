-- What a codec file means: a machine, or its first fault. This project's own format.
use Rattle.std.specs.Prelude.{◌≡◌, ◌≤◌, ◌<◌, ◌⊎◌, ℕ, List, [], ◌∷◌, map, count_by, sum_by, All, Some, Result, Ok, Err}
use Rattle.std.specs.Prelude.{IsUtf8}
use Rattle.std.specs.List.{range_with_len, filter_map}
use Rattle.std.specs.List.Sorted.{IsStrictlyIncreasing}
use Rattle.toml.specs.Data.{Members}
use Rattle.toml.specs.Parse.{parse_document}
use Rattle.codec_graph.specs.declared.raw.RawCodec.{RawCodec}
use Rattle.codec_graph.specs.Widget.{node_identifiers, normal}
use Rattle.codec_graph.specs.Listed.{HasNoListFault, IsFirstListFault}
use Rattle.codec_graph.specs.Candidates.{is_candidate}
use Rattle.codec_graph.specs.Settings.{IsSettingsOf}
use Rattle.codec_graph.specs.Cycles.{IsWellFormed, IsFirstFault}
use Rattle.hda_files.specs.declared.machine.Machine.{Machine}
use Rattle.hda_files.specs.declared.machine.CodecFile.{CodecFile}
use Rattle.hda_files.specs.declared.codec.CodecTable.{CodecTable}
use Rattle.hda_files.specs.declared.top.MachineTable.{MachineTable}
use Rattle.hda_files.specs.declared.fault.FileFault.{FileFault}
use Rattle.hda_files.specs.declared.fault.FileFault.TheVariants.{Toml, List as ListFault, Graph, TooManyPins}
use Rattle.hda_files.specs.Memory.{OrMemory}
use Rattle.hda_files.specs.Codecs.{codec_with_address, laid_out}
use Rattle.hda_files.specs.ListFaults.{list_fault_at}
use Rattle.hda_files.specs.Starts.{settings_of, presence_of}
use Rattle.hda_files.specs.Tops.{machine_table_of}

-- how many of the node identifiers below `end` are those of candidate pins
unfoldable pub candidates_below : RawCodec → ℕ → ℕ
candidates_below codec end = count_by (is_candidate codec) (range_with_len 0 end)

-- how many candidate pins some codecs have together
abbrev pub candidates_of : List CodecFile → ℕ
candidates_of files = sum_by (λ (file : CodecFile). candidates_below file.graph node_identifiers) files

-- a file has at most 16 candidate pins
abbrev pub HasFewPins : List CodecFile → Type 0
HasFewPins files = candidates_of files ≤ 16

abbrev pub HasManyPins : List CodecFile → Type 0
HasManyPins files = 16 < candidates_of files

-- how many addresses a codec can have: 0 to 14
abbrev pub codec_addresses : ℕ
codec_addresses = 15

-- the tables of a file's codecs ascending by address: for each address the table with it, if there is one
unfoldable pub by_address : List CodecTable → List CodecTable
by_address codecs = filter_map (codec_with_address codecs) (range_with_len 0 codec_addresses)

-- the codec that a table describes: its normalised graph, and its settings and plugs at the start
abbrev pub codec_file : CodecTable → CodecFile
codec_file codec = record {
  graph = normal (laid_out codec);
  settings = settings_of (normal (laid_out codec)) codec.group_power codec.nodes;
  present = presence_of codec.nodes;
}

-- the codec has no fault of a connection list and none of its graph
pub record IsGoodCodec (codec : CodecTable) : Type 0 where
  pub lists : HasNoListFault (list_fault_at codec.nodes)
  pub graph : IsWellFormed (normal (laid_out codec))

-- what a codec's table means whose keys are good: the codec, or else, with the codec's address, the fault of the list
-- of the least node identifier that has one, or else the graph's first fault
abbrev pub IsJudgedCodec : CodecTable → Result CodecFile FileFault → Type 0
IsJudgedCodec codec (Ok file) = (file ≡ codec_file codec) × IsGoodCodec codec
IsJudgedCodec codec (Err (ListFault address nid fault)) = (address ≡ codec.words.address)
    × IsFirstListFault (list_fault_at codec.nodes) nid fault
IsJudgedCodec codec (Err (Graph address fault)) =
    (address ≡ codec.words.address) × HasNoListFault (list_fault_at codec.nodes)
    × IsFirstFault (normal (laid_out codec)) fault
IsJudgedCodec codec (Err _) = ⊥

-- the first of the codecs that is not good has this fault
abbrev pub IsFirstCodecFault : List CodecTable → FileFault → Type 0
IsFirstCodecFault [] fault = ⊥
IsFirstCodecFault (codec ∷ codecs) fault = IsJudgedCodec codec (Err fault)
    ⊎ (IsGoodCodec codec × IsFirstCodecFault codecs fault)

-- what codecs in this order mean: each of them, or else the fault of the first that is not good
abbrev pub AreJudgedCodecs : List CodecTable → Result (List CodecFile) FileFault → Type 0
AreJudgedCodecs codecs (Ok files) = (files ≡ map codec_file codecs) × All IsGoodCodec codecs
AreJudgedCodecs codecs (Err fault) = IsFirstCodecFault codecs fault

-- the codecs that the tables describe, ascending by address
abbrev pub codec_files : List CodecTable → List CodecFile
codec_files codecs = map codec_file (by_address codecs)

-- the machine that a top table describes
abbrev pub machine_of : MachineTable → Machine
machine_of table = record { fifo = table.fifo; corb = table.corb; rirb = table.rirb; codecs = codec_files table.codecs }

-- what the file means whose keys are good: the machine, or else the first fault of its codecs ascending by address, or
-- else that these have too many candidate pins together
abbrev pub IsJudgedMachine : MachineTable → Result Machine FileFault → Type 0
IsJudgedMachine table (Ok machine) = (machine ≡ machine_of table) × All IsGoodCodec (by_address table.codecs)
    × HasFewPins (codec_files table.codecs)
IsJudgedMachine table (Err TooManyPins) = All IsGoodCodec (by_address table.codecs)
    × HasManyPins (codec_files table.codecs)
IsJudgedMachine table (Err fault) = IsFirstCodecFault (by_address table.codecs) fault

-- what the file means whose keys give this: the first fault of the keys comes before all others
abbrev pub IsJudged : Result MachineTable FileFault → Result Machine FileFault → Type 0
IsJudged (Ok table) result = IsJudgedMachine table result
IsJudged (Err fault) result = result ≡ Err fault

-- what the file with this top table means
abbrev pub IsReadingOf : Members → Result Machine FileFault → Type 0
IsReadingOf top result = IsJudged (machine_table_of top) result

-- a codec of a sound machine: its address is one of 0 to 14, and its settings are its graph's
pub record IsSoundCodec (file : CodecFile) : Type 0 where
  pub address : file.graph.address ≤ 14
  pub settings : IsSettingsOf file.graph file.settings

-- a sound machine: besides, the addresses of its codecs ascend, each once
pub record IsSound (machine : Machine) : Type 0 where
  pub ascending : IsStrictlyIncreasing (map (λ (file : CodecFile). file.graph.address) machine.codecs)
  pub each : All IsSoundCodec machine.codecs

-- the bytes are a TOML text with this top table
abbrev pub HasTable : List ℕ → Members → Type 0
HasTable bytes top = IsUtf8 bytes × (parse_document bytes ≡ Some top)

-- what the bytes mean: what their top table means, or that they are no TOML text
pub record IsReadingOfBytes (bytes : List ℕ) (result : Result Machine FileFault) : Type 0 where
  pub of_table : (top : Members) → HasTable bytes top → IsReadingOf top result
  pub of_none : ((top : Members) → HasTable bytes top → ⊥) → result ≡ Err Toml

-- the result says what the bytes mean, or memory was wanting
abbrev pub Reads : List ℕ → Result Machine FileFault → Type 0
Reads bytes result = OrMemory result (IsReadingOfBytes bytes result)

-- every reading of the bytes is this one
abbrev pub IsOnlyReading : List ℕ → Result Machine FileFault → Type 0
IsOnlyReading bytes result = (other : Result Machine FileFault) → IsReadingOfBytes bytes other → other ≡ result

-- no other result says what the bytes mean, or memory was wanting
abbrev pub ReadsOnly : List ℕ → Result Machine FileFault → Type 0
ReadsOnly bytes result = OrMemory result (IsOnlyReading bytes result)
