-- Node identifiers of what a table says are small.
use Rattle.std.proofs.Common.{◌≡◌, ◌<◌, ◌≤◌, ◌==◌, ◌++◌, ℕ, ℤ, pos, negsuc, Bool, true, false, if◌then◌else◌, List, [], ◌∷◌, length, suc, inl, inr, Option, None, Some, IfSome, Result, Ok, Err, IfOk, All, arith}
use Rattle.std.specs.Option.{ok_or}
use Rattle.std.specs.List.{list_any}
use Rattle.std.proofs.lemmas.Bool.Decides.{nat_tests, eqb_tells}
use Rattle.std.proofs.lemmas.List.Elements.{All-nil, All-push}
use Rattle.toml.specs.Data.{Data, Members}
use Rattle.verb_codes.specs.declared.entries.ListFault.{ListFault}
use Rattle.codec_graph.specs.declared.raw.RawNode.{RawNode}
use Rattle.hda_files.specs.declared.opening.NodeOpening.{NodeOpening}
use Rattle.hda_files.specs.declared.fault.Place.{Place}
use Rattle.hda_files.specs.declared.fault.Place.TheVariants.{Top, Codec, Node}
use Rattle.hda_files.specs.declared.fault.Key.{Key}
use Rattle.hda_files.specs.declared.fault.Key.TheVariants.{Fifo, Corb, Rirb, Codec as CodecKey, GroupPower, First, Count, Node as NodeKey, Nid, List as ListKey}
use Rattle.hda_files.specs.declared.fault.FileFault.{FileFault}
use Rattle.hda_files.specs.declared.fault.FileFault.TheVariants.{Doubled}
use Rattle.hda_files.specs.declared.node.NodeTable.{NodeTable}
use Rattle.hda_files.specs.declared.codec.CodecTable.{CodecTable}
use Rattle.hda_files.specs.declared.top.MachineTable.{MachineTable}
use Rattle.hda_files.specs.Values.{◌>>=◌, value_at, given_number, number_or, tables_at, within, number_of, required_number, each_after}
use Rattle.hda_files.specs.Nodes.{nid_of, words_of, entries_of, node_with, node_of, nodes_after}
use Rattle.hda_files.specs.Openings.{opening_of}
use Rattle.hda_files.specs.ListFaults.{list_fault_at}
use Rattle.hda_files.specs.Codecs.{codec_words_of, codec_with, codec_of, codecs_after}
use Rattle.hda_files.specs.Tops.{ring_size_at, codecs_at, machine_table_of}

-- each node identifier is at most 127
abbrev pub AreSmall : List NodeTable → Type 0
AreSmall nodes = All (λ node. node.nid ≤ 127) nodes

-- those of each codec's widgets are
abbrev pub HaveSmallNodes : List CodecTable → Type 0
HaveSmallNodes codecs = All (λ (codec : CodecTable). AreSmall codec.nodes) codecs

pub IfOk-then : {A B : Type 0} (P : A → Type 0) (Q : B → Type 0) (r : Result A FileFault) (next : A → Result B FileFault) → IfOk r P → ((x : A) → P x → IfOk (next x) Q) → IfOk (r >>= next) Q
IfOk-then P Q (Ok x) next here step = step x here
IfOk-then P Q (Err fault) next here step = tt

pub IfOk-after : {A B : Type 0} (Q : B → Type 0) (r : Result A FileFault) (next : A → Result B FileFault) → ((x : A) → IfOk (next x) Q) → IfOk (r >>= next) Q
IfOk-after Q (Ok x) next step = step x
IfOk-after Q (Err fault) next step = tt

IfOk-ok_or : {A : Type 0} (P : A → Type 0) (o : Option A) (fault : FileFault) → IfSome o P → IfOk (ok_or o fault) P
IfOk-ok_or P None fault h = tt
IfOk-ok_or P (Some x) fault h = h

IfOk-unless : {A : Type 0} (P : A → Type 0) (b : Bool) (x : A) (fault : FileFault) → P x → IfOk (if b then Err fault else Ok x) P
IfOk-unless P true x fault h = tt
IfOk-unless P false x fault h = h

within-most : (least most : ℕ) (number : ℤ) → IfSome (within least most number) (λ n. n ≤ most)
within-most least most (pos n) = grind (arith, nat_tests)
within-most least most (negsuc n) = tt

number-most : (place : Place) (key : Key) (least most : ℕ) (value : Data) → IfOk (number_of place key least most value) (λ n. n ≤ most)
number-most place key least most value =
    IfOk-after (λ n. n ≤ most) _ _ (λ number. IfOk-ok_or (λ n. n ≤ most) (within least most number) _ (within-most least most number))

pub required-most : (table : Members) (place : Place) (key : Key) (least most : ℕ) → IfOk (required_number table place key least most) (λ n. n ≤ most)
required-most table place key least most =
    IfOk-after (λ n. n ≤ most) _ _ (λ value. number-most place key least most value)

nid-small : (table : Members) (place : Place) (earlier : List NodeTable) → IfOk (nid_of table place earlier) (λ nid. nid ≤ 127)
nid-small table place earlier =
    IfOk-then (λ n. n ≤ 127) (λ n. n ≤ 127) (required_number table place Nid 1 127) _ (required-most table place Nid 1 127)
    (λ nid small. IfOk-unless (λ n. n ≤ 127) (list_any (λ node. node.nid == nid) earlier) nid (Doubled place Nid) small)

-- a node with this identifier and entries, whatever its opening
opened-small : (opening : Result NodeOpening FileFault) (nid : ℕ) (widget : RawNode) → nid ≤ 127 → IfOk (opening >>= (λ keys. Ok (node_with nid widget keys))) (λ node. node.nid ≤ 127)
opened-small (Ok keys) nid widget small = small
opened-small (Err fault) nid widget small = tt

node-small : (codec : ℕ) (earlier : List NodeTable) (table : Members) → IfOk (node_of codec earlier table) (λ node. node.nid ≤ 127)
node-small codec earlier table =
    let Q : NodeTable → Type 0 = λ node. node.nid ≤ 127 in
    let place = Node codec (length earlier) in
    IfOk-then (λ n. n ≤ 127) Q (nid_of table place earlier) _ (nid-small table place earlier)
    (λ nid small. IfOk-after Q (words_of table place) _
    (λ words. IfOk-after Q (entries_of place words (value_at table ListKey)) _
    (λ entries. opened-small (opening_of table place) nid (record words { entries = entries }) small)))

-- what holds of each that is read holds of all
each-all : {A : Type 0} (P : A → Type 0) (read_one : List A → Members → Result A FileFault) → ((earlier : List A) (table : Members) → IfOk (read_one earlier table) P)
    → (earlier : List A) (tables : List Members) → All P earlier → IfOk (each_after read_one earlier tables) (All P)
each-all P read_one each earlier [] all = all
each-all P read_one each earlier (table ∷ tables) all =
    IfOk-then P (All P) (read_one earlier table) _ (each earlier table) (λ one here. each-all P read_one each (earlier ++ one ∷ []) tables (All-push P earlier one all here))

nodes-small : (codec : ℕ) (earlier : List NodeTable) (tables : List Members) → AreSmall earlier → IfOk (nodes_after codec earlier tables) AreSmall
nodes-small codec earlier tables small = each-all (λ node. node.nid ≤ 127) (node_of codec) (node-small codec) earlier tables small

codec-small : (earlier : List CodecTable) (table : Members) → IfOk (codec_of earlier table) (λ codec. AreSmall codec.nodes)
codec-small earlier table =
    let Q : CodecTable → Type 0 = λ read. AreSmall read.nodes in
    let codec = length earlier in
    let place = Codec codec in
    IfOk-after Q (codec_words_of table place earlier) _
    (λ words. IfOk-after Q (number_or table place GroupPower 0 3 0) _
    (λ group_power. IfOk-after Q (given_number table place First 0 127) _
    (λ first. IfOk-after Q (given_number table place Count 0 127) _
    (λ count. IfOk-after Q (tables_at table place NodeKey 126) _
    (λ tables. IfOk-then AreSmall Q (nodes_after codec [] tables) (λ nodes. Ok (codec_with words group_power first count nodes))
    (nodes-small codec [] tables (All-nil (λ n. n.nid ≤ 127))) (λ nodes small. small))))))

codecs-small : (tables : List Members) → IfOk (codecs_after [] tables) HaveSmallNodes
codecs-small tables =
    let P : CodecTable → Type 0 = λ read. AreSmall read.nodes in each-all P codec_of codec-small [] tables (All-nil P)

-- what a top table says has small node identifiers
pub machine_table-small : (top : Members) → IfOk (machine_table_of top) (λ table. HaveSmallNodes table.codecs)
machine_table-small top =
    let P : List CodecTable → Type 0 = HaveSmallNodes in
    let Q : MachineTable → Type 0 = λ read. HaveSmallNodes read.codecs in
    IfOk-after Q (number_or top Top Fifo 8 4096 192) _
    (λ fifo. IfOk-after Q (ring_size_at top Corb) _
    (λ corb. IfOk-after Q (ring_size_at top Rirb) _
    (λ rirb. IfOk-then P Q (codecs_at top) (λ codecs. Ok (record { fifo = fifo; corb = corb; rirb = rirb; codecs = codecs }))
    (IfOk-after P (tables_at top Top CodecKey 4) (λ tables. codecs_after [] tables) codecs-small) (λ codecs small. small))))

-- a list with a fault stands at a small node identifier
pub fault-small : (nodes : List NodeTable) (nid : ℕ) (fault : ListFault) → AreSmall nodes → list_fault_at nodes nid ≡ Some fault → nid < 128
fault-small [] nid fault small e = cc
fault-small (node ∷ nodes) nid fault small e =
    elim (eqb_tells node.nid nid) [
      | inl same ↦ let here : node.nid ≤ 127 = small 0 node (omega arith) in omega arith
      | inr other ↦ fault-small nodes nid fault (λ k d within. small (suc k) d (omega arith)) (rw other.0 at e)
    ]
