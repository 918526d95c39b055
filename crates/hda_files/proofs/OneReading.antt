-- A codec file has one reading.
use Rattle.std.proofs.Common.{◌≡◌, ◌≤◌, ℕ, List, [], ◌∷◌, All, Option, None, Some, Result, Ok, Err, IfOk, inl, inr, ◌⊎◌, refl, sym, ap, subst, ◌∙◌, arith}
use Rattle.std.specs.Prelude.{IsUtf8}
use Rattle.std.specs.Str.{is_utf8}
use Rattle.std.proofs.lemmas.Str.{IsUtf8-from_is_utf8, is_utf8-from_IsUtf8}
use Rattle.std.proofs.lemmas.Bool.{cases_order, cases_Bool}
use Rattle.std.proofs.lemmas.List.Elements.{All-head, All-tail}
use Rattle.toml.specs.Data.{Members}
use Rattle.toml.specs.Parse.{parse_document}
use Rattle.verb_codes.specs.declared.entries.ListFault as declared_fault
use Rattle.codec_graph.specs.declared.raw.RawCodec.{RawCodec}
use Rattle.codec_graph.specs.declared.fault.GraphFault.{GraphFault}
use Rattle.codec_graph.specs.declared.fault.GraphFault.TheVariants.{Cycle}
use Rattle.codec_graph.specs.Widget.{normal}
use Rattle.codec_graph.specs.Listed.{HasNoListFault, IsFirstListFault}
use Rattle.codec_graph.specs.Faults.{table_faults, first_fault}
use Rattle.codec_graph.specs.Cycles.{IsOnCycle, IsWellFormed, IsCycleFault, IsFirstFaultBy, IsFirstFault}
use Rattle.hda_files.specs.declared.node.NodeTable.{NodeTable}
use Rattle.hda_files.specs.declared.codec.CodecTable.{CodecTable}
use Rattle.hda_files.specs.declared.top.MachineTable.{MachineTable}
use Rattle.hda_files.specs.declared.machine.Machine.{Machine}
use Rattle.hda_files.specs.declared.fault.FileFault.{FileFault}
use Rattle.hda_files.specs.declared.fault.FileFault.TheVariants.{List as ListFault, Graph, TooManyPins}
use Rattle.hda_files.specs.Memory.{OrMemory}
use Rattle.hda_files.specs.Codecs.{laid_out}
use Rattle.hda_files.specs.ListFaults.{list_fault_at}
use Rattle.hda_files.specs.Tops.{machine_table_of}
use Rattle.hda_files.specs.Machines.{codec_files, by_address, IsGoodCodec, IsJudgedCodec, IsFirstCodecFault, HasFewPins, IsJudgedMachine, IsJudged, IsReadingOf, HasTable, IsReadingOfBytes, Reads, IsOnlyReading}
use Rattle.hda_files.proofs.TableBounds.{AreSmall, HaveSmallNodes, fault-small, machine_table-small}
use Rattle.hda_files.proofs.AddressLemmas.{by_address-all}

-- lists without a fault have no first one
none_and_first : (nodes : List NodeTable) (nid : ℕ) (fault : declared_fault.ListFault) → AreSmall nodes → HasNoListFault (list_fault_at nodes) → IsFirstListFault (list_fault_at nodes) nid fault → ⊥
none_and_first nodes nid fault small none first =
    let absent = none nid (fault-small nodes nid fault small first.here) in
    let here = first.here in
    cc

-- lists have one first fault
one_nid : (nodes : List NodeTable) (nid other : ℕ) (fault twin : declared_fault.ListFault) → IsFirstListFault (list_fault_at nodes) nid fault → IsFirstListFault (list_fault_at nodes) other twin → other ≡ nid
one_nid nodes nid other fault twin h k =
    elim (cases_order nid other) [
      | inl same ↦ sym same
      | inr apart ↦ elim apart [
        | inl less ↦ let here = h.here in let absent = k.before nid less in cc
        | inr more ↦ let here = k.here in let absent = h.before other more in cc
      ]
    ]

one_list_fault : (nodes : List NodeTable) (nid other : ℕ) (fault twin : declared_fault.ListFault) → IsFirstListFault (list_fault_at nodes) nid fault → IsFirstListFault (list_fault_at nodes) other twin → twin ≡ fault
one_list_fault nodes nid other fault twin h k =
    let same = one_nid nodes nid other fault twin h k in
    let here = h.here in
    let there = k.here in
    cc

-- a well-formed graph has no first fault
no_cycle_fault : (codec : RawCodec) (fault : GraphFault) → ((nid : ℕ) → IsOnCycle codec nid → ⊥) → IsCycleFault codec fault → ⊥
no_cycle_fault codec (Cycle nid) acyclic least = acyclic nid least.0
no_cycle_fault codec _ acyclic least = least

no_first_fault : (codec : RawCodec) (fault : GraphFault) → IsWellFormed codec → IsFirstFault codec fault → ⊥
no_first_fault codec fault well first =
    let none : first_fault (table_faults codec) ≡ None = ap first_fault well.tables.no_fault in
    no_cycle_fault codec fault well.acyclic (subst (λ o. IsFirstFaultBy codec o fault) none first)

-- a graph has one first fault
one_cycle_fault : (codec : RawCodec) (fault twin : GraphFault) → IsCycleFault codec fault → IsCycleFault codec twin → twin ≡ fault
one_cycle_fault codec (Cycle nid) (Cycle other) h k =
    let up : nid ≤ other = h.1 other k.0 in
    let down : other ≤ nid = k.1 nid h.0 in
    let same : other ≡ nid = omega arith in
    ap Cycle same
one_cycle_fault codec (Cycle nid) _ h k = absurd k
one_cycle_fault codec _ twin h k = absurd h

one_first_fault : (codec : RawCodec) (first : Option GraphFault) (fault twin : GraphFault) → IsFirstFaultBy codec first fault → IsFirstFaultBy codec first twin → twin ≡ fault
one_first_fault codec None fault twin h k = one_cycle_fault codec fault twin h k
one_first_fault codec (Some first) fault twin h k = k ∙ sym h

-- a good codec has no fault
good_and_fault : (codec : CodecTable) (fault : FileFault) → AreSmall codec.nodes → IsGoodCodec codec → IsJudgedCodec codec (Err fault) → ⊥
good_and_fault codec (ListFault address nid fault) small good h = none_and_first codec.nodes nid fault small good.lists h.1
good_and_fault codec (Graph address fault) small good h = no_first_fault (normal (laid_out codec)) fault good.graph h.2
good_and_fault codec _ small good h = h

-- a codec has one fault
one_codec_fault : (codec : CodecTable) (fault twin : FileFault) → AreSmall codec.nodes → IsJudgedCodec codec (Err fault) → IsJudgedCodec codec (Err twin) → twin ≡ fault
one_codec_fault codec (ListFault address nid fault) (ListFault at other twin) small h k =
    let same_nid = one_nid codec.nodes nid other fault twin h.1 k.1 in
    let same_fault = one_list_fault codec.nodes nid other fault twin h.1 k.1 in
    let here = h.0 in
    let there = k.0 in
    cc
one_codec_fault codec (ListFault address nid fault) (Graph at twin) small h k = absurd (none_and_first codec.nodes nid fault small k.1 h.1)
one_codec_fault codec (Graph address fault) (ListFault at nid twin) small h k = absurd (none_and_first codec.nodes nid twin small h.1 k.1)
one_codec_fault codec (Graph address fault) (Graph at twin) small h k =
    let graph = normal (laid_out codec) in
    let same = one_first_fault graph (first_fault (table_faults graph)) fault twin h.2 k.2 in
    let here = h.0 in
    let there = k.0 in
    cc
one_codec_fault codec (ListFault address nid fault) _ small h k = absurd k
one_codec_fault codec (Graph address fault) _ small h k = absurd k
one_codec_fault codec _ twin small h k = absurd h

-- good codecs have no first fault
good_and_first : (codecs : List CodecTable) (fault : FileFault) → HaveSmallNodes codecs → All IsGoodCodec codecs → IsFirstCodecFault codecs fault → ⊥
good_and_first [] fault small good h = h
good_and_first (codec ∷ codecs) fault small good (inl here) =
    good_and_fault codec fault (All-head (λ (c : CodecTable). AreSmall c.nodes) codec codecs small) (All-head IsGoodCodec codec codecs good) here
good_and_first (codec ∷ codecs) fault small good (inr later) =
    good_and_first codecs fault (All-tail (λ (c : CodecTable). AreSmall c.nodes) codec codecs small) (All-tail IsGoodCodec codec codecs good) later.1

-- codecs have one first fault
one_first_codec_fault : (codecs : List CodecTable) (fault twin : FileFault) → HaveSmallNodes codecs → IsFirstCodecFault codecs fault → IsFirstCodecFault codecs twin → twin ≡ fault
one_first_codec_fault [] fault twin small h k = absurd h
one_first_codec_fault (codec ∷ codecs) fault twin small (inl h) (inl k) =
    one_codec_fault codec fault twin (All-head (λ (c : CodecTable). AreSmall c.nodes) codec codecs small) h k
one_first_codec_fault (codec ∷ codecs) fault twin small (inl h) (inr k) =
    absurd (good_and_fault codec fault (All-head (λ (c : CodecTable). AreSmall c.nodes) codec codecs small) k.0 h)
one_first_codec_fault (codec ∷ codecs) fault twin small (inr h) (inl k) =
    absurd (good_and_fault codec twin (All-head (λ (c : CodecTable). AreSmall c.nodes) codec codecs small) h.0 k)
one_first_codec_fault (codec ∷ codecs) fault twin small (inr h) (inr k) =
    one_first_codec_fault codecs fault twin (All-tail (λ (c : CodecTable). AreSmall c.nodes) codec codecs small) h.1 k.1

-- the codecs in the order of their addresses have small node identifiers
ordered-small : (table : MachineTable) → HaveSmallNodes table.codecs → HaveSmallNodes (by_address table.codecs)
ordered-small table small = by_address-all (λ (c : CodecTable). AreSmall c.nodes) table.codecs small

-- a machine that may be has no fault
machine_and_fault : (table : MachineTable) (fault : FileFault) → HaveSmallNodes table.codecs → All IsGoodCodec (by_address table.codecs) → HasFewPins (codec_files table.codecs) → IsJudgedMachine table (Err fault) → ⊥
machine_and_fault table TooManyPins small good few h = let many = h.1 in omega arith
machine_and_fault table fault small good few h = good_and_first (by_address table.codecs) fault (ordered-small table small) good h

-- a machine has one fault
one_machine_fault : (table : MachineTable) (fault twin : FileFault) → HaveSmallNodes table.codecs → IsJudgedMachine table (Err fault) → IsJudgedMachine table (Err twin) → twin ≡ fault
one_machine_fault table TooManyPins TooManyPins small h k = refl
one_machine_fault table TooManyPins twin small h k = absurd (good_and_first (by_address table.codecs) twin (ordered-small table small) h.0 k)
one_machine_fault table fault TooManyPins small h k = absurd (good_and_first (by_address table.codecs) fault (ordered-small table small) k.0 h)
one_machine_fault table fault twin small h k = one_first_codec_fault (by_address table.codecs) fault twin (ordered-small table small) h k

-- a table has one meaning
one_machine : (table : MachineTable) (one other : Result Machine FileFault) → HaveSmallNodes table.codecs → IsJudgedMachine table one → IsJudgedMachine table other → other ≡ one
one_machine table (Ok machine) (Ok twin) small h k = ap Ok (k.0 ∙ sym h.0)
one_machine table (Ok machine) (Err fault) small h k = absurd (machine_and_fault table fault small h.1 h.2 k)
one_machine table (Err fault) (Ok machine) small h k = absurd (machine_and_fault table fault small k.1 k.2 h)
one_machine table (Err fault) (Err twin) small h k = ap Err (one_machine_fault table fault twin small h k)

one_judgement : (meant : Result MachineTable FileFault) (one other : Result Machine FileFault) → IfOk meant (λ table. HaveSmallNodes table.codecs) → IsJudged meant one → IsJudged meant other → other ≡ one
one_judgement (Ok table) one other small h k = one_machine table one other small h k
one_judgement (Err fault) one other small h k = k ∙ sym h

one_reading_of : (top : Members) (one other : Result Machine FileFault) → IsReadingOf top one → IsReadingOf top other → other ≡ one
one_reading_of top one other h k = one_judgement (machine_table_of top) one other (machine_table-small top) h k

-- bytes have a top table or they have none
parsed-or_none : (bytes : List ℕ) (parsed : Option Members) → IsUtf8 bytes → parse_document bytes ≡ parsed → ((top : Members) × HasTable bytes top) ⊎ ((top : Members) → HasTable bytes top → ⊥)
parsed-or_none bytes (Some top) text e = inl (top, (text, e))
parsed-or_none bytes None text e = inr (λ top h. let there = h.1 in cc)

HasTable-or_none : (bytes : List ℕ) → ((top : Members) × HasTable bytes top) ⊎ ((top : Members) → HasTable bytes top → ⊥)
HasTable-or_none bytes =
    elim (cases_Bool (is_utf8 bytes)) [
      | inl text ↦ parsed-or_none bytes (parse_document bytes) (IsUtf8-from_is_utf8 bytes text) refl
      | inr other ↦ inr (λ top h. let text = is_utf8-from_IsUtf8 bytes h.0 in cc)
    ]

-- bytes have one reading
pub one_reading : (bytes : List ℕ) (one other : Result Machine FileFault) → IsReadingOfBytes bytes one → IsReadingOfBytes bytes other → other ≡ one
one_reading bytes one other h k =
    elim (HasTable-or_none bytes) [
      | inl some ↦ one_reading_of some.0 one other (h.of_table some.0 some.1) (k.of_table some.0 some.1)
      | inr none ↦ k.of_none none ∙ sym (h.of_none none)
    ]

pub IsOnlyReading-from_reads : (bytes : List ℕ) (result : Result Machine FileFault) → Reads bytes result → OrMemory result (IsOnlyReading bytes result)
IsOnlyReading-from_reads bytes result (inl memory) = inl memory
IsOnlyReading-from_reads bytes result (inr reading) = inr (λ other h. one_reading bytes result other reading h)
