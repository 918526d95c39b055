-- Codecs without faults.
use Rattle.std.proofs.Common.{◌≡◌, ◌<◌, ◌≤◌, ◌+◌, ◌++◌, ℕ, refl, sym, ap, ◌∙◌, inl, inr, length, map, All, Ok, Err, Some, None, List, [], ◌∷◌, Bool, append_assoc, append-nil, arith}
use Rattle.std.proofs.lemmas.List.{length-map}
use Rattle.std.proofs.lemmas.List.Sums.{count_by-le-length}
use Rattle.std.proofs.lemmas.List.FromFn.{length-range_with_len}
use Rattle.std.specs.List.{range_with_len}
use Rattle.std.proofs.lemmas.List.Elements.{All-nil, All-cons}
use Rattle.codec_graph.specs.declared.raw.RawCodec.{RawCodec}
use Rattle.codec_graph.specs.Widget.{normal}
use Rattle.codec_graph.specs.Candidates.{is_candidate}
use Rattle.codec_graph.specs.Listed.{HasNoListFault}
use Rattle.codec_graph.specs.Cycles.{IsWellFormed}
use Rattle.codec_graph.specs.Settings.{Entries}
use Rattle.hda_files.specs.declared.codec.CodecTable.{CodecTable}
use Rattle.hda_files.specs.Codecs.{codec_with_address, laid_out}
use Rattle.hda_files.specs.ListFaults.{list_fault_at}
use Rattle.hda_files.specs.Starts.{settings_of, presence_of}
use Rattle.hda_files.specs.declared.fault.FileFault.{FileFault}
use Rattle.hda_files.specs.declared.fault.FileFault.TheVariants.{TooManyPins}
use Rattle.hda_files.specs.declared.machine.CodecFile.{CodecFile}
use Rattle.hda_files.specs.declared.machine.Machine.{Machine}
use Rattle.hda_files.specs.declared.top.MachineTable.{MachineTable}
use Rattle.hda_files.specs.Memory.{OrMemory}
use Rattle.hda_files.specs.Machines.{candidates_below, codec_file, codec_files, by_address, IsGoodCodec, IsJudgedCodec, IsFirstCodecFault, AreJudgedCodecs, IsJudgedMachine}
use Rattle.hda_files.proofs.AddressLemmas.{from_address, from_address-first, from_address-past, from_address-here, by_address-few}

-- the parts of a codec that was found good
pub judged-good : (codec : CodecTable) (raw graph : RawCodec) (settings : Entries) (present : List Bool) → raw ≡ laid_out codec → graph ≡ normal raw → IsWellFormed graph → HasNoListFault (list_fault_at codec.nodes)
    → settings ≡ settings_of graph codec.group_power codec.nodes → present ≡ presence_of codec.nodes → IsJudgedCodec codec (Ok (record { graph = graph; settings = settings; present = present }))
judged-good codec raw graph settings present is_raw is_graph well lists is_settings is_present =
    (rw (is_present, is_settings, is_graph, is_raw) refl, record { lists = lists; graph = rw (is_graph, is_raw) at well })

-- the codecs below an address are good and read as these: what is said of those from there on is said of all
pub record AreJudgedTo (tables : List CodecTable) (address : ℕ) (codecs : List CodecFile) : Type 0 where
  pub files : codec_files tables ≡ codecs ++ map codec_file (from_address tables address)
  pub good : All IsGoodCodec (from_address tables address) → All IsGoodCodec (by_address tables)
  pub first : (fault : FileFault) → IsFirstCodecFault (from_address tables address) fault → IsFirstCodecFault (by_address tables) fault

pub judged-start : (tables : List CodecTable) → AreJudgedTo tables 0 []
judged-start tables =
    let e = from_address-first tables in
    record { files = ap (map codec_file) e; good = λ all. rw e all; first = λ fault h. rw e h }

pub judged-none : (tables : List CodecTable) (address : ℕ) (codecs : List CodecFile) → address < 15 → codec_with_address tables address ≡ None → AreJudgedTo tables address codecs → AreJudgedTo tables (address + 1) codecs
judged-none tables address codecs within none so_far =
    let e : from_address tables address ≡ from_address tables (address + 1) = from_address-here tables address None within none in
    record {
      files = rw e at so_far.files;
      good = λ all. so_far.good (rw e all);
      first = λ fault h. so_far.first fault (rw e h);
    }

pub judged-more : (tables : List CodecTable) (address : ℕ) (codecs : List CodecFile) (table : CodecTable) (file : CodecFile) → address < 15 → codec_with_address tables address ≡ Some table → OrMemory (Ok file) (IsJudgedCodec table (Ok file)) → AreJudgedTo tables address codecs → AreJudgedTo tables (address + 1) (codecs ++ file ∷ [])
judged-more tables address codecs table file within found (inl memory) so_far = cc
judged-more tables address codecs table file within found (inr judged) so_far =
    let e : from_address tables address ≡ table ∷ from_address tables (address + 1) = from_address-here tables address (Some table) within found in
    record {
      files = (rw e at so_far.files) ∙ ap (λ f. codecs ++ f ∷ map codec_file (from_address tables (address + 1))) (sym judged.0) ∙ sym (append_assoc codecs (file ∷ []) (map codec_file (from_address tables (address + 1))));
      good = λ all. so_far.good (rw e (All-cons IsGoodCodec table (from_address tables (address + 1)) judged.1 all));
      first = λ fault h. so_far.first fault (rw e (inr (judged.1, h)));
    }

pub judged-bad : (tables : List CodecTable) (address : ℕ) (codecs : List CodecFile) (table : CodecTable) (fault : FileFault) → address < 15 → codec_with_address tables address ≡ Some table → OrMemory {A = CodecFile} (Err fault) (IsJudgedCodec table (Err fault)) → AreJudgedTo tables address codecs
    → OrMemory {A = List CodecFile} (Err fault) (AreJudgedCodecs (by_address tables) (Err fault))
judged-bad tables address codecs table fault within found (inl memory) so_far = inl cc
judged-bad tables address codecs table fault within found (inr judged) so_far =
    let e : from_address tables address ≡ table ∷ from_address tables (address + 1) = from_address-here tables address (Some table) within found in
    inr (so_far.first fault (rw e (inl judged)))

pub judged-end : (tables : List CodecTable) (address : ℕ) (codecs : List CodecFile) → address ≡ 15 → AreJudgedTo tables address codecs → AreJudgedCodecs (by_address tables) (Ok codecs)
judged-end tables address codecs end so_far =
    let e : from_address tables address ≡ [] = ap (from_address tables) end ∙ from_address-past tables in
    (sym ((rw e at so_far.files) ∙ append-nil codecs), so_far.good (rw e (All-nil IsGoodCodec)))

-- no codec has the fault of too many pins
no_pins : (codecs : List CodecTable) → IsFirstCodecFault codecs TooManyPins → ⊥
no_pins [] h = h
no_pins (codec ∷ codecs) (inl here) = here
no_pins (codec ∷ codecs) (inr later) = no_pins codecs later.1

-- the first fault of the codecs is the machine's
judged-fault : (table : MachineTable) (fault : FileFault) → IsFirstCodecFault (by_address table.codecs) fault → IsJudgedMachine table (Err fault)
judged-fault table TooManyPins h = absurd (no_pins (by_address table.codecs) h)
judged-fault table fault h = h

pub judged-refused : (table : MachineTable) (fault : FileFault) → OrMemory {A = List CodecFile} (Err fault) (AreJudgedCodecs (by_address table.codecs) (Err fault)) → OrMemory {A = Machine} (Err fault) (IsJudgedMachine table (Err fault))
judged-refused table fault (inl memory) = inl cc
judged-refused table fault (inr judged) = inr (judged-fault table fault judged)

-- there are no more codecs than addresses
pub codec_files-few : (codecs : List CodecTable) → length (codec_files codecs) ≤ 15
codec_files-few codecs = rw length-map (by_address-few codecs)

-- there are no more candidate pins than node identifiers
pub candidates-few : (codec : RawCodec) (end : ℕ) → candidates_below codec end ≤ end
unfolding candidates_below
candidates-few codec end = omega (arith, count_by-le-length (is_candidate codec) (range_with_len 0 end), length-range_with_len 0 end)

-- codecs that were judged good are those of the tables
pub judged-files : (tables : List CodecTable) (files : List CodecFile) → OrMemory (Ok files) (AreJudgedCodecs (by_address tables) (Ok files)) → files ≡ codec_files tables
judged-files tables files (inl memory) = cc
judged-files tables files (inr judged) = judged.0
