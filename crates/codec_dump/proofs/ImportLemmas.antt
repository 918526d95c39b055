-- Codec files that are written one after another.
use Rattle.std.proofs.Common.{◌≡◌, ◌+◌, ◌<◌, ◌≤◌, ℕ, Bool, List, [], ◌∷◌, ◌++◌, suc, length, take, drop, get_or, map, Result, Ok, Err, inl, inr, sym, ap, ◌∙◌, subst, arith, add-one, drop-cons}
use Rattle.std.specs.Prelude.{String, string_bytes}
use Rattle.std.specs.declared.alloc.Global.{Global}
use Rattle.std.proofs.lemmas.List.{take-append-drop}
use Rattle.std.proofs.lemmas.Grind.{common_steps}
use Rattle.dump_reader.specs.declared.facts.CodecFacts.{CodecFacts}
use Rattle.codec_dump.specs.declared.fault.DumpFault.{DumpFault}
use Rattle.hda_files.specs.declared.machine.CodecFile.{CodecFile}
use Rattle.hda_files.specs.Machines.{IsReadingOfBytes}
use Rattle.dump_reader.specs.declared.fault.ReadFault.{ReadFault}
use Rattle.dump_reader.specs.declared.fault.ReadFault.TheVariants as read
use Rattle.dump_reader.specs.Reading.{facts_of}
use Rattle.dump_reader.specs.Readers.{IsFactsOf}
use Rattle.codec_dump.specs.Reads.{read_fault}
use Rattle.codec_dump.specs.Machines.{codec_of, machine_with}
use Rattle.codec_dump.specs.Texts.{Draft, text_of}
use Rattle.codec_dump.specs.Imports.{IsCodecFileOf, IsUnwritten, AreWritten, HasCodecFile, IsFirstUnwritten, AreImports, IsImportOf, Imports, drafts_of}

-- one more
pub written_more : (drafts : List Draft) (texts : List (String Global)) (draft : Draft) (text : String Global) → AreWritten drafts texts → IsCodecFileOf draft (string_bytes text) → AreWritten (drafts ++ draft ∷ []) (texts ++ text ∷ [])
written_more [] [] draft text before is = (is, tt)
written_more [] (t ∷ texts) draft text before is = absurd before
written_more (d ∷ drafts) [] draft text before is = absurd before
written_more (d ∷ drafts) (t ∷ texts) draft text before is = (before.0, written_more drafts texts draft text before.1 is)

-- behind those that were written, the first that could not be
pub unwritten_first : (drafts : List Draft) (texts : List (String Global)) (draft : Draft) (rest : List Draft) (fault : DumpFault) → AreWritten drafts texts → IsUnwritten draft fault → IsFirstUnwritten (drafts ++ draft ∷ rest) fault
unwritten_first [] [] draft rest fault before is = inl is
unwritten_first [] (t ∷ texts) draft rest fault before is = absurd before
unwritten_first (d ∷ drafts) [] draft rest fault before is = absurd before
unwritten_first (d ∷ drafts) (t ∷ texts) draft rest fault before is =
    let has : HasCodecFile d = (string_bytes t, before.0) in
    inr (has, unwritten_first drafts texts draft rest fault before.1 is)

-- a list around one of its places
pub parted : {A : Type 0} (xs : List A) (i : ℕ) (x : A) → i < length xs → x ≡ get_or xs i x → xs ≡ take i xs ++ x ∷ drop (i + 1) xs
parted xs i x inside at =
    let rest : drop i xs ≡ x ∷ drop (i + 1) xs = rw (add-one, drop-cons xs i x) (ap (λ y. y ∷ drop (suc i) xs) (sym at)) in
    sym (take-append-drop i xs) ∙ ap (λ ys. take i xs ++ ys) rest

pub map-parted : {A B : Type 0} (f : A → B) (xs : List A) (i : ℕ) (x : A) → i < length xs → x ≡ get_or xs i x → map f xs ≡ map f (take i xs) ++ f x ∷ map f (drop (i + 1) xs)
map-parted f xs i x inside at = ap (map f) (parted xs i x inside at) ∙ grind (arith, common_steps)

pub map-more : {A B : Type 0} (f : A → B) (xs : List A) (i : ℕ) (x : A) → i < length xs → x ≡ get_or xs i x → map f (take (i + 1) xs) ≡ map f (take i xs) ++ f x ∷ []
map-more f xs i x inside at = grind (arith, common_steps)

-- what is answered at a place behind it where the codec could not be written
pub unwritten_result : {A : Type 0} (f : A → Draft) (head : Draft) (xs : List A) (i : ℕ) (x : A) (texts : List (String Global)) (fault : DumpFault) (drafts : List Draft) (result : Result (List (String Global)) DumpFault) → drafts ≡ head ∷ map f xs → result ≡ Err fault → i < length xs → x ≡ get_or xs i x → AreWritten (head ∷ map f (take i xs)) texts → IsUnwritten (f x) fault → AreImports drafts result
unwritten_result f head xs i x texts fault drafts result all e inside at before is =
    let there : IsFirstUnwritten (head ∷ (map f (take i xs) ++ f x ∷ map f (drop (i + 1) xs))) fault =
    unwritten_first (head ∷ map f (take i xs)) texts (f x) (map f (drop (i + 1) xs)) fault before is in
    let placed : drafts ≡ head ∷ (map f (take i xs) ++ f x ∷ map f (drop (i + 1) xs)) = all ∙ ap (λ ds. head ∷ ds) (map-parted f xs i x inside at) in
    let told : IsFirstUnwritten drafts fault = subst (λ (ds : List Draft). IsFirstUnwritten ds fault) (sym placed) there in
    subst (λ (r : Result (List (String Global)) DumpFault). AreImports drafts r) (sym e) told

-- one more, at its place
pub written_at : {A : Type 0} (f : A → Draft) (head : Draft) (xs : List A) (i : ℕ) (x : A) (texts : List (String Global)) (text : String Global) (after : List (String Global)) → i < length xs → x ≡ get_or xs i x → AreWritten (head ∷ map f (take i xs)) texts → IsCodecFileOf (f x) (string_bytes text) → after ≡ texts ++ text ∷ [] → AreWritten (head ∷ map f (take (i + 1) xs)) after
written_at f head xs i x texts text after inside at before is e =
    let more : AreWritten (head ∷ (map f (take i xs) ++ f x ∷ [])) (texts ++ text ∷ []) = written_more (head ∷ map f (take i xs)) texts (f x) text before is in
    let placed : AreWritten (head ∷ map f (take (i + 1) xs)) (texts ++ text ∷ []) =
    subst (λ (ds : List Draft). AreWritten (head ∷ ds) (texts ++ text ∷ [])) (sym (map-more f xs i x inside at)) more in
    subst (λ (ts : List (String Global)). AreWritten (head ∷ map f (take (i + 1) xs)) ts) (sym e) placed

abbrev unread : ReadFault → Result (List CodecFacts) ReadFault
unread fault = Err fault

fault_of : (f g : ReadFault) → unread f ≡ unread g → f ≡ g
fault_of f g e = cc

-- a dump that can't be read
pub read_failed : (mends : Bool) (name bytes : List ℕ) (fault : ReadFault) (result : Result (List (String Global)) DumpFault) → result ≡ Err (read_fault fault) → IsFactsOf (facts_of bytes) (Err fault) → Imports mends name bytes result
read_failed mends name bytes fault result is (inl memory) = inl (is ∙ ap Err (ap read_fault (fault_of fault read.OutOfMemory memory)))
read_failed mends name bytes fault result is (inr same) =
    inr (subst (λ (facts : Result (List CodecFacts) ReadFault). IsImportOf mends name facts result) same is)

-- a dump whose codecs were read
pub imported : (mends : Bool) (name bytes : List ℕ) (codecs : List CodecFacts) (result : Result (List (String Global)) DumpFault) → IsFactsOf (facts_of bytes) (Ok codecs) → AreImports (drafts_of mends name codecs) result → Imports mends name bytes result
imported mends name bytes codecs result (inl memory) are = cc
imported mends name bytes codecs result (inr same) are =
    inr (subst (λ (facts : Result (List CodecFacts) ReadFault). IsImportOf mends name facts result) same are)

-- a text that reads as a codec's file
pub file_of_codec : (draft : Draft) (file : CodecFile) (text : List ℕ) → text ≡ text_of draft → length text ≤ 262144 → file ≡ codec_of draft.codec → IsReadingOfBytes text (Ok (machine_with file)) → IsCodecFileOf draft text
file_of_codec draft file text of short is reads = record {
  is = of;
  short = short;
  reads = subst (λ (f : CodecFile). IsReadingOfBytes text (Ok (machine_with f))) is reads;
}
