-- What comes of a dump, by its parts.
use Rattle.std.proofs.Common.{◌≡◌, ◌+◌, ◌<◌, ℕ, List, length, take, drop, get_or, Option, Some, Result, Ok, Err, sym, ap, ◌∙◌, subst, arith}
use Rattle.std.specs.Prelude.{String, IfOk, IfSome, OnErr}
use Rattle.std.specs.declared.alloc.Global.{Global}
use Rattle.std.proofs.lemmas.List.{length-take-le, take-append-drop}
use Rattle.hda_outside.specs.Shelf.{Files, file_of}
use Rattle.codec_dump.specs.declared.program.ImportStatus.TheVariants.{SinkFailed}
use Rattle.codec_dump.specs.declared.program.Message.{Message}
use Rattle.codec_dump.specs.Words.{Asked}
use Rattle.codec_dump.specs.Texts.{further_name}
use Rattle.codec_dump.specs.Programs.{Telling, telling, with_further, unwritable_line, IsUnwrittenAt, HasBytes, ComesOfBytes, ComesOfDump, IsShort, Read, WroteFirst, told_by}
use Rattle.codec_dump.proofs.ImportLemmas.{parted}

-- the file at a place could not be written
pub unwritten_file : (name : List ℕ) (texts : List (String Global)) (i : ℕ) (text : String Global) (before now : Option Files) (rose : Type 0) (told : Telling) → i < length texts → text ≡ get_or texts i text → now ≡ with_further before name 2 (take i texts) → rose → told ≡ telling SinkFailed (unwritable_line (further_name name (i + 2))) → IsUnwrittenAt name texts before now rose told
unwritten_file name texts i text before now rose told inside at files counted meant = record {
  front = take i texts;
  failed = text;
  rest = drop (i + 1) texts;
  all = parted texts i text inside at;
  files = files;
  counted = counted;
  meant = meant ∙ ap (λ n. telling SinkFailed (unwritable_line (further_name name (n + 2)))) (sym (length-take_within i texts inside));
}
  where
    length-take_within : (n : ℕ) (xs : List (String Global)) → n < length xs → length (take n xs) ≡ n
    length-take_within n xs within = length-take-le n xs (omega arith)

-- memory was wanting at a place: the files before it were written
pub first_written : (name : List ℕ) (texts : List (String Global)) (i : ℕ) (before now : Option Files) → now ≡ with_further before name 2 (take i texts) → WroteFirst name texts before now
first_written name texts i before now files = record {
  front = take i texts;
  rest = drop i texts;
  all = sym (take-append-drop i texts);
  files = files;
}

pub first_files : {T E : Type 0} (name : List ℕ) (texts : List (String Global)) (i : ℕ) (before now : Option Files) (r : Result T E) → now ≡ with_further before name 2 (take i texts) → OnErr r (WroteFirst name texts before now)
first_files name texts i before now (Ok it) files = tt
first_files name texts i before now (Err e) files = first_written name texts i before now files

-- what comes of the bytes that were read comes of the dump
pub comes_read : {E : Type 0} (files : Option Files) (failed : List ℕ → Type 0) (asked : Asked) (before now : Option Files) (rose : Type 0) (bytes items : List ℕ) (r : Result Message E) → bytes ≡ items → IsShort items → IfSome files (λ f. file_of f asked.name ≡ Some items) → IfOk r (λ message. ComesOfBytes asked bytes before now rose (told_by message)) → IfOk r (λ message. ComesOfDump files failed asked before now rose (told_by message))
comes_read files failed asked before now rose bytes items (Ok message) same short has comes =
    let read : HasBytes files asked.name bytes = subst (λ (b : List ℕ). HasBytes files asked.name b) (sym same) has in
    Read bytes read (subst IsShort (sym same) short) comes
comes_read files failed asked before now rose bytes items (Err e) same short has comes = tt
