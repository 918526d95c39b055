-- How the program ends, and what it has written then. This project's own.
use Rattle.std.specs.Prelude.{◌≡◌, ◌≤◌, ◌<◌, ◌⊎◌, ℕ, ◌+◌, List, [], ◌∷◌, ◌++◌, length, drop, Option, Some, None, Result}
use Rattle.std.specs.Prelude.{Ok, Err}
use Rattle.std.specs.Prelude.{IfSome, IsSomeAnd, codes, String, string_bytes}
use Rattle.std.specs.declared.alloc.Global.{Global}
use Rattle.hda_outside.specs.Counts.{Rose}
use Rattle.hda_outside.specs.Shelf.{Files, file_of}
use Rattle.hda_outside.specs.Sink.{taken_with, TookFront}
use Rattle.codec_dump.specs.declared.program.Message.{Message}
use Rattle.codec_dump.specs.declared.program.ImportStatus.{ImportStatus}
use Rattle.codec_dump.specs.declared.program.ImportStatus.TheVariants.{Done, WordsRefused, ShelfFailed, SinkFailed}
use Rattle.codec_dump.specs.declared.program.ImportStatus.TheVariants.{DumpRefused, OutOfMemory}
use Rattle.codec_dump.specs.declared.fault.DumpFault.{DumpFault}
use Rattle.codec_dump.specs.declared.fault.DumpFault.TheVariants as faults
use Rattle.codec_dump.specs.FaultText.{dump_fault_text}
use Rattle.codec_dump.specs.Pieces.{newline}
use Rattle.codec_dump.specs.Texts.{further_name}
use Rattle.codec_dump.specs.Imports.{IsImportOf}
use Rattle.dump_reader.specs.Reading.{facts_of}
use Rattle.codec_dump.specs.Outlets.{written_with}
use Rattle.codec_dump.specs.Words.{Asked, asked_of}

abbrev pub status_number : ImportStatus → ℕ
status_number Done = 0
status_number WordsRefused = 2
status_number ShelfFailed = 3
status_number SinkFailed = 4
status_number DumpRefused = 5
status_number OutOfMemory = 12

abbrev pub usage_line : List ℕ
usage_line = codes "usage: hda_import DUMP [--mend]" ++ newline

abbrev pub cannot_line : (what name : List ℕ) → List ℕ
cannot_line what name = codes "cannot " ++ (what ++ (codes ": " ++ (name ++ newline)))

abbrev pub unreadable_line : List ℕ → List ℕ
unreadable_line name = cannot_line (codes "read") name

abbrev pub unwritable_line : List ℕ → List ℕ
unwritable_line name = cannot_line (codes "write") name

abbrev pub refused_line : List ℕ → List ℕ
refused_line fault = codes "dump refused: " ++ (fault ++ newline)

-- what is meant: a text, and the status where it is written whole
pub record Telling : Type 0 where
  pub status : ImportStatus
  pub text : List ℕ

abbrev pub telling : ImportStatus → List ℕ → Telling
telling status text = record { status = status; text = text }

-- the files that are written when these texts are, from this number on, where they are told
abbrev pub with_further : Option Files → List ℕ → ℕ → List (String Global) → Option Files
with_further written name number [] = written
with_further written name number (text ∷ texts) =
    with_further (written_with written (further_name name number) (string_bytes text)) name (number + 1) texts

-- a message as what is meant
abbrev pub told_by : Message → Telling
told_by message = telling message.status (string_bytes message.text)

-- the first of these files that could not be written
pub record IsUnwrittenAt (name : List ℕ) (texts : List (String Global)) (before now : Option Files) (rose : Type 0)
    (told : Telling) : Type 0 where
  pub front : List (String Global)
  pub failed : String Global
  pub rest : List (String Global)
  pub all : texts ≡ front ++ failed ∷ rest
  pub files : now ≡ with_further before name 2 front
  pub counted : rose
  pub meant : told ≡ telling SinkFailed (unwritable_line (further_name name (length front + 2)))

-- what comes of the files behind the first: all were written, or what is told of the first that could not be
abbrev pub ComesOfFurther : List ℕ → List (String Global) → Option Files → Option Files → Type 0 → Option Telling
    → Type 0
ComesOfFurther name texts before now rose None = now ≡ with_further before name 2 texts
ComesOfFurther name texts before now rose (Some told) = IsUnwrittenAt name texts before now rose told

-- what comes of texts: the others were written and the first is told, or what is told of one that could not be written;
-- there is always a first
pub record HasTold (name : List ℕ) (first : String Global) (further : List (String Global)) (before now : Option Files)
    (told : Telling) : Type 0 where
  pub files : now ≡ with_further before name 2 further
  pub meant : told ≡ telling Done (string_bytes first)

abbrev pub ComesOfTexts : List ℕ → List (String Global) → Option Files → Option Files → Type 0 → Telling → Type 0
ComesOfTexts name [] before now rose told = (now ≡ before) × (told ≡ telling Done [])
ComesOfTexts name (first ∷ further) before now rose told = HasTold name first further before now told
    ⊎ IsUnwrittenAt name further before now rose told

-- where memory was wanting: the first of these files were written
pub record WroteFirst (name : List ℕ) (texts : List (String Global)) (before now : Option Files) : Type 0 where
  pub front : List (String Global)
  pub rest : List (String Global)
  pub all : texts ≡ front ++ rest
  pub files : now ≡ with_further before name 2 front

-- what comes of a dump's import. Want of memory has its own end
abbrev pub ComesOfImport : List ℕ → Result (List (String Global)) DumpFault → Option Files → Option Files → Type 0
    → Telling
    → Type 0
ComesOfImport name (Ok texts) before now rose told = ComesOfTexts name texts before now rose told
ComesOfImport name (Err faults.OutOfMemory) before now rose told = ⊥
ComesOfImport name (Err fault) before now rose told = (now ≡ before)
    × (told ≡ telling DumpRefused (refused_line (dump_fault_text fault)))

-- what comes of a dump of these bytes: some import that they have
pub record ComesOfBytes (asked : Asked) (bytes : List ℕ) (before now : Option Files) (rose : Type 0) (told : Telling)
    : Type 0 where
  pub answer : Result (List (String Global)) DumpFault
  pub imported : IsImportOf asked.mends asked.name (facts_of bytes) answer
  pub comes : ComesOfImport asked.name answer before now rose told

-- where memory was wanting: no new file was written, or the first ones of those behind the first of an import
pub record WroteSome (asked : Asked) (bytes : List ℕ) (before now : Option Files) : Type 0 where
  pub texts : List (String Global)
  pub imported : IsImportOf asked.mends asked.name (facts_of bytes) (Ok texts)
  pub wrote : WroteFirst asked.name (drop 1 texts) before now

abbrev pub MayHaveWritten : Asked → (bytes : List ℕ) → Option Files → Option Files → Type 0
MayHaveWritten asked bytes before now = (now ≡ before) ⊎ WroteSome asked bytes before now

-- the file of this name has these bytes, or the shelf tells nothing
abbrev pub HasBytes : Option Files → List ℕ → List ℕ → Type 0
HasBytes files name bytes = IfSome files (λ files. file_of files name ≡ Some bytes)

-- so many bytes a dump may have at most
abbrev pub IsShort : List ℕ → Type 0
IsShort bytes = length bytes ≤ 262144

-- it has more than a dump may have
abbrev pub IsTooLong : Option Files → List ℕ → Type 0
IsTooLong files name = IfSome files (λ files. IsSomeAnd (file_of files name) (λ file. 262144 < length file))

-- what comes of the dump that is asked for: it was read, or it is too long, or it cannot be read
pub data ComesOfDump (files : Option Files) (failed : List ℕ → Type 0) (asked : Asked) (before now : Option Files)
    (rose : Type 0) (told : Telling) : Type 0 where
  Read : (bytes : List ℕ) → HasBytes files asked.name bytes → IsShort bytes
      → ComesOfBytes asked bytes before now rose told
      → ComesOfDump files failed asked before now rose told
  TooLong : now ≡ before → IsTooLong files asked.name → told ≡ telling DumpRefused (refused_line (codes "TooLong"))
      → ComesOfDump files failed asked before now rose told
  Unread : now ≡ before → failed asked.name → told ≡ telling ShelfFailed (unreadable_line asked.name)
      → ComesOfDump files failed asked before now rose told

-- where memory was wanting, of the dump that is asked for
pub record WroteOfDump (files : Option Files) (asked : Asked) (before now : Option Files) : Type 0 where
  pub bytes : List ℕ
  pub has : HasBytes files asked.name bytes
  pub short : IsShort bytes
  pub wrote : MayHaveWritten asked bytes before now

abbrev pub LeftOfDump : Option Files → Asked → Option Files → Option Files → Type 0
LeftOfDump files asked before now = (now ≡ before) ⊎ WroteOfDump files asked before now

abbrev pub LeftOf : Option Files → Option Asked → Option Files → Option Files → Type 0
LeftOf files None before now = now ≡ before
LeftOf files (Some asked) before now = LeftOfDump files asked before now

-- what comes of what is asked for, if anything is
abbrev pub ComesOf : Option Files → (List ℕ → Type 0) → Option Asked → Option Files → Option Files → Type 0 → Telling
    → Type 0
ComesOf files failed None before now rose told = (now ≡ before) × (told ≡ telling WordsRefused usage_line)
ComesOf files failed (Some asked) before now rose told = ComesOfDump files failed asked before now rose told

-- the text that is meant was written whole, or its front at a fault of the sink or at want of memory
pub data HasWritten (before now : Option (List ℕ)) (rose : Type 0) (told : Telling) (status : ℕ) : Type 0 where
  Whole : now ≡ taken_with before told.text → status ≡ status_number told.status
      → HasWritten before now rose told status
  AtFault : TookFront before now told.text → rose → status ≡ status_number SinkFailed
      → HasWritten before now rose told status
  AtMemory : TookFront before now told.text → status ≡ status_number OutOfMemory
      → HasWritten before now rose told status

-- the shelf failed under a name
abbrev pub FailedUnder : (List ℕ → ℕ) → (List ℕ → ℕ) → List ℕ → Type 0
FailedUnder before now name = Rose (before name) (now name)

-- how the program ended: something was meant and written, or memory was wanting before anything was given to the sink:
-- then no new file was written, or the first ones of an import
pub data HasEnded (files : Option Files) (failed : List ℕ → Type 0) (words : List (List ℕ)) (before now : Option Files)
    (outlet_rose : Type 0) (taken_before taken_now : Option (List ℕ)) (sink_rose : Type 0) (status : ℕ) : Type 0 where
  Told : (told : Telling) → ComesOf files failed (asked_of words) before now outlet_rose told
      → HasWritten taken_before taken_now sink_rose told status
      → HasEnded files failed words before now outlet_rose taken_before taken_now sink_rose status
  Untold : taken_now ≡ taken_before → LeftOf files (asked_of words) before now → status ≡ status_number OutOfMemory
      → HasEnded files failed words before now outlet_rose taken_before taken_now sink_rose status
