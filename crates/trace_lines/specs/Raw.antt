-- The entries of a journal as lines of JSON (RFC 8259), each an array: for programs that replay them. This project's
-- own.
use Rattle.std.specs.Prelude.{ℕ, List, [], ◌∷◌, ◌++◌, codes, decimal}
use Rattle.std.specs.List.{flat_map}
use Rattle.hex.specs.Hex.{encode_lower}
use Rattle.hda_registers.specs.declared.shapes.Width.{Width}
use Rattle.hda_registers.specs.Access.{bytes_of}
use Rattle.world_steps.specs.declared.Step.{Step}
use Rattle.hda_world.specs.declared.entry.Entry.{Entry}
use Rattle.hda_world.specs.Journals.{JournalState, event_of}
use Rattle.hda_world.specs.Events.{Event, Stepped, Begin, End, Read, Write, DmaRead, DmaWrite}
use Rattle.trace_lines.specs.Steps.{step_text}

-- a word in quotes (34); no text here has a quote or a reversed solidus in it
abbrev pub quoted : List ℕ → List ℕ
quoted word = 34 ∷ (word ++ 34 ∷ [])

-- the front of an array whose first item is this word
abbrev pub front : List ℕ → List ℕ
front word = codes "[" ++ quoted word

-- an item that is a number, and one that is a text
abbrev pub item : ℕ → List ℕ
item number = codes ", " ++ decimal number

abbrev pub text_item : List ℕ → List ℕ
text_item text = codes ", " ++ quoted text

-- the end of an array and of its line
abbrev pub ending : List ℕ
ending = codes "]\n"

-- a mark of a call, and a step of the device
abbrev pub mark_line : List ℕ → List ℕ
mark_line word = front word ++ ending

abbrev pub step_line : Step → List ℕ
step_line step = front (codes "S") ++ text_item (step_text step) ++ ending

-- an access to a register: its letter, the place, the bytes and the value
abbrev pub access_line : List ℕ → (at : ℕ) → Width → (value : ℕ) → List ℕ
access_line letter at width value = front letter ++ item at ++ item (bytes_of width) ++ item value ++ ending

-- an access to memory: its letters, the address, and the bytes as hexadecimal digits
abbrev pub memory_line : List ℕ → (at : ℕ) → (bytes : List ℕ) → List ℕ
memory_line letters at bytes = front letters ++ item at ++ text_item (encode_lower bytes) ++ ending

abbrev pub raw_line : Event → List ℕ
raw_line (Stepped step) = step_line step
raw_line Begin = mark_line (codes "begin")
raw_line End = mark_line (codes "end")
raw_line (Read at width value) = access_line (codes "R") at width value
raw_line (Write at width value) = access_line (codes "W") at width value
raw_line (DmaRead at bytes) = memory_line (codes "DR") at bytes
raw_line (DmaWrite at bytes) = memory_line (codes "DW") at bytes

abbrev pub raw_lines : List Event → List ℕ
raw_lines events = flat_map raw_line events

-- the line of an entry of a journal, before it is read as an event
abbrev pub raw_entry : JournalState → Entry → List ℕ
raw_entry journal entry = raw_line (event_of journal.pieces journal.bytes entry)
