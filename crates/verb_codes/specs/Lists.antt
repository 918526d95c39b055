-- Connection lists: their entries in words, and the nodes that they stand for. High Definition Audio 1.0a, 7.3.3.3 (the
-- words) and 7.1.2 (ranges). What is a fault, and which of several counts, is this project's own.
use Rattle.std.specs.Prelude.{◌≡◌, ◌<◌, ◌+◌, ◌-◌, ◌*◌, ◌/◌, ◌%◌, ◌^◌, ⊤, ℕ, Bool, true, false, ◌==◌, List, [], ◌∷◌}
use Rattle.std.specs.Prelude.{◌++◌, map, length, Option, None, Some, Result, Ok, Err, if◌then◌else◌, nat_lt, nat_le}
use Rattle.std.specs.Prelude.{replicate}
use Rattle.std.specs.List.{flat_map, range_with_len}
use Rattle.verb_codes.specs.declared.entries.Entry.{Entry}
use Rattle.verb_codes.specs.declared.entries.ListFault.{ListFault}
use Rattle.verb_codes.specs.declared.entries.ListFault.TheVariants.{Zero, Beyond, FirstIsRange, RangeAfterRange}
use Rattle.verb_codes.specs.declared.entries.ListFault.TheVariants.{RangeBackward}
use Rattle.verb_codes.specs.declared.entries.ListError.{ListError}
use Rattle.verb_codes.specs.declared.entries.ListError.TheVariants.{Fault, OutOfMemory}

-- the bits of an entry, in the long and in the short form, and how many entries a word has
abbrev pub entry_width : Bool → ℕ
entry_width long = if long then 16 else 8

abbrev pub entries_per_word : Bool → ℕ
entries_per_word long = if long then 2 else 4

-- the entries of a word, lowest bits first
abbrev pub entries_of_word : Bool → ℕ → List ℕ
entries_of_word true word = word % 2 ^ 16 ∷ word / 2 ^ 16 % 2 ^ 16 ∷ []
entries_of_word false word = word % 2 ^ 8 ∷ word / 2 ^ 8 % 2 ^ 8 ∷ word / 2 ^ 16 % 2 ^ 8 ∷ word / 2 ^ 24 % 2 ^ 8 ∷ []

abbrev pub entries_of_words : Bool → List ℕ → List ℕ
entries_of_words long words = flat_map (entries_of_word long) words

-- the highest bit of an entry marks a range, the others are its node identifier
abbrev pub range_bit : Bool → ℕ
range_bit long = if long then 2 ^ 15 else 2 ^ 7

abbrev pub entry_of : Bool → ℕ → Entry
entry_of long bits = record { is_range = nat_le (range_bit long) bits; nid = bits % range_bit long }

-- what a range has wrong after the entry before it, if there is one
abbrev pub range_fault : Option Entry → ℕ → Option ListFault
range_fault None nid = Some FirstIsRange
range_fault (Some before) nid =
    if before.is_range then Some RangeAfterRange else (if nat_le nid before.nid then Some RangeBackward else None)

-- what an entry has wrong, of several the first in this order
abbrev pub entry_fault : Option Entry → Entry → Option ListFault
entry_fault before entry =
    if entry.nid == 0 then Some Zero
    else (if nat_lt 0x7F entry.nid then Some Beyond else (if entry.is_range then range_fault before entry.nid else
    None))

-- a range begins after the entry before it, any other entry with its own node
abbrev pub first_nid : Option Entry → Entry → ℕ
first_nid None entry = entry.nid
first_nid (Some before) entry = if entry.is_range then before.nid + 1 else entry.nid

-- the nodes that an entry stands for: up to its own
abbrev pub nids_of : Option Entry → Entry → List ℕ
nids_of before entry = range_with_len (first_nid before entry) (entry.nid + 1 - first_nid before entry)

-- some nodes and those of the entries after them
abbrev pub after : List ℕ → Result (List ℕ) ListFault → Result (List ℕ) ListFault
after nids (Ok rest) = Ok (nids ++ rest)
after nids (Err fault) = Err fault

abbrev pub expanded : Option ListFault → List ℕ → Result (List ℕ) ListFault → Result (List ℕ) ListFault
expanded None nids rest = after nids rest
expanded (Some fault) nids rest = Err fault

-- the nodes of some entries after the entry before them, or the fault of the first faulty one
abbrev pub expansion_after : Option Entry → List Entry → Result (List ℕ) ListFault
expansion_after before [] = Ok []
expansion_after before (entry ∷ entries) =
    expanded (entry_fault before entry) (nids_of before entry) (expansion_after (Some entry) entries)

-- the nodes of a list of entries of 8 or of 16 bits, or the fault of the first faulty one
abbrev pub expansion_of : Bool → List ℕ → Result (List ℕ) ListFault
expansion_of long entries = expansion_after None (map (entry_of long) entries)

-- a list was refused with this error: want of memory, or the fault of the list
abbrev pub IsRefusal : ListError → Result (List ℕ) ListFault → Type 0
IsRefusal (Fault fault) expansion = expansion ≡ Err fault
IsRefusal OutOfMemory expansion = ⊤

-- the words have the entries, then zeros up to the end of the last word, and no word without an entry
pub record IsPacking (long : Bool) (entries words : List ℕ) : Type 0 where
  pub filled : entries_of_words long words ≡ entries ++ replicate
      (length words * entries_per_word long - length entries) 0
  pub least : length words * entries_per_word long < length entries + entries_per_word long
