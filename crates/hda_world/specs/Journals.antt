-- A journal as contracts see it: what happened, in order, and for how much more there is room. A piece of memory has
-- its bytes from the journal's bytes. This project's own.
use Rattle.std.specs.Prelude.{◌≡◌, ℕ, ◌+◌, ◌≤◌, List, All, get_or, length, slice_range}
use Rattle.hda_world.specs.declared.entry.Entry.{Entry}
use Rattle.hda_world.specs.declared.entry.Entry.TheVariants as entry
use Rattle.hda_world.specs.declared.entry.MemoryPiece.{MemoryPiece}
use Rattle.hda_world.specs.Events.{Event, Stepped, Begin, End, Read, Write, DmaRead, DmaWrite}

pub record JournalState : Type 0 where
  pub entries : List Entry
  pub pieces : List MemoryPiece
  pub bytes : List ℕ
  pub spare_entries : ℕ
  pub spare_bytes : ℕ

-- the bytes of a piece
abbrev pub bytes_of : List ℕ → MemoryPiece → List ℕ
bytes_of bytes piece = slice_range bytes piece.from (piece.from + piece.len)

-- the piece with a number, which is empty where there is none
abbrev pub piece_at : List MemoryPiece → ℕ → MemoryPiece
piece_at pieces number = get_or pieces number (record { at = 0; len = 0; from = 0 })

abbrev pub event_of : List MemoryPiece → List ℕ → Entry → Event
event_of pieces bytes (entry.Step step) = Stepped step
event_of pieces bytes entry.Begin = Begin
event_of pieces bytes entry.End = End
event_of pieces bytes (entry.Read at width value) = Read at width value
event_of pieces bytes (entry.Write at width value) = Write at width value
event_of pieces bytes (entry.DmaRead number) = DmaRead (piece_at pieces number).at
    (bytes_of bytes (piece_at pieces number))
event_of pieces bytes (entry.DmaWrite number) = DmaWrite (piece_at pieces number).at
    (bytes_of bytes (piece_at pieces number))

-- how many pieces there are at the least where there is this entry
abbrev pub pieces_named : Entry → ℕ
pieces_named (entry.Step step) = 0
pieces_named entry.Begin = 0
pieces_named entry.End = 0
pieces_named (entry.Read at width value) = 0
pieces_named (entry.Write at width value) = 0
pieces_named (entry.DmaRead number) = number + 1
pieces_named (entry.DmaWrite number) = number + 1

-- entries name pieces that are there, and pieces have bytes that are there
pub record AreNoted (entries : List Entry) (pieces : List MemoryPiece) (bytes : List ℕ) : Type 0 where
  pub named : All (λ entry. pieces_named entry ≤ length pieces) entries
  pub placed : All (λ piece. piece.from + piece.len ≤ length bytes) pieces

-- from one journal to another so many entries and bytes of room were used
pub record Used (entries bytes : ℕ) (old new : JournalState) : Type 0 where
  pub entries_left : old.spare_entries ≡ new.spare_entries + entries
  pub bytes_left : old.spare_bytes ≡ new.spare_bytes + bytes
