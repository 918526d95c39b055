-- What a piece of memory that the driver reads or writes is: an entry of CORB, of RIRB or of the output stream's list
-- of buffers, a part of one of its periods, or none of these. Where they lie is said by the journal: rings and list
-- where the first write to their base register puts them (High Definition Audio 1.0a, 3.3.18, 3.3.25 and 3.3.42), the
-- list up to the entry that the first write to LVI names (3.3.39), the periods by the list's entries (3.6.3). That a
-- ring counts as one of 256 entries is this project's own.
use Rattle.std.specs.Prelude.{ℕ, ◌+◌, ◌-◌, ◌*◌, ◌/◌, ◌%◌, ◌==◌, ◌&&◌, Bool, List, [], ◌∷◌, find, nat_le}
use Rattle.std.specs.Prelude.{nat_lt, Option, Some, None, if◌then◌else◌}
use Rattle.std.specs.Option.{option_or}
use Rattle.hda_registers.specs.declared.places.TheConstants.{CORBLBASE, RIRBLBASE}
use Rattle.hda_world.specs.Events.{Event, Stepped, Begin, End, Read, Write, DmaRead, DmaWrite}
use Rattle.period_writer.specs.declared.registers.TheConstants.{LAST_INDEX, LIST_ADDRESS}
use Rattle.world_rings.specs.declared.entries.TheConstants.{COMMAND_BYTES, RESPONSE_BYTES}
use Rattle.world_streams.specs.declared.buffers.TheConstants.{BUFFER_ENTRY_BYTES}
use Rattle.trace_lines.specs.declared.purposes.Bases.{Bases}
use Rattle.trace_lines.specs.declared.purposes.Listed.{Listed}
use Rattle.trace_lines.specs.declared.purposes.Purpose.{Purpose}
use Rattle.trace_lines.specs.declared.purposes.Purpose.TheVariants as purpose

-- ---- where rings and list lie

-- the value that an event writes to the register at this place, if it does
abbrev pub value_put : ℕ → Event → Option ℕ
value_put register (Stepped step) = None
value_put register Begin = None
value_put register End = None
value_put register (Read at width value) = None
value_put register (Write at width value) = if at == register then Some value else None
value_put register (DmaRead at bytes) = None
value_put register (DmaWrite at bytes) = None

-- the first value that some events write to it
abbrev pub first_put : ℕ → List Event → Option ℕ
first_put register [] = None
first_put register (event ∷ events) = option_or (value_put register event) (first_put register events)

abbrev pub bases_in : List Event → Bases
bases_in events = record {
  corb = first_put CORBLBASE events;
  rirb = first_put RIRBLBASE events;
  list = first_put LIST_ADDRESS events;
  last = first_put LAST_INDEX events;
}

-- ---- what a piece is

-- how many entries CORB and RIRB have at most (3.3.24 and 3.3.31), and how many the list has
abbrev pub ring_entries : ℕ
ring_entries = 256

abbrev pub list_entries : Option ℕ → ℕ
list_entries None = 0
list_entries (Some last) = last + 1

-- a piece of so many bytes is the entry of this number, of so many entries of this size from a base on
abbrev pub entry_from : (base size entries at len : ℕ) → Option ℕ
entry_from base size entries at len =
    if nat_le base at && (nat_lt (at - base) (size * entries) && ((at - base) % size == 0 && len == size))
    then Some ((at - base) / size) else None

abbrev pub entry_at : Option ℕ → (size entries at len : ℕ) → Option ℕ
entry_at None size entries at len = None
entry_at (Some base) size entries at len = entry_from base size entries at len

-- a piece lies in the buffer of an entry
abbrev pub holds : (at len : ℕ) → Listed → Bool
holds at len listed =
    nat_le listed.buffer.address at && nat_le (at + len) (listed.buffer.address + listed.buffer.bytes)

-- the part of a period: its number, and where the piece begins in it
abbrev pub period_of : ℕ → Option Listed → Purpose
period_of at (Some listed) = purpose.Period listed.index (at - listed.buffer.address)
period_of at None = purpose.Other

-- an entry of the list, or else a part of the first buffer that holds it, of those whose entries were written
abbrev pub buffer_purpose : Option ℕ → List Listed → (at len : ℕ) → Purpose
buffer_purpose (Some number) buffers at len = purpose.Buffer number
buffer_purpose None buffers at len = period_of at (find (holds at len) buffers)

abbrev pub response_purpose : Option ℕ → Purpose → Purpose
response_purpose (Some number) rest = purpose.Response number
response_purpose None rest = rest

abbrev pub command_purpose : Option ℕ → Purpose → Purpose
command_purpose (Some number) rest = purpose.Command number
command_purpose None rest = rest

abbrev pub purpose_of : Bases → List Listed → (at len : ℕ) → Purpose
purpose_of bases buffers at len =
    command_purpose (entry_at bases.corb COMMAND_BYTES ring_entries at len)
    (response_purpose (entry_at bases.rirb RESPONSE_BYTES ring_entries at len)
    (buffer_purpose (entry_at bases.list BUFFER_ENTRY_BYTES (list_entries bases.last) at len) buffers at len))
