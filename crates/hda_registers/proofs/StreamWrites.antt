-- A descriptor's words after a write, one by one, and after its bits are set and cleared.
use Rattle.std.proofs.Common.{◌≡◌, ◌≢◌, ◌^◌, ◌-◌, ℕ, Bool, refl, true, false, if◌then◌else◌, ◌==◌}
use Rattle.std.specs.Prelude.{bit_and, bit_or}
use Rattle.std.proofs.lemmas.Bool.{ne_eqb}
use Rattle.hda_registers.specs.declared.accesses.Access.{Access}
use Rattle.hda_registers.specs.Fields.{Descriptor, reset_descriptor}
use Rattle.hda_registers.specs.Table.{Row, ReadOnly, ReadWrite, Length, LastIndex, Format, ListBase, stream_row}
use Rattle.hda_registers.specs.Access.{part, by_rule, first_bit, stream_written}
use Rattle.hda_registers.specs.Words.{left_by, stream_in}
use Rattle.hda_registers.proofs.Groups.{at_word, other, same-if, written_part, kept_part, cleared_part, masked_whole, masked_away, set_part, set_bit, writes-one, not-writes-one}

pub with_completion : (control position length last format base : ℕ) → stream_in (bit_or control 0x4000000) position length last format base ≡ record (stream_in control position length last format base) { completion = 1 }
with_completion control position length last format base =
    rw (set_part 0 1 control 0x4000000 refl, set_part 1 1 control 0x4000000 refl, set_part 2 1 control 0x4000000 refl, set_part 3 1 control 0x4000000 refl, set_part 4 1 control 0x4000000 refl, set_part 20 4 control 0x4000000 refl, set_bit 26 control 0x4000000 refl, set_part 27 1 control 0x4000000 refl, set_part 28 1 control 0x4000000 refl, set_part 29 1 control 0x4000000 refl)

pub with_fifo_error : (control position length last format base : ℕ) → stream_in (bit_or control 0x8000000) position length last format base ≡ record (stream_in control position length last format base) { fifo_error = 1 }
with_fifo_error control position length last format base =
    rw (set_part 0 1 control 0x8000000 refl, set_part 1 1 control 0x8000000 refl, set_part 2 1 control 0x8000000 refl, set_part 3 1 control 0x8000000 refl, set_part 4 1 control 0x8000000 refl, set_part 20 4 control 0x8000000 refl, set_part 26 1 control 0x8000000 refl, set_bit 27 control 0x8000000 refl, set_part 28 1 control 0x8000000 refl, set_part 29 1 control 0x8000000 refl)

pub with_descriptor_error : (control position length last format base : ℕ) → stream_in (bit_or control 0x10000000) position length last format base ≡ record (stream_in control position length last format base) { descriptor_error = 1 }
with_descriptor_error control position length last format base =
    rw (set_part 0 1 control 0x10000000 refl, set_part 1 1 control 0x10000000 refl, set_part 2 1 control 0x10000000 refl, set_part 3 1 control 0x10000000 refl, set_part 4 1 control 0x10000000 refl, set_part 20 4 control 0x10000000 refl, set_part 26 1 control 0x10000000 refl, set_part 27 1 control 0x10000000 refl, set_bit 28 control 0x10000000 refl, set_part 29 1 control 0x10000000 refl)

pub with_fifo_ready : (control position length last format base : ℕ) → stream_in (bit_or control 0x20000000) position length last format base ≡ record (stream_in control position length last format base) { fifo_ready = 1 }
with_fifo_ready control position length last format base =
    rw (set_part 0 1 control 0x20000000 refl, set_part 1 1 control 0x20000000 refl, set_part 2 1 control 0x20000000 refl, set_part 3 1 control 0x20000000 refl, set_part 4 1 control 0x20000000 refl, set_part 20 4 control 0x20000000 refl, set_part 26 1 control 0x20000000 refl, set_part 27 1 control 0x20000000 refl, set_part 28 1 control 0x20000000 refl, set_bit 29 control 0x20000000 refl)

pub without_run : (control position length last format base : ℕ) → stream_in (bit_and control 0xfffffffd) position length last format base ≡ record (stream_in control position length last format base) { run = 0 }
without_run control position length last format base =
    rw (masked_whole 0 1 control 0xfffffffd refl, masked_away 1 1 control 0xfffffffd refl, masked_whole 2 1 control 0xfffffffd refl, masked_whole 3 1 control 0xfffffffd refl, masked_whole 4 1 control 0xfffffffd refl, masked_whole 20 4 control 0xfffffffd refl, masked_whole 26 1 control 0xfffffffd refl, masked_whole 27 1 control 0xfffffffd refl, masked_whole 28 1 control 0xfffffffd refl, masked_whole 29 1 control 0xfffffffd refl)

pub without_fifo_ready : (control position length last format base : ℕ) → stream_in (bit_and control 0xdfffffff) position length last format base ≡ record (stream_in control position length last format base) { fifo_ready = 0 }
without_fifo_ready control position length last format base =
    rw (masked_whole 0 1 control 0xdfffffff refl, masked_whole 1 1 control 0xdfffffff refl, masked_whole 2 1 control 0xdfffffff refl, masked_whole 3 1 control 0xdfffffff refl, masked_whole 4 1 control 0xdfffffff refl, masked_whole 20 4 control 0xdfffffff refl, masked_whole 26 1 control 0xdfffffff refl, masked_whole 27 1 control 0xdfffffff refl, masked_whole 28 1 control 0xdfffffff refl, masked_away 29 1 control 0xdfffffff refl)

pub control_word : (a : Access) → a.word ≡ 0 → bit_and a.written a.covered ≡ a.written → bit_and a.written 1 ≡ 0 → (control position length last format base : ℕ)
    → stream_in (left_by a 0xF0001F 0x1C000000 control) position length last format base ≡ stream_written a (stream_in control position length last format base)
unfolding stream_written
control_word a e inside zero control position length last format base =
    at_word (λ a. stream_in (left_by a 0xF0001F 0x1C000000 control) position length last format base ≡ stream_written a (stream_in control position length last format base)) a 0 e
    (rw (not-writes-one a 0 zero, written_part 0 1 a inside 0xF0001F 0x1C000000 control refl refl, written_part 1 1 a inside 0xF0001F 0x1C000000 control refl refl, written_part 2 1 a inside 0xF0001F 0x1C000000 control refl refl, written_part 3 1 a inside 0xF0001F 0x1C000000 control refl refl, written_part 4 1 a inside 0xF0001F 0x1C000000 control refl refl, written_part 20 4 a inside 0xF0001F 0x1C000000 control refl refl, cleared_part 26 1 a inside 0xF0001F 0x1C000000 control refl refl, cleared_part 27 1 a inside 0xF0001F 0x1C000000 control refl refl, cleared_part 28 1 a inside 0xF0001F 0x1C000000 control refl refl, kept_part 29 1 a 0xF0001F 0x1C000000 control refl refl))

pub reset_word : (a : Access) → a.word ≡ 0 → bit_and a.written a.covered ≡ a.written → bit_and a.written 1 ≢ 0 → (d : Descriptor)
    → reset_descriptor 1 ≡ stream_written a d
unfolding stream_written
reset_word a e inside one d =
    at_word (λ a. reset_descriptor 1 ≡ stream_written a d) a 0 e (rw (writes-one a 0 inside one) refl)

-- a part that is kept, but not while the stream runs
rest_part : (running : Bool) (row : Row) (a : Access) → bit_and a.written a.covered ≡ a.written → (kept old : ℕ)
    → part (first_bit row) row.bits kept ≡ 2 ^ row.bits - 1 → part (first_bit row) row.bits 0 ≡ 0
    → part (first_bit row) row.bits (left_by a (if running then 0 else kept) 0 old)
    ≡ by_rule (if running then ReadOnly else ReadWrite) a row (part (first_bit row) row.bits old)
rest_part true row a inside kept old all none = kept_part (first_bit row) row.bits a 0 0 old none none
rest_part false row a inside kept old all none = written_part (first_bit row) row.bits a inside kept 0 old all none

pub length_word : (a : Access) → a.word ≡ 2 → bit_and a.written a.covered ≡ a.written → (control position length last format base : ℕ)
    → stream_in control position (left_by a (if part 1 1 control == 1 then 0 else 0xFFFFFFFF) 0 length) last format base ≡ stream_written a (stream_in control position length last format base)
unfolding stream_written
length_word a e inside control position length last format base =
    at_word (λ a. stream_in control position (left_by a (if part 1 1 control == 1 then 0 else 0xFFFFFFFF) 0 length) last format base ≡ stream_written a (stream_in control position length last format base)) a 2 e
    (rw (rest_part (part 1 1 control == 1) (stream_row (part 1 1 control) Length) (record { word = 2; covered = a.covered; written = a.written }) inside 0xFFFFFFFF length refl refl))

pub last_word : (a : Access) → a.word ≡ 3 → bit_and a.written a.covered ≡ a.written → (control position length last format base : ℕ)
    → stream_in control position length (left_by a (if part 1 1 control == 1 then 0 else 0xFF) 0 last) format base ≡ stream_written a (stream_in control position length last format base)
unfolding stream_written
last_word a e inside control position length last format base =
    at_word (λ a. stream_in control position length (left_by a (if part 1 1 control == 1 then 0 else 0xFF) 0 last) format base ≡ stream_written a (stream_in control position length last format base)) a 3 e
    (rw (rest_part (part 1 1 control == 1) (stream_row (part 1 1 control) LastIndex) (record { word = 3; covered = a.covered; written = a.written }) inside 0xFF last refl refl))

pub format_word : (a : Access) → a.word ≡ 4 → bit_and a.written a.covered ≡ a.written → (control position length last format base : ℕ)
    → stream_in control position length last (left_by a (if part 1 1 control == 1 then 0 else 0xFFFF0000) 0 format) base ≡ stream_written a (stream_in control position length last format base)
unfolding stream_written
format_word a e inside control position length last format base =
    at_word (λ a. stream_in control position length last (left_by a (if part 1 1 control == 1 then 0 else 0xFFFF0000) 0 format) base ≡ stream_written a (stream_in control position length last format base)) a 4 e
    (rw (rest_part (part 1 1 control == 1) (stream_row (part 1 1 control) Format) (record { word = 4; covered = a.covered; written = a.written }) inside 0xFFFF0000 format refl refl))

pub base_word : (a : Access) → a.word ≡ 6 → bit_and a.written a.covered ≡ a.written → (control position length last format base : ℕ)
    → stream_in control position length last format (left_by a (if part 1 1 control == 1 then 0 else 0xFFFFFF80) 0 base) ≡ stream_written a (stream_in control position length last format base)
unfolding stream_written
base_word a e inside control position length last format base =
    at_word (λ a. stream_in control position length last format (left_by a (if part 1 1 control == 1 then 0 else 0xFFFFFF80) 0 base) ≡ stream_written a (stream_in control position length last format base)) a 6 e
    (rw (rest_part (part 1 1 control == 1) (stream_row (part 1 1 control) ListBase) (record { word = 6; covered = a.covered; written = a.written }) inside 0xFFFFFF80 base refl refl))

pub other_word : (a : Access) (d : Descriptor) → a.word ≢ 0 → a.word ≢ 2 → a.word ≢ 3 → a.word ≢ 4 → a.word ≢ 6 → d ≡ stream_written a d
unfolding stream_written
other_word a d n0 n2 n3 n4 n6 =
    rw (ne_eqb a.word 0 n0, other 0 a.word n0, other 2 a.word n2, other 3 a.word n3, other 4 a.word n4, other 6 a.word n6, same-if (1 == a.word) d.link_position)
