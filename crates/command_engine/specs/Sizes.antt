-- The sizes of both rings. High Definition Audio 1.0a, 3.3.24 and 3.3.31.
use Rattle.std.specs.Prelude.{ℕ, ◌+◌, ◌-◌, ◌%◌, ◌/◌, Option, Some, None, if◌then◌else◌}
use Rattle.hda_registers.specs.declared.shapes.RingSize.{RingSize}
use Rattle.hda_registers.specs.declared.shapes.RingSize.TheVariants.{Two, Sixteen, Full}
use Rattle.hda_registers.specs.Fields.{entries_of}
use Rattle.verb_codes.specs.Words.{has_bit}

-- the largest size that a size register names as supported: bit 6 stands for 256 entries, bit 5 for 16, bit 4 for 2
abbrev pub largest_size : ℕ → Option RingSize
largest_size code =
    if has_bit code 6 then Some Full
    else (if has_bit code 5 then Some Sixteen else (if has_bit code 4 then Some Two else None))

-- RIRB asks for an interrupt, and for being served, where it is half full
abbrev pub half_of : RingSize → ℕ
half_of size = entries_of size / 2

-- how many entries a ring of this size has from the one after this place up to the one at the pointer, round the end
abbrev pub entries_up_to : RingSize → ℕ → ℕ → ℕ
entries_up_to size place pointer = (pointer % entries_of size + (entries_of size - place)) % entries_of size
