-- Which writes of registers may change the tag or the format of the output stream. High Definition Audio 1.0a, 3.3.7,
-- 3.3.35 and 3.3.41.
use Rattle.std.specs.Prelude.{◌+◌, ◌/◌, ◌==◌, ◌&&◌, ◌||◌, nat_lt, ℕ, Bool}
use Rattle.hda_registers.specs.declared.shapes.Width.{Width}
use Rattle.hda_registers.specs.declared.places.TheConstants.{GCTL, OUTPUT_DESCRIPTOR, SDCTL, SDSTS, SDFMT}
use Rattle.hda_registers.specs.Access.{bytes_of}

-- an access of so many bytes from a place on has a byte of these
abbrev pub meets : ℕ → ℕ → ℕ → ℕ → Bool
meets at bytes from to = nat_lt at to && nat_lt from (at + bytes)

-- an access touches GCTL, by which all registers may be reset, or the control or the format of the output stream's
-- descriptor
abbrev pub touches_sound : ℕ → Width → Bool
touches_sound at width =
    (at / 4 == GCTL / 4)
    || meets at (bytes_of width) (OUTPUT_DESCRIPTOR + SDCTL) (OUTPUT_DESCRIPTOR + SDSTS)
    || meets at (bytes_of width) (OUTPUT_DESCRIPTOR + SDFMT) (OUTPUT_DESCRIPTOR + SDFMT + 2)
