-- The names of registers and of their bits, and an access to them in words. High Definition Audio 1.0a, 3.3: each line
-- names its section. The registers of a stream descriptor have the descriptor's number: 0 is the input stream's, 1 the
-- output stream's. The forms of the text are this project's own.
use Rattle.std.specs.Prelude.{ℕ, ◌+◌, ◌-◌, ◌*◌, ◌==◌, ◌&&◌, Bool, List, [], ◌∷◌, ◌++◌, drop, codes, decimal, find}
use Rattle.std.specs.Prelude.{nat_le, nat_lt, Option, Some, None, if◌then◌else◌}
use Rattle.std.specs.Int.{to_be_bytes, w16, w32}
use Rattle.std.specs.List.{flat_map}
use Rattle.hex.specs.Hex.{encode_lower}
use Rattle.verb_codes.specs.Words.{has_bit}
use Rattle.hda_registers.specs.declared.shapes.Width.{Width}
use Rattle.hda_registers.specs.declared.places.TheConstants.{GCAP, VMIN, VMAJ, OUTPAY, INPAY, GCTL, WAKEEN, STATESTS}
use Rattle.hda_registers.specs.declared.places.TheConstants.{INTCTL, INTSTS, WALCLK, CORBLBASE, CORBWP, CORBRP, CORBCTL}
use Rattle.hda_registers.specs.declared.places.TheConstants.{CORBSIZE, RIRBLBASE, RIRBWP, RINTCNT, RIRBCTL, RIRBSTS}
use Rattle.hda_registers.specs.declared.places.TheConstants.{RIRBSIZE, INPUT_DESCRIPTOR, OUTPUT_DESCRIPTOR, SDCTL}
use Rattle.hda_registers.specs.declared.places.TheConstants.{SDSTS}
use Rattle.hda_registers.specs.declared.places.TheConstants.{SDLPIB, SDCBL, SDLVI, SDFIFOS, SDFMT, SDBDPL}
use Rattle.hda_registers.specs.Access.{bytes_of}

-- ---- registers

-- a register: its place, and its mnemonic
pub record Register : Type 0 where
  pub place : ℕ
  pub word : List ℕ

abbrev register : ℕ → List ℕ → Register
register place word = record { place = place; word = word }

-- those below the stream descriptors
unfoldable pub global_registers : List Register
global_registers =
    register GCAP (codes "GCAP")  -- 3.3.2
    ∷ register VMIN (codes "VMIN")  -- 3.3.3
    ∷ register VMAJ (codes "VMAJ")  -- 3.3.4
    ∷ register OUTPAY (codes "OUTPAY")  -- 3.3.5
    ∷ register INPAY (codes "INPAY")  -- 3.3.6
    ∷ register GCTL (codes "GCTL")  -- 3.3.7
    ∷ register WAKEEN (codes "WAKEEN")  -- 3.3.8
    ∷ register STATESTS (codes "STATESTS")  -- 3.3.9
    ∷ register INTCTL (codes "INTCTL")  -- 3.3.14
    ∷ register INTSTS (codes "INTSTS")  -- 3.3.15
    ∷ register WALCLK (codes "WALCLK")  -- 3.3.16
    ∷ register CORBLBASE (codes "CORBLBASE")  -- 3.3.18
    ∷ register CORBWP (codes "CORBWP")  -- 3.3.20
    ∷ register CORBRP (codes "CORBRP")  -- 3.3.21
    ∷ register CORBCTL (codes "CORBCTL")  -- 3.3.22
    ∷ register CORBSIZE (codes "CORBSIZE")  -- 3.3.24
    ∷ register RIRBLBASE (codes "RIRBLBASE")  -- 3.3.25
    ∷ register RIRBWP (codes "RIRBWP")  -- 3.3.27
    ∷ register RINTCNT (codes "RINTCNT")  -- 3.3.28
    ∷ register RIRBCTL (codes "RIRBCTL")  -- 3.3.29
    ∷ register RIRBSTS (codes "RIRBSTS")  -- 3.3.30
    ∷ register RIRBSIZE (codes "RIRBSIZE")  -- 3.3.31
    ∷ []

-- those of a stream descriptor, from its first byte on
unfoldable pub stream_registers : List Register
stream_registers =
    register SDCTL (codes "CTL")  -- 3.3.35
    ∷ register SDSTS (codes "STS")  -- 3.3.36
    ∷ register SDLPIB (codes "LPIB")  -- 3.3.37
    ∷ register SDCBL (codes "CBL")  -- 3.3.38
    ∷ register SDLVI (codes "LVI")  -- 3.3.39
    ∷ register SDFIFOS (codes "FIFOS")  -- 3.3.40
    ∷ register SDFMT (codes "FMT")  -- 3.3.41
    ∷ register SDBDPL (codes "BDPL")  -- 3.3.42
    ∷ []

-- the register that begins at a place of some registers
abbrev pub register_at : ℕ → List Register → Option Register
register_at at registers = find (λ r. r.place == at) registers

-- its mnemonic behind the prefix of those registers, and where none begins there the place, four digits
abbrev pub named : (prefix : List ℕ) → (at : ℕ) → Option Register → List ℕ
named prefix at (Some found) = prefix ++ found.word
named prefix at None = encode_lower (to_be_bytes w16 at)

-- the register at a place of the controller
abbrev pub register_text : ℕ → List ℕ
register_text at =
    if nat_lt at INPUT_DESCRIPTOR then named [] at (register_at at global_registers)
    else (if nat_lt at OUTPUT_DESCRIPTOR
    then named (codes "SD0") at (register_at (at - INPUT_DESCRIPTOR) stream_registers)
    else named (codes "SD1") at (register_at (at - OUTPUT_DESCRIPTOR) stream_registers))

-- ---- bits

-- a bit with a name: the place of its register, its number there, and its name
pub record NamedBit : Type 0 where
  pub place : ℕ
  pub bit : ℕ
  pub word : List ℕ

abbrev bit : ℕ → ℕ → List ℕ → NamedBit
bit place number word = record { place = place; bit = number; word = word }

-- those below the stream descriptors
unfoldable pub global_bits : List NamedBit
global_bits =
    bit GCTL 0 (codes "CRST")  -- 3.3.7
    ∷ bit GCTL 8 (codes "UNSOL")
    ∷ bit STATESTS 0 (codes "SDIWAKE0")  -- 3.3.9: the codec with this address
    ∷ bit STATESTS 1 (codes "SDIWAKE1")
    ∷ bit STATESTS 2 (codes "SDIWAKE2")
    ∷ bit STATESTS 3 (codes "SDIWAKE3")
    ∷ bit STATESTS 4 (codes "SDIWAKE4")
    ∷ bit STATESTS 5 (codes "SDIWAKE5")
    ∷ bit STATESTS 6 (codes "SDIWAKE6")
    ∷ bit STATESTS 7 (codes "SDIWAKE7")
    ∷ bit STATESTS 8 (codes "SDIWAKE8")
    ∷ bit STATESTS 9 (codes "SDIWAKE9")
    ∷ bit STATESTS 10 (codes "SDIWAKE10")
    ∷ bit STATESTS 11 (codes "SDIWAKE11")
    ∷ bit STATESTS 12 (codes "SDIWAKE12")
    ∷ bit STATESTS 13 (codes "SDIWAKE13")
    ∷ bit STATESTS 14 (codes "SDIWAKE14")
    ∷ bit INTCTL 0 (codes "SIE0")  -- 3.3.14: the stream of this descriptor
    ∷ bit INTCTL 1 (codes "SIE1")
    ∷ bit INTCTL 30 (codes "CIE")
    ∷ bit INTCTL 31 (codes "GIE")
    ∷ bit INTSTS 0 (codes "SIS0")  -- 3.3.15
    ∷ bit INTSTS 1 (codes "SIS1")
    ∷ bit INTSTS 30 (codes "CIS")
    ∷ bit INTSTS 31 (codes "GIS")
    ∷ bit CORBRP 15 (codes "CORBRPRST")  -- 3.3.21
    ∷ bit CORBCTL 0 (codes "CMEIE")  -- 3.3.22
    ∷ bit CORBCTL 1 (codes "CORBRUN")
    ∷ bit RIRBWP 15 (codes "RIRBWPRST")  -- 3.3.27
    ∷ bit RIRBCTL 0 (codes "RINTCTL")  -- 3.3.29
    ∷ bit RIRBCTL 1 (codes "RIRBDMAEN")
    ∷ bit RIRBCTL 2 (codes "RIRBOIC")
    ∷ bit RIRBSTS 0 (codes "RINTFL")  -- 3.3.30
    ∷ []

-- those of a stream descriptor, from its first byte on
unfoldable pub stream_bits : List NamedBit
stream_bits =
    bit SDCTL 0 (codes "SRST")  -- 3.3.35
    ∷ bit SDCTL 1 (codes "RUN")
    ∷ bit SDCTL 2 (codes "IOCE")
    ∷ bit SDCTL 3 (codes "FEIE")
    ∷ bit SDCTL 4 (codes "DEIE")
    ∷ bit SDSTS 2 (codes "BCIS")  -- 3.3.36
    ∷ bit SDSTS 3 (codes "FIFOE")
    ∷ bit SDSTS 4 (codes "DESE")
    ∷ bit SDSTS 5 (codes "FIFORDY")
    ∷ []

-- where a bit stands, counted in bits from the first of its list on
abbrev pub bit_place : NamedBit → ℕ
bit_place b = 8 * b.place + b.bit

-- an access to so many bytes from a place on has the bit in it, and it is set in the value
abbrev pub is_set : (at bytes value : ℕ) → NamedBit → Bool
is_set at bytes value b =
    nat_le (8 * at) (bit_place b) && (nat_lt (bit_place b) (8 * (at + bytes)) && has_bit value (bit_place b - 8 * at))

abbrev pub bit_text : (at bytes value : ℕ) → NamedBit → List ℕ
bit_text at bytes value b = if is_set at bytes value b then codes " " ++ b.word else []

-- the names of the bits that are set in an access
abbrev pub bits_text : (at bytes value : ℕ) → List ℕ
bits_text at bytes value =
    if nat_lt at INPUT_DESCRIPTOR then flat_map (bit_text at bytes value) global_bits
    else (if nat_lt at OUTPUT_DESCRIPTOR then flat_map (bit_text (at - INPUT_DESCRIPTOR) bytes value) stream_bits
    else flat_map (bit_text (at - OUTPUT_DESCRIPTOR) bytes value) stream_bits)

-- ---- an access

-- a value in as many digits as the access has
abbrev pub value_text : Width → ℕ → List ℕ
value_text width value = encode_lower (drop (4 - bytes_of width) (to_be_bytes w32 value))

-- what is read of the wall clock is told in decimal too (3.3.16)
abbrev pub ticks_text : (at value : ℕ) → List ℕ
ticks_text at value = if at == WALCLK then codes " " ++ decimal value ++ codes " ticks" else []

-- an access behind its letter: its bytes, the register, the value, and the bits that are set
abbrev pub access_text : (at : ℕ) → Width → (value : ℕ) → List ℕ
access_text at width value =
    decimal (bytes_of width) ++ codes " " ++ register_text at ++ codes " " ++ value_text width value
    ++ ticks_text at value ++ bits_text at (bytes_of width) value
