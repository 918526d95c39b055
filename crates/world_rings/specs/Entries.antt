-- The entries of the ring of commands (CORB) and of the ring of responses (RIRB) in memory, where each stands, and what
-- one entry more leaves. High Definition Audio 1.0a, 4.4.1 and 4.4.2; their registers: 3.3.18 to 3.3.31.
use Rattle.std.specs.Prelude.{ℕ, ◌+◌, ◌*◌, ◌%◌, List, [], ◌∷◌, ◌++◌, if◌then◌else◌}
use Rattle.byteorder.specs.Endian.{little_bytes}
use Rattle.hda_registers.specs.declared.shapes.Moved.TheVariants.{CorbRp, RirbWp}
use Rattle.hda_registers.specs.Fields.{Fields, entries_of, corb_address, rirb_address}
use Rattle.hda_registers.specs.Moves.{moved}
use Rattle.world_rings.specs.declared.response.Response.{Response}
use Rattle.world_rings.specs.declared.entries.TheConstants.{COMMAND_BYTES, RESPONSE_BYTES}
use Rattle.world_rings.specs.Memory.{word_at, stored}

-- the place after this one in a ring of so many entries
abbrev pub next_place : ℕ → ℕ → ℕ
next_place place entries = (place + 1) % entries

-- ---- CORB

-- the read pointer moves on before a command is fetched
abbrev pub fetch_place : Fields → ℕ
fetch_place fields = next_place fields.global.corb_read_pointer (entries_of fields.shape.corb)

abbrev pub fetched : Fields → Fields
fetched fields = moved fields (CorbRp (fetch_place fields))

abbrev pub next_command : Fields → List ℕ → ℕ
next_command fields memory = word_at memory (corb_address fields + COMMAND_BYTES * fetch_place fields)

-- ---- RIRB

-- the second word of a response: the codec in bits 3:0, and bit 4 where it was sent unasked
abbrev pub response_source : Response → ℕ
response_source response = response.codec + (if response.unsolicited then 16 else 0)

abbrev pub response_bytes : Response → List ℕ
response_bytes response = little_bytes 4 response.answer ++ little_bytes 4 (response_source response)

-- the write pointer moves on before a response is written
abbrev pub response_place : Fields → ℕ
response_place fields = next_place fields.global.rirb_write_pointer (entries_of fields.shape.rirb)

abbrev pub after_response : Fields → Fields
after_response fields = moved fields (RirbWp (response_place fields))

abbrev pub response_stored : Fields → List ℕ → Response → List ℕ
response_stored fields memory response = stored memory (rirb_address fields + RESPONSE_BYTES * response_place fields)
    (response_bytes response)

-- the registers and the memory after some responses in order
abbrev pub after_responses : Fields → List Response → Fields
after_responses fields [] = fields
after_responses fields (response ∷ responses) = after_responses (after_response fields) responses

abbrev pub responses_stored : Fields → List ℕ → List Response → List ℕ
responses_stored fields memory [] = memory
responses_stored fields memory (response ∷ responses) =
    responses_stored (after_response fields) (response_stored fields memory response) responses
