-- One call of the engine of each ring. High Definition Audio 1.0a, 4.4.1 and 4.4.2. That RIRB's engine waits for
-- RINTFL, and how many responses it writes at once, is this project's own.
use Rattle.std.specs.Prelude.{ℕ, Bool, ◌==◌, ◌&&◌, not, ◌-◌, min, List, [], ◌∷◌, take, Option, Some, None}
use Rattle.std.specs.Prelude.{if◌then◌else◌}
use Rattle.hda_registers.specs.declared.shapes.Raise.TheVariants as event
use Rattle.hda_registers.specs.Fields.{Fields, entries_of, responses_of, is_out_of_reset}
use Rattle.hda_registers.specs.Moves.{raised}
use Rattle.world_rings.specs.declared.response.Response.{Response}
use Rattle.world_rings.specs.Entries.{next_command, fetched, after_responses}

-- ---- CORB

-- its engine runs, its read pointer is not being reset, and there is a command that was not fetched
abbrev pub can_fetch : Fields → Bool
can_fetch fields =
    is_out_of_reset fields.global && fields.global.corb_run == 1 && not (fields.global.corb_pointer_reset == 1)
    && not (fields.global.corb_read_pointer == fields.global.corb_write_pointer)

-- the command that its engine would fetch
abbrev pub next_word : Fields → List ℕ → Option ℕ
next_word fields memory = if can_fetch fields then Some (next_command fields memory) else None

abbrev pub after_corb : Fields → Fields
after_corb fields = if can_fetch fields then fetched fields else fields

-- ---- RIRB

-- its engine runs, and the driver has cleared the response interrupt flag
abbrev pub can_respond : Fields → Bool
can_respond fields = is_out_of_reset fields.global && fields.global.rirb_run == 1 && not
    (fields.global.response_flag == 1)

-- how many responses are written at most before the flag is set: fewer than the ring has entries, so none is
-- overwritten
abbrev pub batch_of : Fields → ℕ
batch_of fields = min (responses_of fields.global.response_count) (entries_of fields.shape.rirb - 1)

-- the responses that its engine writes of those that wait: the oldest ones
abbrev pub batch : Fields → List Response → List Response
batch fields waiting = if can_respond fields then take (batch_of fields) waiting else []

-- the registers after a batch: the flag is set where some response was written
abbrev pub after_batch : Fields → List Response → Fields
after_batch fields [] = fields
after_batch fields (response ∷ responses) = raised (after_responses fields (response ∷ responses)) event.Response

abbrev pub after_rirb : Fields → List Response → Fields
after_rirb fields waiting = after_batch fields (batch fields waiting)
