-- How INTSTS and the interrupt line come from the status bits, this project's own. High Definition Audio 1.0a, 3.3.14
-- and 3.3.15.
use Rattle.std.specs.Prelude.{◌+◌, ◌^◌, ◌==◌, ◌&&◌, ◌||◌, nat_lt, bit_and, ℕ, Bool, if◌then◌else◌}
use Rattle.hda_registers.specs.Fields.{Global, Descriptor, Fields}

-- whether a stream asks for an interrupt (SIS): a status bit is 1 whose enable bit is 1
abbrev pub stream_asks : Descriptor → Bool
stream_asks d =
    (d.completion == 1) && (d.completion_interrupt == 1) || (d.fifo_error == 1) && (d.fifo_interrupt == 1)
    || (d.descriptor_error == 1) && (d.descriptor_interrupt == 1)

-- whether the controller itself asks for an interrupt (CIS): responses came, or a codec whose wake bit is enabled asks
abbrev pub controller_asks : Global → Bool
controller_asks g =
    (g.response_flag == 1) && (g.response_interrupt == 1) || nat_lt 0 (bit_and g.state_status g.wake_enable)

-- whether one asks whose bit in INTCTL is 1 (GIS)
abbrev pub any_asks : Fields → Bool
any_asks fields =
    controller_asks fields.global && (fields.global.controller_interrupt == 1)
    || stream_asks fields.input && (fields.global.input_interrupt == 1)
    || stream_asks fields.output && (fields.global.output_interrupt == 1)

-- what a bit is worth in a word
abbrev pub worth : Bool → ℕ → ℕ
worth set bit = if set then 2 ^ bit else 0

-- INTSTS: a bit per stream, CIS in bit 30, GIS in bit 31
abbrev pub interrupt_status : Fields → ℕ
interrupt_status fields =
    worth (stream_asks fields.input) 0 + worth (stream_asks fields.output) 1 + worth (controller_asks fields.global) 30
    + worth (any_asks fields) 31

-- whether the interrupt line is high
abbrev pub interrupt_line_of : Fields → Bool
interrupt_line_of fields = any_asks fields && (fields.global.global_interrupt == 1)
