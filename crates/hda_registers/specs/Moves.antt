-- What the device itself does to the registers. High Definition Audio 1.0a, 3.3.
use Rattle.std.specs.Prelude.{◌+◌, ◌%◌, ◌^◌, ◌==◌, ◌<◌, ◌≤◌, bit_or, ℕ, if◌then◌else◌}
use Rattle.hda_registers.specs.declared.shapes.Raise.{Raise}
use Rattle.hda_registers.specs.declared.shapes.Raise.TheVariants.{Codec, Response, BufferDone, FifoError}
use Rattle.hda_registers.specs.declared.shapes.Raise.TheVariants.{DescriptorError}
use Rattle.hda_registers.specs.declared.shapes.Moved.{Moved}
use Rattle.hda_registers.specs.declared.shapes.Moved.TheVariants.{CorbRp, RirbWp, Lpib, Ready}
use Rattle.hda_registers.specs.declared.places.TheConstants.{TICKS_PER_FRAME}
use Rattle.hda_registers.specs.Fields.{Descriptor, Fields, entries_of, is_out_of_reset}
use Rattle.hda_registers.specs.Status.{worth}

-- the wall clock goes on by its ticks of a link frame, modulo 2^32, while CRST is 1 (3.3.16)
abbrev pub framed : Fields → Fields
framed fields = record fields {
  global = record fields.global {
    wall_clock = if is_out_of_reset fields.global then (fields.global.wall_clock + TICKS_PER_FRAME) % 2 ^ 32 else
        fields.global.wall_clock;
  };
}

-- a stream's descriptor changed: the input's where the stream is 0, else the output's
abbrev pub at_stream : ℕ → (Descriptor → Descriptor) → Fields → Fields
at_stream stream change fields = record fields {
  input = if stream == 0 then change fields.input else fields.input;
  output = if stream == 0 then fields.output else change fields.output;
}

-- an event sets its status bit; a descriptor error also clears RUN
abbrev pub raised : Fields → Raise → Fields
raised fields (Codec codec) = record fields {
  global = record fields.global { state_status = bit_or fields.global.state_status (2 ^ codec) };
}
raised fields Response = record fields { global = record fields.global { response_flag = 1 } }
raised fields (BufferDone stream) = at_stream stream (λ d. record d { completion = 1 }) fields
raised fields (FifoError stream) = at_stream stream (λ d. record d { fifo_error = 1 }) fields
raised fields (DescriptorError stream) = at_stream stream (λ d. record d { descriptor_error = 1; run = 0 }) fields

-- a field that only the device moves takes its new value
abbrev pub moved : Fields → Moved → Fields
moved fields (CorbRp pointer) = record fields { global = record fields.global { corb_read_pointer = pointer } }
moved fields (RirbWp pointer) = record fields { global = record fields.global { rirb_write_pointer = pointer } }
moved fields (Lpib stream bytes) = at_stream stream (λ d. record d { link_position = bytes }) fields
moved fields (Ready stream ready) = at_stream stream (λ d. record d { fifo_ready = worth ready 0 }) fields

-- an event names a codec of at most 14 or a stream of 0 or 1
abbrev pub IsEvent : Raise → Type 0
IsEvent (Codec codec) = codec ≤ 14
IsEvent Response = Unit {0}
IsEvent (BufferDone stream) = stream ≤ 1
IsEvent (FifoError stream) = stream ≤ 1
IsEvent (DescriptorError stream) = stream ≤ 1

-- a place lies in its ring, and a stream is 0 or 1
abbrev pub IsMove : Fields → Moved → Type 0
IsMove fields (CorbRp pointer) = pointer < entries_of fields.shape.corb
IsMove fields (RirbWp pointer) = pointer < entries_of fields.shape.rirb
IsMove fields (Lpib stream bytes) = stream ≤ 1
IsMove fields (Ready stream ready) = stream ≤ 1
