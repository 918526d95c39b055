-- What an access to the registers gives and changes, computed from the table. High Definition Audio 1.0a, 3.3. That a
-- place without a register reads 0 and takes no write, that writes other than to GCTL are ignored while CRST is 0, and
-- that a reset takes effect at the write, is this project's own.
use Rattle.std.specs.Prelude.{◌+◌, ◌-◌, ◌*◌, ◌/◌, ◌%◌, ◌^◌, ◌==◌, ◌&&◌, ◌||◌, nat_lt, bit_and, bit_or, ℕ, Bool, not}
use Rattle.std.specs.Prelude.{if◌then◌else◌, List, [], ◌∷◌, filter, sum_by}
use Rattle.hda_registers.specs.declared.shapes.Width.{Width}
use Rattle.hda_registers.specs.declared.shapes.Width.TheVariants.{One, Two, Four}
use Rattle.hda_registers.specs.declared.shapes.Shape.{Shape}
use Rattle.hda_registers.specs.declared.shapes.Effects.{Effects}
use Rattle.hda_registers.specs.declared.accesses.Access.{Access}
use Rattle.hda_registers.specs.Fields.{Global, Descriptor, Fields, reset_fields, reset_descriptor, is_out_of_reset}
use Rattle.hda_registers.specs.Fields.{is_running}
use Rattle.hda_registers.specs.Table as table
use Rattle.hda_registers.specs.Table.{Rule, Row, GlobalGroup, StreamGroup, global_row, stream_row, size_code}
use Rattle.hda_registers.specs.Status.{interrupt_status}

abbrev pub bytes_of : Width → ℕ
bytes_of One = 1
bytes_of Two = 2
bytes_of Four = 4

-- the number in `bits` bits of the word from bit `low` up
abbrev pub part : ℕ → ℕ → ℕ → ℕ
part low bits word = word / 2 ^ low % 2 ^ bits

-- An access at a multiple of its width lies in one aligned word of four bytes: here are the number of that word, the
-- bits of it that the access covers, and what it writes there.
abbrev pub covered_bits : ℕ → ℕ → ℕ
covered_bits at bytes = (2 ^ (8 * bytes) - 1) * 2 ^ (8 * (at % 4))

abbrev pub access_of : ℕ → Width → ℕ → Access
access_of at width value = record {
  word = at / 4;
  covered = covered_bits at (bytes_of width);
  written = value % 2 ^ (8 * bytes_of width) * 2 ^ (8 * (at % 4));
}

-- where a group stands in its aligned word
abbrev pub first_bit : Row → ℕ
first_bit row = 8 * (row.place % 4) + row.low

-- the bits of a group that an access covers, and what it writes there
abbrev pub mask_of : Access → Row → ℕ
mask_of access row = part (first_bit row) row.bits access.covered

abbrev pub given_of : Access → Row → ℕ
given_of access row = part (first_bit row) row.bits access.written

-- a number of so many bits in which the bits of the mask are those that are given
abbrev pub mixed : (bits mask old given : ℕ) → ℕ
mixed bits mask old given =
    if mask == 0 then old else (if mask == 2 ^ bits - 1 then given else bit_or (old - bit_and old mask) given)

-- whether an access writes 1 to a bit of its word
abbrev pub writes_one : Access → ℕ → Bool
writes_one access bit = (part bit 1 access.covered == 1) && (part bit 1 access.written == 1)

-- what a write leaves in a group of its word, by the group's rule: bits that it doesn't cover stay
abbrev pub by_rule : Rule → Access → Row → ℕ → ℕ
by_rule table.ReadOnly access row old = old
by_rule table.ReadWrite access row old = mixed row.bits (mask_of access row) old (given_of access row)
by_rule (table.ReadWriteModulo size) access row old =
    if mask_of access row == 0 then old else mixed row.bits (mask_of access row) old (given_of access row) % size
by_rule table.ClearedByOne access row old =
    if mask_of access row == 0 then old else old - bit_and old (given_of access row)
by_rule (table.ZeroedBy bit) access row old = if writes_one access (8 * (row.place % 4) + bit) then 0 else old

abbrev pub ruled : Access → Row → ℕ → ℕ
ruled access row old = by_rule row.rule access row old

abbrev pub after_write : Access → Row → ℕ → ℕ
after_write access row old = if row.place / 4 == access.word then ruled access row old else old

-- the bits of a group that an access reads, at their place in the word
abbrev pub shown : Access → Row → ℕ → ℕ
shown access row value =
    let mask = mask_of access row in
    (if mask == 0 then 0 else (if mask == 2 ^ row.bits - 1 then value else bit_and value mask)) * 2 ^ first_bit row

-- what the groups hold, where INTSTS is `status`
abbrev pub global_value : Shape → Global → (status : ℕ) → GlobalGroup → ℕ
global_value shape g status table.Capabilities = 0x1100
global_value shape g status table.MinorVersion = 0
global_value shape g status table.MajorVersion = 1
global_value shape g status table.OutputPayload = 0x3C
global_value shape g status table.InputPayload = 0x1D
global_value shape g status table.ControllerReset = g.controller_reset
global_value shape g status table.Unsolicited = g.unsolicited
global_value shape g status table.WakeEnable = g.wake_enable
global_value shape g status table.StateStatus = g.state_status
global_value shape g status table.InputInterrupt = g.input_interrupt
global_value shape g status table.OutputInterrupt = g.output_interrupt
global_value shape g status table.ControllerInterrupt = g.controller_interrupt
global_value shape g status table.GlobalInterrupt = g.global_interrupt
global_value shape g status table.InterruptStatus = status
global_value shape g status table.WallClock = g.wall_clock
global_value shape g status table.CorbBase = g.corb_base
global_value shape g status table.CorbWritePointer = g.corb_write_pointer
global_value shape g status table.CorbReadPointer = g.corb_read_pointer
global_value shape g status table.CorbPointerReset = g.corb_pointer_reset
global_value shape g status table.CorbErrorInterrupt = g.corb_error_interrupt
global_value shape g status table.CorbRun = g.corb_run
global_value shape g status table.CorbSize = size_code shape.corb
global_value shape g status table.RirbBase = g.rirb_base
global_value shape g status table.RirbWritePointer = g.rirb_write_pointer
global_value shape g status table.ResponseCount = g.response_count
global_value shape g status table.ResponseInterrupt = g.response_interrupt
global_value shape g status table.RirbRun = g.rirb_run
global_value shape g status table.RirbOverrunInterrupt = g.rirb_overrun_interrupt
global_value shape g status table.ResponseFlag = g.response_flag
global_value shape g status table.RirbSize = size_code shape.rirb

abbrev pub stream_value : Shape → Descriptor → StreamGroup → ℕ
stream_value shape d table.StreamReset = d.stream_reset
stream_value shape d table.Run = d.run
stream_value shape d table.CompletionInterrupt = d.completion_interrupt
stream_value shape d table.FifoInterrupt = d.fifo_interrupt
stream_value shape d table.DescriptorInterrupt = d.descriptor_interrupt
stream_value shape d table.Tag = d.tag
stream_value shape d table.Completion = d.completion
stream_value shape d table.FifoError = d.fifo_error
stream_value shape d table.DescriptorError = d.descriptor_error
stream_value shape d table.FifoReady = d.fifo_ready
stream_value shape d table.Position = d.link_position
stream_value shape d table.Length = d.buffer_length
stream_value shape d table.LastIndex = d.last_index
stream_value shape d table.FifoSize = shape.fifo
stream_value shape d table.Format = d.format
stream_value shape d table.ListBase = d.list_base

-- the groups as lists
abbrev pub global_groups : List GlobalGroup
global_groups =
    table.Capabilities ∷ table.MinorVersion ∷ table.MajorVersion ∷ table.OutputPayload ∷ table.InputPayload
    ∷ table.ControllerReset ∷ table.Unsolicited ∷ table.WakeEnable ∷ table.StateStatus ∷ table.InputInterrupt
    ∷ table.OutputInterrupt ∷ table.ControllerInterrupt ∷ table.GlobalInterrupt ∷ table.InterruptStatus ∷
    table.WallClock
    ∷ table.CorbBase ∷ table.CorbWritePointer ∷ table.CorbReadPointer ∷ table.CorbPointerReset ∷
    table.CorbErrorInterrupt
    ∷ table.CorbRun ∷ table.CorbSize ∷ table.RirbBase ∷ table.RirbWritePointer ∷ table.ResponseCount
    ∷ table.ResponseInterrupt ∷ table.RirbRun ∷ table.RirbOverrunInterrupt ∷ table.ResponseFlag ∷ table.RirbSize ∷ []

abbrev pub stream_groups : List StreamGroup
stream_groups =
    table.StreamReset ∷ table.Run ∷ table.CompletionInterrupt ∷ table.FifoInterrupt ∷ table.DescriptorInterrupt ∷
    table.Tag
    ∷ table.Completion ∷ table.FifoError ∷ table.DescriptorError ∷ table.FifoReady ∷ table.Position ∷ table.Length
    ∷ table.LastIndex ∷ table.FifoSize ∷ table.Format ∷ table.ListBase ∷ []

-- the groups that stand in a word
unfoldable pub global_groups_in : Shape → ℕ → List GlobalGroup
global_groups_in shape word = filter (λ group. (global_row shape group).place / 4 == word) global_groups

unfoldable pub stream_groups_in : ℕ → List StreamGroup
stream_groups_in word = filter (λ group. (stream_row 0 group).place / 4 == word) stream_groups

-- what an access reads, before it is moved down to bit 0: the groups of its word, added up
unfoldable pub global_shown : Shape → Global → (status : ℕ) → Access → ℕ
global_shown shape g status access =
    sum_by (λ group. shown access (global_row shape group) (global_value shape g status group))
    (global_groups_in shape access.word)

unfoldable pub stream_shown : Shape → Descriptor → Access → ℕ
stream_shown shape d access =
    sum_by (λ group. shown access (stream_row d.run group) (stream_value shape d group)) (stream_groups_in access.word)

-- the places: below 80h the controller's, from 80h the input stream's, from A0h the output stream's, none from C0h on
unfoldable pub shown_at : Fields → ℕ → Width → ℕ
shown_at fields at width =
    if nat_lt at 0x80 then global_shown fields.shape fields.global (interrupt_status fields) (access_of at width 0)
    else (
    if nat_lt at 0xA0 then stream_shown fields.shape fields.input (access_of (at - 0x80) width 0)
    else (if nat_lt at 0xC0 then stream_shown fields.shape fields.output (access_of (at - 0xA0) width 0) else 0)
    )

-- what a read gives: 0 but at a multiple of its width
unfoldable pub value_at : Fields → ℕ → Width → ℕ
value_at fields at width = if at % bytes_of width == 0 then shown_at fields at width / 2 ^ (8 * (at % 4)) else 0

-- the controller's part after a write there, each group by its rule and all at one moment
unfoldable pub global_written : Shape → Access → Global → Global
global_written shape access g = record {
  controller_reset = after_write access (global_row shape table.ControllerReset) g.controller_reset;
  unsolicited = after_write access (global_row shape table.Unsolicited) g.unsolicited;
  wake_enable = after_write access (global_row shape table.WakeEnable) g.wake_enable;
  state_status = after_write access (global_row shape table.StateStatus) g.state_status;
  input_interrupt = after_write access (global_row shape table.InputInterrupt) g.input_interrupt;
  output_interrupt = after_write access (global_row shape table.OutputInterrupt) g.output_interrupt;
  controller_interrupt = after_write access (global_row shape table.ControllerInterrupt) g.controller_interrupt;
  global_interrupt = after_write access (global_row shape table.GlobalInterrupt) g.global_interrupt;
  wall_clock = after_write access (global_row shape table.WallClock) g.wall_clock;
  corb_base = after_write access (global_row shape table.CorbBase) g.corb_base;
  corb_write_pointer = after_write access (global_row shape table.CorbWritePointer) g.corb_write_pointer;
  corb_read_pointer = after_write access (global_row shape table.CorbReadPointer) g.corb_read_pointer;
  corb_pointer_reset = after_write access (global_row shape table.CorbPointerReset) g.corb_pointer_reset;
  corb_error_interrupt = after_write access (global_row shape table.CorbErrorInterrupt) g.corb_error_interrupt;
  corb_run = after_write access (global_row shape table.CorbRun) g.corb_run;
  rirb_base = after_write access (global_row shape table.RirbBase) g.rirb_base;
  rirb_write_pointer = after_write access (global_row shape table.RirbWritePointer) g.rirb_write_pointer;
  response_count = after_write access (global_row shape table.ResponseCount) g.response_count;
  response_interrupt = after_write access (global_row shape table.ResponseInterrupt) g.response_interrupt;
  rirb_run = after_write access (global_row shape table.RirbRun) g.rirb_run;
  rirb_overrun_interrupt = after_write access (global_row shape table.RirbOverrunInterrupt) g.rirb_overrun_interrupt;
  response_flag = after_write access (global_row shape table.ResponseFlag) g.response_flag;
}

-- a descriptor after a write there, each group by its rule and all at one moment; writing SRST 1 resets the descriptor
abbrev pub stream_by_rules : Access → Descriptor → Descriptor
stream_by_rules access d = record {
  stream_reset = after_write access (stream_row d.run table.StreamReset) d.stream_reset;
  run = after_write access (stream_row d.run table.Run) d.run;
  completion_interrupt = after_write access (stream_row d.run table.CompletionInterrupt) d.completion_interrupt;
  fifo_interrupt = after_write access (stream_row d.run table.FifoInterrupt) d.fifo_interrupt;
  descriptor_interrupt = after_write access (stream_row d.run table.DescriptorInterrupt) d.descriptor_interrupt;
  tag = after_write access (stream_row d.run table.Tag) d.tag;
  completion = after_write access (stream_row d.run table.Completion) d.completion;
  fifo_error = after_write access (stream_row d.run table.FifoError) d.fifo_error;
  descriptor_error = after_write access (stream_row d.run table.DescriptorError) d.descriptor_error;
  fifo_ready = after_write access (stream_row d.run table.FifoReady) d.fifo_ready;
  link_position = after_write access (stream_row d.run table.Position) d.link_position;
  buffer_length = after_write access (stream_row d.run table.Length) d.buffer_length;
  last_index = after_write access (stream_row d.run table.LastIndex) d.last_index;
  format = after_write access (stream_row d.run table.Format) d.format;
  list_base = after_write access (stream_row d.run table.ListBase) d.list_base;
}

unfoldable pub stream_written : Access → Descriptor → Descriptor
stream_written access d = if (access.word == 0) && writes_one access 0 then reset_descriptor 1 else stream_by_rules
    access d

-- a write to the controller's part; where it leaves CRST 0, all registers take their reset values but STATESTS
abbrev pub with_global : Fields → Global → Fields
with_global fields g =
    if is_out_of_reset g then record fields { global = g } else reset_fields fields.shape g.state_status

-- whether a write is taken: at a multiple of its width, and while CRST is 0 only at GCTL
abbrev pub is_taken : Fields → ℕ → Width → Bool
is_taken fields at width =
    (at % bytes_of width == 0) && (is_out_of_reset fields.global || (at / 4 == 2))

unfoldable pub placed : Fields → ℕ → Width → ℕ → Fields
placed fields at width value =
    if nat_lt at 0x80 then with_global fields (global_written fields.shape (access_of at width value) fields.global)
    else (
    if nat_lt at 0xA0 then record fields { input = stream_written (access_of (at - 0x80) width value) fields.input }
    else (
    if nat_lt at 0xC0 then record fields { output = stream_written (access_of (at - 0xA0) width value) fields.output }
    else fields
    )
    )

-- the registers after a write
unfoldable pub written : Fields → ℕ → Width → ℕ → Fields
written fields at width value = if is_taken fields at width then placed fields at width value else fields

-- RUN rose from 0, or fell from 1
abbrev pub rose : Descriptor → Descriptor → Bool
rose old new = not (is_running old) && is_running new

abbrev pub fell : Descriptor → Descriptor → Bool
fell old new = is_running old && not (is_running new)

-- what a write does beyond the registers
abbrev effects_between : (old new : Fields) → ℕ → ℕ → Effects
effects_between old new at value = record {
  reset = (at == 0x08) && (value % 2 == 0);
  left_reset = not (is_out_of_reset old.global) && is_out_of_reset new.global;
  stream_reset = (is_out_of_reset old.global && ((at == 0x80) && (value % 2 == 1)))
      ∷ (is_out_of_reset old.global && ((at == 0xA0) && (value % 2 == 1))) ∷ [];
  started = rose old.input new.input ∷ rose old.output new.output ∷ [];
  stopped = fell old.input new.input ∷ fell old.output new.output ∷ [];
}

unfoldable pub effects_of : Fields → ℕ → Width → ℕ → Effects
effects_of fields at width value = effects_between fields (written fields at width value) at value
