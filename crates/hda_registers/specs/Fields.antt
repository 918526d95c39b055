-- The fields of the registers, each as the number that its bits hold. High Definition Audio 1.0a, 3.3.
use Rattle.std.specs.Prelude.{◌*◌, ℕ, ◌==◌, Bool, if◌then◌else◌}
use Rattle.hda_registers.specs.declared.shapes.RingSize.{RingSize}
use Rattle.hda_registers.specs.declared.shapes.RingSize.TheVariants.{Two, Sixteen, Full}
use Rattle.hda_registers.specs.declared.shapes.Shape.{Shape}

-- how many entries a ring has
abbrev pub entries_of : RingSize → ℕ
entries_of Two = 2
entries_of Sixteen = 16
entries_of Full = 256

-- what the controller itself keeps
pub record Global : Type 0 where
  -- GCTL: CRST, which is 0 while the controller is in reset, and UNSOL, whether unsolicited responses are accepted
  pub controller_reset : ℕ
  pub unsolicited : ℕ
  -- WAKEEN and STATESTS, a bit per codec
  pub wake_enable : ℕ
  pub state_status : ℕ
  -- INTCTL: the streams' bits 0 and 1, bit 30 CIE and bit 31 GIE
  pub input_interrupt : ℕ
  pub output_interrupt : ℕ
  pub controller_interrupt : ℕ
  pub global_interrupt : ℕ
  -- WALCLK
  pub wall_clock : ℕ
  -- CORB: the base in units of 128 bytes, the two pointers, CORBRPRST, CMEIE and CORBRUN
  pub corb_base : ℕ
  pub corb_write_pointer : ℕ
  pub corb_read_pointer : ℕ
  pub corb_pointer_reset : ℕ
  pub corb_error_interrupt : ℕ
  pub corb_run : ℕ
  -- RIRB: the base in units of 128 bytes, the write pointer, RINTCNT, RINTCTL, RIRBDMAEN, RIRBOIC and RINTFL
  pub rirb_base : ℕ
  pub rirb_write_pointer : ℕ
  pub response_count : ℕ
  pub response_interrupt : ℕ
  pub rirb_run : ℕ
  pub rirb_overrun_interrupt : ℕ
  pub response_flag : ℕ

-- what a stream descriptor keeps
pub record Descriptor : Type 0 where
  -- CTL: SRST, RUN, IOCE, FEIE, DEIE and the stream's tag
  pub stream_reset : ℕ
  pub run : ℕ
  pub completion_interrupt : ℕ
  pub fifo_interrupt : ℕ
  pub descriptor_interrupt : ℕ
  pub tag : ℕ
  -- STS: BCIS, FIFOE, DESE and FIFORDY
  pub completion : ℕ
  pub fifo_error : ℕ
  pub descriptor_error : ℕ
  pub fifo_ready : ℕ
  -- LPIB and CBL in bytes, LVI, FMT, and the base of the buffer list in units of 128 bytes
  pub link_position : ℕ
  pub buffer_length : ℕ
  pub last_index : ℕ
  pub format : ℕ
  pub list_base : ℕ

-- all registers of a controller: descriptor 0 is the input stream, descriptor 1 the output stream
pub record Fields : Type 0 where
  pub shape : Shape
  pub global : Global
  pub input : Descriptor
  pub output : Descriptor

-- the controller's part in reset, with the bits that STATESTS keeps over a reset
abbrev pub reset_global : ℕ → Global
reset_global state_status = record {
  controller_reset = 0;
  unsolicited = 0;
  wake_enable = 0;
  state_status = state_status;
  input_interrupt = 0;
  output_interrupt = 0;
  controller_interrupt = 0;
  global_interrupt = 0;
  wall_clock = 0;
  corb_base = 0;
  corb_write_pointer = 0;
  corb_read_pointer = 0;
  corb_pointer_reset = 0;
  corb_error_interrupt = 0;
  corb_run = 0;
  rirb_base = 0;
  rirb_write_pointer = 0;
  response_count = 0;
  response_interrupt = 0;
  rirb_run = 0;
  rirb_overrun_interrupt = 0;
  response_flag = 0;
}

-- a descriptor after a reset, with its SRST
abbrev pub reset_descriptor : ℕ → Descriptor
reset_descriptor srst = record {
  stream_reset = srst;
  run = 0;
  completion_interrupt = 0;
  fifo_interrupt = 0;
  descriptor_interrupt = 0;
  tag = 0;
  completion = 0;
  fifo_error = 0;
  descriptor_error = 0;
  fifo_ready = 0;
  link_position = 0;
  buffer_length = 0;
  last_index = 0;
  format = 0;
  list_base = 0;
}

-- all registers at their reset values but STATESTS
abbrev pub reset_fields : Shape → ℕ → Fields
reset_fields shape state_status = record {
  shape = shape;
  global = reset_global state_status;
  input = reset_descriptor 0;
  output = reset_descriptor 0;
}

-- the registers of a controller at its opening: in reset
abbrev pub opening : Shape → Fields
opening shape = reset_fields shape 0

-- the addresses of CORB, RIRB and a stream's buffer list, in bytes
abbrev pub corb_address : Fields → ℕ
corb_address fields = 128 * fields.global.corb_base

abbrev pub rirb_address : Fields → ℕ
rirb_address fields = 128 * fields.global.rirb_base

abbrev pub list_address : Descriptor → ℕ
list_address descriptor = 128 * descriptor.list_base

-- after how many responses RIRB is served: RINTCNT, where 0 stands for 256
abbrev pub responses_of : ℕ → ℕ
responses_of count = if count == 0 then 256 else count

-- whether the controller is out of reset, and whether a stream runs
abbrev pub is_out_of_reset : Global → Bool
is_out_of_reset global = global.controller_reset == 1

abbrev pub is_running : Descriptor → Bool
is_running descriptor = descriptor.run == 1

-- the descriptor of a stream: the input's for 0, else the output's
abbrev pub stream_of : Fields → ℕ → Descriptor
stream_of fields stream = if stream == 0 then fields.input else fields.output
