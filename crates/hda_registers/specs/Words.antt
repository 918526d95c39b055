-- How the words of four bytes that the code keeps hold the fields. Bits of a word that no field has are of no account.
use Rattle.std.specs.Prelude.{◌-◌, bit_and, bit_or, ℕ}
use Rattle.hda_registers.specs.declared.accesses.Access.{Access}
use Rattle.hda_registers.specs.Fields.{Global, Descriptor}
use Rattle.hda_registers.specs.Access.{part}

-- the controller's words at 08h, 0Ch, 20h, 30h, 40h, 48h, 4Ch, 50h, 58h and 5Ch
abbrev pub global_in : (control wake interrupts wall_clock corb_base corb_pointers corb_control rirb_base
    rirb_pointers rirb_control : ℕ) → Global
global_in control wake interrupts wall_clock corb_base corb_pointers corb_control rirb_base rirb_pointers rirb_control =
    record {
      controller_reset = part 0 1 control;
      unsolicited = part 8 1 control;
      wake_enable = part 0 15 wake;
      state_status = part 16 15 wake;
      input_interrupt = part 0 1 interrupts;
      output_interrupt = part 1 1 interrupts;
      controller_interrupt = part 30 1 interrupts;
      global_interrupt = part 31 1 interrupts;
      wall_clock = part 0 32 wall_clock;
      corb_base = part 7 25 corb_base;
      corb_write_pointer = part 0 8 corb_pointers;
      corb_read_pointer = part 16 8 corb_pointers;
      corb_pointer_reset = part 31 1 corb_pointers;
      corb_error_interrupt = part 0 1 corb_control;
      corb_run = part 1 1 corb_control;
      rirb_base = part 7 25 rirb_base;
      rirb_write_pointer = part 0 8 rirb_pointers;
      response_count = part 16 8 rirb_pointers;
      response_interrupt = part 0 1 rirb_control;
      rirb_run = part 1 1 rirb_control;
      rirb_overrun_interrupt = part 2 1 rirb_control;
      response_flag = part 8 1 rirb_control;
    }

-- a descriptor's words at its places 00h, 04h, 08h, 0Ch, 10h and 18h
abbrev pub stream_in : (control link_position buffer_length last_index format list_base : ℕ) → Descriptor
stream_in control link_position buffer_length last_index format list_base = record {
  stream_reset = part 0 1 control;
  run = part 1 1 control;
  completion_interrupt = part 2 1 control;
  fifo_interrupt = part 3 1 control;
  descriptor_interrupt = part 4 1 control;
  tag = part 20 4 control;
  completion = part 26 1 control;
  fifo_error = part 27 1 control;
  descriptor_error = part 28 1 control;
  fifo_ready = part 29 1 control;
  link_position = part 0 32 link_position;
  buffer_length = part 0 32 buffer_length;
  last_index = part 0 8 last_index;
  format = part 16 16 format;
  list_base = part 7 25 list_base;
}

-- what a write leaves in a word: the covered bits of `kept` as written, and 0 in those of `cleared` that are written 1
abbrev pub left_by : Access → (kept cleared old : ℕ) → ℕ
left_by access kept cleared old =
    let covered = bit_and access.covered kept in
    let stays = old - bit_and old covered in
    let ones = bit_and access.written cleared in
    bit_or (stays - bit_and stays ones) (bit_and access.written kept)
