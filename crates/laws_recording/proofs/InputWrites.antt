-- What a write leaves of each register by which the input stream is set going, while CRST is 1 and RUN is 0.
use Rattle.std.proofs.Common.{◌≡◌, ◌*◌, ◌/◌, ◌%◌, ◌^◌, ◌-◌, bit_and, ℕ, true, refl, arith}
use Rattle.hda_registers.specs.declared.shapes.Width.TheVariants.{One, Two, Four}
use Rattle.hda_registers.specs.Fields.{Fields, reset_descriptor, is_out_of_reset}
use Rattle.hda_registers.specs.Access.{written, placed, global_written, stream_written}

-- CTL: the reset
pub write-input_reset : (f : Fields) → is_out_of_reset f.global ≡ true → written f 0x80 One 1 ≡ record f { input = reset_descriptor 1 }
unfolding written placed stream_written
write-input_reset f out = rw out refl

-- CTL: the tag, and what may interrupt. STS is written too, with zeros
pub write-input_tag : (f : Fields) → is_out_of_reset f.global ≡ true
    → written f 0x80 Four 0x0010001C ≡ record f {
      input = record f.input {
        stream_reset = 0;
        run = 0;
        completion_interrupt = 1;
        fifo_interrupt = 1;
        descriptor_interrupt = 1;
        tag = 1;
        completion = f.input.completion - bit_and f.input.completion 0;
        fifo_error = f.input.fifo_error - bit_and f.input.fifo_error 0;
        descriptor_error = f.input.descriptor_error - bit_and f.input.descriptor_error 0;
      };
    }
unfolding written placed stream_written
write-input_tag f out = rw out refl

-- CTL: RUN
pub write-input_run : (f : Fields) → is_out_of_reset f.global ≡ true
    → written f 0x80 One 0x1E ≡ record f { input = record f.input { stream_reset = 0; run = 1; completion_interrupt = 1; fifo_interrupt = 1; descriptor_interrupt = 1 } }
unfolding written placed stream_written
write-input_run f out = rw out refl

-- CBL
pub write-input_length : (f : Fields) (v : ℕ) → is_out_of_reset f.global ≡ true → f.input.run ≡ 0
    → written f 0x88 Four v ≡ record f { input = record f.input { buffer_length = v % 2 ^ 32 } }
unfolding written placed stream_written
write-input_length f v out still =
    let low : v % 4294967296 * 1 / 1 % 4294967296 ≡ v % 2 ^ 32 = omega arith in
    rw (out, still, low) refl

-- LVI
pub write-input_last : (f : Fields) (v : ℕ) → is_out_of_reset f.global ≡ true → f.input.run ≡ 0
    → written f 0x8C Two v ≡ record f { input = record f.input { last_index = v % 2 ^ 8 } }
unfolding written placed stream_written
write-input_last f v out still =
    let low : v % 65536 * 1 / 1 % 256 ≡ v % 2 ^ 8 = omega arith in
    rw (out, still, low) refl

-- FMT
pub write-input_format : (f : Fields) (v : ℕ) → is_out_of_reset f.global ≡ true → f.input.run ≡ 0
    → written f 0x92 Two v ≡ record f { input = record f.input { format = v % 2 ^ 16 } }
unfolding written placed stream_written
write-input_format f v out still =
    let low : v % 65536 * 65536 / 65536 % 65536 ≡ v % 2 ^ 16 = omega arith in
    rw (out, still, low) refl

-- BDPL
pub write-input_list : (f : Fields) (v : ℕ) → is_out_of_reset f.global ≡ true → f.input.run ≡ 0
    → written f 0x98 Four v ≡ record f { input = record f.input { list_base = v % 2 ^ 32 / 2 ^ 7 % 2 ^ 25 } }
unfolding written placed stream_written
write-input_list f v out still =
    let low : v % 4294967296 * 1 / 128 % 33554432 ≡ v % 4294967296 / 128 % 33554432 = omega arith in
    rw (out, still, low) refl

-- INTCTL
pub write-input_interrupts : (f : Fields) → is_out_of_reset f.global ≡ true
    → written f 0x20 Four 0xC0000001 ≡ record f { global = record f.global { input_interrupt = 1; output_interrupt = 0; controller_interrupt = 1; global_interrupt = 1 } }
unfolding written placed global_written
write-input_interrupts f out = rw out refl
