-- What a write leaves of each register by which both rings are set going, while CRST is 1.
use Rattle.std.proofs.Common.{◌≡◌, ◌*◌, ◌/◌, ◌%◌, ◌^◌, ℕ, true, refl, arith}
use Rattle.hda_registers.specs.declared.shapes.Width.TheVariants.{One, Two, Four}
use Rattle.hda_registers.specs.Fields.{Fields, is_out_of_reset}
use Rattle.hda_registers.specs.Access.{written, placed, global_written}

pub write-state_status : (f : Fields) (v : ℕ) → is_out_of_reset f.global ≡ true → written f 0x0E Two v ≡ record f { global = record f.global { state_status = (written f 0x0E Two v).global.state_status } }
unfolding written placed global_written
write-state_status f v out = rw out refl

pub write-corb_base : (f : Fields) (v : ℕ) → is_out_of_reset f.global ≡ true → written f 0x40 Four v ≡ record f { global = record f.global { corb_base = v % 2 ^ 32 / 2 ^ 7 % 2 ^ 25 } }
unfolding written placed global_written
write-corb_base f v out =
    let low : v % 4294967296 * 1 / 128 % 33554432 ≡ v % 4294967296 / 128 % 33554432 = omega arith in
    rw (out, low) refl

pub write-corb_reset : (f : Fields) → is_out_of_reset f.global ≡ true → written f 0x4A Two 0x8000 ≡ record f { global = record f.global { corb_read_pointer = 0; corb_pointer_reset = 1 } }
unfolding written placed global_written
write-corb_reset f out = rw out refl

pub write-corb_ready : (f : Fields) → is_out_of_reset f.global ≡ true → written f 0x4A Two 0 ≡ record f { global = record f.global { corb_pointer_reset = 0 } }
unfolding written placed global_written
write-corb_ready f out = rw out refl

pub write-corb_run : (f : Fields) → is_out_of_reset f.global ≡ true → written f 0x4C One 2 ≡ record f { global = record f.global { corb_error_interrupt = 0; corb_run = 1 } }
unfolding written placed global_written
write-corb_run f out = rw out refl

pub write-rirb_base : (f : Fields) (v : ℕ) → is_out_of_reset f.global ≡ true → written f 0x50 Four v ≡ record f { global = record f.global { rirb_base = v % 2 ^ 32 / 2 ^ 7 % 2 ^ 25 } }
unfolding written placed global_written
write-rirb_base f v out =
    let low : v % 4294967296 * 1 / 128 % 33554432 ≡ v % 4294967296 / 128 % 33554432 = omega arith in
    rw (out, low) refl

pub write-rirb_reset : (f : Fields) → is_out_of_reset f.global ≡ true → written f 0x58 Two 0x8000 ≡ record f { global = record f.global { rirb_write_pointer = 0 } }
unfolding written placed global_written
write-rirb_reset f out = rw out refl

pub write-response_count : (f : Fields) (v : ℕ) → is_out_of_reset f.global ≡ true → written f 0x5A Two v ≡ record f { global = record f.global { response_count = v % 2 ^ 8 } }
unfolding written placed global_written
write-response_count f v out =
    let low : v % 65536 * 65536 / 65536 % 256 ≡ v % 256 = omega arith in
    rw (out, low) refl

pub write-rirb_run : (f : Fields) → is_out_of_reset f.global ≡ true → written f 0x5C One 3 ≡ record f { global = record f.global { response_interrupt = 1; rirb_run = 1; rirb_overrun_interrupt = 0 } }
unfolding written placed global_written
write-rirb_run f out = rw out refl
