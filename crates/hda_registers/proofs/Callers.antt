-- What proofs of the layers above cite.
use Rattle.std.proofs.Common.{◌≡◌, ◌+◌, ◌*◌, ◌%◌, ◌/◌, ◌^◌, ℕ, true, refl, arith}
use Rattle.hda_registers.specs.declared.shapes.Width.TheVariants.{One, Two, Four}
use Rattle.hda_registers.specs.Fields.{Fields, is_out_of_reset, entries_of}
use Rattle.hda_registers.specs.Table.{size_code}
use Rattle.hda_registers.specs.Status.{interrupt_status}
use Rattle.hda_registers.specs.Access.{value_at, shown_at, global_shown, stream_shown, global_groups_in, stream_groups_in, written, placed, global_written, stream_written}
-- a write elsewhere than at GCTL does not reset the controller
pub use Rattle.hda_registers.proofs.Apart.{keeps-reset}
-- nor does it take the controller out of reset
pub use Rattle.hda_registers.proofs.Apart.{keeps-left}
-- a write beside GCTL and the rings' registers leaves these
pub use Rattle.hda_registers.proofs.Apart.{leaves-rings}
-- a write of the input stream's status leaves the rest of its descriptor
pub use Rattle.hda_registers.proofs.Apart.{status-input}
-- a write of the output stream's status leaves the rest of its descriptor
pub use Rattle.hda_registers.proofs.Apart.{status-output}
-- a write beside GCTL and the descriptors leaves both descriptors
pub use Rattle.hda_registers.proofs.Keeping.{leaves-streams}
-- a write at the input's descriptor leaves all else
pub use Rattle.hda_registers.proofs.Keeping.{changes-input}
-- a write at the output's descriptor leaves all else
pub use Rattle.hda_registers.proofs.Keeping.{changes-output}
-- while CRST is 0 a write elsewhere than at GCTL changes nothing
pub use Rattle.hda_registers.proofs.Keeping.{ignored}
-- a write of GCTL keeps STATESTS
pub use Rattle.hda_registers.proofs.Keeping.{keeps-status}
-- no write changes the shape
pub use Rattle.hda_registers.proofs.Keeping.{keeps-shape}
-- what holds in reset holds after each write
pub use Rattle.hda_registers.proofs.Keeping.{stays-held}
-- what a write leaves of CORB's pointers
pub use Rattle.hda_registers.proofs.CorbPointers.{KeepsPointers}
-- a write beside GCTL and CORB's pointers leaves both
pub use Rattle.hda_registers.proofs.CorbPointers.{written_pointers}
-- a ring has an entry
pub use Rattle.hda_registers.proofs.RingSizes.{some_entries}
-- and 256 at most
pub use Rattle.hda_registers.proofs.RingSizes.{few_entries}
-- what lies beside GCTL
pub use Rattle.hda_registers.proofs.Apart.{not_control}
-- CRST and the wall clock are the same
pub use Rattle.hda_registers.proofs.Clocks.{SameTime}
-- they are where no register is written
pub use Rattle.hda_registers.proofs.Clocks.{same_time}
-- and after a write elsewhere than at GCTL
pub use Rattle.hda_registers.proofs.Clocks.{written_time}

-- GCTL reads CRST and UNSOL
pub read-global_control : (f : Fields) → value_at f 0x08 Four ≡ f.global.controller_reset + f.global.unsolicited * 2 ^ 8
unfolding value_at shown_at global_shown global_groups_in
read-global_control f = omega arith

-- STATESTS reads its bits
pub read-state_status : (f : Fields) → value_at f 0x0E Two ≡ f.global.state_status
unfolding value_at shown_at global_shown global_groups_in
read-state_status f = omega arith

-- INTSTS reads what it holds
pub read-interrupt_status : (f : Fields) → value_at f 0x24 Four ≡ interrupt_status f
unfolding value_at shown_at global_shown global_groups_in
read-interrupt_status f = omega arith

-- WALCLK reads what it holds
pub read-wall_clock : (f : Fields) → value_at f 0x30 Four ≡ f.global.wall_clock
unfolding value_at shown_at global_shown global_groups_in
read-wall_clock f = omega arith

-- CORBRP with CORBRPRST reads what it holds
pub read-corb_read_pointer : (f : Fields) → value_at f 0x4A Two ≡ f.global.corb_read_pointer + f.global.corb_pointer_reset * 2 ^ 15
unfolding value_at shown_at global_shown global_groups_in
read-corb_read_pointer f = omega arith

-- CORBSIZE reads what it holds
pub read-corb_size : (f : Fields) → value_at f 0x4E One ≡ size_code f.shape.corb
unfolding value_at shown_at global_shown global_groups_in
read-corb_size f = omega arith

-- RIRBWP reads what it holds
pub read-rirb_write_pointer : (f : Fields) → value_at f 0x58 Two ≡ f.global.rirb_write_pointer
unfolding value_at shown_at global_shown global_groups_in
read-rirb_write_pointer f = omega arith

-- RIRBSTS reads what it holds
pub read-response_flag : (f : Fields) → value_at f 0x5D One ≡ f.global.response_flag
unfolding value_at shown_at global_shown global_groups_in
read-response_flag f = omega arith

-- RIRBSIZE reads what it holds
pub read-rirb_size : (f : Fields) → value_at f 0x5E One ≡ size_code f.shape.rirb
unfolding value_at shown_at global_shown global_groups_in
read-rirb_size f = omega arith

-- the output stream's SDnSTS reads what it holds
pub read-output_status : (f : Fields) → value_at f 0xA3 One
    ≡ f.output.completion * 2 ^ 2 + f.output.fifo_error * 2 ^ 3 + f.output.descriptor_error * 2 ^ 4 + f.output.fifo_ready * 2 ^ 5
unfolding value_at shown_at stream_shown stream_groups_in
read-output_status f = omega arith

-- the output stream's SDnLPIB reads what it holds
pub read-output_position : (f : Fields) → value_at f 0xA4 Four ≡ f.output.link_position
unfolding value_at shown_at stream_shown stream_groups_in
read-output_position f = omega arith

-- a write of CORBWP while CRST is 1
pub write-corb_write_pointer : (f : Fields) (v : ℕ) → is_out_of_reset f.global ≡ true
    → written f 0x48 Two v ≡ record f { global = record f.global { corb_write_pointer = v % 2 ^ 8 % entries_of f.shape.corb } }
unfolding written placed global_written
write-corb_write_pointer f v out =
    let low : v % 2 ^ 16 * 1 / 1 % 256 ≡ v % 2 ^ 8 = omega arith in
    rw (out, low) refl

-- a write of the output stream's SDnCBL while it is at rest
pub write-output_length : (f : Fields) (v : ℕ) → is_out_of_reset f.global ≡ true → f.output.run ≡ 0
    → written f 0xA8 Four v ≡ record f { output = record f.output { buffer_length = v % 2 ^ 32 } }
unfolding written placed stream_written
write-output_length f v out still =
    let low : v % 4294967296 * 1 / 1 % 4294967296 ≡ v % 2 ^ 32 = omega arith in
    rw (out, still, low) refl
