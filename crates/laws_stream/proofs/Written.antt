-- Writes beside the descriptors leave streams at rest.
use Rattle.std.proofs.Common.{◌≡◌, ◌≢◌, ◌⊎◌, inl, inr, ◌==◌, ◌&&◌, ◌/◌, not, ℕ, Bool, true, false, [], refl, sym, ap, subst, ◌∙◌, arith}
use Rattle.std.proofs.lemmas.Bool.{false≢true}
use Rattle.hda_registers.specs.declared.shapes.Width.{Width}
use Rattle.hda_registers.specs.declared.shapes.Width.TheVariants.{One, Four}
use Rattle.hda_registers.specs.Fields.{Fields, Global, Descriptor, is_running, is_out_of_reset}
use Rattle.hda_registers.specs.Access.{written, effects_of}
use Rattle.hda_registers.specs.Laws.{IsBesideStreams}
use Rattle.hda_registers.proofs.Callers.{keeps-reset, keeps-left, keeps-shape, leaves-streams, changes-input, changes-output, status-input, status-output, ignored, written_time}
use Rattle.hda_world.specs.Worlds.{World}
use Rattle.hda_world.specs.Events.{Event, Stepped, Begin, End, Read, Write, DmaRead, DmaWrite, happens, after_write}
use Rattle.hda_world.proofs.Callers.{plain_write, reset_write, rising_write, kept_step}
use Rattle.command_engine.proofs.Callers.{reset_registers, risen_registers, resets, no_reset}
use Rattle.period_writer.specs.Beside.{IsStatusWrite}
use Rattle.period_writer.proofs.Callers.{status_error}
use Rattle.laws_stream.specs.Resting.{Rests, IsResetWrite, LeavesRest}
use Rattle.laws_stream.proofs.Kept.{rests_kept}

-- what a write leaves of the registers
record Same (old new : Fields) : Type 0 where
  fifo : new.shape.fifo ≡ old.shape.fifo
  clock : new.global.wall_clock ≡ old.global.wall_clock
  reset : new.global.controller_reset ≡ old.global.controller_reset
  input : is_running new.input ≡ is_running old.input
  output : is_running new.output ≡ is_running old.output
  error : old.output.descriptor_error ≡ 0 → new.output.descriptor_error ≡ 0

-- a write elsewhere than at GCTL that leaves so much
rests_over : (fifo : ℕ) (world : World) (at value : ℕ) (width : Width) → at / 4 ≢ 2 → Same world.registers (written world.registers at width value) → Rests fifo world
    → Rests fifo (after_write at width value world)
rests_over fifo world at value width other same rests =
    let plain = plain_write world at value width (keeps-reset world.registers at width value other) (keeps-left world.registers at width value other) in
    subst (Rests fifo) (sym plain) (record {
      fifo_is = same.fifo ∙ rests.fifo_is;
      input_stopped = same.input ∙ rests.input_stopped;
      output_stopped = same.output ∙ rests.output_stopped;
      no_error = same.error rests.no_error;
      clock_is = same.clock ∙ rests.clock_is;
      held = λ held. let was = rests.held (ap (λ (reset : ℕ). reset == 1) (sym same.reset) ∙ held) in (same.clock ∙ was.0, was.1);
      none_carried = rests.none_carried;
    })

-- ---- beside GCTL and the descriptors

beside_same : (f : Fields) (at value : ℕ) (width : Width) → at / 4 ≢ 2 → IsBesideStreams at → (out : Bool) → is_out_of_reset f.global ≡ out → Same f (written f at width value)
beside_same f at value width other beside true out =
    let time = written_time f at width value other out in
    let streams = leaves-streams f at width value other beside in record {
      fifo = ap (λ shape. shape.fifo) (keeps-shape f at width value);
      clock = time.clock;
      reset = time.reset;
      input = ap is_running streams.input;
      output = ap is_running streams.output;
      error = λ none. ap (λ (output : Descriptor). output.descriptor_error) streams.output ∙ none;
    }
beside_same f at value width other beside false held =
    let none = ignored f at width value held other in record {
      fifo = ap (λ (f : Fields). f.shape.fifo) none;
      clock = ap (λ (f : Fields). f.global.wall_clock) none;
      reset = ap (λ (f : Fields). f.global.controller_reset) none;
      input = ap (λ (f : Fields). is_running f.input) none;
      output = ap (λ (f : Fields). is_running f.output) none;
      error = λ no_error. ap (λ (f : Fields). f.output.descriptor_error) none ∙ no_error;
    }

-- ---- a descriptor's status

output_same : (f : Fields) (value : ℕ) → Same f (written f 0xA3 One value)
output_same f value =
    let changes = changes-output f 0xA3 One value (omega arith) (omega arith) in record {
      fifo = ap (λ shape. shape.fifo) changes.shape;
      clock = ap (λ (g : Global). g.wall_clock) changes.global;
      reset = ap (λ (g : Global). g.controller_reset) changes.global;
      input = ap is_running changes.input;
      output = ap is_running (status-output f value);
      error = status_error f value;
    }

input_same : (f : Fields) (value : ℕ) → Same f (written f 0x83 One value)
input_same f value =
    let changes = changes-input f 0x83 One value (omega arith) (omega arith) in record {
      fifo = ap (λ shape. shape.fifo) changes.shape;
      clock = ap (λ (g : Global). g.wall_clock) changes.global;
      reset = ap (λ (g : Global). g.controller_reset) changes.global;
      input = ap is_running (status-input f value);
      output = ap is_running changes.output;
      error = λ none. ap (λ (output : Descriptor). output.descriptor_error) changes.output ∙ none;
    }

status_rests : (fifo : ℕ) (world : World) (at value : ℕ) (width : Width) → IsStatusWrite at width → Rests fifo world → Rests fifo (after_write at width value world)
status_rests fifo world at value width (inl input, one) rests =
    subst (λ (at : ℕ). Rests fifo (after_write at width value world)) (sym input)
    (subst (λ (width : Width). Rests fifo (after_write 0x83 width value world)) (sym one) (rests_over fifo world 0x83 value One (λ e. cc) (input_same world.registers value) rests))
status_rests fifo world at value width (inr output, one) rests =
    subst (λ (at : ℕ). Rests fifo (after_write at width value world)) (sym output)
    (subst (λ (width : Width). Rests fifo (after_write 0xA3 width value world)) (sym one) (rests_over fifo world 0xA3 value One (λ e. cc) (output_same world.registers value) rests))

-- ---- CRST

pub reset_brings : (world : World) → world.carried ≡ [] → Rests world.registers.shape.fifo (after_write 0x08 Four 0 world)
reset_brings world none =
    let is = reset_registers world.registers 0 refl in
    subst (Rests world.registers.shape.fifo) (sym (reset_write world 0x08 0 Four (resets world.registers 0 refl))) (record {
      fifo_is = ap (λ (f : Fields). f.shape.fifo) is;
      input_stopped = ap (λ (f : Fields). is_running f.input) is;
      output_stopped = ap (λ (f : Fields). is_running f.output) is;
      no_error = ap (λ (f : Fields). f.output.descriptor_error) is;
      clock_is = ap (λ (f : Fields). f.global.wall_clock) is;
      held = λ held. (ap (λ (f : Fields). f.global.wall_clock) is, refl);
      none_carried = none;
    })

falls_rests : (fifo : ℕ) (world : World) → Rests fifo world → Rests fifo (after_write 0x08 Four 0 world)
falls_rests fifo world rests = subst (λ (n : ℕ). Rests n (after_write 0x08 Four 0 world)) rests.fifo_is (reset_brings world rests.none_carried)

out_left : (f : Fields) → is_out_of_reset f.global ≡ true → (effects_of f 0x08 Four 0x101).left_reset ≡ false
unfolding effects_of
out_left f out = ap (λ (was : Bool). not was && is_out_of_reset (written f 0x08 Four 0x101).global) out

rises_by : (fifo : ℕ) (world : World) (left : Bool) → (effects_of world.registers 0x08 Four 0x101).left_reset ≡ left → (out : Bool) → is_out_of_reset world.registers.global ≡ out
    → Rests fifo world → Rests fifo (after_write 0x08 Four 0x101 world)
rises_by fifo world false still out is_out rests =
    let is = (risen_registers world.registers 0x101 refl).1 in
    subst (Rests fifo) (sym (plain_write world 0x08 0x101 Four (no_reset world.registers 0x101 refl) still)) (record {
      fifo_is = ap (λ (f : Fields). f.shape.fifo) is ∙ rests.fifo_is;
      input_stopped = ap (λ (f : Fields). is_running f.input) is ∙ rests.input_stopped;
      output_stopped = ap (λ (f : Fields). is_running f.output) is ∙ rests.output_stopped;
      no_error = ap (λ (f : Fields). f.output.descriptor_error) is ∙ rests.no_error;
      clock_is = ap (λ (f : Fields). f.global.wall_clock) is ∙ rests.clock_is;
      held = λ held. absurd (false≢true (sym held ∙ ap (λ (f : Fields). is_out_of_reset f.global) is));
      none_carried = rests.none_carried;
    })
rises_by fifo world true left false held rests =
    let is = (risen_registers world.registers 0x101 refl).1 in
    subst (Rests fifo) (sym (rising_write world 0x08 0x101 Four (no_reset world.registers 0x101 refl) left)) (record {
      fifo_is = ap (λ (f : Fields). f.shape.fifo) is ∙ rests.fifo_is;
      input_stopped = ap (λ (f : Fields). is_running f.input) is ∙ rests.input_stopped;
      output_stopped = ap (λ (f : Fields). is_running f.output) is ∙ rests.output_stopped;
      no_error = ap (λ (f : Fields). f.output.descriptor_error) is ∙ rests.no_error;
      clock_is = ap (λ (f : Fields). f.global.wall_clock) is ∙ (rests.held held).0;
      held = λ held. absurd (false≢true (sym held ∙ ap (λ (f : Fields). is_out_of_reset f.global) is));
      none_carried = rests.none_carried;
    })
rises_by fifo world true left true out rests = absurd (false≢true (sym (out_left world.registers out) ∙ left))

rises_rests : (fifo : ℕ) (world : World) → Rests fifo world → Rests fifo (after_write 0x08 Four 0x101 world)
rises_rests fifo world rests = rises_by fifo world (effects_of world.registers 0x08 Four 0x101).left_reset refl (is_out_of_reset world.registers.global) refl rests

reset_by : (fifo : ℕ) (world : World) (value : ℕ) → (value ≡ 0) ⊎ (value ≡ 0x101) → Rests fifo world → Rests fifo (after_write 0x08 Four value world)
reset_by fifo world value (inl zero) rests = subst (λ (value : ℕ). Rests fifo (after_write 0x08 Four value world)) (sym zero) (falls_rests fifo world rests)
reset_by fifo world value (inr one) rests = subst (λ (value : ℕ). Rests fifo (after_write 0x08 Four value world)) (sym one) (rises_rests fifo world rests)

reset_rests : (fifo : ℕ) (world : World) (at value : ℕ) (width : Width) → IsResetWrite at width value → Rests fifo world → Rests fifo (after_write at width value world)
reset_rests fifo world at value width is rests =
    subst (λ (at : ℕ). Rests fifo (after_write at width value world)) (sym is.place)
    (subst (λ (width : Width). Rests fifo (after_write 0x08 width value world)) (sym is.wide) (reset_by fifo world value is.either rests))

-- ---- any of them

write_rests : (fifo : ℕ) (world : World) (at value : ℕ) (width : Width) → LeavesRest (Write at width value) → Rests fifo world → Rests fifo (after_write at width value world)
write_rests fifo world at value width (inl beside) rests =
    rests_over fifo world at value width beside.0 (beside_same world.registers at value width beside.0 beside.1 (is_out_of_reset world.registers.global) refl) rests
write_rests fifo world at value width (inr (inl status)) rests = status_rests fifo world at value width status rests
write_rests fifo world at value width (inr (inr reset)) rests = reset_rests fifo world at value width reset rests

pub event_rests : (fifo : ℕ) (event : Event) (world : World) → LeavesRest event → Rests fifo world → Rests fifo (happens world event)
event_rests fifo (Stepped step) world leaves rests = kept_step (Rests fifo) (rests_kept fifo) step world rests
event_rests fifo Begin world leaves rests = rests
event_rests fifo End world leaves rests = rests
event_rests fifo (Read at width value) world leaves rests = rests
event_rests fifo (Write at width value) world leaves rests = write_rests fifo world at value width leaves rests
event_rests fifo (DmaRead at bytes) world leaves rests = rests
event_rests fifo (DmaWrite at bytes) world leaves rests = rests
