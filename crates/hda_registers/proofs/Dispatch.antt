-- Accesses by the part of the registers in which they stand.
use Rattle.std.proofs.Common.{◌≡◌, ◌≢◌, ◌<◌, ◌≤◌, ◌-◌, ◌*◌, ◌/◌, ◌%◌, ◌^◌, ◌==◌, ◌&&◌, ℕ, Bool, true, false, not, [], ◌∷◌, refl, sym}
use Rattle.std.specs.Prelude.{nat_lt}
use Rattle.std.proofs.Common.{arith}
use Rattle.std.proofs.lemmas.Bool.{lt-ltb, eq-eqb, ne_eqb}
use Rattle.std.proofs.lemmas.Bool.Decides.{nat_tests}
use Rattle.hda_registers.specs.declared.shapes.Width.{Width}
use Rattle.hda_registers.specs.declared.shapes.Effects.{Effects}
use Rattle.hda_registers.specs.declared.accesses.Access.{Access}
use Rattle.hda_registers.specs.Fields.{Global, Descriptor, Fields, reset_fields, is_out_of_reset, is_running}
use Rattle.hda_registers.specs.Status.{interrupt_status}
use Rattle.hda_registers.specs.Access.{access_of, bytes_of, global_shown, stream_shown, shown_at, value_at, global_written, stream_written, with_global, placed, written, is_taken, effects_of}

pub below : (n m : ℕ) → n < m → nat_lt n m ≡ true
below n m h = lt-ltb n m h

pub above : (n m : ℕ) → m ≤ n → nat_lt n m ≡ false
above n m h = grind (arith, nat_tests)

-- reads
pub shown-global : (f : Fields) (at : ℕ) (w : Width) (a : Access) (r : ℕ) → at < 0x80 → a ≡ access_of at w 0
    → global_shown f.shape f.global (interrupt_status f) a ≡ r → r ≡ shown_at f at w
unfolding shown_at
shown-global f at w a r h e s = rw (below at 0x80 h, ← e) (sym s)

pub shown-input : (f : Fields) (at : ℕ) (w : Width) (a : Access) (r : ℕ) → 0x80 ≤ at → at < 0xA0 → a ≡ access_of (at - 0x80) w 0
    → stream_shown f.shape f.input a ≡ r → r ≡ shown_at f at w
unfolding shown_at
shown-input f at w a r l h e s = rw (above at 0x80 l, below at 0xA0 h, ← e) (sym s)

pub shown-output : (f : Fields) (at : ℕ) (w : Width) (a : Access) (r : ℕ) → 0xA0 ≤ at → 0x80 ≤ at → at < 0xC0 → a ≡ access_of (at - 0xA0) w 0
    → stream_shown f.shape f.output a ≡ r → r ≡ shown_at f at w
unfolding shown_at
shown-output f at w a r l l' h e s = rw (above at 0x80 l', above at 0xA0 l, below at 0xC0 h, ← e) (sym s)

pub shown-nothing : (f : Fields) (at : ℕ) (w : Width) → 0xC0 ≤ at → 0xA0 ≤ at → 0x80 ≤ at → 0 ≡ shown_at f at w
unfolding shown_at
shown-nothing f at w l l' l'' = rw (above at 0x80 l'', above at 0xA0 l', above at 0xC0 l) refl

pub value-aligned : (f : Fields) (at : ℕ) (w : Width) → at % bytes_of w ≡ 0 → shown_at f at w / 2 ^ (8 * (at % 4)) ≡ value_at f at w
unfolding value_at
value-aligned f at w h = rw (eq-eqb (at % bytes_of w) 0 h) refl

pub value-apart : (f : Fields) (at : ℕ) (w : Width) → at % bytes_of w ≢ 0 → 0 ≡ value_at f at w
unfolding value_at
value-apart f at w h = rw (ne_eqb (at % bytes_of w) 0 h) refl

-- writes
pub placed-global : (f : Fields) (at : ℕ) (w : Width) (v : ℕ) (a : Access) (g : Global) (new : Fields) → at < 0x80 → a ≡ access_of at w v
    → g ≡ global_written f.shape a f.global → new ≡ with_global f g → new ≡ placed f at w v
unfolding placed
placed-global f at w v a g new h e s n = rw (below at 0x80 h, ← e, ← s) n

pub placed-input : (f : Fields) (at : ℕ) (w : Width) (v : ℕ) (a : Access) (d : Descriptor) → 0x80 ≤ at → at < 0xA0 → a ≡ access_of (at - 0x80) w v
    → d ≡ stream_written a f.input → record f { input = d } ≡ placed f at w v
unfolding placed
placed-input f at w v a d l h e s = rw (above at 0x80 l, below at 0xA0 h, ← e, ← s) refl

pub placed-output : (f : Fields) (at : ℕ) (w : Width) (v : ℕ) (a : Access) (d : Descriptor) → 0xA0 ≤ at → 0x80 ≤ at → at < 0xC0 → a ≡ access_of (at - 0xA0) w v
    → d ≡ stream_written a f.output → record f { output = d } ≡ placed f at w v
unfolding placed
placed-output f at w v a d l l' h e s = rw (above at 0x80 l', above at 0xA0 l, below at 0xC0 h, ← e, ← s) refl

pub placed-nothing : (f : Fields) (at : ℕ) (w : Width) (v : ℕ) → 0xC0 ≤ at → 0xA0 ≤ at → 0x80 ≤ at → f ≡ placed f at w v
unfolding placed
placed-nothing f at w v l l' l'' = rw (above at 0x80 l'', above at 0xA0 l', above at 0xC0 l) refl

pub still-out : (f : Fields) (g : Global) → is_out_of_reset g ≡ true → record f { global = g } ≡ with_global f g
still-out f g h = rw h refl

pub goes-in : (f : Fields) (g : Global) → is_out_of_reset g ≡ false → reset_fields f.shape g.state_status ≡ with_global f g
goes-in f g h = rw h refl

pub written-taken : (f : Fields) (at : ℕ) (w : Width) (v : ℕ) → is_taken f at w ≡ true → placed f at w v ≡ written f at w v
unfolding written
written-taken f at w v h = rw h refl

pub written-ignored : (f : Fields) (at : ℕ) (w : Width) (v : ℕ) → is_taken f at w ≡ false → f ≡ written f at w v
unfolding written
written-ignored f at w v h = rw h refl

abbrev effects_in : (reset left input_reset output_reset input_started output_started input_stopped output_stopped : Bool) → Effects
effects_in reset left input_reset output_reset input_started output_started input_stopped output_stopped = record {
  reset = reset;
  left_reset = left;
  stream_reset = input_reset ∷ output_reset ∷ [];
  started = input_started ∷ output_started ∷ [];
  stopped = input_stopped ∷ output_stopped ∷ [];
}

-- what a write did, from what stood before and after it
pub effects-are : (old new : Fields) (at : ℕ) (w : Width) (v : ℕ) → new ≡ written old at w v
    → (was_out is_out input_ran input_runs output_ran output_runs reset left input_reset output_reset at_input at_output input_started output_started input_stopped output_stopped : Bool)
    → was_out ≡ is_out_of_reset old.global → is_out ≡ is_out_of_reset new.global
    → input_ran ≡ is_running old.input → input_runs ≡ is_running new.input → output_ran ≡ is_running old.output → output_runs ≡ is_running new.output
    → reset ≡ ((at == 0x08) && (v % 2 == 0)) → left ≡ (not was_out && is_out)
    → at_input ≡ ((at == 0x80) && (v % 2 == 1)) → input_reset ≡ (was_out && at_input)
    → at_output ≡ ((at == 0xA0) && (v % 2 == 1)) → output_reset ≡ (was_out && at_output)
    → input_started ≡ (not input_ran && input_runs) → output_started ≡ (not output_ran && output_runs)
    → input_stopped ≡ (input_ran && not input_runs) → output_stopped ≡ (output_ran && not output_runs)
    → effects_in reset left input_reset output_reset input_started output_started input_stopped output_stopped ≡ effects_of old at w v
unfolding effects_of
effects-are old new at w v e was_out is_out input_ran input_runs output_ran output_runs reset left input_reset output_reset at_input at_output input_started output_started input_stopped output_stopped h0 h1 h2 h3 h4 h5 h6 h7 h8 h9 h10 h11 h12 h13 h14 h15 =
    rw (← e, h6, h7, h9, h8, h11, h10, h12, h13, h14, h15, h0, h1, h2, h3, h4, h5) refl
