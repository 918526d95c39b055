-- A write beside RIRB's base leaves it where it is.
use Rattle.std.proofs.Common.{◌≡◌, ◌≢◌, ◌-◌, ◌/◌, ◌==◌, ℕ, Bool, true, false, refl, sym, ap, ◌∙◌, if◌then◌else◌}
use Rattle.std.specs.Prelude.{nat_lt}
use Rattle.std.proofs.lemmas.Bool.{ne_eqb}
use Rattle.hda_registers.specs.declared.shapes.Shape.{Shape}
use Rattle.hda_registers.specs.declared.shapes.Width.{Width}
use Rattle.hda_registers.specs.Fields.{Fields, Global, Descriptor, reset_fields, is_out_of_reset}
use Rattle.hda_registers.specs.Access.{access_of, written, placed, is_taken, global_written, stream_written}
use Rattle.hda_registers.proofs.Callers.{ignored}

global_base : (shape : Shape) (at : ℕ) (w : Width) (v : ℕ) (g : Global) → (20 == at / 4) ≡ false → (global_written shape (access_of at w v) g).rirb_base ≡ g.rirb_base
unfolding global_written
global_base shape at w v g elsewhere = rw elsewhere refl

global_reset : (shape : Shape) (at : ℕ) (w : Width) (v : ℕ) (g : Global) → (2 == at / 4) ≡ false → (global_written shape (access_of at w v) g).controller_reset ≡ g.controller_reset
unfolding global_written
global_reset shape at w v g elsewhere = rw elsewhere refl

with_base : (f : Fields) (g : Global) (out : Bool) → out ≡ true → g.rirb_base ≡ f.global.rirb_base → (if out then record f { global = g } else reset_fields f.shape g.state_status).global.rirb_base ≡ f.global.rirb_base
with_base f g true is same = same
with_base f g false is same = cc

placed_base : (f : Fields) (at : ℕ) (w : Width) (v : ℕ) → at / 4 ≢ 2 → at / 4 ≢ 20 → is_out_of_reset f.global ≡ true → (low : Bool) → nat_lt at 0x80 ≡ low → (placed f at w v).global.rirb_base ≡ f.global.rirb_base
unfolding placed
placed_base f at w v control base out true is =
    let same = global_base f.shape at w v f.global (ne_eqb 20 (at / 4) (λ e. base (sym e))) in
    let still = ap (λ n. n == 1) (global_reset f.shape at w v f.global (ne_eqb 2 (at / 4) (λ e. control (sym e)))) ∙ out in
    rw is (with_base f (global_written f.shape (access_of at w v) f.global) _ still same)
placed_base f at w v control base out false is = rw is (beyond f (stream_written (access_of (at - 0x80) w v) f.input) (stream_written (access_of (at - 0xA0) w v) f.output) (nat_lt at 0xA0) (nat_lt at 0xC0)) where
  beyond : (f : Fields) (input output : Descriptor) (a b : Bool) → (if a then record f { input = input } else (if b then record f { output = output } else f)).global.rirb_base ≡ f.global.rirb_base
  beyond f input output true b = refl
  beyond f input output false true = refl
  beyond f input output false false = refl

taken_or : (f new : Fields) (taken : Bool) → new.global.rirb_base ≡ f.global.rirb_base → (if taken then new else f).global.rirb_base ≡ f.global.rirb_base
taken_or f new true same = same
taken_or f new false same = refl

written_by : (f : Fields) (at : ℕ) (w : Width) (v : ℕ) → at / 4 ≢ 2 → at / 4 ≢ 20 → (out : Bool) → is_out_of_reset f.global ≡ out → (written f at w v).global.rirb_base ≡ f.global.rirb_base
unfolding written
written_by f at w v control base true is = taken_or f (placed f at w v) (is_taken f at w) (placed_base f at w v control base is (nat_lt at 0x80) refl)
written_by f at w v control base false is = ap (λ (g : Fields). g.global.rirb_base) (ignored f at w v is control)

pub written_base : (f : Fields) (at : ℕ) (w : Width) (v : ℕ) → at / 4 ≢ 2 → at / 4 ≢ 20 → (written f at w v).global.rirb_base ≡ f.global.rirb_base
written_base f at w v control base = written_by f at w v control base (is_out_of_reset f.global) refl
