-- Writes that leave CORB's pointers.
use Rattle.std.proofs.Common.{◌≡◌, ◌≢◌, ◌-◌, ◌/◌, ◌==◌, if◌then◌else◌, ℕ, Bool, true, false, refl, sym, ap, subst, ◌∙◌}
use Rattle.std.specs.Prelude.{nat_lt}
use Rattle.std.proofs.lemmas.Bool.{ne_eqb}
use Rattle.hda_registers.specs.declared.shapes.Shape.{Shape}
use Rattle.hda_registers.specs.declared.shapes.Width.{Width}
use Rattle.hda_registers.specs.Fields.{Fields, Global, Descriptor, reset_fields, is_out_of_reset}
use Rattle.hda_registers.specs.Access.{access_of, written, placed, is_taken, global_written, stream_written}
use Rattle.hda_registers.proofs.Keeping.{ignored}

-- both pointers are the same
pub record KeepsPointers (old new : Fields) : Type 0 where
  pub read : new.global.corb_read_pointer ≡ old.global.corb_read_pointer
  pub write : new.global.corb_write_pointer ≡ old.global.corb_write_pointer

global_pointers : (shape : Shape) (at : ℕ) (w : Width) (v : ℕ) (g : Global) → (18 == at / 4) ≡ false
    → ((global_written shape (access_of at w v) g).corb_read_pointer ≡ g.corb_read_pointer) × ((global_written shape (access_of at w v) g).corb_write_pointer ≡ g.corb_write_pointer)
unfolding global_written
global_pointers shape at w v g elsewhere = (rw elsewhere refl, rw elsewhere refl)

global_reset : (shape : Shape) (at : ℕ) (w : Width) (v : ℕ) (g : Global) → (2 == at / 4) ≡ false → (global_written shape (access_of at w v) g).controller_reset ≡ g.controller_reset
unfolding global_written
global_reset shape at w v g elsewhere = rw elsewhere refl

with_pointers : (f : Fields) (g : Global) (out : Bool) → out ≡ true → (g.corb_read_pointer ≡ f.global.corb_read_pointer) × (g.corb_write_pointer ≡ f.global.corb_write_pointer)
    → KeepsPointers f (if out then record f { global = g } else reset_fields f.shape g.state_status)
with_pointers f g true is same = record { read = same.0; write = same.1 }
with_pointers f g false is same = cc

placed_pointers : (f : Fields) (at : ℕ) (w : Width) (v : ℕ) → at / 4 ≢ 2 → at / 4 ≢ 18 → is_out_of_reset f.global ≡ true → (low : Bool) → nat_lt at 0x80 ≡ low → KeepsPointers f (placed f at w v)
unfolding placed
placed_pointers f at w v control corb out true is =
    let same = global_pointers f.shape at w v f.global (ne_eqb 18 (at / 4) (λ e. corb (sym e))) in
    let still = ap (λ n. n == 1) (global_reset f.shape at w v f.global (ne_eqb 2 (at / 4) (λ e. control (sym e)))) ∙ out in
    rw is (with_pointers f (global_written f.shape (access_of at w v) f.global) _ still same)
placed_pointers f at w v control corb out false is = rw is (beyond f (stream_written (access_of (at - 0x80) w v) f.input) (stream_written (access_of (at - 0xA0) w v) f.output) (nat_lt at 0xA0) (nat_lt at 0xC0)) where
  beyond : (f : Fields) (input output : Descriptor) (a b : Bool) → KeepsPointers f (if a then record f { input = input } else (if b then record f { output = output } else f))
  beyond f input output true b = record { read = refl; write = refl }
  beyond f input output false true = record { read = refl; write = refl }
  beyond f input output false false = record { read = refl; write = refl }

taken_or : (f new : Fields) (taken : Bool) → KeepsPointers f new → KeepsPointers f (if taken then new else f)
taken_or f new true keeps = keeps
taken_or f new false keeps = record { read = refl; write = refl }

-- a write beside GCTL and CORB's pointers leaves both
pub written_pointers : (f : Fields) (at : ℕ) (w : Width) (v : ℕ) → at / 4 ≢ 2 → at / 4 ≢ 18 → (out : Bool) → is_out_of_reset f.global ≡ out → KeepsPointers f (written f at w v)
unfolding written
written_pointers f at w v control corb true is = taken_or f (placed f at w v) (is_taken f at w) (placed_pointers f at w v control corb is (nat_lt at 0x80) refl)
written_pointers f at w v control corb false is = subst (KeepsPointers f) (sym (ignored f at w v is control)) (record { read = refl; write = refl })
