-- Writes that leave CRST and the wall clock.
use Rattle.std.proofs.Common.{◌≡◌, ◌≢◌, ℕ, ◌/◌, ◌==◌, Bool, true, false, refl, sym, ap, ◌∙◌, if◌then◌else◌}
use Rattle.std.specs.Prelude.{nat_lt}
use Rattle.std.proofs.lemmas.Bool.{ne_eqb}
use Rattle.hda_registers.specs.declared.shapes.Width.{Width}
use Rattle.hda_registers.specs.declared.shapes.Shape.{Shape}
use Rattle.hda_registers.specs.Fields.{Fields, Global, reset_fields, is_out_of_reset}
use Rattle.hda_registers.specs.Access.{access_of, global_written, placed, written, is_taken}

-- CRST and the wall clock are the same
pub record SameTime (old new : Global) : Type 0 where
  pub reset : new.controller_reset ≡ old.controller_reset
  pub clock : new.wall_clock ≡ old.wall_clock

either_way : (test : Bool) (n : ℕ) → (if test then n else n) ≡ n
either_way true n = refl
either_way false n = refl

time_kept : (shape : Shape) (at : ℕ) (w : Width) (v : ℕ) (g : Global) → (2 == at / 4) ≡ false → SameTime g (global_written shape (access_of at w v) g)
unfolding global_written
time_kept shape at w v g elsewhere = record { reset = rw elsewhere refl; clock = either_way (12 == at / 4) g.wall_clock }

with_time : (f : Fields) (g : Global) (out : Bool) → out ≡ true → SameTime f.global g → SameTime f.global (if out then record f { global = g } else reset_fields f.shape g.state_status).global
with_time f g true is keeps = keeps
with_time f g false is keeps = cc

in_stream : (f : Fields) (input output : Bool) (one other : Fields) → SameTime f.global one.global → SameTime f.global other.global → SameTime f.global (if input then one else (if output then other else f)).global
in_stream f true output one other first second = first
in_stream f false true one other first second = second
in_stream f false false one other first second = record { reset = refl; clock = refl }

pub same_time : (f : Fields) → SameTime f.global f.global
same_time f = record { reset = refl; clock = refl }

placed_time : (f : Fields) (at : ℕ) (w : Width) (v : ℕ) → at / 4 ≢ 2 → is_out_of_reset f.global ≡ true → SameTime f.global (placed f at w v).global
unfolding placed
placed_time f at w v other out = by (nat_lt at 0x80) refl
  where
    keeps : SameTime f.global (global_written f.shape (access_of at w v) f.global)
    keeps = time_kept f.shape at w v f.global (ne_eqb 2 (at / 4) (λ e. other (sym e)))

    by : (b : Bool) → nat_lt at 0x80 ≡ b → SameTime f.global (placed f at w v).global
    by true below = rw below (with_time f (global_written f.shape (access_of at w v) f.global) _ (ap (λ n. n == 1) keeps.reset ∙ out) keeps)
    by false above = rw above (in_stream f (nat_lt at 0xA0) (nat_lt at 0xC0) _ _ (same_time f) (same_time f))

taken_or : (f new : Fields) (taken : Bool) → SameTime f.global new.global → SameTime f.global (if taken then new else f).global
taken_or f new true keeps = keeps
taken_or f new false keeps = same_time f

-- a write elsewhere than at GCTL leaves them
pub written_time : (f : Fields) (at : ℕ) (w : Width) (v : ℕ) → at / 4 ≢ 2 → is_out_of_reset f.global ≡ true → SameTime f.global (written f at w v).global
unfolding written
written_time f at w v other out = taken_or f (placed f at w v) (is_taken f at w) (placed_time f at w v other out)
