-- What writes beside the rings' registers and writes of a descriptor's status leave.
use Rattle.std.proofs.Common.{◌≡◌, ◌≢◌, ◌<◌, ◌≤◌, ◌/◌, ◌%◌, ◌-◌, ◌==◌, ◌&&◌, not, ◌⊎◌, inl, inr, ℕ, Bool, true, false, refl, ap, ◌∙◌, subst, arith}
use Rattle.std.proofs.lemmas.Bool.{ne_eqb}
use Rattle.hda_registers.specs.declared.shapes.Width.{Width}
use Rattle.hda_registers.specs.declared.shapes.Width.TheVariants.{One}
use Rattle.hda_registers.specs.declared.shapes.Shape.{Shape}
use Rattle.hda_registers.specs.declared.accesses.Access.{Access}
use Rattle.hda_registers.specs.Fields.{Global, Fields, is_out_of_reset}
use Rattle.hda_registers.specs.Access.{access_of, global_written, stream_written, placed, written, effects_of}
use Rattle.hda_registers.specs.Laws.{LeavesRings, IsBesideRings, ChangesStatus}
use Rattle.hda_registers.proofs.Groups.{other}
use Rattle.hda_registers.proofs.Dispatch.{placed-global, placed-input, placed-output, placed-nothing, still-out}
use Rattle.hda_registers.proofs.Keeping.{after, taken-out, stays-out, ignored}

-- a word that holds no register of a ring
record IsOtherWord (word : ℕ) : Type 0 where
  pub corb_base : word ≢ 16
  pub corb_pointers : word ≢ 18
  pub corb_control : word ≢ 19
  pub rirb_base : word ≢ 20
  pub rirb_pointers : word ≢ 22
  pub rirb_control : word ≢ 23

words_beside : (at : ℕ) → (at < 0x40) ⊎ (0x60 ≤ at) → IsOtherWord (at / 4)
words_beside at (inl below) = record { corb_base = omega arith; corb_pointers = omega arith; corb_control = omega arith; rirb_base = omega arith; rirb_pointers = omega arith; rirb_control = omega arith }
words_beside at (inr above) = record { corb_base = omega arith; corb_pointers = omega arith; corb_control = omega arith; rirb_base = omega arith; rirb_pointers = omega arith; rirb_control = omega arith }

pub not_control : (at : ℕ) → (at < 0x08) ⊎ (0x0C ≤ at) → at / 4 ≢ 2
not_control at (inl below) = omega arith
not_control at (inr above) = omega arith

same_rings : (g : Global) → LeavesRings g g
same_rings g = record { corb_base = refl; corb_write_pointer = refl; corb_read_pointer = refl; corb_pointer_reset = refl; corb_error_interrupt = refl; corb_run = refl; rirb_base = refl; rirb_write_pointer = refl; response_count = refl; response_interrupt = refl; rirb_run = refl; rirb_overrun_interrupt = refl; response_flag = refl }

rings_by_word : (shape : Shape) (a : Access) (g : Global) → IsOtherWord a.word → LeavesRings g (global_written shape a g)
unfolding global_written
rings_by_word shape a g apart = record {
  corb_base = rw (other 16 a.word apart.corb_base) refl;
  corb_write_pointer = rw (other 18 a.word apart.corb_pointers) refl;
  corb_read_pointer = rw (other 18 a.word apart.corb_pointers) refl;
  corb_pointer_reset = rw (other 18 a.word apart.corb_pointers) refl;
  corb_error_interrupt = rw (other 19 a.word apart.corb_control) refl;
  corb_run = rw (other 19 a.word apart.corb_control) refl;
  rirb_base = rw (other 20 a.word apart.rirb_base) refl;
  rirb_write_pointer = rw (other 22 a.word apart.rirb_pointers) refl;
  response_count = rw (other 22 a.word apart.rirb_pointers) refl;
  response_interrupt = rw (other 23 a.word apart.rirb_control) refl;
  rirb_run = rw (other 23 a.word apart.rirb_control) refl;
  rirb_overrun_interrupt = rw (other 23 a.word apart.rirb_control) refl;
  response_flag = rw (other 23 a.word apart.rirb_control) refl;
}

side : (at bound : ℕ) → (at < bound) ⊎ (bound ≤ at)
side at bound = grind arith

placed_rings : (f : Fields) (at : ℕ) (w : Width) (v : ℕ) → at / 4 ≢ 2 → IsOtherWord (at / 4) → is_out_of_reset f.global ≡ true
    → (at < 0x80) ⊎ (0x80 ≤ at) → (at < 0xA0) ⊎ (0xA0 ≤ at) → (at < 0xC0) ⊎ (0xC0 ≤ at) → LeavesRings f.global (placed f at w v).global
placed_rings f at w v apart word out (inl h) p q =
    let g = global_written f.shape (access_of at w v) f.global in
    let stays : is_out_of_reset g ≡ true = rw (stays-out f.shape (access_of at w v) f.global apart) out in
    let new : record f { global = g } ≡ placed f at w v = placed-global f at w v (access_of at w v) g (record f { global = g }) h refl refl (still-out f g stays) in
    subst (λ (x : Fields). LeavesRings f.global x.global) new (rings_by_word f.shape (access_of at w v) f.global word)
placed_rings f at w v apart word out (inr l) (inl h) q =
    let a = access_of (at - 0x80) w v in
    subst (λ (x : Fields). LeavesRings f.global x.global) (placed-input f at w v a (stream_written a f.input) l h refl refl) (same_rings f.global)
placed_rings f at w v apart word out (inr l) (inr l') (inl h) =
    let a = access_of (at - 0xA0) w v in
    subst (λ (x : Fields). LeavesRings f.global x.global) (placed-output f at w v a (stream_written a f.output) l' l h refl refl) (same_rings f.global)
placed_rings f at w v apart word out (inr l) (inr l') (inr l'') =
    subst (λ (x : Fields). LeavesRings f.global x.global) (placed-nothing f at w v l'' l' l) (same_rings f.global)

pub leaves-rings : (f : Fields) (at : ℕ) (w : Width) (v : ℕ) → IsBesideRings at → LeavesRings f.global (written f at w v).global
leaves-rings f at w v beside =
    let apart = not_control at beside.control in
    after (λ new. LeavesRings f.global new.global) f at w v (same_rings f.global) (λ taken.
    placed_rings f at w v apart (words_beside at beside.rings) (taken-out f at w apart taken) (side at 0x80) (side at 0xA0) (side at 0xC0))

pub status-input : (f : Fields) (v : ℕ) → ChangesStatus f.input (written f 0x83 One v).input
unfolding placed stream_written
status-input f v = after (λ new. ChangesStatus f.input new.input) f 0x83 One v refl (λ taken. refl)

pub status-output : (f : Fields) (v : ℕ) → ChangesStatus f.output (written f 0xA3 One v).output
unfolding placed stream_written
status-output f v = after (λ new. ChangesStatus f.output new.output) f 0xA3 One v refl (λ taken. refl)

none_left : (b : Bool) (n m : ℕ) → b ≡ false → (b && (n == m)) ≡ false
none_left b n m none = rw none refl

pub keeps-reset : (f : Fields) (at : ℕ) (w : Width) (v : ℕ) → at / 4 ≢ 2 → (effects_of f at w v).reset ≡ false
unfolding effects_of
keeps-reset f at w v apart = none_left (at == 0x08) (v % 2) 0 (ne_eqb at 0x08 (λ e. apart (ap (λ n. n / 4) e)))

left_by : (b : Bool) (f new : Fields) → is_out_of_reset f.global ≡ b → (is_out_of_reset f.global ≡ false → new ≡ f)
    → (not (is_out_of_reset f.global) && is_out_of_reset new.global) ≡ false
left_by true f new out same = rw out refl
left_by false f new held same = rw (held, ap (λ (x : Fields). is_out_of_reset x.global) (same held) ∙ held) refl

pub keeps-left : (f : Fields) (at : ℕ) (w : Width) (v : ℕ) → at / 4 ≢ 2 → (effects_of f at w v).left_reset ≡ false
unfolding effects_of
keeps-left f at w v apart = left_by (is_out_of_reset f.global) f (written f at w v) refl (λ held. ignored f at w v held apart)
