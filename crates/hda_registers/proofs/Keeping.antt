-- What a write leaves.
use Rattle.std.proofs.Common.{◌≡◌, ◌≢◌, ◌<◌, ◌≤◌, ◌-◌, ◌/◌, ◌%◌, ◌==◌, ◌||◌, ◌⊎◌, inl, inr, ℕ, Bool, true, false, refl, sym, subst, ◌∙◌, if◌then◌else◌, arith}
use Rattle.std.specs.Prelude.{nat_lt}
use Rattle.std.proofs.lemmas.Bool.{ne_eqb, ltb-true, ltb-false, and_parts}
use Rattle.hda_registers.specs.declared.shapes.Width.{Width}
use Rattle.hda_registers.specs.declared.shapes.Shape.{Shape}
use Rattle.hda_registers.specs.declared.accesses.Access.{Access}
use Rattle.hda_registers.specs.Fields.{Global, Fields, reset_fields, is_out_of_reset}
use Rattle.hda_registers.specs.Access.{access_of, bytes_of, global_written, stream_written, with_global, placed, written, is_taken}
use Rattle.hda_registers.specs.Laws.{LeavesStreams, ChangesInput, ChangesOutput, IsBesideStreams, IsHeldInReset}
use Rattle.hda_registers.proofs.Groups.{at_word, other}
use Rattle.hda_registers.proofs.Dispatch.{placed-global, placed-input, placed-output, placed-nothing, still-out, goes-in}

-- what holds of the registers and of a write that is taken holds after each write
by-cases : (P : Fields → Type 0) (f new : Fields) (b taken : Bool) → taken ≡ b → P f → (taken ≡ true → P new) → P (if taken then new else f)
by-cases P f new true taken e old p = rw e (p e)
by-cases P f new false taken e old p = rw e old

pub after : (P : Fields → Type 0) (f : Fields) (at : ℕ) (w : Width) (v : ℕ) → P f → (is_taken f at w ≡ true → P (placed f at w v)) → P (written f at w v)
unfolding written
after P f at w v old p = by-cases P f (placed f at w v) (is_taken f at w) (is_taken f at w) refl old p

left-or : (a b : Bool) → b ≡ false → (a || b) ≡ true → a ≡ true
left-or true b e h = refl
left-or false b e h = cc

pub taken-out : (f : Fields) (at : ℕ) (w : Width) → at / 4 ≢ 2 → is_taken f at w ≡ true → is_out_of_reset f.global ≡ true
taken-out f at w other taken =
    left-or (is_out_of_reset f.global) (at / 4 == 2) (ne_eqb (at / 4) 2 other) ((and_parts (at % bytes_of w == 0) (is_out_of_reset f.global || (at / 4 == 2)) taken).1)

pub stays-out : (shape : Shape) (a : Access) (g : Global) → a.word ≢ 2 → is_out_of_reset (global_written shape a g) ≡ is_out_of_reset g
unfolding global_written
stays-out shape a g h = rw (other 2 a.word h) refl

pub leaves-streams : (f : Fields) (at : ℕ) (w : Width) (v : ℕ) → at / 4 ≢ 2 → IsBesideStreams at → LeavesStreams f (written f at w v)
leaves-streams f at w v other (inl h) =
    after (λ new. LeavesStreams f new) f at w v (record { input = refl; output = refl }) (λ taken. (
    let g = global_written f.shape (access_of at w v) f.global in
    let out : is_out_of_reset g ≡ true = stays-out f.shape (access_of at w v) f.global other ∙ taken-out f at w other taken in
    let new : record f { global = g } ≡ placed f at w v = placed-global f at w v (access_of at w v) g (record f { global = g }) h refl refl (still-out f g out) in
    subst (λ (x : Fields). LeavesStreams f x) new (record { input = refl; output = refl })))
leaves-streams f at w v other (inr h) =
    after (λ new. LeavesStreams f new) f at w v (record { input = refl; output = refl }) (λ taken. (
    subst (λ (x : Fields). LeavesStreams f x) (placed-nothing f at w v h (omega arith) (omega arith)) (record { input = refl; output = refl })))

pub changes-input : (f : Fields) (at : ℕ) (w : Width) (v : ℕ) → 0x80 ≤ at → at < 0xA0 → ChangesInput f (written f at w v)
changes-input f at w v l h =
    after (λ new. ChangesInput f new) f at w v (record { shape = refl; global = refl; output = refl }) (λ taken. (
    let a = access_of (at - 0x80) w v in
    subst (λ (x : Fields). ChangesInput f x) (placed-input f at w v a (stream_written a f.input) l h refl refl) (record { shape = refl; global = refl; output = refl })))

pub changes-output : (f : Fields) (at : ℕ) (w : Width) (v : ℕ) → 0xA0 ≤ at → at < 0xC0 → ChangesOutput f (written f at w v)
changes-output f at w v l h =
    after (λ new. ChangesOutput f new) f at w v (record { shape = refl; global = refl; input = refl }) (λ taken. (
    let a = access_of (at - 0xA0) w v in
    subst (λ (x : Fields). ChangesOutput f x) (placed-output f at w v a (stream_written a f.output) l (omega arith) h refl refl) (record { shape = refl; global = refl; input = refl })))

pub ignored : (f : Fields) (at : ℕ) (w : Width) (v : ℕ) → is_out_of_reset f.global ≡ false → at / 4 ≢ 2 → written f at w v ≡ f
ignored f at w v held other =
    after (λ new. new ≡ f) f at w v refl (λ taken. (
    let e : true ≡ false = sym (taken-out f at w other taken) ∙ held in
    cc))

-- STATESTS at a write to GCTL
with_global-status : (b : Bool) (f : Fields) (g : Global)
    → (if b then record f { global = g } else reset_fields f.shape g.state_status).global.state_status ≡ g.state_status
with_global-status true f g = refl
with_global-status false f g = refl

gctl-status : (shape : Shape) (a : Access) (g : Global) → a.word ≡ 2 → (global_written shape a g).state_status ≡ g.state_status
unfolding global_written
gctl-status shape a g e = at_word (λ a. (global_written shape a g).state_status ≡ g.state_status) a 2 e refl

pub keeps-status : (f : Fields) (at : ℕ) (w : Width) (v : ℕ) → at / 4 ≡ 2 → (written f at w v).global.state_status ≡ f.global.state_status
keeps-status f at w v e =
    after (λ new. new.global.state_status ≡ f.global.state_status) f at w v refl (λ taken. (
    let a = access_of at w v in
    let g = global_written f.shape a f.global in
    let below : at < 0x80 = omega arith in
    let new : with_global f g ≡ placed f at w v = placed-global f at w v a g (with_global f g) below refl refl refl in
    subst (λ (x : Fields). x.global.state_status ≡ f.global.state_status) new
    (with_global-status (is_out_of_reset g) f g ∙ gctl-status f.shape a f.global e)))

-- the shape
with_global-shape : (b : Bool) (f : Fields) (g : Global) → (if b then record f { global = g } else reset_fields f.shape g.state_status).shape ≡ f.shape
with_global-shape true f g = refl
with_global-shape false f g = refl

shape-cases : (b0 b1 b2 : Bool) (f x y z : Fields) → x.shape ≡ f.shape → y.shape ≡ f.shape → z.shape ≡ f.shape
    → (if b0 then x else (if b1 then y else (if b2 then z else f))).shape ≡ f.shape
shape-cases true b1 b2 f x y z hx hy hz = hx
shape-cases false true b2 f x y z hx hy hz = hy
shape-cases false false true f x y z hx hy hz = hz
shape-cases false false false f x y z hx hy hz = refl

placed-shape : (f : Fields) (at : ℕ) (w : Width) (v : ℕ) → (placed f at w v).shape ≡ f.shape
unfolding placed
placed-shape f at w v =
    let g = global_written f.shape (access_of at w v) f.global in
    shape-cases (nat_lt at 0x80) (nat_lt at 0xA0) (nat_lt at 0xC0) f (with_global f g)
    (record f { input = stream_written (access_of (at - 0x80) w v) f.input }) (record f { output = stream_written (access_of (at - 0xA0) w v) f.output })
    (with_global-shape (is_out_of_reset g) f g) refl refl

pub keeps-shape : (f : Fields) (at : ℕ) (w : Width) (v : ℕ) → (written f at w v).shape ≡ f.shape
keeps-shape f at w v = after (λ new. new.shape ≡ f.shape) f at w v refl (λ taken. placed-shape f at w v)

-- the values in reset
held-global : (b : Bool) (f : Fields) (g : Global) → is_out_of_reset g ≡ b → IsHeldInReset (with_global f g)
held-global true f g e = subst (λ (x : Fields). IsHeldInReset x) (still-out f g e) (λ h. (
    let z : true ≡ false = sym e ∙ h in
    cc))
held-global false f g e = subst (λ (x : Fields). IsHeldInReset x) (goes-in f g e) (λ h. refl)

placed-held : (f : Fields) (at : ℕ) (w : Width) (v : ℕ) → IsHeldInReset f → is_taken f at w ≡ true
    → (at < 0x80) ⊎ (0x80 ≤ at) → (at < 0xA0) ⊎ (0xA0 ≤ at) → (at < 0xC0) ⊎ (0xC0 ≤ at) → IsHeldInReset (placed f at w v)
placed-held f at w v old taken (inl h) p q =
    let g = global_written f.shape (access_of at w v) f.global in
    subst (λ (x : Fields). IsHeldInReset x) (placed-global f at w v (access_of at w v) g (with_global f g) h refl refl refl) (held-global (is_out_of_reset g) f g refl)
placed-held f at w v old taken (inr l) (inl h) q =
    let a = access_of (at - 0x80) w v in
    let other : at / 4 ≢ 2 = omega arith in
    subst (λ (x : Fields). IsHeldInReset x) (placed-input f at w v a (stream_written a f.input) l h refl refl) (λ held. (
    let z : true ≡ false = sym (taken-out f at w other taken) ∙ held in
    cc))
placed-held f at w v old taken (inr l) (inr l') (inl h) =
    let a = access_of (at - 0xA0) w v in
    let other : at / 4 ≢ 2 = omega arith in
    subst (λ (x : Fields). IsHeldInReset x) (placed-output f at w v a (stream_written a f.output) l' l h refl refl) (λ held. (
    let z : true ≡ false = sym (taken-out f at w other taken) ∙ held in
    cc))
placed-held f at w v old taken (inr l) (inr l') (inr l'') = subst (λ (x : Fields). IsHeldInReset x) (placed-nothing f at w v l'' l' l) old

side : (b : Bool) (n m : ℕ) → nat_lt n m ≡ b → (n < m) ⊎ (m ≤ n)
side true n m e = inl (ltb-true n m e)
side false n m e = inr (ltb-false n m e)

pub stays-held : (f : Fields) (at : ℕ) (w : Width) (v : ℕ) → IsHeldInReset f → IsHeldInReset (written f at w v)
stays-held f at w v old =
    after (λ new. IsHeldInReset new) f at w v old (λ taken. placed-held f at w v old taken (side (nat_lt at 0x80) at 0x80 refl) (side (nat_lt at 0xA0) at 0xA0 refl) (side (nat_lt at 0xC0) at 0xC0 refl))
