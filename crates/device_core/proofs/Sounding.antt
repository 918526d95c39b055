-- Which writes leave the tag and the format of the output stream.
use Rattle.std.proofs.Common.{◌≡◌, ◌≢◌, ◌≤◌, ◌<◌, ◌⊎◌, ◌+◌, ◌-◌, ◌/◌, ◌%◌, ◌==◌, ◌&&◌, ◌||◌, ℕ, Bool, true, false, nat_lt, refl, sym, ap, subst, inl, inr, arith, ne_eqb, tests, rules}
use Rattle.std.proofs.lemmas.Bool.{ltb-false, eqb-true, eqb-false, cases_lt, cases_eq, lt-ltb, or_parts}
use Rattle.hda_registers.specs.declared.shapes.Width.{Width}
use Rattle.hda_registers.specs.declared.shapes.Width.TheVariants.{One, Two, Four}
use Rattle.hda_registers.specs.Fields.{Descriptor, Fields, is_out_of_reset}
use Rattle.hda_registers.specs.Access.{bytes_of, access_of, is_taken, placed, written, stream_written}
use Rattle.hda_registers.proofs.Callers.{leaves-streams, changes-input, status-output}
use Rattle.device_core.specs.Devices.{KeepsSound}
use Rattle.device_core.specs.Sound.{touches_sound}

-- the tag and the format of a descriptor stay
pub record KeepsHeard (old new : Descriptor) : Type 0 where
  pub tag : new.tag ≡ old.tag
  pub format : new.format ≡ old.format

heard_same : (old new : Descriptor) → new ≡ old → KeepsHeard old new
heard_same old new same = record { tag = ap (λ (d : Descriptor). d.tag) same; format = ap (λ (d : Descriptor). d.format) same }

-- a word of the descriptor that is neither its control's nor its format's
other_word : (at : ℕ) (w : Width) (v : ℕ) (d : Descriptor) → at / 4 ≢ 0 → at / 4 ≢ 4 → KeepsHeard d (stream_written (access_of at w v) d)
unfolding stream_written
other_word at w v d no_control no_format =
    let first : (at / 4 == 0) ≡ false = ne_eqb (at / 4) 0 no_control in
    let control : (0 == at / 4) ≡ false = ne_eqb 0 (at / 4) (λ e. no_control (sym e)) in
    let form : (4 == at / 4) ≡ false = ne_eqb 4 (at / 4) (λ e. no_format (sym e)) in
    record { tag = rw (first, control) refl; format = rw (first, form) refl }

-- the bytes before the format in its word
fifo_low : (v : ℕ) (d : Descriptor) (rests : Bool) → (d.run == 1) ≡ rests → KeepsHeard d (stream_written (access_of 16 One v) d)
unfolding stream_written
fifo_low v d true is = record { tag = refl; format = rw is refl }
fifo_low v d false is = record { tag = refl; format = rw is refl }

fifo_high : (v : ℕ) (d : Descriptor) (rests : Bool) → (d.run == 1) ≡ rests → KeepsHeard d (stream_written (access_of 17 One v) d)
unfolding stream_written
fifo_high v d true is = record { tag = refl; format = rw is refl }
fifo_high v d false is = record { tag = refl; format = rw is refl }

fifo_both : (v : ℕ) (d : Descriptor) (rests : Bool) → (d.run == 1) ≡ rests → KeepsHeard d (stream_written (access_of 16 Two v) d)
unfolding stream_written
fifo_both v d true is = record { tag = refl; format = rw is refl }
fifo_both v d false is = record { tag = refl; format = rw is refl }

-- a write of the output's descriptor
placed_there : (f : Fields) (at : ℕ) (w : Width) (v : ℕ) → 0xA0 ≤ at → at < 0xC0 → KeepsHeard f.output (stream_written (access_of (at - 0xA0) w v) f.output) → KeepsHeard f.output (placed f at w v).output
unfolding placed
placed_there f at w v low high keeps =
    let first : nat_lt at 0x80 ≡ false = search (rules, tests) in
    let second : nat_lt at 0xA0 ≡ false = search (rules, tests) in
    let third : nat_lt at 0xC0 ≡ true = search (rules, tests) in
    rw (first, second, third) keeps

written_by : (f : Fields) (at : ℕ) (w : Width) (v : ℕ) (taken : Bool) → is_taken f at w ≡ taken → (is_taken f at w ≡ true → KeepsHeard f.output (placed f at w v).output) → KeepsHeard f.output (written f at w v).output
unfolding written
written_by f at w v true is keeps = rw is (keeps is)
written_by f at w v false is keeps = rw is (record { tag = refl; format = refl })

-- ---- where the write is

apart_of : (a b : Bool) → (a && b) ≡ false → a ≡ true → b ≡ false
apart_of true b none is = none
apart_of false b none is = cc

first_of : (a b : Bool) → (a && b) ≡ true → a ≡ true
first_of true b both = refl
first_of false b both = both

some_bytes : (w : Width) → 1 ≤ bytes_of w
some_bytes One = omega arith
some_bytes Two = omega arith
some_bytes Four = omega arith

-- the word of the control: only the byte of the status is left
status_written : (f : Fields) (at : ℕ) (w : Width) (v : ℕ) → at ≡ 0xA3 → (is_taken f at w ≡ true → at % bytes_of w ≡ 0) → KeepsHeard f.output (written f at w v).output
status_written f at One v is aligned =
    subst (λ (at : ℕ). KeepsHeard f.output (written f at One v).output) (sym is)
    (let status = status-output f v in record { tag = ap (λ (d : Descriptor). d.tag) status; format = ap (λ (d : Descriptor). d.format) status })
status_written f at Two v is aligned =
    written_by f at Two v _ refl (λ taken. absurd (let even = aligned taken in omega (arith, is, even)))
status_written f at Four v is aligned =
    written_by f at Four v _ refl (λ taken. absurd (let even = aligned taken in omega (arith, is, even)))

-- the word of the format: only bytes of the FIFO's size are left
size_written : (f : Fields) (at : ℕ) (w : Width) (v : ℕ) → 0xB0 ≤ at → at + bytes_of w ≤ 0xB2 → KeepsHeard f.output (written f at w v).output
size_written f at One v low high =
    written_by f at One v _ refl (λ taken. placed_there f at One v (omega (arith, low)) (omega (arith, high)) (elim (cases_eq at 0xB0) [
      | inl is ↦ subst (λ (at : ℕ). KeepsHeard f.output (stream_written (access_of (at - 0xA0) One v) f.output)) (sym is) (fifo_low v f.output _ refl)
      | inr other ↦ (let is : at ≡ 0xB1 = omega (arith, low, high, other) in subst (λ (at : ℕ). KeepsHeard f.output (stream_written (access_of (at - 0xA0) One v) f.output)) (sym is) (fifo_high v f.output _ refl))
    ]))
size_written f at Two v low high =
    let is : at ≡ 0xB0 = omega (arith, low, high) in
    written_by f at Two v _ refl (λ taken. placed_there f at Two v (omega (arith, low)) (omega (arith, high)) (subst (λ (at : ℕ). KeepsHeard f.output (stream_written (access_of (at - 0xA0) Two v) f.output)) (sym is) (fifo_both v f.output _ refl)))
size_written f at Four v low high = absurd (omega (arith, low, high))

elsewhere_written : (f : Fields) (at : ℕ) (w : Width) (v : ℕ) → 0xA4 ≤ at → at < 0xC0 → (at < 0xB0) ⊎ (0xB4 ≤ at) → KeepsHeard f.output (written f at w v).output
elsewhere_written f at w v low high apart =
    written_by f at w v _ refl (λ taken. placed_there f at w v (omega (arith, low)) high (other_word (at - 0xA0) w v f.output
    (λ same. omega (arith, same, low)) (λ same. elim apart [ inl below ↦ omega (arith, same, below) | inr past ↦ omega (arith, same, past) ])))

aligned_where : (f : Fields) (at : ℕ) (w : Width) → is_taken f at w ≡ true → at % bytes_of w ≡ 0
aligned_where f at w taken = eqb-true (at % bytes_of w) 0 (first_of (at % bytes_of w == 0) (is_out_of_reset f.global || (at / 4 == 2)) taken)

-- ---- all places

output_kept : (f : Fields) (at : ℕ) (w : Width) (v : ℕ) → 0xA0 ≤ at → at < 0xC0 → touches_sound at w ≡ false → KeepsHeard f.output (written f at w v).output
output_kept f at w v low high apart =
    let control : (nat_lt at 0xA3 && nat_lt 0xA0 (at + bytes_of w)) ≡ false = (or_parts _ _ ((or_parts _ _ apart).0)).1 in
    let form : (nat_lt at 0xB4 && nat_lt 0xB2 (at + bytes_of w)) ≡ false = (or_parts _ _ apart).1 in
    elim (cases_lt at 0xA4) [
      | inl below ↦ status_written f at w v (status_place at w below low control) (aligned_where f at w)
      | inr past ↦ elim (cases_lt at 0xB0) [
        | inl before ↦ elsewhere_written f at w v past high (inl before)
        | inr from ↦ elim (cases_lt at 0xB4) [
          | inl within ↦ size_written f at w v from (size_place at w within form)
          | inr beyond ↦ elsewhere_written f at w v past high (inr beyond)
        ]
      ]
    ]
  where
    status_place : (at : ℕ) (w : Width) → at < 0xA4 → 0xA0 ≤ at → (nat_lt at 0xA3 && nat_lt 0xA0 (at + bytes_of w)) ≡ false → at ≡ 0xA3
    status_place at w below low control = elim (cases_lt at 0xA3) [
      | inl before ↦ absurd (
          let one = some_bytes w in
          let none = ltb-false 0xA0 (at + bytes_of w) (apart_of (nat_lt at 0xA3) (nat_lt 0xA0 (at + bytes_of w)) control (lt-ltb at 0xA3 before)) in
          omega (arith, one, none, low))
      | inr past ↦ omega (arith, below, past)
    ]

    size_place : (at : ℕ) (w : Width) → at < 0xB4 → (nat_lt at 0xB4 && nat_lt 0xB2 (at + bytes_of w)) ≡ false → at + bytes_of w ≤ 0xB2
    size_place at w within form = ltb-false 0xB2 (at + bytes_of w) (apart_of (nat_lt at 0xB4) (nat_lt 0xB2 (at + bytes_of w)) form (lt-ltb at 0xB4 within))

heard_kept : (f : Fields) (at : ℕ) (w : Width) (v : ℕ) → touches_sound at w ≡ false → KeepsHeard f.output (written f at w v).output
heard_kept f at w v apart =
    let control : at / 4 ≢ 2 = eqb-false (at / 4) 2 ((or_parts _ _ ((or_parts _ _ apart).0)).0) in
    elim (cases_lt at 0x80) [
      | inl below ↦ heard_same _ _ (leaves-streams f at w v control (inl below)).output
      | inr low ↦ elim (cases_lt at 0xA0) [
        | inl input ↦ heard_same _ _ (changes-input f at w v low input).output
        | inr from ↦ elim (cases_lt at 0xC0) [
          | inl within ↦ output_kept f at w v from within apart
          | inr past ↦ heard_same _ _ (leaves-streams f at w v control (inr past)).output
        ]
      ]
    ]

pub write_keeps_sound : (f : Fields) (at value : ℕ) (w : Width) → touches_sound at w ≡ false → KeepsSound f (written f at w value)
write_keeps_sound f at value w apart = (let kept = heard_kept f at w value apart in record { tag = kept.tag; format = kept.format })
