-- The fields of the amplifier payloads.
use Rattle.std.proofs.Common.{◌≡◌, ◌<◌, ◌≤◌, ◌+◌, ◌*◌, ◌/◌, ◌%◌, ◌^◌, ◌==◌, ℕ, zero, suc, Bool, true, false, refl, ap, ◌∙◌, arith, lit<}
use Rattle.std.specs.Prelude.{bit_and}
use Rattle.std.proofs.lemmas.Nat.{and_block, and_le_r, and_mask, mod_below}
use Rattle.std.proofs.lemmas.Nat.Bits.{and_pow}
use Rattle.std.proofs.lemmas.Bool.{eq-eqb, ne_eqb}
use Rattle.verb_codes.specs.declared.amplifiers.AmpSetting.{AmpSetting}
use Rattle.verb_codes.specs.Amplifiers.{worth, side_of, side_payload, setting_of, setting_payload, IsSettingInRange}
use Rattle.verb_codes.specs.Verbs.{get_amp_zeros}

masked : (sides place : ℕ) → place < 2 ^ 4 → bit_and sides 0x5FF ≡ 0 → bit_and (sides * 2 ^ 4 + place) get_amp_zeros ≡ 0
masked sides place h none =
    let low : bit_and place 0 ≤ 0 = and_le_r place 0 in
    let parts : bit_and (sides * 2 ^ 4 + place) get_amp_zeros ≡ bit_and sides 0x5FF * 2 ^ 4 + bit_and place 0 = and_block 4 sides 0x5FF place 0 h (lit< tt) in
    omega arith

pub side-allowed : (output left : Bool) (place : ℕ) → place < 2 ^ 4 → bit_and (worth output 15 + worth left 13 + place) get_amp_zeros ≡ 0
side-allowed true true place h = masked 0xA00 place h refl
side-allowed true false place h = masked 0x800 place h refl
side-allowed false true place h = masked 0x200 place h refl
side-allowed false false place h = masked 0 place h refl

bit : Bool → ℕ
bit true = 1
bit false = 0

bit-le : (b : Bool) → bit b ≤ 1
unfolding bit
bit-le true = omega arith
bit-le false = omega arith

worth-bit : (b : Bool) (k : ℕ) → worth b k ≡ bit b * 2 ^ k
unfolding bit
worth-bit true k = omega arith
worth-bit false k = omega arith

tested : (b : Bool) (n : ℕ) → n ≡ bit b → (n == 1) ≡ b
unfolding bit
tested true n e = eq-eqb n 1 e
tested false n e = ne_eqb n 1 (λ h. omega arith)

-- the fields of the payload of a setting are the setting's
record HasFields (payload o i l r place m gain : ℕ) : Type 0 where
  o_is : payload / 2 ^ 15 % 2 ≡ o
  i_is : payload / 2 ^ 14 % 2 ≡ i
  l_is : payload / 2 ^ 13 % 2 ≡ l
  r_is : payload / 2 ^ 12 % 2 ≡ r
  place_is : payload / 2 ^ 8 % 2 ^ 4 ≡ place
  m_is : payload / 2 ^ 7 % 2 ≡ m
  gain_is : payload / 2 ^ 0 % 2 ^ 7 ≡ gain

fields : (o i l r place m gain : ℕ) → o ≤ 1 → i ≤ 1 → l ≤ 1 → r ≤ 1 → place < 16 → m ≤ 1 → gain < 128
    → HasFields (o * 2 ^ 15 + i * 2 ^ 14 + l * 2 ^ 13 + r * 2 ^ 12 + place * 2 ^ 8 + m * 2 ^ 7 + gain) o i l r place m gain
fields o i l r place m gain ho hi hl hr hp hm hg = record {
  o_is = omega arith;
  i_is = omega arith;
  l_is = omega arith;
  r_is = omega arith;
  place_is = omega arith;
  m_is = omega arith;
  gain_is = omega arith;
}

abbrev made : Bool → Bool → Bool → Bool → ℕ → Bool → ℕ → AmpSetting
made o i l r p m g = record { output = o; input = i; left = l; right = r; place = p; mute = m; gain = g }

same_setting : (s t : AmpSetting) → s.output ≡ t.output → s.input ≡ t.input → s.left ≡ t.left → s.right ≡ t.right → s.place ≡ t.place → s.mute ≡ t.mute → s.gain ≡ t.gain → s ≡ t
same_setting s t o i l r p m g =
    ap (λ x. made x s.input s.left s.right s.place s.mute s.gain) o
    ∙ ap (λ x. made t.output x s.left s.right s.place s.mute s.gain) i
    ∙ ap (λ x. made t.output t.input x s.right s.place s.mute s.gain) l
    ∙ ap (λ x. made t.output t.input t.left x s.place s.mute s.gain) r
    ∙ ap (λ x. made t.output t.input t.left t.right x s.mute s.gain) p
    ∙ ap (λ x. made t.output t.input t.left t.right t.place x s.gain) m
    ∙ ap (λ x. made t.output t.input t.left t.right t.place t.mute x) g

pub setting_of-payload : (s : AmpSetting) → IsSettingInRange s → setting_of (setting_payload s) ≡ s
setting_of-payload s h =
    let f = fields (bit s.output) (bit s.input) (bit s.left) (bit s.right) s.place (bit s.mute) s.gain (bit-le s.output) (bit-le s.input) (bit-le s.left) (bit-le s.right) h.place (bit-le s.mute) h.gain in
    let e : setting_payload s ≡ bit s.output * 2 ^ 15 + bit s.input * 2 ^ 14 + bit s.left * 2 ^ 13 + bit s.right * 2 ^ 12 + s.place * 2 ^ 8 + bit s.mute * 2 ^ 7 + s.gain =
    omega (arith, worth-bit s.output 15, worth-bit s.input 14, worth-bit s.left 13, worth-bit s.right 12, worth-bit s.mute 7) in
    let o : (setting_payload s / 2 ^ 15 % 2 == 1) ≡ s.output = tested s.output _ (rw e f.o_is) in
    let i : (setting_payload s / 2 ^ 14 % 2 == 1) ≡ s.input = tested s.input _ (rw e f.i_is) in
    let l : (setting_payload s / 2 ^ 13 % 2 == 1) ≡ s.left = tested s.left _ (rw e f.l_is) in
    let r : (setting_payload s / 2 ^ 12 % 2 == 1) ≡ s.right = tested s.right _ (rw e f.r_is) in
    let p : setting_payload s / 2 ^ 8 % 2 ^ 4 ≡ s.place = rw e f.place_is in
    let m : (setting_payload s / 2 ^ 7 % 2 == 1) ≡ s.mute = tested s.mute _ (rw e f.m_is) in
    let g : setting_payload s / 2 ^ 0 % 2 ^ 7 ≡ s.gain = rw e f.gain_is in
    same_setting (setting_of (setting_payload s)) s o i l r p m g

-- the bits that are 0 in a payload that GetAmp allows
zeros-of : (v : ℕ) → bit_and v get_amp_zeros ≡ 0 → (v / 2 ^ 14 % 2 ≡ 0) × (v / 2 ^ 4 % 2 ^ 9 ≡ 0)
zeros-of v none =
    let a = v / 2 ^ 4 in
    let r = v % 2 ^ 4 in
    let b = a / 2 ^ 9 in
    let s = a % 2 ^ 9 in
    let split : a * 2 ^ 4 + r ≡ v = omega arith in
    let low : bit_and (a * 2 ^ 4 + r) get_amp_zeros ≡ bit_and a 0x5FF * 2 ^ 4 + bit_and r 0 = and_block 4 a 0x5FF r 0 (mod_below v (2 ^ 4) (lit< tt)) (lit< tt) in
    let none' : bit_and (a * 2 ^ 4 + r) get_amp_zeros ≡ 0 = rw split none in
    let high : bit_and a 0x5FF ≡ 0 = omega arith in
    let split' : b * 2 ^ 9 + s ≡ a = omega arith in
    let parts : bit_and (b * 2 ^ 9 + s) 0x5FF ≡ bit_and b 2 * 2 ^ 9 + bit_and s 0x1FF = and_block 9 b 2 s 0x1FF (mod_below a (2 ^ 9) (lit< tt)) (lit< tt) in
    let high' : bit_and (b * 2 ^ 9 + s) 0x5FF ≡ 0 = rw split' high in
    let ones : bit_and s 0x1FF ≡ s % 2 ^ 9 = and_mask s 9 in
    let one : bit_and b 2 ≡ b / 2 ^ 1 % 2 * 2 ^ 1 = and_pow b 1 in
    (omega arith, omega arith)

worth-of : (n k : ℕ) → n < 2 → worth (n == 1) k ≡ n * 2 ^ k
worth-of zero k h = omega arith
worth-of (suc zero) k h = omega arith
worth-of (suc (suc n)) k h = absurd (omega arith)

pub side_payload-of : (v : ℕ) → v < 2 ^ 16 → bit_and v get_amp_zeros ≡ 0 → side_payload (side_of v) ≡ v
side_payload-of v lt none =
    let zeros = zeros-of v none in
    let output = worth-of (v / 2 ^ 15 % 2) 15 (mod_below (v / 2 ^ 15) 2 (lit< tt)) in
    let left = worth-of (v / 2 ^ 13 % 2) 13 (mod_below (v / 2 ^ 13) 2 (lit< tt)) in
    omega arith
